use Rattle.std.proofs.Common.{ℕ, ◌-◌, ◌≤◌, ◌++◌, List, Option, length, drop}
use Rattle.rpc_dump_lib.specs.Reading.{held_of, IsOpen, SaidTo}
use Rattle.rpc_dump_lib.proofs.pieces.dump_piece.Given as goal

-- what was said before, and then of the piece so far
abbrev pub invariant-bytes : goal.invariant-bytes
invariant-bytes g l = record {
  within : l.at ≤ length l.piece;
  opened : IsOpen l.frames;
  said : (input left : List ℕ) (base : Option (List ℕ)) → SaidTo l.form input (held_of l.fn.frames ++ (l.piece ++ left)) l.fn.number base (g.W.Write.contents l.fn.out)
      → SaidTo l.form input (held_of l.frames ++ (drop l.at l.piece ++ left)) l.number base (g.W.Write.contents l.out);
}

abbrev pub decreases-bytes : goal.decreases-bytes
decreases-bytes g l = length l.piece - l.at
