use Rattle.std.proofs.Common.{◌≡◌, ◌++◌, length}
use Rattle.look_pieces.specs.Lines.{pairs_of}
use Rattle.look_pieces.proofs.line.read_bytes.Given as goal

-- the bytes so far, with those that are left
abbrev pub invariant-pairs : goal.invariant-pairs
invariant-pairs l = pairs_of l.line ≡ (l.bytes.items ++ (pairs_of l.rest).0, (pairs_of l.rest).1)

abbrev pub decreases-pairs : goal.decreases-pairs
decreases-pairs l = length l.rest
