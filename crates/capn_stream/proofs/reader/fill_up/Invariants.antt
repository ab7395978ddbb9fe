use Rattle.std.proofs.Common.{◌≡◌, ℕ, ◌++◌, ◌-◌, ◌≤◌, length, take}
use Rattle.capn_stream.specs.declared.front.Front.TheVariants.{Complete}
use Rattle.capn_stream.specs.Fronts.{front_of}
use Rattle.capn_stream.proofs.reader.fill_up.Given as goal

-- what was taken of the piece stands behind what waited, and no frame has more
abbrev pub invariant-loop-fault : goal.invariant-loop-fault
invariant-loop-fault l = record {
  so_far : l.bytes.items ≡ l.fn.bytes.items ++ take l.taken l.piece;
  within : l.taken ≤ length l.piece;
  exact : (n : ℕ) → front_of l.bytes.items ≡ Complete n → n ≡ length l.bytes.items;
}

abbrev pub decreases-loop-fault : goal.decreases-loop-fault
decreases-loop-fault l = length l.piece - l.taken
