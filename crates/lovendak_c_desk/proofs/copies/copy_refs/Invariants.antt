use Rattle.std.proofs.Common.{◌≡◌, ◌++◌, take, drop}
use Rattle.lovendak_c_desk.specs.Notices.{numbers}
use Rattle.lovendak_c_desk.proofs.copies.copy_refs.Given as goal

abbrev pub invariant-loop-i : goal.invariant-loop-i
invariant-loop-i l = l.out ≡ numbers (take l.i l.refs) ++ drop l.i l.fn.out
