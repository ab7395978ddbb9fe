use Rattle.std.proofs.Common.{ℕ, ◌≡◌, ◌-◌, take}
use Rattle.rpc_check.specs.Kept.{amount, sum_by, more_got}
use Rattle.rpc_check.proofs.releases.take_got.Given as goal

abbrev pub invariant-loop-one : goal.invariant-loop-one
invariant-loop-one l = (e : ℕ) → amount l.counted e ≡ amount l.fn.counted e - sum_by more_got l.lists e (take l.one-index l.flagged)
