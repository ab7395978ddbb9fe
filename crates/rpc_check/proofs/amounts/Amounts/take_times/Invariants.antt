use Rattle.std.proofs.Common.{ℕ, ◌≡◌, ◌-◌, ◌*◌, take}
use Rattle.rpc_check.specs.Counts.{count_of}
use Rattle.rpc_check.specs.Kept.{amount}
use Rattle.rpc_check.proofs.amounts.Amounts.take_times.Given as goal

abbrev pub invariant-loop-id : goal.invariant-loop-id
invariant-loop-id l = (e : ℕ) → amount l.self e ≡ amount l.fn.self e - l.times * count_of e (take l.id-index l.counts)
