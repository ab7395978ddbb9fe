use Rattle.std.proofs.Common.{arith}
use Rattle.core_waits.proofs.Seen.{owned_none, seen_none}
use Rattle.core_waits.proofs.Hopping.{holds_none}
use Rattle.core_waits.proofs.waits.Waits.new.Goals as goal

pub invariant_of-result : goal.invariant_of-result
invariant_of-result c =
    (owned_none _ _ _ _ c.new.ensures c.new-2.ensures c.new-3.ensures, record { for_promises = omega arith; for_outcomes = omega arith; for_embargoes = omega arith; for_calls = omega arith }, holds_none _ _ c.new.ensures c.new-2.ensures)

pub returns : goal.returns
returns c =
    seen_none _ _ _ _ c.new.ensures c.new-2.ensures c.new-3.ensures c.new-4.ensures
