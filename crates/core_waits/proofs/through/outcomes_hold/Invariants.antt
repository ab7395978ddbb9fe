use Rattle.std.proofs.Common.{◌≡◌}
use Rattle.std.specs.FinMap as map
use Rattle.rpc_machine.specs.Queries.{stamps_at_outcome}
use Rattle.core_waits.specs.Waiting.{seen_by, outcome_list, outcome_with}
use Rattle.core_waits.specs.Through.{is_by}
use Rattle.core_waits.proofs.Looking.{some_in}
use Rattle.core_waits.proofs.through.outcomes_hold.Given as goal

abbrev pub invariant-loop-key : goal.invariant-loop-key
invariant-loop-key l =
    some_in (is_by l.vat l.reference) stamps_at_outcome (seen_by outcome_list outcome_with l.pool.lists) l._key-iterator
    ≡ some_in (is_by l.vat l.reference) stamps_at_outcome (seen_by outcome_list outcome_with l.pool.lists) (map.entries l.outcomes.entries)
