use Rattle.std.proofs.Common.{◌≡◌}
use Rattle.std.specs.FinMap as map
use Rattle.rpc_machine.specs.Queries.{stamps_under}
use Rattle.core_waits.specs.Waiting.{seen_by, embargo_list, embargo_with}
use Rattle.core_waits.specs.Through.{is_by}
use Rattle.core_waits.proofs.Looking.{some_in}
use Rattle.core_waits.proofs.through.embargoes_hold.Given as goal

abbrev pub invariant-loop-key : goal.invariant-loop-key
invariant-loop-key l =
    some_in (is_by l.vat l.reference) stamps_under (seen_by embargo_list embargo_with l.pool.lists) l._key-iterator
    ≡ some_in (is_by l.vat l.reference) stamps_under (seen_by embargo_list embargo_with l.pool.lists) (map.entries l.embargoes.entries)
