use Rattle.std.proofs.Common.{◌≡◌, drop}
use Rattle.std.specs.List.{list_any}
use Rattle.peer_tail_calls.specs.Nulling.{is_absent}
use Rattle.peer_tail_calls.proofs.nulls.some_absent.Given as goal

-- none is absent so far
abbrev pub invariant-loop-descriptor : goal.invariant-loop-descriptor
invariant-loop-descriptor l = list_any is_absent l.descriptors ≡ list_any is_absent (drop l.descriptor-index l.descriptors)
