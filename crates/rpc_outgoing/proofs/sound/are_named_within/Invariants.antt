use Rattle.std.proofs.Common.{◌≡◌, drop}
use Rattle.std.specs.List.{list_all}
use Rattle.rpc_outgoing.specs.Outflows.{is_named_within}
use Rattle.rpc_outgoing.proofs.sound.are_named_within.Given as goal

-- All that came are within.
abbrev pub invariant-loop-descriptor : goal.invariant-loop-descriptor
invariant-loop-descriptor l = list_all is_named_within l.descriptors ≡ list_all is_named_within (drop l.descriptor-index l.descriptors)
