use Rattle.std.proofs.Common.{◌≡◌, Bool, drop}
use Rattle.std.specs.List.{filter_map}
use Rattle.rpc_msg.specs.declared.ids.ExportId.{ExportId}
use Rattle.peer_broken.specs.Naming.{Tells, broken_name}
use Rattle.peer_broken.proofs.descriptors.some_broken.Given as goal

-- no name so far
abbrev pub invariant-loop-descriptor : goal.invariant-loop-descriptor
invariant-loop-descriptor g l =
    (broken : ExportId → Bool) → Tells (goal.B-post g l.is_broken) broken
    → filter_map (broken_name broken) l.descriptors ≡ filter_map (broken_name broken) (drop l.descriptor-index l.descriptors)
