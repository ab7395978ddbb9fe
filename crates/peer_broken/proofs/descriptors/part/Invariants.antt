use Rattle.std.proofs.Common.{◌≡◌, Bool, map, take}
use Rattle.std.specs.List.{filter_map}
use Rattle.rpc_msg.specs.declared.ids.ExportId.{ExportId}
use Rattle.peer_broken.specs.Naming.{Tells, broken_name, heard_descriptor}
use Rattle.peer_broken.proofs.descriptors.part.Given as goal

-- the first descriptors are parted
abbrev pub invariant-loop-descriptor : goal.invariant-loop-descriptor
invariant-loop-descriptor g l = record {
  heard : (broken : ExportId → Bool) → Tells (goal.B-post g l.is_broken) broken → l.heard.items ≡ map (heard_descriptor broken) (take l.descriptor-index l.descriptors);
  names : (broken : ExportId → Bool) → Tells (goal.B-post g l.is_broken) broken → l.names.items ≡ filter_map (broken_name broken) (take l.descriptor-index l.descriptors);
}
