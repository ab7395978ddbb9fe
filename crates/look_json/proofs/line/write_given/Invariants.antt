use Rattle.std.proofs.Common.{◌≡◌, map, take}
use Rattle.serde_json.specs.View.{view}
use Rattle.rpc_msg.specs.declared.parts.Descriptor.{Descriptor}
use Rattle.look_books.specs.Ends.{kept_of}
use Rattle.look_json.specs.Links.{of_descriptor}
use Rattle.look_json.specs.Lines.{link_data}
use Rattle.look_json.proofs.line.write_given.Given as goal

-- the values are those of the first descriptors
abbrev pub invariant-loop-descriptor : goal.invariant-loop-descriptor
invariant-loop-descriptor l =
    map view l.values.items ≡ map (λ (d : Descriptor). link_data (of_descriptor (kept_of l.own) (kept_of l.heard) l.number d)) (take l.descriptor-index l.descriptors)
