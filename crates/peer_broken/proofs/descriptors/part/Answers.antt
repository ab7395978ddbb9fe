use Rattle.std.proofs.Common.{[], ◌∷◌, ◌++◌, map, ap, ◌∙◌}
use Rattle.std.specs.List.{filter_map}
use Rattle.std.proofs.lemmas.List.{take_all}
use Rattle.rpc_msg.specs.declared.parts.Descriptor.{Descriptor}
use Rattle.peer_broken.specs.Naming.{broken_name, heard_descriptor}
use Rattle.peer_broken.proofs.Parting.{heard_more, names_more}
use Rattle.peer_broken.proofs.descriptors.part.Goals as goal

pub loop-descriptor-preserved : goal.loop-descriptor-preserved
loop-descriptor-preserved g c = record {
  heard = λ broken tells. heard_more broken c.args.descriptors.now c.loop-descriptor.descriptor-index c.descriptor-item.result c.broken_name-name.result
      c.loop-descriptor-test.true c.descriptor-item.is (c.broken_name-name.ensures broken tells) c.loop-descriptor.heard.items c.push.new.self.items
      (c.in_ok-push.ensures.items ∙ ap (λ (x : Descriptor). c.loop-descriptor.heard.items ++ x ∷ []) c.heard_by.ensures) (c.loop-descriptor.invariant.heard broken tells);
  names = λ broken tells. names_more broken c.args.descriptors.now c.loop-descriptor.descriptor-index c.descriptor-item.result c.broken_name-name.result
      c.loop-descriptor-test.true c.descriptor-item.is (c.broken_name-name.ensures broken tells) c.loop-descriptor.names.items c.note.new.names.items
      c.in_ok-note.ensures (c.loop-descriptor.invariant.names broken tells);
}

pub returns : goal.returns
returns g c = λ broken tells. (
  c.from_vec.ensures ∙ c.loop-descriptor.invariant.heard broken tells ∙ ap (map (heard_descriptor broken)) (take_all c.loop-descriptor.descriptor-index c.args.descriptors.now c.loop-descriptor-test.false),
  c.from_vec-2.ensures ∙ c.loop-descriptor.invariant.names broken tells ∙ ap (filter_map (broken_name broken)) (take_all c.loop-descriptor.descriptor-index c.args.descriptors.now c.loop-descriptor-test.false),
)
