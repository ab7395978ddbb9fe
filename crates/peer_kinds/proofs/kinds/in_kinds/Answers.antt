use Rattle.std.proofs.Common.{◌+◌, drop, map, take, rules, ap, ◌∙◌}
use Rattle.std.specs.Ordering.{nat_cmp}
use Rattle.std.specs.FinMap as finite
use Rattle.std.specs.FinMap.{get-empty}
use Rattle.std.proofs.lemmas.List.{take_all}
use Rattle.finite_maps.specs.Tally.{Map}
use Rattle.rpc_machine.specs.declared.entries.SenderKind.{SenderKind}
use Rattle.peer_kinds.specs.Kinds.{heard_descriptor}
use Rattle.peer_kinds.proofs.Following.{follows_more, kinds_more}
use Rattle.peer_kinds.proofs.kinds.in_kinds.Goals as goal

pub loop-descriptor-init : goal.loop-descriptor-init
loop-descriptor-init g c = record {
  heard = λ stands tells. search rules;
  noted = λ stands tells e none. ap (λ (m : Map SenderKind). finite.get m e.0) c.new-firsts.ensures ∙ get-empty nat_cmp e.0;
}

pub loop-descriptor-preserved : goal.loop-descriptor-preserved
loop-descriptor-preserved g c = record {
  heard = λ stands tells.
      let ds = c.args.descriptors.now in
      let i = c.loop-descriptor.descriptor-index in
      kinds_more stands ds i c.descriptor-item.result c.loop-descriptor-test.true c.descriptor-item.is c.loop-descriptor.heard.items c.push.new.self.items c.in_ok-first.first
      c.in_ok-push.ensures.items (c.loop-descriptor.invariant.heard stands tells)
      (c.in_ok-first.ensures stands (take i ds) (drop (i + 1) ds) tells (c.loop-descriptor.invariant.noted stands tells)).0;
  noted = λ stands tells.
      let ds = c.args.descriptors.now in
      let i = c.loop-descriptor.descriptor-index in
      follows_more stands ds i c.descriptor-item.result c.loop-descriptor-test.true c.descriptor-item.is c.hear.new.self
      (c.in_ok-first.ensures stands (take i ds) (drop (i + 1) ds) tells (c.loop-descriptor.invariant.noted stands tells)).1;
}

pub returns : goal.returns
returns g c = λ stands tells.
    c.from_vec.ensures ∙ c.loop-descriptor.invariant.heard stands tells ∙ ap (map (heard_descriptor stands c.args.descriptors.now)) (take_all c.loop-descriptor.descriptor-index c.args.descriptors.now c.loop-descriptor-test.false)
