use Rattle.std.proofs.Common.{◌≡◌, ◌+◌, List, [], ◌∷◌, ◌++◌, take, sym, ap, ◌∙◌, arith}
use Rattle.std.proofs.lemmas.List.{take_more}
use Rattle.rpc_machine.specs.declared.node.Node.{Node}
use Rattle.core_store.specs.Holding.{state_of}
use Rattle.core_store_handles.proofs.Listing.{refs_next, ids_next}
use Rattle.core_store_handles.proofs.references.add_refs.Goals as goal

pub loop-node-preserved : goal.loop-node-preserved
loop-node-preserved c =
    let xs : List Node = c.args.nodes.now in
    let i = c.loop-node.node-index in
    let x = c.node-item.result in
    let before = c.loop-node.invariant in
    let made = c.add_ref-id.ensures in
    let taken : take i xs ++ x ∷ [] ≡ take (i + 1) xs = ap (λ n. take i xs ++ n ∷ []) c.node-item.is ∙ sym (take_more xs i x c.loop-node-test.true) in record {
      sound = made.sound;
      state = refs_next xs i x c.loop-node-test.true taken (state_of c.args.store.now) (state_of c.loop-node.store) (state_of c.add_ref-id.new.store) before.state made.state;
      ids = ids_next xs i x c.loop-node-test.true taken c.args.ids.now.items c.loop-node.ids.items c.push.new.self.items c.add_ref-id.result c.args.store.now.next_ref c.loop-node.store.next_ref before.ids before.next made.value c.in-Ok.ensures.items;
      next = let e = ap (λ s. s.next_ref) made.state in let f = before.next in omega (arith, e, f);
      slack = let e = made.left in let f = before.slack in let g = c.requires.slack in omega (arith, e, f, g, c.loop-node-test.true);
      waits = made.waits ∙ before.waits;
      noted = made.noted ∙ before.noted;
      room = let e = c.in-Ok.ensures.len in let f = c.push.ensures.capacity in let g = before.room in omega (arith, e, f, g, c.loop-node-test.true);
    }

pub returns-clause-noted : goal.returns-clause-noted
returns-clause-noted c = c.loop-node.invariant.noted
