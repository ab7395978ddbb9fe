use Rattle.std.proofs.Common.{◌≡◌, ◌+◌, ◌<◌, false, true, List, [], ◌∷◌, ◌++◌, take, drop, length, IsOk, refl, sym, ap, subst, ◌∙◌, arith}
use Rattle.std.proofs.lemmas.List.{take_more, drop_more}
use Rattle.rpc_msg.specs.declared.ids.ExportId.{ExportId}
use Rattle.rpc_msg.specs.declared.parts.Descriptor.{Descriptor}
use Rattle.rpc_msg.specs.Messages.{given}
use Rattle.rpc_machine.specs.Progress.{export_ids}
use Rattle.rpc_machine.specs.declared.node.Node.{Node}
use Rattle.rpc_machine.specs.Descriptors.{DescribesAll}
use Rattle.core_store.specs.Holding.{state_of}
use Rattle.core_step_routes.proofs.Describing.{describes_more, given_more}
use Rattle.core_step_routes.proofs.Roomy.{HasRoomFor, first_room, room_for_one, room_behind}
use Rattle.core_step_routes.proofs.descriptors.describe_each.Goals as goal

pub loop-node-preserved : goal.loop-node-preserved
loop-node-preserved c =
    let s = state_of c.args.store.now in
    let xs : List Node = c.args.nodes.now in
    let i = c.loop-node.node-index in
    let x = c.node-item.result in
    let before = c.loop-node.invariant in
    let one = c.in_ok-one.one in
    let new = state_of c.describe.new.store in
    let made = c.in_ok-one.ensures in
    let ids = c.push_given.ensures in
    let taken : take i xs ++ x ∷ [] ≡ take (i + 1) xs = ap (λ n. take i xs ++ n ∷ []) c.node-item.is ∙ sym (take_more xs i x c.loop-node-test.true) in
    let more : DescribesAll s (take i xs ++ x ∷ []) (c.loop-node.said.items ++ one ∷ []) new =
    describes_more s (take i xs) c.loop-node.said.items (state_of c.loop-node.store) x one new before.said made.ok in
    let dropped = λ (test : i < length xs). drop_more xs i x test ∙ ap (λ n. n ∷ drop (i + 1) xs) (sym c.node-item.is) in
    let pushed = c.in-Ok.ensures.items in record {
      sound = c.describe.ensures.sound;
      said = subst (λ (ds : List Descriptor). DescribesAll s (take (i + 1) xs) ds new) (sym pushed) (subst (λ (ns : List Node). DescribesAll s ns (c.loop-node.said.items ++ one ∷ []) new) taken more);
      given = ids.ids ∙ ap (λ (l : List ExportId). l ++ export_ids (given (one ∷ []))) before.given ∙ sym (given_more c.loop-node.said.items one) ∙ ap (λ (ds : List Descriptor). export_ids (given ds)) (sym pushed);
      fits = λ room. room_behind (state_of c.loop-node.store) x (drop (i + 1) xs) one new made.ok (subst (HasRoomFor (state_of c.loop-node.store)) (dropped c.loop-node-test.true) (before.fits room));
      left = let a = c.describe.ensures.left.0 in let b = before.left in omega (arith, a, b);
      less = let a = c.describe.ensures.left.1 in let b = before.less in omega (arith, a, b);
      waits = c.describe.ensures.waits ∙ before.waits;
      noted = c.describe.ensures.noted ∙ before.noted;
      room = let e = c.in-Ok.ensures.len in let f = c.push.ensures.capacity in let g = before.room in omega (arith, e, f, g, c.loop-node-test.true);
      id_room = let e = ids.len in let f = ids.capacity in let g = before.id_room in omega (arith, e, f, g, c.loop-node-test.true);
    }

pub loop-node-init : goal.loop-node-init
loop-node-init c =
    let s = state_of c.args.store.now in
    let none = c.requires.none_said in record {
      sound = c.requires.sound;
      said = subst (λ (ds : List Descriptor). DescribesAll s [] ds s) (sym none) refl;
      given = c.requires.no_ids ∙ ap (λ (ds : List Descriptor). export_ids (given ds)) (sym none);
      fits = λ room. first_room s c.args.nodes.now c.have_one_each.ensures room;
      left = omega arith;
      less = omega arith;
      waits = refl;
      noted = refl;
      room = let e = ap length none in let r = c.requires.room in omega (arith, e, r);
      id_room = let e = ap length c.requires.no_ids in let r = c.requires.id_room in omega (arith, e, r);
    }

pub returns-in_err-one-clause-fits : goal.returns-in_err-one-clause-fits
returns-in_err-one-clause-fits c = λ room.
    let now = state_of c.loop-node.store in
    let xs : List Node = c.args.nodes.now in
    let i = c.loop-node.node-index in
    let x = c.node-item.result in
    let dropped = drop_more xs i x c.loop-node-test.true ∙ ap (λ n. n ∷ drop (i + 1) xs) (sym c.node-item.is) in
    let h = subst (HasRoomFor now) dropped (c.loop-node.invariant.fits room) in
    let ok = c.describe.ensures.fits h.0 h.1 (room_for_one now h.0 x (drop (i + 1) xs) h.2) in
    absurd (let bad : false ≡ true = subst IsOk c.in_err-one.was ok in cc)
