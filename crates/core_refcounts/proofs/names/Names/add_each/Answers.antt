use Rattle.std.proofs.Common.{◌≡◌, ◌+◌, ◌-◌, ◌<◌, ◌≤◌, ◌^◌, true, false, List, [], ◌∷◌, ◌++◌, length, take, refl, sym, ap, subst, ◌∙◌, arith}
use Rattle.std.proofs.lemmas.List.{take_more, length-take-le}
use Rattle.std.proofs.lemmas.List.Elements.{All-get_or}
use Rattle.rpc_machine.specs.declared.node.Node.{Node}
use Rattle.core_refcounts.specs.Names.{Names, named, named_all, times_named, HasRoom, all_roomier}
use Rattle.core_refcounts.proofs.Listing.{named_more}
use Rattle.core_refcounts.proofs.Rooms.{room_fewer, room_named, times_fit}
use Rattle.core_refcounts.proofs.names.Names.add_each.Goals as goal

pub unreachable-requires : goal.unreachable-requires
unreachable-requires c =
    let xs : List Node = c.args.nodes.now in
    let i = c.loop-node.node-index in
    let x = c.node-item.result in
    let P : Node → Type 0 = λ n. times_named c.args.self.now n + length xs < 2 ^ 64 in
    let here : P x = subst P (sym c.node-item.is) (All-get_or P xs i x c.loop-node-test.true (c.if-not-can_add.ensures.0 refl)) in
    let before : length (take i xs) ≤ i = let e = length-take-le i xs (omega (arith, c.loop-node-test.true)) in omega (arith, e) in
    let room : HasRoom 1 c.loop-node.self = room_fewer 1 (length xs - i) c.loop-node.self (omega (arith, c.loop-node-test.true)) c.loop-node.invariant.room in
    let fits : times_named c.loop-node.self x + 1 < 2 ^ 64 =
    subst (λ (s : Names). times_named s x + 1 < 2 ^ 64) (sym c.loop-node.invariant.named) (times_fit c.args.self.now (take i xs) x i (length xs) before c.loop-node-test.true here) in
    let no : false ≡ true = c.in_default.ensures.had_room room fits in
    cc

pub loop-node-preserved : goal.loop-node-preserved
loop-node-preserved c =
    let xs : List Node = c.args.nodes.now in
    let i = c.loop-node.node-index in
    let x = c.node-item.result in
    let start : Names = all_roomier (length xs) c.args.self.now in
    let taken : take i xs ++ x ∷ [] ≡ take (i + 1) xs = ap (λ n. take i xs ++ n ∷ []) c.node-item.is ∙ sym (take_more xs i x c.loop-node-test.true) in
    let left : length xs - i ≡ length xs - (i + 1) + 1 = omega (arith, c.loop-node-test.true) in record {
      named = c.in-Ok.ensures.ok ∙ ap (λ (s : Names). named s x) c.loop-node.invariant.named ∙ sym (named_more start (take i xs) x) ∙ ap (named_all start) taken;
      room = subst (HasRoom (length xs - (i + 1))) (sym c.in-Ok.ensures.ok)
          (room_named (length xs - (i + 1)) c.loop-node.self x (subst (λ n. HasRoom n c.loop-node.self) left c.loop-node.invariant.room));
    }
