use Rattle.std.proofs.Common.{◌≡◌, ◌+◌, ◌-◌, ◌<◌, ◌^◌, true, false, List, [], ◌∷◌, ◌++◌, length, take, sym, ap, subst, ◌∙◌, arith}
use Rattle.std.proofs.lemmas.List.{take_more}
use Rattle.rpc_msg.specs.declared.parts.Descriptor.{Descriptor}
use Rattle.rpc_machine.specs.declared.node.Node.{Node}
use Rattle.rpc_machine.specs.Places.{nodes}
use Rattle.core_refcounts.specs.Names.{Names, named, named_all, times_named, HasRoom}
use Rattle.core_refcounts.proofs.Rooms.{room_fewer, room_named}
use Rattle.core_store_tables.proofs.Listed.{length_nodes, named_beside, beside_fit}
use Rattle.core_store_tables.proofs.names.name_beside.Goals as goal

pub unreachable-requires : goal.unreachable-requires
unreachable-requires c =
    let xs : List (Descriptor × Node) = c.args.caps.now in
    let i = c.loop-cap.cap-index in
    let x = c.cap-item.result in
    let all : length (nodes xs) ≡ length xs = length_nodes xs in
    let room : HasRoom 1 c.loop-cap.names = room_fewer 1 (length (nodes xs) - i) c.loop-cap.names (omega (arith, c.loop-cap-test.true, all)) c.loop-cap.invariant.room in
    let fits : times_named c.loop-cap.names x.1 + 1 < 2 ^ 64 =
    subst (λ (s : Names). times_named s x.1 + 1 < 2 ^ 64) (sym c.loop-cap.invariant.named) (beside_fit c.args.names.now xs i x.1 c.loop-cap-test.true (c.requires.fits x.1)) in
    let no : false ≡ true = c.in_default.ensures.had_room room fits in
    cc

pub loop-cap-preserved : goal.loop-cap-preserved
loop-cap-preserved c =
    let xs : List (Descriptor × Node) = c.args.caps.now in
    let i = c.loop-cap.cap-index in
    let x = c.cap-item.result in
    let start : Names = c.args.names.now in
    let taken : take i xs ++ x ∷ [] ≡ take (i + 1) xs = ap (λ n. take i xs ++ n ∷ []) c.cap-item.is ∙ sym (take_more xs i x c.loop-cap-test.true) in
    let all : length (nodes xs) ≡ length xs = length_nodes xs in
    let left : length (nodes xs) - i ≡ length (nodes xs) - (i + 1) + 1 = omega (arith, c.loop-cap-test.true, all) in record {
      named = c.in-Ok.ensures.ok ∙ ap (λ (s : Names). named s x.1) c.loop-cap.invariant.named ∙ sym (named_beside start (take i xs) x) ∙ ap (λ (ys : List (Descriptor × Node)). named_all start (nodes ys)) taken;
      room = subst (HasRoom (length (nodes xs) - (i + 1))) (sym c.in-Ok.ensures.ok)
          (room_named (length (nodes xs) - (i + 1)) c.loop-cap.names x.1 (subst (λ n. HasRoom n c.loop-cap.names) left c.loop-cap.invariant.room));
    }
