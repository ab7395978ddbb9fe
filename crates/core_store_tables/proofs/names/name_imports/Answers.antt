use Rattle.std.proofs.Common.{◌≡◌, ◌+◌, ◌-◌, ◌<◌, ◌^◌, true, false, List, [], ◌∷◌, ◌++◌, length, take, get_or, sym, ap, subst, ◌∙◌, arith}
use Rattle.std.proofs.lemmas.List.{take_more}
use Rattle.rpc_msg.specs.declared.ids.ExportId.{ExportId}
use Rattle.rpc_machine.specs.declared.node.Node.{Node}
use Rattle.rpc_machine.specs.declared.node.Node.TheVariants as node
use Rattle.rpc_machine.specs.Places.{imports_of}
use Rattle.core_refcounts.specs.Names.{Names, named, named_all, times_named, HasRoom}
use Rattle.core_refcounts.proofs.Rooms.{room_fewer, room_named}
use Rattle.core_store_tables.proofs.Listed.{named_import, imports_fit}
use Rattle.core_store_tables.proofs.names.name_imports.Goals as goal

pub unreachable-requires : goal.unreachable-requires
unreachable-requires c =
    let xs : List ExportId = c.args.ids.now in
    let i = c.loop-id.id-index in
    let none : ExportId = record { 0 = 0 } in
    let x : Node = node.Import (get_or xs i none) in
    let room : HasRoom 1 c.loop-id.names = room_fewer 1 (length xs - i) c.loop-id.names (omega (arith, c.loop-id-test.true)) c.loop-id.invariant.room in
    let fits : times_named c.loop-id.names x + 1 < 2 ^ 64 =
    subst (λ (s : Names). times_named s x + 1 < 2 ^ 64) (sym c.loop-id.invariant.named) (imports_fit c.args.names.now xs i x c.loop-id-test.true (c.requires.fits x)) in
    let no : false ≡ true = c.in_default.ensures.had_room room fits in
    cc

pub loop-id-preserved : goal.loop-id-preserved
loop-id-preserved c =
    let xs : List ExportId = c.args.ids.now in
    let i = c.loop-id.id-index in
    let none : ExportId = record { 0 = 0 } in
    let x = get_or xs i none in
    let start : Names = c.args.names.now in
    let taken : take i xs ++ x ∷ [] ≡ take (i + 1) xs = sym (take_more xs i none c.loop-id-test.true) in
    let left : length xs - i ≡ length xs - (i + 1) + 1 = omega (arith, c.loop-id-test.true) in record {
      named = c.in-Ok.ensures.ok ∙ ap (λ (s : Names). named s (node.Import x)) c.loop-id.invariant.named ∙ sym (named_import start (take i xs) x) ∙ ap (λ (ys : List ExportId). named_all start (imports_of ys)) taken;
      room = subst (HasRoom (length xs - (i + 1))) (sym c.in-Ok.ensures.ok)
          (room_named (length xs - (i + 1)) c.loop-id.names (node.Import x) (subst (λ n. HasRoom n c.loop-id.names) left c.loop-id.invariant.room));
    }
