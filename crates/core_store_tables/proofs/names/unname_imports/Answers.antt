use Rattle.std.proofs.Common.{◌≡◌, ◌+◌, List, [], ◌∷◌, ◌++◌, take, get_or, sym, ap, ◌∙◌}
use Rattle.std.proofs.lemmas.List.{take_more}
use Rattle.rpc_msg.specs.declared.ids.ExportId.{ExportId}
use Rattle.rpc_machine.specs.declared.node.Node.TheVariants as node
use Rattle.rpc_machine.specs.Places.{imports_of}
use Rattle.core_refcounts.specs.Names.{Names, unnamed, unnamed_all}
use Rattle.core_store_tables.proofs.Listed.{unnamed_import}
use Rattle.core_store_tables.proofs.names.unname_imports.Goals as goal

pub loop-id-preserved : goal.loop-id-preserved
loop-id-preserved c =
    let xs : List ExportId = c.args.ids.now in
    let i = c.loop-id.id-index in
    let none : ExportId = record { 0 = 0 } in
    let x = get_or xs i none in
    let taken : take i xs ++ x ∷ [] ≡ take (i + 1) xs = sym (take_more xs i none c.loop-id-test.true) in
    c.sub.ensures ∙ ap (λ (s : Names). unnamed s (node.Import x)) c.loop-id.invariant ∙ sym (unnamed_import c.args.names.now (take i xs) x)
    ∙ ap (λ (ys : List ExportId). unnamed_all c.args.names.now (imports_of ys)) taken
