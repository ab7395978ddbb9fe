use Rattle.std.proofs.Common.{◌≡◌, ◌+◌, List, [], ◌∷◌, ◌++◌, take, sym, ap, ◌∙◌}
use Rattle.std.proofs.lemmas.List.{take_more}
use Rattle.rpc_msg.specs.declared.parts.Descriptor.{Descriptor}
use Rattle.rpc_machine.specs.declared.node.Node.{Node}
use Rattle.rpc_machine.specs.Places.{nodes}
use Rattle.core_refcounts.specs.Names.{Names, unnamed, unnamed_all}
use Rattle.core_store_tables.proofs.Listed.{unnamed_beside}
use Rattle.core_store_tables.proofs.names.unname_beside.Goals as goal

pub loop-cap-preserved : goal.loop-cap-preserved
loop-cap-preserved c =
    let xs : List (Descriptor × Node) = c.args.caps.now in
    let i = c.loop-cap.cap-index in
    let x = c.cap-item.result in
    let taken : take i xs ++ x ∷ [] ≡ take (i + 1) xs = ap (λ n. take i xs ++ n ∷ []) c.cap-item.is ∙ sym (take_more xs i x c.loop-cap-test.true) in
    c.sub.ensures ∙ ap (λ (s : Names). unnamed s x.1) c.loop-cap.invariant ∙ sym (unnamed_beside c.args.names.now (take i xs) x)
    ∙ ap (λ (ys : List (Descriptor × Node)). unnamed_all c.args.names.now (nodes ys)) taken
