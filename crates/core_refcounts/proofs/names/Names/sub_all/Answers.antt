use Rattle.std.proofs.Common.{◌≡◌, ◌+◌, List, [], ◌∷◌, ◌++◌, take, sym, ap, ◌∙◌}
use Rattle.std.proofs.lemmas.List.{take_more}
use Rattle.rpc_machine.specs.declared.node.Node.{Node}
use Rattle.core_refcounts.specs.Names.{Names, unnamed, unnamed_all}
use Rattle.core_refcounts.proofs.Listing.{unnamed_more}
use Rattle.core_refcounts.proofs.names.Names.sub_all.Goals as goal

pub loop-node-preserved : goal.loop-node-preserved
loop-node-preserved c =
    let xs : List Node = c.args.nodes.now in
    let i = c.loop-node.node-index in
    let x = c.node-item.result in
    let taken : take i xs ++ x ∷ [] ≡ take (i + 1) xs = ap (λ n. take i xs ++ n ∷ []) c.node-item.is ∙ sym (take_more xs i x c.loop-node-test.true) in
    c.sub.ensures ∙ ap (λ (s : Names). unnamed s x) c.loop-node.invariant ∙ sym (unnamed_more c.args.self.now (take i xs) x) ∙ ap (unnamed_all c.args.self.now) taken
