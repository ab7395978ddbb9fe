use Rattle.std.proofs.Common.{◌≡◌, ◌+◌, List, [], ◌∷◌, ◌++◌, take, sym, ap, ◌∙◌}
use Rattle.std.proofs.lemmas.List.{take_more}
use Rattle.rpc_msg.specs.declared.parts.Descriptor.{Descriptor}
use Rattle.rpc_machine.specs.declared.node.Node.{Node}
use Rattle.rpc_machine.specs.Descriptors.{read_all}
use Rattle.core_store.specs.Holding.{state_of}
use Rattle.core_step_messages.proofs.InTurn.{read_more}
use Rattle.core_step_messages.proofs.nodes.read_all.Goals as goal

pub loop-descriptor-preserved : goal.loop-descriptor-preserved
loop-descriptor-preserved c =
    let s = state_of c.args.store.now in
    let xs : List Descriptor = c.args.descriptors.now in
    let i = c.loop-descriptor.descriptor-index in
    let d = c.descriptor-item.result in
    let taken : take i xs ++ d ∷ [] ≡ take (i + 1) xs = ap (λ n. take i xs ++ n ∷ []) c.descriptor-item.is ∙ sym (take_more xs i d c.loop-descriptor-test.true) in
    c.in-Ok.ensures.ok
    ∙ ap (λ (l : List Node). l ++ c.read.result ∷ []) c.loop-descriptor.invariant
    ∙ ap (λ (n : Node). read_all s (take i xs) ++ n ∷ []) c.read.ensures
    ∙ sym (read_more s (take i xs) d)
    ∙ ap (read_all s) taken
