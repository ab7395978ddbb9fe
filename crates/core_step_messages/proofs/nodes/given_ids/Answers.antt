use Rattle.std.proofs.Common.{◌≡◌, ◌+◌, List, [], ◌∷◌, ◌++◌, take, sym, ap, ◌∙◌}
use Rattle.std.proofs.lemmas.List.{take_more}
use Rattle.rpc_msg.specs.declared.ids.ExportId.{ExportId}
use Rattle.rpc_msg.specs.declared.parts.Descriptor.{Descriptor}
use Rattle.rpc_msg.specs.Messages.{given}
use Rattle.rpc_machine.specs.Progress.{export_ids}
use Rattle.core_step_routes.proofs.Describing.{given_more}
use Rattle.core_step_messages.proofs.nodes.given_ids.Goals as goal

pub loop-descriptor-preserved : goal.loop-descriptor-preserved
loop-descriptor-preserved c =
    let xs : List Descriptor = c.args.descriptors.now in
    let i = c.loop-descriptor.descriptor-index in
    let d = c.descriptor-item.result in
    let taken : take i xs ++ d ∷ [] ≡ take (i + 1) xs = ap (λ n. take i xs ++ n ∷ []) c.descriptor-item.is ∙ sym (take_more xs i d c.loop-descriptor-test.true) in
    c.in_ok-push_given.ensures
    ∙ ap (λ (l : List ExportId). l ++ export_ids (given (d ∷ []))) c.loop-descriptor.invariant
    ∙ sym (given_more (take i xs) d)
    ∙ ap (λ (ds : List Descriptor). export_ids (given ds)) taken
