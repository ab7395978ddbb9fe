use Rattle.std.proofs.Common.{◌+◌, ◌<◌, Option, refl, sym, subst}
use Rattle.rpc_machine.specs.declared.entries.Reference.{Reference}
use Rattle.rpc_machine.specs.Limits.{made_through, number_limit}
use Rattle.core_store_handles.proofs.Numbered.{sound_kept}
use Rattle.core_store_handles.proofs.references.count_made.Goals as goal

pub returns-clause-sound : goal.returns-clause-sound
returns-clause-sound c =
    let found = c.in-Some.reference.now in
    sound_kept c.args.store.now c.args.id.0 found (record found { made = found.made + 1 }) c.requires.sound c.in-Some.ensures.value refl
    (subst (λ (o : Option Reference). made_through o + 1 < number_limit) (sym c.in-Some.ensures.value) c.requires.number)
