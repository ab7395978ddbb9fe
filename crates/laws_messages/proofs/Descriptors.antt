-- Descriptors whose ids are there and of one kind: their checks find nothing.
use Rattle.std.proofs.Common.{◌≡◌, ℕ, not, is_some, IsSome, List, [], ◌∷◌, Option, None, refl, ap, ◌∙◌}
use Rattle.std.specs.FinMap as map
use Rattle.rpc_msg.specs.declared.parts.Descriptor.{Descriptor}
use Rattle.rpc_msg.specs.declared.parts.Descriptor.TheVariants as descriptor
use Rattle.rpc_journal.specs.History.{if_so, or_rest}
use Rattle.rpc_machine.specs.declared.command.Level.{Level}
use Rattle.rpc_machine.specs.declared.command.Level.TheVariants.{One}
use Rattle.rpc_machine.specs.State.{State}
use Rattle.rpc_machine.specs.Numbers.{unknown_export, unknown_answer, kind_mismatch}
use Rattle.rpc_machine.specs.Faults.{each_fault, faults_at, descriptors_fault}
use Rattle.laws_messages.specs.Found as exports
use Rattle.laws_messages.specs.Named as answers
use Rattle.laws_messages.specs.Oldest.{NoneClashes}

pub there : {X : Type 0} (o : Option X) (n : ℕ) → IsSome o → if_so (not (is_some o)) n ≡ None
there o n h = ap (λ b. if_so (not b) n) h

-- A check that finds nothing, and then the others.
then : (x y : Option ℕ) → x ≡ None → y ≡ None → or_rest x y ≡ None
then x y f g = ap (λ (o : Option ℕ). or_rest o y) f ∙ g

each : (s : State) (before ds : List Descriptor) → NoneClashes s before ds → exports.FindsEach s ds → answers.FindsEach s ds → each_fault s before ds ≡ None
each s before [] k f g = refl
each s before (descriptor.None ∷ ds) k f g = each s (descriptor.None ∷ before) ds k f g
each s before (descriptor.SenderHosted i ∷ ds) k f g = then _ (each_fault s (descriptor.SenderHosted i ∷ before) ds) (ap (λ b. if_so b kind_mismatch) k.0) (each s (descriptor.SenderHosted i ∷ before) ds k.1 f g)
each s before (descriptor.SenderPromise i ∷ ds) k f g = then _ (each_fault s (descriptor.SenderPromise i ∷ before) ds) (ap (λ b. if_so b kind_mismatch) k.0) (each s (descriptor.SenderPromise i ∷ before) ds k.1 f g)
each s before (descriptor.ReceiverHosted i ∷ ds) k f g = then _ (each_fault s (descriptor.ReceiverHosted i ∷ before) ds) (there (map.get s.exports i.0) unknown_export f.0) (each s (descriptor.ReceiverHosted i ∷ before) ds k f.1 g)
each s before (descriptor.ReceiverAnswer q path ∷ ds) k f g = then _ (each_fault s (descriptor.ReceiverAnswer q path ∷ before) ds) (there (map.get s.answers q.0) unknown_answer g.0) (each s (descriptor.ReceiverAnswer q path ∷ before) ds k f g.1)

pub none_found : (s : State) (ds : List Descriptor) → s.level ≡ One → NoneClashes s [] ds → exports.FindsEach s ds → answers.FindsEach s ds → descriptors_fault s ds ≡ None
none_found s ds one k f g = ap (λ (l : Level). faults_at l s ds) one ∙ each s [] ds k f g
