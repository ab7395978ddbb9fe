-- A Call that is no fault is aimed at an export or an answer that is there.
use Rattle.std.proofs.Common.{◌≡◌, ℕ, nat_eq, length, List, [], ◌∷◌, Option, None, Some, IsSome, is_some, not, refl}
use Rattle.std.specs.FinMap as map
use Rattle.rpc_msg.specs.declared.parts.Target.{Target}
use Rattle.rpc_msg.specs.declared.parts.Target.TheVariants.{ImportedCap, PromisedAnswer}
use Rattle.rpc_msg.specs.declared.message.PlainMessage.TheVariants as plain
use Rattle.rpc_machine.specs.declared.command.Level.{Level}
use Rattle.rpc_machine.specs.declared.command.Level.TheVariants.{Zero, One}
use Rattle.rpc_machine.specs.State.{State}
use Rattle.rpc_machine.specs.rpc_journal.specs.History.{if_so}
use Rattle.rpc_machine.specs.Numbers.{question_in_use, unknown_export, unknown_answer, bad_payload}
use Rattle.rpc_machine.specs.Payloads.{caps_in}
use Rattle.rpc_machine.specs.Faults.{target_fault, descriptors_fault, held_fault, plain_fault, is_foreign, unless_foreign}
use Rattle.laws_acts.proofs.Checks.{first, rest}
use Rattle.laws_authority.specs.Authority.{IsAimed, CallsAreAimed}

there : {X : Type 0} (o : Option X) (f : ℕ) → if_so (not (is_some o)) f ≡ None → IsSome o
there None f h = absurd (let g : Some f ≡ None = h in cc)
there (Some x) f h = refl

aimed_at : (s : State) (t : Target) → target_fault s t ≡ None → IsAimed s t
aimed_at s (ImportedCap e) h = there (map.get s.exports e.0) unknown_export h
aimed_at s (PromisedAnswer q path) h = there (map.get s.answers q.0) unknown_answer h

pub aimed : CallsAreAimed
aimed s c h =
    let last : List (Option ℕ) = if_so (not (nat_eq (caps_in c.payload) (length c.descriptors))) bad_payload ∷ descriptors_fault s c.descriptors ∷ held_fault s c.target ∷ [] in
    let three : List (Option ℕ) = target_fault s c.target ∷ last in
    let one : Option ℕ = if_so (map.contains_key s.answers c.question.0) question_in_use in
    aimed_at s c.target (first (target_fault s c.target) last (rest one three (plainly s.level h)))
  where
    plainly : (l : Level) → unless_foreign (is_foreign l (plain.Call c)) (plain_fault s (plain.Call c)) ≡ None → plain_fault s (plain.Call c) ≡ None
    plainly Zero f = f
    plainly One f = f
