-- Commands whose contents are given as bytes.
use Rattle.std.proofs.Common.{◌≡◌, ◌⊎◌, inl, inr, ℕ, List, Option, Some, Result, Err, refl, sym, subst}
use Rattle.rpc_msg.specs.Payloads.{Contents}
use Rattle.rpc_msg.specs.declared.exception.ExceptionKind.{ExceptionKind}
use Rattle.rpc_msg.specs.declared.ids.RefId.{RefId}
use Rattle.rpc_machine.specs.declared.command.CallCommand.{CallCommand}
use Rattle.rpc_machine.specs.declared.command.Command.{Command}
use Rattle.rpc_machine.specs.declared.command.Refusal.TheVariants as refusal
use Rattle.lovendak_c_desk.specs.declared.desk.Desk.{Desk}
use Rattle.lovendak_c_desk.specs.declared.not_done.NotDone.{NotDone}
use Rattle.lovendak_c_desk.specs.declared.not_done.NotDone.TheVariants as not_done
use Rattle.lovendak_c_desk.specs.Commands.{CallsWith, Excepts, IsAskedToFit, nothing}
use Rattle.lovendak_c_desk.specs.Given.{IsNoPayload, IsNoText, lacks_memory}

-- A call whose payload is none, or for which memory is wanting.
pub not_called : (d : Desk) (c : CallCommand) (e : NotDone) → (e ≡ lacks_memory) ⊎ IsNoPayload c.payload e → CallsWith d c (Err e) d
not_called d c e (inl is) =
    subst (λ (w : NotDone). CallsWith d c (Err w) d) (sym is)
    (inl (d.connection.speaker.host, Err refusal.Memory, (inr (refl, refl), refl), (inr (refl, refl), refl)), refl)
not_called d c (not_done.Refused r) (inr u) = absurd u
not_called d c not_done.Empty (inr u) = absurd u
not_called d c not_done.InUse (inr u) = absurd u
not_called d c not_done.Malformed (inr u) = (u, refl)
not_called d c not_done.NoRoom (inr u) = absurd u
not_called d c not_done.Nothing (inr u) = absurd u
not_called d c not_done.NoSuchNumber (inr u) = absurd u

-- A call with the same contents.
pub same_call : (r : RefId) (i m : ℕ) (p q : Contents) (rs ss : List RefId) → p ≡ q → rs ≡ ss
    → ◌≡◌ {A = CallCommand} (record { reference = r; interface = i; method = m; payload = p; refs = rs }) (record { reference = r; interface = i; method = m; payload = q; refs = ss })
same_call r i m p q rs ss e f = cc

-- The kind is one, and what comes of the command with it comes of the whole.
pub of_kind : {A : Type 0} (o : Option ExceptionKind) (k : ExceptionKind) (old new : Desk) (c : ExceptionKind → Command) (reason : List ℕ) (answer : Result A NotDone) → o ≡ Some k
    → IsAskedToFit (IsNoText reason) old (c k) nothing answer new → Excepts o old c reason answer new
of_kind o k old new c reason answer is done = subst (λ (x : Option ExceptionKind). Excepts x old c reason answer new) (sym is) done
