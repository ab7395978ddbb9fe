-- A step that takes a vat down says no more than an Abort.
use Rattle.std.proofs.Common.{◌≡◌, inl, inr, ℕ, Option, None, Some, IfSome, Result, refl, sym, ap, subst, ◌∙◌}
use Rattle.rpc_msg.specs.declared.message.PlainMessage.TheVariants as plain
use Rattle.rpc_msg.specs.declared.message.Message.{Message}
use Rattle.rpc_msg.specs.declared.message.Message.TheVariants as message
use Rattle.rpc_machine.specs.declared.command.Command.{Command}
use Rattle.rpc_machine.specs.declared.command.Granted.{Granted}
use Rattle.rpc_machine.specs.declared.command.Refusal.{Refusal}
use Rattle.rpc_machine.specs.declared.command.Effects.{Effects}
use Rattle.rpc_machine.specs.State.{State}
use Rattle.rpc_machine.specs.Down.{falling_by, IsUnchanged, Falls, ShutsFrom}
use Rattle.rpc_machine.specs.Steps.{Obeys, Refuses, LacksMemory, GoesDown, Shuts, IsDone, Receives, WasDown, FaultsBy, LacksRoom, IsHandled}
use Rattle.laws_steps.proofs.UsedOnce.{command_leaves_up, message_leaves_up}
use Rattle.core_telling.specs.Told.{IsFall}

stays_up : (o : Option ℕ) (x : Effects) → o ≡ None → IfSome o (IsFall x)
stays_up o x e = subst (λ (p : Option ℕ). IfSome p (IsFall x)) (sym e) tt

unchanged : (s : State) (x : Effects) (t : State) → s.down ≡ None → IsUnchanged s x t → IfSome t.down (IsFall x)
unchanged s x t up h = stays_up t.down x (ap (λ (u : State). u.down) h.new_is ∙ up)

falls : (s : State) (n : ℕ) (x : Effects) (t : State) → Falls s n x t → IfSome t.down (IsFall x)
falls s n x t h = subst (λ (u : State). IfSome u.down (IsFall x)) (sym h.new_is) (inl h.effects_are)

shuts : (s : State) (n : ℕ) (o : Option ℕ) (x : Effects) (t : State) → s.down ≡ None → ShutsFrom s n o x t → IfSome t.down (IsFall x)
shuts s n None x t up h = falls s n x t h
shuts s n (Some m) x t up h = unchanged s x t up h

pub obeys_fall : (s : State) (c : Command) (a : Result Granted Refusal) (x : Effects) (t : State) → s.down ≡ None → Obeys s c a x t → IfSome t.down (IsFall x)
obeys_fall s c a x t up (Refuses r f g u) = unchanged s x t up u
obeys_fall s c a x t up (LacksMemory f g k u) = unchanged s x t up u
obeys_fall s c a x t up (GoesDown f g k u) = falls s _ x t u
obeys_fall s c a x t up (Shuts n f g h) = shuts s n s.down x t up h
obeys_fall s c a x t up (IsDone g f k h w) = stays_up t.down x (command_leaves_up s c g x t h ∙ up)

fault_falls : (m : Message) (n : ℕ) → IsFall (falling_by m n) n
fault_falls (message.Plain (plain.Abort e)) n = inr refl
fault_falls m n = inl refl

pub receives_fall : (s : State) (m : Message) (x : Effects) (t : State) → s.down ≡ None → Receives s m x t → IfSome t.down (IsFall x)
receives_fall s m x t up (WasDown d u) = unchanged s x t up u
receives_fall s m x t up (FaultsBy n d f g h) =
    subst (λ (u : State). IfSome u.down (IsFall x)) (sym h) (subst (λ (y : Effects). IsFall y n) (sym g) (fault_falls m n))
receives_fall s m x t up (LacksRoom d f u) = falls s _ x t u
receives_fall s m x t up (IsHandled d f h w) = stays_up t.down x (message_leaves_up s m x t f h ∙ up)
