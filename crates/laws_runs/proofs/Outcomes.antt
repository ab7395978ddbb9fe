-- What a step of a vat that is up comes to: it is refused, it is done, or the vat falls.
use Rattle.std.proofs.Common.{◌≡◌, ◌⊎◌, inl, inr, ℕ, Bool, true, false, [], Option, None, Some, Result, Ok, Err, refl, sym, ap, subst, ◌∙◌}
use Rattle.std.specs.Option.{IsSome}
use Rattle.rpc_msg.specs.declared.message.Message.{Message}
use Rattle.rpc_msg.specs.declared.message.Message.TheVariants as message
use Rattle.rpc_msg.specs.declared.message.PlainMessage.TheVariants as plain
use Rattle.rpc_machine.specs.declared.command.Command.{Command}
use Rattle.rpc_machine.specs.declared.command.Command.TheVariants as command
use Rattle.rpc_machine.specs.declared.command.Granted.{Granted}
use Rattle.rpc_machine.specs.declared.command.Granted.TheVariants as granted
use Rattle.rpc_machine.specs.declared.command.Refusal.{Refusal}
use Rattle.rpc_machine.specs.declared.command.Refusal.TheVariants as refusal
use Rattle.rpc_machine.specs.declared.command.Effects.{Effects}
use Rattle.rpc_machine.specs.Numbers.{want_of_room}
use Rattle.rpc_machine.specs.State.{State}
use Rattle.rpc_machine.specs.Progress.{quiet}
use Rattle.rpc_machine.specs.Limits.{IsWithin}
use Rattle.rpc_machine.specs.Refusals.{refused}
use Rattle.rpc_machine.specs.Faults.{fault_of}
use Rattle.rpc_machine.specs.Down.{fallen, falling, falling_by, IsUnchanged, Falls, ShutsFrom}
use Rattle.rpc_machine.specs.Steps.{Does, Handles, MayFall, Obeys, Refuses, LacksMemory, GoesDown, Shuts, IsDone, Receives, WasDown, FaultsBy, LacksRoom, IsHandled}
use Rattle.rpc_machine.specs.World.{overflow_effects, overflown, Tells, CommandTold, MessageTold}
use Rattle.laws_steps.proofs.UsedOnce.{command_leaves_up, message_leaves_up}
use Rattle.laws_runs.specs.Scenes.{IsLast}

-- The vat went down, and said no more than one Abort.
pub record IsFall (told : Effects) (t : State) : Type 0 where
  pub last : IsLast true told.sends
  pub deliveries : told.deliveries ≡ []
  pub answers : told.answers ≡ []
  pub down : IsSome t.down

falls_so : (s : State) (n : ℕ) → IsFall (falling n) (fallen s n)
falls_so s n = record { last = inr (_, refl); deliveries = refl; answers = refl; down = refl }

falls : (s : State) (n : ℕ) (x : Effects) (t : State) → Falls s n x t → IsFall x t
falls s n x t h = rw (h.effects_are, h.new_is) (falls_so s n)

abbrev Ways : Effects → State → Type 0
Ways x t = (t.down ≡ None) ⊎ IsFall x t

shuts : (s : State) (n : ℕ) (o : Option ℕ) (x : Effects) (t : State) → o ≡ None → ShutsFrom s n o x t → IsFall x t
shuts s n None x t e h = falls s n x t h
shuts s n (Some m) x t e h = cc

unchanged : (s : State) (x : Effects) (t : State) → s.down ≡ None → IsUnchanged s x t → Ways x t
unchanged s x t e h = inl (ap (λ (y : State). y.down) h.new_is ∙ e)

obeys_ways : (s : State) (c : Command) (a : Result Granted Refusal) (x : Effects) (t : State) → s.down ≡ None → Obeys s c a x t → Ways x t
obeys_ways s c a x t e (Refuses r f g u) = unchanged s x t e u
obeys_ways s c a x t e (LacksMemory f g k u) = unchanged s x t e u
obeys_ways s c a x t e (GoesDown f g k u) = inr (falls s want_of_room x t u)
obeys_ways s c a x t e (Shuts n f g h) = inr (shuts s n s.down x t e h)
obeys_ways s c a x t e (IsDone g f k h w) = inl (command_leaves_up s c g x t h ∙ e)

falling_by_so : (m : Message) (s : State) (n : ℕ) → IsFall (falling_by m n) (fallen s n)
falling_by_so (message.Plain (plain.Abort x)) s n = record { last = inl refl; deliveries = refl; answers = refl; down = refl }
falling_by_so m s n = falls_so s n

pub not_down : (o : Option ℕ) → o ≡ None → IsSome o → ⊥
not_down None e h = cc
not_down (Some n) e h = cc

receives_ways : (s : State) (m : Message) (x : Effects) (t : State) → s.down ≡ None → Receives s m x t → Ways x t
receives_ways s m x t e (WasDown d u) = absurd (not_down s.down e d)
receives_ways s m x t e (FaultsBy n d f g h) = inr (rw (g, h) (falling_by_so m s n))
receives_ways s m x t e (LacksRoom d f u) = inr (falls s want_of_room x t u)
receives_ways s m x t e (IsHandled d f h w) = inl (message_leaves_up s m x t f h ∙ e)

-- Without room it falls.
overflows : (x : Effects) (mid : State) (o : Option ℕ) → mid.down ≡ o → Ways x mid → IsFall (overflow_effects x o) (overflown mid o)
overflows x mid None e h = falls_so mid want_of_room
overflows x mid (Some n) e (inl f) = absurd (let g = sym e ∙ f in cc)
overflows x mid (Some n) e (inr f) = f

no_room : (x : Effects) (mid : State) (told : Effects) (t : State) → Ways x mid → Tells x mid false told t → IsFall told t
no_room x mid told t h k = rw (k.0, k.1) (overflows x mid mid.down refl h)

-- ---- Commands

pub data CommandKind (s : State) (c : Command) (a : Result Granted Refusal) (told : Effects) (room : Bool) (t : State) : Type 0 where
  WasRefused : (r : Refusal) → a ≡ Err r → told ≡ quiet → t ≡ s → CommandKind s c a told room t
  WasDone : (g : Granted) → refused s c ≡ None → a ≡ Ok g → room ≡ true → Does s c g told t → IsWithin t → t.down ≡ None → CommandKind s c a told room t
  GaveUp : refused s c ≡ None → MayFall c → a ≡ Ok granted.Done → room ≡ true → IsFall told t → CommandKind s c a told room t
  WasShut : (n : ℕ) → c ≡ command.Shut n → a ≡ Ok granted.Done → IsFall told t → CommandKind s c a told room t
  HadNoRoom : room ≡ false → IsFall told t → CommandKind s c a told room t

with_room : (s : State) (c : Command) (a said : Result Granted Refusal) (x told : Effects) (mid t : State) → s.down ≡ None → a ≡ said → told ≡ x → t ≡ mid → Obeys s c said x mid → CommandKind s c a told true t
with_room s c a said x told mid t up e f g (Refuses r i j u) = WasRefused r (e ∙ j) (f ∙ u.effects_are) (g ∙ u.new_is)
with_room s c a said x told mid t up e f g (LacksMemory i j k u) = WasRefused refusal.Memory (e ∙ k) (f ∙ u.effects_are) (g ∙ u.new_is)
with_room s c a said x told mid t up e f g (GoesDown i j k u) = GaveUp i j (e ∙ k) refl (rw (f, g) (falls s want_of_room x mid u))
with_room s c a said x told mid t up e f g (Shuts n i j h) = WasShut n i (e ∙ j) (rw (f, g) (shuts s n s.down x mid up h))
with_room s c a said x told mid t up e f g (IsDone given i j h w) =
    WasDone given i (e ∙ j) refl (subst (λ (y : Effects). Does s c given y t) (sym f) (subst (λ (y : State). Does s c given x y) (sym g) h))
    (subst (λ (y : State). IsWithin y) (sym g) w) (ap (λ (y : State). y.down) g ∙ command_leaves_up s c given x mid h ∙ up)

pub command_kind : (s : State) (c : Command) (a : Result Granted Refusal) (told : Effects) (room : Bool) (t : State) → s.down ≡ None → CommandTold s c a told room t → CommandKind s c a told room t
command_kind s c a told true t up k = with_room s c a k.0 k.1 told k.2 t up k.4 k.5.0 k.5.1 k.3
command_kind s c a told false t up k = HadNoRoom refl (no_room k.1 k.2 told t (obeys_ways s c k.0 k.1 k.2 up k.3) k.5)

-- ---- Received messages

pub data MessageKind (s : State) (m : Message) (told : Effects) (t : State) : Type 0 where
  WasHandled : fault_of s m ≡ None → Handles s m told t → IsWithin t → t.down ≡ None → MessageKind s m told t
  Fell : IsFall told t → MessageKind s m told t

received_well : (s : State) (m : Message) (x told : Effects) (mid t : State) → s.down ≡ None → told ≡ x → t ≡ mid → Receives s m x mid → MessageKind s m told t
received_well s m x told mid t up f g (WasDown d u) = absurd (not_down s.down up d)
received_well s m x told mid t up f g (FaultsBy n d i j h) = Fell (rw (f, g, j, h) (falling_by_so m s n))
received_well s m x told mid t up f g (LacksRoom d i u) = Fell (rw (f, g) (falls s want_of_room x mid u))
received_well s m x told mid t up f g (IsHandled d i h w) =
    WasHandled i (subst (λ (y : Effects). Handles s m y t) (sym f) (subst (λ (y : State). Handles s m x y) (sym g) h))
    (subst (λ (y : State). IsWithin y) (sym g) w) (ap (λ (y : State). y.down) g ∙ message_leaves_up s m x mid i h ∙ up)

pub message_kind : (s : State) (m : Message) (told : Effects) (room : Bool) (t : State) → s.down ≡ None → MessageTold s m told room t → MessageKind s m told t
message_kind s m told true t up k = received_well s m k.0 told k.1 t up k.3.0 k.3.1 k.2
message_kind s m told false t up k = Fell (no_room k.0 k.1 told t (receives_ways s m k.0 k.1 up k.2) k.3)
