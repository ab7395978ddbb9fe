-- Why a vat goes down in a step: a command or a message, and the number.
use Rattle.std.proofs.Common.{◌≡◌, ◌⊎◌, inl, inr, ℕ, Bool, true, false, ◌&&◌, Option, None, Some, is_some, Result, refl, sym, ap, ◌∙◌}
use Rattle.rpc_msg.specs.declared.ids.Vat.{Vat}
use Rattle.rpc_msg.specs.declared.message.Message.{Message}
use Rattle.rpc_msg.specs.declared.message.Message.TheVariants as message
use Rattle.rpc_msg.specs.declared.message.PlainMessage.TheVariants as plain
use Rattle.rpc_journal.specs.History.{if_so}
use Rattle.rpc_machine.specs.declared.command.Command.{Command}
use Rattle.rpc_machine.specs.declared.command.Command.TheVariants as command
use Rattle.rpc_machine.specs.declared.command.Granted.{Granted}
use Rattle.rpc_machine.specs.declared.command.Refusal.{Refusal}
use Rattle.rpc_machine.specs.declared.command.Effects.{Effects}
use Rattle.rpc_machine.specs.declared.event.Event.TheVariants as event
use Rattle.rpc_machine.specs.Numbers.{want_of_room}
use Rattle.rpc_machine.specs.State.{State}
use Rattle.rpc_machine.specs.Refusals.{refused, is_shut}
use Rattle.rpc_machine.specs.Faults.{fault_of}
use Rattle.rpc_machine.specs.Progress.{begin}
use Rattle.rpc_machine.specs.Down.{falling_by, Falls, ShutsFrom}
use Rattle.rpc_machine.specs.Steps.{Obeys, Refuses, LacksMemory, GoesDown, Shuts, IsDone, Receives, WasDown, FaultsBy, LacksRoom, IsHandled}
use Rattle.rpc_machine.specs.World.{overflow_effects, CommandTold, MessageTold, Answered, shut_with}
use Rattle.laws_steps.proofs.UsedOnce.{command_leaves_up}
use Rattle.rpc_machine.proofs.StaysDown.{acts_no_shut, falls_no_shut}
use Rattle.laws_runs.proofs.QuietRuns.{shut_not_refused, lacks_no_shut}
use Rattle.laws_runs.proofs.Reading.{itself}
use Rattle.laws_runs.proofs.Outcomes.{not_down}

-- A command that takes its vat down: a shut with that number, or want of room.
abbrev pub Why : Command → ℕ → Type 0
Why c n = (c ≡ command.Shut n) ⊎ ((n ≡ want_of_room) × (is_shut c ≡ false))

same_number : (n k : ℕ) → Some n ≡ Some k → k ≡ n
same_number n k e = cc

none_told : (x : Effects) (n : ℕ) → x.down ≡ None → x.down ≡ Some n → ⊥
none_told x n e f = let g : ◌≡◌ {A = Option ℕ} None (Some n) = sym e ∙ f in cc

refused_no_shut : (s : State) (c : Command) (r : Refusal) → refused s c ≡ Some r → is_shut c ≡ false
refused_no_shut s (command.Shut n) r f = absurd (shut_not_refused s n r f)
refused_no_shut s c r f = refl

shut_falls : (s : State) (k : ℕ) (o : Option ℕ) (x : Effects) (t : State) → o ≡ None → ShutsFrom s k o x t → Falls s k x t
shut_falls s k None x t e h = h
shut_falls s k (Some m) x t e h = cc

-- With room: what the step says itself.
by_itself : (s : State) (c : Command) (a : Result Granted Refusal) (x : Effects) (t : State) (n : ℕ) → s.down ≡ None → Obeys s c a x t → x.down ≡ Some n → Why c n
by_itself s c a x t n up (Refuses r f g u) e = absurd (none_told x n (ap (λ (y : Effects). y.down) u.effects_are) e)
by_itself s c a x t n up (LacksMemory f g k u) e = absurd (none_told x n (ap (λ (y : Effects). y.down) u.effects_are) e)
by_itself s c a x t n up (GoesDown f g k u) e = inr (same_number want_of_room n (sym (ap (λ (y : Effects). y.down) u.effects_are) ∙ e), falls_no_shut c g)
by_itself s c a x t n up (Shuts k f g h) e =
    let i = shut_falls s k s.down x t up h in
    inl (f ∙ ap (λ (m : ℕ). command.Shut m) (sym (same_number k n (sym (ap (λ (y : Effects). y.down) i.effects_are) ∙ e))))
by_itself s c a x t n up (IsDone g f k h w) e = absurd (none_told x n (ap (λ (y : Effects). y.down) h.ends.effects_are) e)

-- What is no shut, or took the vat down.
shut_fell : (s : State) (c : Command) (a : Result Granted Refusal) (x : Effects) (t : State) → s.down ≡ None → Obeys s c a x t → t.down ≡ None → is_shut c ≡ false
shut_fell s c a x t up (Refuses r f g u) e = refused_no_shut s c r f
shut_fell s c a x t up (LacksMemory f g k u) e = lacks_no_shut c g
shut_fell s c a x t up (GoesDown f g k u) e = falls_no_shut c g
shut_fell s c a x t up (Shuts k f g h) e = let i = shut_falls s k s.down x t up h in absurd (let j : ◌≡◌ {A = Option ℕ} None (Some k) = sym e ∙ ap (λ (y : State). y.down) i.new_is in cc)
shut_fell s c a x t up (IsDone g f k h w) e = acts_no_shut (begin s) c g h.acted h.acts

-- What the effects say where the vat went down in the step itself.
told_too : (s : State) (c : Command) (a : Result Granted Refusal) (x : Effects) (t : State) (k : ℕ) → s.down ≡ None → Obeys s c a x t → t.down ≡ Some k → x.down ≡ Some k
told_too s c a x t k up (Refuses r f g u) e = absurd (let j : ◌≡◌ {A = Option ℕ} None (Some k) = sym (ap (λ (y : State). y.down) u.new_is ∙ up) ∙ e in cc)
told_too s c a x t k up (LacksMemory f g i u) e = absurd (let j : ◌≡◌ {A = Option ℕ} None (Some k) = sym (ap (λ (y : State). y.down) u.new_is ∙ up) ∙ e in cc)
told_too s c a x t k up (GoesDown f g i u) e = ap (λ (y : Effects). y.down) u.effects_are ∙ sym (ap (λ (y : State). y.down) u.new_is) ∙ e
told_too s c a x t k up (Shuts m f g h) e = let i = shut_falls s m s.down x t up h in ap (λ (y : Effects). y.down) i.effects_are ∙ sym (ap (λ (y : State). y.down) i.new_is) ∙ e
told_too s c a x t k up (IsDone g f i h w) e = absurd (let j : ◌≡◌ {A = Option ℕ} None (Some k) = sym (command_leaves_up s c g x t h ∙ up) ∙ e in cc)

without : (s : State) (c : Command) (a : Result Granted Refusal) (x : Effects) (t : State) (n : ℕ) (o : Option ℕ) → t.down ≡ o → s.down ≡ None → Obeys s c a x t → (overflow_effects x o).down ≡ Some n → Why c n
without s c a x t n None d up k e = inr (same_number want_of_room n e, shut_fell s c a x t up k d)
without s c a x t n (Some m) d up k e = by_itself s c a x t n up k e

pub command_falls : (s : State) (c : Command) (a : Result Granted Refusal) (told : Effects) (room : Bool) (t : State) (n : ℕ) → s.down ≡ None → CommandTold s c a told room t → told.down ≡ Some n → Why c n
command_falls s c a told true t n up k e = by_itself s c k.0 k.1 k.2 n up k.3 (sym (ap (λ (y : Effects). y.down) k.5.0) ∙ e)
command_falls s c a told false t n up k e = without s c k.0 k.1 k.2 n k.2.down refl up k.3 (sym (ap (λ (y : Effects). y.down) k.5.0) ∙ e)

-- A message that takes its vat down: a fault, or want of room.
abbrev pub Because : State → Message → ℕ → Type 0
Because s m n = (fault_of s m ≡ Some n) ⊎ (n ≡ want_of_room)

falling_down : (m : Message) (n : ℕ) → (falling_by m n).down ≡ Some n
falling_down (message.Plain (plain.Abort x)) n = refl
falling_down m n = refl

received_itself : (s : State) (m : Message) (x : Effects) (t : State) (n : ℕ) → s.down ≡ None → Receives s m x t → x.down ≡ Some n → Because s m n
received_itself s m x t n up (WasDown d u) e = absurd (not_down s.down up d)
received_itself s m x t n up (FaultsBy k d f g h) e = inl (f ∙ ap (λ (y : ℕ). Some y) (sym (same_number k n (sym (ap (λ (y : Effects). y.down) g ∙ falling_down m k) ∙ e))))
received_itself s m x t n up (LacksRoom d f u) e = inr (same_number want_of_room n (sym (ap (λ (y : Effects). y.down) u.effects_are) ∙ e))
received_itself s m x t n up (IsHandled d f h w) e = absurd (none_told x n (ap (λ (y : Effects). y.down) h.ends.effects_are) e)

received_without : (s : State) (m : Message) (x : Effects) (t : State) (n : ℕ) (o : Option ℕ) → s.down ≡ None → Receives s m x t → (overflow_effects x o).down ≡ Some n → Because s m n
received_without s m x t n None up k e = inr (same_number want_of_room n e)
received_without s m x t n (Some k) up h e = received_itself s m x t n up h e

pub message_falls : (s : State) (m : Message) (told : Effects) (room : Bool) (t : State) (n : ℕ) → s.down ≡ None → MessageTold s m told room t → told.down ≡ Some n → Because s m n
message_falls s m told true t n up k e = received_itself s m k.0 k.1 n up k.2 (sym (ap (λ (y : Effects). y.down) k.3.0) ∙ e)
message_falls s m told false t n up k e = received_without s m k.0 k.1 n k.1.down up k.2 (sym (ap (λ (y : Effects). y.down) k.3.0) ∙ e)

-- ---- The shut of an event

pub no_shut : (v u : Vat) (c : Command) (a : Result Granted Refusal) (told : Effects) → is_shut c ≡ false → shut_with v (event.Command u c) (Answered a told) ≡ None
no_shut v u (command.Shut n) a told i = absurd (let f : true ≡ false = i in cc)
no_shut v u c a told i = refl

pub own_shut : (u : Vat) (n : ℕ) (a : Result Granted Refusal) (told : Effects) (k : ℕ) → told.down ≡ Some k → shut_with u (event.Command u (command.Shut n)) (Answered a told) ≡ Some n
own_shut u n a told k e = ap (λ (b : Bool). if_so (b && is_some told.down) n) (itself u) ∙ ap (λ (o : Option ℕ). if_so (is_some o) n) e
