-- What is answered to a command, from what was told of its step.
use Rattle.std.proofs.Common.{◌≡◌, ℕ, true, false, Option, None, Some, Result, Ok, Err, List, refl, sym, ap, subst, ◌∙◌}
use Rattle.std.specs.declared.snapshot.Snapshot.{Snapshot}
use Rattle.rpc_msg.specs.Op.{Op}
use Rattle.rpc_msg.specs.declared.ids.CallId.{CallId}
use Rattle.rpc_msg.specs.declared.ids.ObjectId.{ObjectId}
use Rattle.rpc_msg.specs.declared.ids.RefId.{RefId}
use Rattle.rpc_machine.specs.declared.command.Command.{Command}
use Rattle.rpc_machine.specs.declared.command.Command.TheVariants as command
use Rattle.rpc_machine.specs.declared.command.Granted.{Granted}
use Rattle.rpc_machine.specs.declared.command.Refusal.{Refusal}
use Rattle.rpc_machine.specs.declared.command.Refusal.TheVariants as refusal
use Rattle.rpc_machine.specs.declared.command.Effects.{Effects}
use Rattle.rpc_machine.specs.State.{State}
use Rattle.rpc_machine.specs.Down.{Falls, ShutsFrom}
use Rattle.rpc_machine.specs.Progress.{quiet}
use Rattle.rpc_machine.specs.Refusals.{is_shut}
use Rattle.core_telling.specs.Answer.{Answer}
use Rattle.core_telling.specs.Answer.TheVariants.{Done, Refused}
use Rattle.core_telling.specs.Answers.{HandsBack, effects_in}
use Rattle.core_telling.specs.Told.{given_of, without_sends}
use Rattle.link_logs.specs.declared.note.Told.{Told}
use Rattle.link_logs.specs.declared.note.Told.TheVariants as told
use Rattle.link_sides.specs.Sides.{AnswersBy, IsQuiet, IsShutBy, IsToldBy}

pub done_so : (c : Command) (g : Granted) (x y : Effects) (asked : Snapshot Command) (said : Snapshot (Result Granted Refusal)) (e : Snapshot Effects)
    → said.value ≡ Ok g → e.value ≡ x → IsQuiet c x → y ≡ without_sends x → AnswersBy c (told.Obeyed asked said e true) (Done g y)
done_so c g x y asked said e s f says h = (
  refl,
  subst (λ (z : Effects). IsQuiet c z) (sym f) says,
  ap (λ (z : Effects). Done g z) (h ∙ ap without_sends (sym f)) ∙ ap (λ (r : Result Granted Refusal). given_of c r e.value) (sym s),
)

pub refused_so : (c back : Command) (r : Refusal) (a : Answer) (t : Told) → a ≡ Refused r back → IsQuiet c (effects_in a) → HandsBack c a → IsToldBy c (Err r) quiet t → AnswersBy c t (Refused r back)
refused_so c back r a (told.Obeyed d b e room) is says handed h =
    let same : back ≡ c = subst (λ (x : Answer). HandsBack c x) is handed in (
      h.3,
      subst (λ (z : Effects). IsQuiet c z) (sym h.2) (subst (λ (x : Answer). IsQuiet c (effects_in x)) is says),
      ap (λ (k : Command). Refused r k) same ∙ ap (λ (k : Result Granted Refusal). given_of c k e.value) (sym h.1),
    )
refused_so c back r a (told.Shut e) is says handed h = absurd h
refused_so c back r a (told.Received m e room) is says handed h = absurd h

pub refused_when_shut : (c back : Command) (t : Told) → IsShutBy 33 t → back ≡ c → is_shut c ≡ false → AnswersBy c t (Refused refusal.Down back)
refused_when_shut c back (told.Obeyed d a e room) h same other = absurd h
refused_when_shut c back (told.Shut e) h same other = (other, ap (λ (d : Command). Refused refusal.Down d) same, h)
refused_when_shut c back (told.Received m e room) h same other = absurd h

-- A vat that is up says by which number it was shut.
pub shut_by : (s new : State) (number : ℕ) (o : Option ℕ) (x y : Effects) → y ≡ x → o ≡ None → ShutsFrom s number o x new → y.down ≡ Some number
shut_by s new number o x y e up h =
    let fallen : Falls s number x new = subst (λ (p : Option ℕ). ShutsFrom s number p x new) up h in
    ap (λ (z : Effects). z.down) e ∙ ap (λ (z : Effects). z.down) fallen.effects_are

-- What the core answered says nothing, of a command that only makes something.
pub says_at : (c d : Command) (a : Answer) (g : Granted) (x : Effects) → a ≡ Done g x → d ≡ c → IsQuiet c (effects_in a) → IsQuiet d x
says_at c d a g x e f h = subst (λ (k : Command). IsQuiet k x) (sym f) (subst (λ (b : Answer). IsQuiet c (effects_in b)) e h)

-- Of the other commands nothing is said.
pub loud : (c : Command) (x : Effects) → ((o : ObjectId) → c ≡ command.Host o → ⊥) → ((r : RefId) → c ≡ command.CloneRef r → ⊥) → ((i : CallId) (path : List Op) → c ≡ command.Field i path → ⊥) → (c ≡ command.Promise → ⊥) → IsQuiet c x
loud (command.Host o) x h k f p = absurd (h o refl)
loud (command.CloneRef r) x h k f p = absurd (k r refl)
loud (command.Field i path) x h k f p = absurd (f i path refl)
loud command.Promise x h k f p = absurd (p refl)
loud (command.DropRef r) x h k f p = tt
loud command.Bootstrap x h k f p = tt
loud (command.Call c) x h k f p = tt
loud (command.Resolve q r) x h k f p = tt
loud (command.Reject q e) x h k f p = tt
loud (command.Answer t payload refs) x h k f p = tt
loud (command.Fail t e) x h k f p = tt
loud (command.Finish c) x h k f p = tt
loud (command.Advance r) x h k f p = tt
loud (command.Shut n) x h k f p = tt
