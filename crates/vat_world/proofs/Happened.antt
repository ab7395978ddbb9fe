-- An event of a world, from the step of the one vat.
use Rattle.std.proofs.Common.{◌≡◌, ℕ, Bool, true, false, ◌||◌, ◌&&◌, append-nil, Option, None, Some, is_some, Result, List, [], ◌∷◌, ◌++◌, refl, sym, ap, subst, ◌∙◌}
use Rattle.rpc_msg.specs.declared.ids.Vat.{Vat}
use Rattle.rpc_msg.specs.declared.ids.Vat.TheVariants.{A, B}
use Rattle.rpc_msg.specs.declared.message.Message.{Message}
use Rattle.rpc_msg.specs.Vats.{other_vat}
use Rattle.rpc_journal.specs.declared.entry.JournalEntry.{JournalEntry}
use Rattle.rpc_journal.specs.declared.entry.JournalEntry.TheVariants as entry
use Rattle.rpc_journal.specs.History.{same_vat, if_so}
use Rattle.rpc_machine.specs.declared.command.Command.{Command}
use Rattle.rpc_machine.specs.declared.command.Command.TheVariants as command
use Rattle.rpc_machine.specs.declared.command.Granted.{Granted}
use Rattle.rpc_machine.specs.declared.command.Refusal.{Refusal}
use Rattle.rpc_machine.specs.declared.command.Effects.{Effects}
use Rattle.rpc_machine.specs.declared.event.Event.TheVariants as event
use Rattle.rpc_machine.specs.State.{State}
use Rattle.rpc_machine.specs.Progress.{quiet}
use Rattle.rpc_machine.specs.Refusals.{is_shut}
use Rattle.rpc_machine.specs.World.{World, side, core, inbox, put_inbox, after, Answered, Handled, Empty, MessageTold, CommandsAt, ReceivesAt, shut_with}
use Rattle.rpc_machine.specs.Journal.{effect_entries}
use Rattle.rpc_machine.proofs.StaysDown.{command_down}
use Rattle.laws_runs.proofs.QuietRuns.{commanded_tells}
use Rattle.core_telling.specs.Answer.{Answer}
use Rattle.vat_world.specs.declared.answer.StepAnswer.{StepAnswer as Given}
use Rattle.vat_world.specs.declared.answer.StepAnswer.TheVariants as given
use Rattle.vat_world.specs.Stages.{Stage, stepped, taken, takes_down, ObeysUp, ObeysDown, ObeysBy, HandlesUp, DeliversBy}
use Rattle.vat_world.specs.World.{Seen, shut, Steps}

-- A world as its vat v sees it.
abbrev pub stage_at : Seen → Vat → Stage
stage_at w v = record { acting = side w.world v; peer = side w.world (other_vat v); journal = w.journal }

-- ---- The world again

same_world : (v : Vat) (w new : Seen) → stage_at new v ≡ stage_at w v → new.world ≡ w.world
same_world A w new e = ap (λ (g : Stage). record { a = g.acting; b = g.peer }) e
same_world B w new e = ap (λ (g : Stage). record { a = g.peer; b = g.acting }) e

stepped_world : (v : Vat) (w new : Seen) (s : State) (told : Effects) (own : List JournalEntry) → stage_at new v ≡ stepped v (stage_at w v) s told own → new.world ≡ after w.world v told s
stepped_world A w new s told own e = ap (λ (g : Stage). record { a = g.acting; b = g.peer }) e
stepped_world B w new s told own e = ap (λ (g : Stage). record { a = g.peer; b = g.acting }) e

taken_world : (v : Vat) (w new : Seen) (ms : List Message) (s : State) (told : Effects) (own : List JournalEntry) → stage_at new v ≡ stepped v (taken (stage_at w v) ms) s told own → new.world ≡ after (put_inbox w.world v ms) v told s
taken_world A w new ms s told own e = ap (λ (g : Stage). record { a = g.acting; b = g.peer }) e
taken_world B w new ms s told own e = ap (λ (g : Stage). record { a = g.peer; b = g.acting }) e

taken_core : (v : Vat) (w : World) (ms : List Message) → core w v ≡ core (put_inbox w v ms) v
taken_core A w ms = refl
taken_core B w ms = refl

-- ---- Shuts

or_false : (b : Bool) → b ≡ (b || false)
or_false true = refl
or_false false = refl

and_false : (b : Bool) → (b && false) ≡ false
and_false true = refl
and_false false = refl

some_if : (b : Bool) (n : ℕ) → is_some (if_so b n) ≡ b
some_if true n = refl
some_if false n = refl

shut_told : (u v : Vat) (c : Command) (a : Result Granted Refusal) (told : Effects) → is_some (shut_with u (event.Command v c) (Answered a told)) ≡ (same_vat u v && (is_shut c && is_some told.down))
shut_told u v (command.Shut n) a told = some_if (same_vat u v && is_some told.down) n
shut_told u v c a told = sym (and_false (same_vat u v))

-- Where the vat v was shut as its step says, and the other stayed as it was.
each_shut : (u v : Vat) (w new : Seen) (d : Bool) → shut new v ≡ (shut w v || d) → shut new (other_vat v) ≡ shut w (other_vat v) → shut new u ≡ (shut w u || (same_vat u v && d))
each_shut A A w new d e f = e
each_shut A B w new d e f = f ∙ or_false (shut w A)
each_shut B A w new d e f = f ∙ or_false (shut w B)
each_shut B B w new d e f = e

still_shut : (u v : Vat) (w new : Seen) → shut new v ≡ shut w v → shut new (other_vat v) ≡ shut w (other_vat v) → shut new u ≡ (shut w u || false)
still_shut A A w new e f = e ∙ or_false (shut w A)
still_shut A B w new e f = f ∙ or_false (shut w A)
still_shut B A w new e f = f ∙ or_false (shut w B)
still_shut B B w new e f = e ∙ or_false (shut w B)

-- ---- Commands

-- What a command's event is, and of shuts what it says.
abbrev ShutBy : Vat → Seen → Command → Seen → Type 0
ShutBy v w c new = (shut new v ≡ (shut w v || takes_down (core w.world v).down c (core new.world v).down)) × (shut new (other_vat v) ≡ shut w (other_vat v))

shut_up : (u v : Vat) (w new : Seen) (c : Command) (a : Result Granted Refusal) (told : Effects) (o : Option ℕ) → o ≡ None → is_some told.down ≡ is_some (core new.world v).down → shut new v ≡ (shut w v || takes_down o c (core new.world v).down) → shut new (other_vat v) ≡ shut w (other_vat v) → shut new u ≡ (shut w u || is_some (shut_with u (event.Command v c) (Answered a told)))
shut_up u v w new c a told o up e mine other =
    each_shut u v w new (is_shut c && is_some told.down)
    (mine ∙ ap (λ (p : Option ℕ). shut w v || takes_down p c (core new.world v).down) up ∙ ap (λ (b : Bool). shut w v || (is_shut c && b)) (sym e))
    other
    ∙ ap (λ (b : Bool). shut w u || b) (sym (shut_told u v c a told))

shut_down : (u v : Vat) (w new : Seen) (c : Command) (a : Result Granted Refusal) (told : Effects) (o : Option ℕ) (n : ℕ) → o ≡ Some n → told ≡ quiet → shut new v ≡ (shut w v || takes_down o c (core new.world v).down) → shut new (other_vat v) ≡ shut w (other_vat v) → shut new u ≡ (shut w u || is_some (shut_with u (event.Command v c) (Answered a told)))
shut_down u v w new c a told o n down e mine other =
    each_shut u v w new (is_shut c && is_some told.down)
    (mine ∙ ap (λ (p : Option ℕ). shut w v || takes_down p c (core new.world v).down) down
    ∙ ap (λ (b : Bool). shut w v || b) (sym (ap (λ (x : Effects). is_shut c && is_some x.down) e ∙ and_false (is_shut c))))
    other
    ∙ ap (λ (b : Bool). shut w u || b) (sym (shut_told u v c a told))

up_steps : (v : Vat) (w new : Seen) (c : Command) (answer : Answer) → (core w.world v).down ≡ None → ObeysUp v (stage_at w v) c answer (stage_at new v) → ShutBy v w c new → Steps w (event.Command v c) (given.Answered answer) new
up_steps v w new c answer up h k =
    let told = commanded_tells (core w.world v) c h.answer h.told h.room h.s up h.told_so in
    let comes : (core new.world v) ≡ h.s = ap (λ (g : Stage). g.acting.core) h.new_is in record {
      answer = Answered h.answer h.told;
      had_room = h.room;
      happens = subst (λ (o : Option ℕ). CommandsAt w.world v c o (Answered h.answer h.told) h.room new.world) (sym up) (h.s, h.told_so, stepped_world v w new h.s h.told _ h.new_is);
      journal_is = ap (λ (g : Stage). g.journal) h.new_is;
      shut_is = λ u. shut_up u v w new c h.answer h.told (core w.world v).down up (told ∙ ap (λ (s : State). is_some s.down) (sym comes)) k.0 k.1;
      result_is = ap given.Answered h.given_is;
    }

down_steps : (v : Vat) (w new : Seen) (c : Command) (answer : Answer) (n : ℕ) → (core w.world v).down ≡ Some n → ObeysDown (stage_at w v) c answer (stage_at new v) → ShutBy v w c new → Steps w (event.Command v c) (given.Answered answer) new
down_steps v w new c answer n down h k =
    let still = command_down (core w.world v) c h.answer h.told (core w.world v) (ap is_some down) h.obeys in record {
      answer = Answered h.answer h.told;
      had_room = false;
      happens = subst (λ (o : Option ℕ). CommandsAt w.world v c o (Answered h.answer h.told) false new.world) (sym down) (h.obeys, same_world v w new h.new_is);
      journal_is = ap (λ (g : Stage). g.journal) h.new_is ∙ sym (append-nil w.journal) ∙ ap (λ (x : Effects). w.journal ++ effect_entries v x) (sym still.effects_are);
      shut_is = λ u. shut_down u v w new c h.answer h.told (core w.world v).down n down still.effects_are k.0 k.1;
      result_is = ap given.Answered h.given_is;
    }

pub command_steps : (v : Vat) (w new : Seen) (c : Command) (answer : Answer) → ObeysBy (core w.world v).down v (stage_at w v) c answer (stage_at new v) → ShutBy v w c new → Steps w (event.Command v c) (given.Answered answer) new
command_steps v w new c answer h k = by (core w.world v).down refl h
  where
    by : (o : Option ℕ) → (core w.world v).down ≡ o → ObeysBy o v (stage_at w v) c answer (stage_at new v) → Steps w (event.Command v c) (given.Answered answer) new
    by None e h = up_steps v w new c answer e h k
    by (Some n) e h = down_steps v w new c answer n e h k

-- ---- Messages

abbrev ShutStill : Vat → Seen → Seen → Type 0
ShutStill v w new = (shut new v ≡ shut w v) × (shut new (other_vat v) ≡ shut w (other_vat v))

nothing : (v : Vat) (w new : Seen) (answer : Given) → ReceivesAt w.world v (inbox w.world v) (core w.world v).down Empty true new.world → answer ≡ given.Empty → stage_at new v ≡ stage_at w v → ShutStill v w new → Steps w (event.Deliver v) answer new
nothing v w new answer h e f k = record {
  answer = Empty;
  had_room = true;
  happens = h;
  journal_is = ap (λ (g : Stage). g.journal) f ∙ sym (append-nil w.journal);
  shut_is = λ u. still_shut u v w new k.0 k.1;
  result_is = e;
}

handles : (v : Vat) (w new : Seen) (m : Message) (ms : List Message) (effects : Effects) (answer : Given) → (core w.world v).down ≡ None → inbox w.world v ≡ m ∷ ms → answer ≡ given.Handled effects → HandlesUp v (taken (stage_at w v) ms) m effects (stage_at new v) → ShutStill v w new → Steps w (event.Deliver v) answer new
handles v w new m ms effects answer up i e h k = record {
  answer = Handled h.told;
  had_room = h.room;
  happens = subst (λ (l : List Message). ReceivesAt w.world v l (core w.world v).down (Handled h.told) h.room new.world) (sym i)
      (subst (λ (o : Option ℕ). ReceivesAt w.world v (m ∷ ms) o (Handled h.told) h.room new.world) (sym up)
      (h.s, subst (λ (s : State). MessageTold s m h.told h.room h.s) (taken_core v w.world ms) h.told_so, taken_world v w new ms h.s h.told (entry.Got v ∷ []) h.new_is));
  journal_is = ap (λ (g : Stage). g.journal) h.new_is;
  shut_is = λ u. still_shut u v w new k.0 k.1;
  result_is = e ∙ ap given.Handled h.given_is;
}

pub deliver_steps : (v : Vat) (w new : Seen) (answer : Given) → DeliversBy (inbox w.world v) (core w.world v).down v (stage_at w v) answer (stage_at new v) → ShutStill v w new → Steps w (event.Deliver v) answer new
deliver_steps v w new answer h k = by (inbox w.world v) (core w.world v).down refl refl h
  where
    at : (l : List Message) (o : Option ℕ) → inbox w.world v ≡ l → (core w.world v).down ≡ o → ReceivesAt w.world v l o Empty true new.world → ReceivesAt w.world v (inbox w.world v) (core w.world v).down Empty true new.world
    at l o i d x = subst (λ (l : List Message). ReceivesAt w.world v l (core w.world v).down Empty true new.world) (sym i) (subst (λ (o : Option ℕ). ReceivesAt w.world v l o Empty true new.world) (sym d) x)

    by : (l : List Message) (o : Option ℕ) → inbox w.world v ≡ l → (core w.world v).down ≡ o → DeliversBy l o v (stage_at w v) answer (stage_at new v) → Steps w (event.Deliver v) answer new
    by [] o i d h = nothing v w new answer (at [] o i d (refl, same_world v w new h.1)) h.0 h.1 k
    by (m ∷ ms) (Some n) i d h = nothing v w new answer (at (m ∷ ms) (Some n) i d (refl, same_world v w new h.1)) h.0 h.1 k
    by (m ∷ ms) None i d h = handles v w new m ms h.0 answer d i h.1 h.2 k
