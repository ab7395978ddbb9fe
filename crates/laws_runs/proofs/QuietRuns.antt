-- In every run of two vats, a vat delivers nothing once it is down.
use Rattle.std.proofs.Common.{◌≡◌, ℕ, Bool, true, false, cond, not, ◌&&◌, ◌||◌, List, [], ◌∷◌, ◌++◌, Option, None, Some, is_some, Result, refl, sym, ap, subst, ◌∙◌}
use Rattle.rpc_msg.specs.declared.ids.Vat.{Vat}
use Rattle.rpc_msg.specs.declared.ids.Vat.TheVariants.{A, B}
use Rattle.rpc_msg.specs.declared.ids.ObjectId.{ObjectId}
use Rattle.rpc_msg.specs.declared.message.Message.{Message}
use Rattle.rpc_msg.specs.declared.message.Message.TheVariants as message
use Rattle.rpc_msg.specs.declared.message.PlainMessage.TheVariants as plain
use Rattle.rpc_journal.specs.declared.entry.JournalEntry.{JournalEntry}
use Rattle.rpc_journal.specs.declared.entry.JournalEntry.TheVariants as entry
use Rattle.rpc_journal.specs.History.{same_vat, if_so}
use Rattle.rpc_machine.specs.declared.command.Command.{Command}
use Rattle.rpc_machine.specs.declared.command.Command.TheVariants as command
use Rattle.rpc_machine.specs.declared.command.Granted.{Granted}
use Rattle.rpc_machine.specs.declared.command.Granted.TheVariants as granted
use Rattle.rpc_machine.specs.declared.command.Refusal.{Refusal}
use Rattle.rpc_machine.specs.declared.command.Refusal.TheVariants as refusal
use Rattle.rpc_machine.specs.declared.command.Effects.{Effects}
use Rattle.rpc_machine.specs.declared.event.Event.{Event}
use Rattle.rpc_machine.specs.declared.event.Event.TheVariants as event
use Rattle.rpc_machine.specs.Numbers.{want_of_room}
use Rattle.rpc_machine.specs.State.{State}
use Rattle.rpc_machine.specs.Down.{falling_by, IsUnchanged, Falls, ShutsFrom}
use Rattle.rpc_machine.specs.Steps.{MayLackMemory, Obeys, Refuses, LacksMemory, GoesDown, Shuts, IsDone, Receives, WasDown, FaultsBy, LacksRoom, IsHandled}
use Rattle.rpc_machine.specs.Lists.{earliest}
use Rattle.rpc_machine.specs.Refusals.{refusals, is_shut, without_room, refused}
use Rattle.rpc_machine.specs.World.{World, StepAnswer, Answered, Handled, Empty, Happening, core, inbox, put_inbox, after, overflow_effects, overflown, Tells, CommandTold, MessageTold, CommandsUp, CommandsDown, CommandsAt, ReceivesUp, ReceivesAt, HappensBy, Run, new_world}
use Rattle.rpc_machine.specs.Journal.{effect_entries, refused_entries, granted_entries, own_entries, command_entries, deliver_entries, event_entries, journal_from, journal}
use Rattle.rpc_machine.specs.Progress.{begin}
use Rattle.rpc_machine.specs.Claims.{IsQuietWhenDown, EveryRun}
use Rattle.laws_steps.proofs.UsedOnce.{command_leaves_up, message_leaves_up}
use Rattle.rpc_machine.proofs.StaysDown.{command_down, acts_no_shut, falls_no_shut, not_open}
use Rattle.laws_runs.proofs.Reading.{same_is}
use Rattle.laws_runs.proofs.QuietEntries as quiet
use Rattle.laws_runs.proofs.QuietEntries.{Quiet, Steady, quiet-append, after-append, effects_quiet, effects_after, own_steady, if_room_steady, quiet_when_down}

-- Whether a vat is down.
abbrev pub is_down : State → Bool
is_down s = is_some s.down

-- The effects say that the vat went down exactly where it did.
abbrev pub TellsDown : Effects → State → Type 0
TellsDown x t = is_some x.down ≡ is_down t

unchanged : (s : State) (x : Effects) (t : State) → s.down ≡ None → IsUnchanged s x t → TellsDown x t
unchanged s x t e h = rw (h.effects_are, h.new_is, e) refl

falls : (s : State) (n : ℕ) (x : Effects) (t : State) → Falls s n x t → TellsDown x t
falls s n x t h = rw (h.effects_are, h.new_is) refl

shuts : (s : State) (n : ℕ) (o : Option ℕ) (x : Effects) (t : State) → s.down ≡ None → ShutsFrom s n o x t → TellsDown x t
shuts s n None x t e h = falls s n x t h
shuts s n (Some m) x t e h = unchanged s x t e h

pub obeys_tells : (s : State) (c : Command) (a : Result Granted Refusal) (x : Effects) (t : State) → s.down ≡ None → Obeys s c a x t → TellsDown x t
obeys_tells s c a x t e (Refuses r f g u) = unchanged s x t e u
obeys_tells s c a x t e (LacksMemory f g k u) = unchanged s x t e u
obeys_tells s c a x t e (GoesDown f g k u) = falls s want_of_room x t u
obeys_tells s c a x t e (Shuts n f g h) = shuts s n s.down x t e h
obeys_tells s c a x t e (IsDone g f k h w) = ap (λ (y : Effects). is_some y.down) h.ends.effects_are ∙ sym (ap is_some (command_leaves_up s c g x t h ∙ e))

falling_told : (m : Message) (n : ℕ) → is_some (falling_by m n).down ≡ true
falling_told (message.Plain (plain.Abort x)) n = refl
falling_told m n = refl

pub receives_tells : (s : State) (m : Message) (x : Effects) (t : State) → s.down ≡ None → Receives s m x t → TellsDown x t
receives_tells s m x t e (WasDown d u) = unchanged s x t e u
receives_tells s m x t e (FaultsBy n d f g h) = ap (λ (y : Effects). is_some y.down) g ∙ falling_told m n ∙ sym (ap is_down h)
receives_tells s m x t e (LacksRoom d f u) = falls s want_of_room x t u
receives_tells s m x t e (IsHandled d f h w) = ap (λ (y : Effects). is_some y.down) h.ends.effects_are ∙ sym (ap is_some (message_leaves_up s m x t f h ∙ e))

-- ---- A step in a world

-- The acting vat's core, and the other's.
pub acted : (w : World) (u : Vat) (x : Effects) (s : State) → core (after w u x s) u ≡ s
acted w A x s = refl
acted w B x s = refl

apart : (w : World) (u v : Vat) (x : Effects) (s : State) → same_vat v u ≡ false → core (after w u x s) v ≡ core w v
apart w A A x s e = cc
apart w A B x s e = refl
apart w B A x s e = refl
apart w B B x s e = cc

over : (x : Effects) (s : State) (o : Option ℕ) → s.down ≡ o → TellsDown x s → TellsDown (overflow_effects x o) (overflown s o)
over x s None e h = refl
over x s (Some n) e h = h

told_down : (x : Effects) (s : State) (room : Bool) (told : Effects) (t : State) → TellsDown x s → Tells x s room told t → TellsDown told t
told_down x s true told t h k = rw (k.0, k.1) h
told_down x s false told t h k = rw (k.0, k.1) (over x s s.down refl h)

pub commanded_tells : (s : State) (c : Command) (a : Result Granted Refusal) (told : Effects) (room : Bool) (t : State) → s.down ≡ None → CommandTold s c a told room t → TellsDown told t
commanded_tells s c a told room t e k = told_down k.1 k.2 room told t (obeys_tells s c k.0 k.1 k.2 e k.3) k.5

pub message_tells : (s : State) (m : Message) (told : Effects) (room : Bool) (t : State) → s.down ≡ None → MessageTold s m told room t → TellsDown told t
message_tells s m told room t e k = told_down k.0 k.1 room told t (receives_tells s m k.0 k.1 e k.2) k.3

-- What is told of the acting vat is so, and the other is as it was.
pub record Landed (w : World) (u : Vat) (told : Effects) (new : World) : Type 0 where
  pub told_so : is_some told.down ≡ is_down (core new u)
  pub others : (v : Vat) → same_vat v u ≡ false → core new v ≡ core w v

pub lands : (w : World) (u : Vat) (told : Effects) (s : State) (new : World) → TellsDown told s → new ≡ after w u told s → Landed w u told new
lands w u told s new h e = record {
  told_so = h ∙ sym (ap (λ (y : World). is_down (core y u)) e ∙ ap is_down (acted w u told s));
  others = λ v f. ap (λ (y : World). core y v) e ∙ apart w u v told s f;
}

-- ---- An event

and_true : (b : Bool) → (false || (b && true)) ≡ b
and_true true = refl
and_true false = refl

or_false : (b c : Bool) → (b || (c && false)) ≡ b
or_false true true = refl
or_false true false = refl
or_false false true = refl
or_false false false = refl

-- What an event writes is quiet, and says of each vat that it went down exactly where it did.
abbrev pub IsFine : World → World → List JournalEntry → Type 0
IsFine w new es = (v : Vat) → Quiet v (is_down (core w v)) es × (quiet.after v (is_down (core w v)) es ≡ is_down (core new v))

nothing : (w new : World) → new ≡ w → IsFine w new []
nothing w new e v = (tt, ap (λ (y : World). is_down (core y v)) (sym e))

up_or_other : (b : Bool) (v u : Vat) → (same_vat v u ≡ true → b ≡ false) → (b && same_vat v u) ≡ false
up_or_other true A A h = h refl
up_or_other true A B h = refl
up_or_other true B A h = refl
up_or_other true B B h = h refl
up_or_other false A A h = refl
up_or_other false A B h = refl
up_or_other false B A h = refl
up_or_other false B B h = refl

-- Of a vat that was up: its own entries, which say nothing of a fall, and those of the effects.
writes : (w : World) (u : Vat) (own : List JournalEntry) (told : Effects) (new : World) → is_down (core w u) ≡ false → ((v : Vat) → Steady v (is_down (core w v)) own) → Landed w u told new → IsFine w new (own ++ effect_entries u told)
writes w u own told new up steady l v =
    let b = is_down (core w v) in
    let still : same_vat v u ≡ true → b ≡ false = λ e. ap (λ y. is_down (core w y)) (same_is v u e) ∙ up in
    let one : Quiet v b (effect_entries u told) = effects_quiet v u b told (up_or_other b v u still) in
    let two = effects_after v u b told in (
      quiet-append v b own (effect_entries u told) (steady v).0 (subst (λ c. Quiet v c (effect_entries u told)) (sym (steady v).1) one),
      after-append v b own (effect_entries u told) ∙ ap (λ c. quiet.after v c (effect_entries u told)) (steady v).1 ∙ two ∙ ends (same_vat v u) refl,
    )
  where
    ends : (c : Bool) → same_vat v u ≡ c → (is_down (core w v) || (is_some told.down && c)) ≡ is_down (core new v)
    ends true e =
        let f : v ≡ u = same_is v u e in
        subst (λ (y : Vat). (is_down (core w y) || (is_some told.down && true)) ≡ is_down (core new y)) (sym f)
        (ap (λ c. c || (is_some told.down && true)) up ∙ and_true (is_some told.down) ∙ l.told_so)
    ends false e = or_false (is_down (core w v)) (is_some told.down) ∙ ap is_down (sym (l.others v e))

-- ---- Commands

command_up : (w : World) (u : Vat) (c : Command) (h : List JournalEntry) (answer : StepAnswer) (room : Bool) (new : World) → (core w u).down ≡ None → CommandsUp w u c answer room new → IsFine w new (command_entries h u c room answer)
command_up w u c h (Answered a told) room new up k =
    writes w u (cond room (own_entries h u c a) []) told new (ap is_some up)
    (λ v. if_room_steady v u (is_down (core w v)) room (own_entries h u c a) (own_steady v u (is_down (core w v)) h c a))
    (lands w u told k.0 new (commanded_tells (core w u) c a told room k.0 up k.1) k.2)
command_up w u c h (Handled told) room new up k = absurd k
command_up w u c h Empty room new up k = absurd k

-- At a vat that is down a command is refused with Down, or is a shut, and writes nothing.
refused_down : (s : State) (c : Command) (r : Refusal) → is_down s ≡ true → refused s c ≡ Some r → is_shut c ≡ false → r ≡ refusal.Down
refused_down s c r e f g = by (is_down s) (is_shut c) e g f
  where
    by : (b d : Bool) → b ≡ true → d ≡ false → earliest (if_so (b && not d) refusal.Down ∷ refusals s c ++ without_room s c ∷ []) ≡ Some r → r ≡ refusal.Down
    by true false p q f = cc
    by true true p q f = cc
    by false d p q f = cc

pub shut_not_refused : (s : State) (n r : _) → refused s (command.Shut n) ≡ Some r → ⊥
shut_not_refused s n r f = by (is_down s) f
  where
    by : (b : Bool) → earliest (if_so (b && not true) refusal.Down ∷ without_room s (command.Shut n) ∷ []) ≡ Some r → ⊥
    by true f = cc
    by false f = cc

no_own : (h : List JournalEntry) (u : Vat) (s : State) (c : Command) (r : Refusal) → is_down s ≡ true → refused s c ≡ Some r → refused_entries u r ≡ []
no_own h u s c r e f = by (is_shut c) refl
  where
    shut : (c : Command) → is_shut c ≡ true → refused s c ≡ Some r → ⊥
    shut (command.Shut n) e f = shut_not_refused s n r f
    shut c e f = cc

    by : (b : Bool) → is_shut c ≡ b → refused_entries u r ≡ []
    by true g = absurd (shut c g f)
    by false g = ap (refused_entries u) (refused_down s c r e f g)

pub lacks_no_shut : (c : Command) → MayLackMemory c → is_shut c ≡ false
lacks_no_shut (command.Shut n) h = absurd h
lacks_no_shut c h = refl

writes_none : (h : List JournalEntry) (u : Vat) (s : State) (c : Command) (a : Result Granted Refusal) (x : Effects) (t : State) → is_down s ≡ true → Obeys s c a x t → own_entries h u c a ≡ []
writes_none h u s c a x t e (Refuses r f g k) = ap (own_entries h u c) g ∙ no_own h u s c r e f
writes_none h u s c a x t e (LacksMemory f g k l) = absurd (not_open (is_down s) (is_shut c) (refusals s c ++ without_room s c ∷ []) e (lacks_no_shut c g) f)
writes_none h u s c a x t e (GoesDown f g k l) = absurd (not_open (is_down s) (is_shut c) (refusals s c ++ without_room s c ∷ []) e (falls_no_shut c g) f)
writes_none h u s c a x t e (Shuts n f g k) = ap (λ b. own_entries h u c b) g ∙ ap (λ d. granted_entries h u d granted.Done) f
writes_none h u s c a x t e (IsDone given f g k l) = absurd (not_open (is_down s) (is_shut c) (refusals s c ++ without_room s c ∷ []) e (acts_no_shut (begin s) c given k.acted k.acts) f)

no_entries : (room : Bool) (own es : List JournalEntry) → own ≡ [] → es ≡ [] → cond room own [] ++ es ≡ []
no_entries true own es e f = rw (e, f) refl
no_entries false own es e f = rw f refl

-- At a vat that is down nothing is written.
pub writes_nothing : (h : List JournalEntry) (u : Vat) (s : State) (c : Command) (a : Result Granted Refusal) (told : Effects) (room : Bool) → is_down s ≡ true → Obeys s c a told s → command_entries h u c room (Answered a told) ≡ []
writes_nothing h u s c a told room e k =
    let f = command_down s c a told s e k in
    let g : effect_entries u told ≡ [] = ap (effect_entries u) f.effects_are in
    no_entries room (own_entries h u c a) (effect_entries u told) (writes_none h u s c a told s e k) g

command_down_fine : (w : World) (u : Vat) (c : Command) (h : List JournalEntry) (answer : StepAnswer) (room : Bool) (new : World) → is_down (core w u) ≡ true → CommandsDown w u c answer new → IsFine w new (command_entries h u c room answer)
command_down_fine w u c h (Answered a told) room new e k =
    subst (λ es. IsFine w new es) (sym (writes_nothing h u (core w u) c a told room e k.0)) (nothing w new k.1)
command_down_fine w u c h (Handled told) room new e k = absurd k
command_down_fine w u c h Empty room new e k = absurd k

command_fine : (w : World) (u : Vat) (c : Command) (h : List JournalEntry) (answer : StepAnswer) (room : Bool) (new : World) (o : Option ℕ) → (core w u).down ≡ o → CommandsAt w u c o answer room new → IsFine w new (command_entries h u c room answer)
command_fine w u c h answer room new None e k = command_up w u c h answer room new e k
command_fine w u c h answer room new (Some n) e k = command_down_fine w u c h answer room new (ap is_some e) k

-- ---- Received messages

pub taken : (w : World) (u : Vat) (ms : List Message) (v : Vat) → core (put_inbox w u ms) v ≡ core w v
taken w A ms A = refl
taken w A ms B = refl
taken w B ms A = refl
taken w B ms B = refl

received_up : (w : World) (u : Vat) (m : Message) (answer : StepAnswer) (room : Bool) (new : World) → (core w u).down ≡ None → ReceivesUp w u m answer room new → IsFine w new (deliver_entries u answer)
received_up w u m (Answered a told) room new up k = absurd k
received_up w u m (Handled told) room new up k =
    writes w u (entry.Got u ∷ []) told new (ap is_some up) (λ v. ((tt, tt), refl)) (lands w u told k.0 new (message_tells (core w u) m told room k.0 up k.1) k.2)
received_up w u m Empty room new up k = absurd k

of_empty : (w new : World) (u : Vat) (answer : StepAnswer) → answer ≡ Empty → new ≡ w → IsFine w new (deliver_entries u answer)
of_empty w new u answer e f = subst (λ (a : StepAnswer). IsFine w new (deliver_entries u a)) (sym e) (nothing w new f)

received_fine : (w : World) (u : Vat) (ms : List Message) (answer : StepAnswer) (room : Bool) (new : World) (o : Option ℕ) → (core w u).down ≡ o → ReceivesAt w u ms o answer room new → IsFine w new (deliver_entries u answer)
received_fine w u [] answer room new o e k = of_empty w new u answer k.0 k.1
received_fine w u (m ∷ ms) answer room new (Some n) e k = of_empty w new u answer k.0 k.1
received_fine w u (m ∷ ms) answer room new None e k =
    let w2 = put_inbox w u ms in
    let up : (core w2 u).down ≡ None = ap (λ (s : State). s.down) (taken w u ms u) ∙ e in
    let f = received_up w2 u m answer room new up k in
    λ v. subst (λ (s : State). Quiet v (is_down s) (deliver_entries u answer) × (quiet.after v (is_down s) (deliver_entries u answer) ≡ is_down (core new v))) (taken w u ms v) (f v)

-- ---- Runs

pub event_fine : (w : World) (e : Event) (h : List JournalEntry) (answer : StepAnswer) (room : Bool) (new : World) → HappensBy w e answer room new → IsFine w new (event_entries h e room answer)
event_fine w (event.Command u c) h answer room new k = command_fine w u c h answer room new (core w u).down refl k
event_fine w (event.Deliver u) h answer room new k = received_fine w u (inbox w u) answer room new (core w u).down refl k

-- The journal so far is quiet, and says of the vat that it is down exactly where it is.
abbrev pub IsQuietSoFar : World → List JournalEntry → Type 0
IsQuietSoFar w h = (v : Vat) → Quiet v false h × (quiet.after v false h ≡ is_down (core w v))

goes_on : (w new : World) (h es : List JournalEntry) → IsQuietSoFar w h → IsFine w new es → IsQuietSoFar new (h ++ es)
goes_on w new h es q f v = (
  quiet-append v false h es (q v).0 (subst (λ b. Quiet v b es) (sym (q v).1) (f v).0),
  after-append v false h es ∙ ap (λ b. quiet.after v b es) (q v).1 ∙ (f v).1,
)

runs_quiet : (w : World) (xs : List Happening) (new : World) (h : List JournalEntry) → IsQuietSoFar w h → Run w xs new → IsQuietSoFar new (journal_from h xs)
runs_quiet w [] new h q k = subst (λ (y : World). IsQuietSoFar y h) (sym k) q
runs_quiet w (x ∷ xs) new h q k =
    let es = event_entries h x.event x.had_room x.answer in
    runs_quiet k.0 xs new (h ++ es) (goes_on w k.0 h es q (event_fine w x.event h x.answer x.had_room k.0 k.1)) k.2

starts_quiet : (a b : Option ObjectId) → IsQuietSoFar (new_world a b) []
starts_quiet a b A = (tt, refl)
starts_quiet a b B = (tt, refl)

-- A vat delivers nothing once it is down.
pub every_run_is_quiet : EveryRun (λ h xs w. IsQuietWhenDown h.journal)
every_run_is_quiet a b xs w k = quiet_when_down (journal xs) (λ v. (runs_quiet (new_world a b) xs w [] (starts_quiet a b) k v).0)
