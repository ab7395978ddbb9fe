-- A step of a scene is an event of a run: so a run leads to the world of each scene, and each scene shows a run.
use Rattle.std.proofs.Common.{◌≡◌, inr, ℕ, true, false, List, [], ◌∷◌, ◌++◌, Option, None, Ok, refl, sym, ap, subst, ◌∙◌}
use Rattle.rpc_msg.specs.declared.ids.Vat.{Vat}
use Rattle.rpc_msg.specs.declared.ids.Vat.TheVariants.{A, B}
use Rattle.rpc_msg.specs.declared.message.Message.{Message}
use Rattle.rpc_msg.specs.Vats.{other_vat}
use Rattle.rpc_journal.specs.declared.entry.JournalEntry.{JournalEntry}
use Rattle.rpc_machine.specs.declared.command.Command.{Command}
use Rattle.rpc_machine.specs.declared.command.Command.TheVariants as command
use Rattle.rpc_machine.specs.declared.command.Granted.{Granted}
use Rattle.rpc_machine.specs.declared.command.Granted.TheVariants as granted
use Rattle.rpc_machine.specs.declared.command.Effects.{Effects}
use Rattle.rpc_machine.specs.declared.event.Event.{Event}
use Rattle.rpc_machine.specs.declared.event.Event.TheVariants as event
use Rattle.rpc_machine.specs.Numbers.{want_of_room}
use Rattle.rpc_machine.specs.State.{State}
use Rattle.rpc_machine.specs.Limits.{IsWithin}
use Rattle.rpc_machine.specs.Refusals.{refused}
use Rattle.rpc_machine.specs.Faults.{fault_of}
use Rattle.rpc_machine.specs.Down.{fallen, falling, ShutsFrom}
use Rattle.rpc_machine.specs.Steps.{Does, Handles, MayFall, Obeys, GoesDown, Shuts, IsDone, IsHandled}
use Rattle.rpc_machine.specs.World.{World, core, inbox, put_inbox, after, new_world, StepAnswer, Answered, Handled, Happening, CommandTold, CommandsAt, ReceivesAt, HappensBy, MessageTold, Run}
use Rattle.rpc_machine.specs.Journal.{granted_entries, command_entries, deliver_entries, event_entries, journal_from}
use Rattle.rpc_machine.specs.Claims.{BothUp}
use Rattle.laws_steps.proofs.UsedOnce.{command_leaves_up, message_leaves_up}
use Rattle.laws_runs.specs.Telling.{telling}
use Rattle.laws_runs.specs.Scenes.{Scene, is_over, begins, goes_on, stopped, Steps, Commanded, Received, GivesUp, Stops, LeadsTo, NoMore, Then, AtVat, Shows}
use Rattle.laws_runs.specs.Shown.{ScenesAreUp, ScenesAreReached, EverySceneShowsARun}
use Rattle.laws_runs.proofs.QuietRuns.{taken}
use Rattle.laws_runs.proofs.ToldAlike.{written_so}
use Rattle.laws_runs.proofs.AtVats.{mine, theirs, done_shows}
use Rattle.laws_runs.proofs.Showing.{done_so, fell_so, got_words, starts}

pub command_happens : (w : World) (v : Vat) (c : Command) (g : Granted) (x : Effects) (s : State) → (core w v).down ≡ None → refused (core w v) c ≡ None → Does (core w v) c g x s → IsWithin s → HappensBy w (event.Command v c) (Answered (Ok g) x) true (after w v x s)
command_happens w v c g x s up r d i =
    subst (λ (o : Option ℕ). CommandsAt w v c o (Answered (Ok g) x) true (after w v x s)) (sym up)
    (s, (Ok g, x, s, IsDone g r refl d i, refl, (refl, refl)), refl)

message_happens : (w : World) (v : Vat) (m : Message) (ms : List Message) (x : Effects) (s : State) → (core w v).down ≡ None → inbox w v ≡ m ∷ ms → fault_of (core w v) m ≡ None → Handles (core w v) m x s → IsWithin s → HappensBy w (event.Deliver v) (Handled x) true (after (put_inbox w v ms) v x s)
message_happens w v m ms x s up i f h k =
    subst (λ (l : List Message). ReceivesAt w v l (core w v).down (Handled x) true (after (put_inbox w v ms) v x s)) (sym i)
    (subst (λ (o : Option ℕ). ReceivesAt w v (m ∷ ms) o (Handled x) true (after (put_inbox w v ms) v x s)) (sym up)
    (s, subst (λ (t : State). MessageTold t m x true s) (sym (taken w v ms v)) (x, s, IsHandled up f h k, (refl, refl)), refl))

-- One event more at the front.
abbrev Reaches : World → World → Type 0
Reaches w new = (xs : List Happening) × Run w xs new

same_stopped : (x : Scene) (v : Vat) (es : _) → (stopped x v es).world ≡ x.world
same_stopped x A es = refl
same_stopped x B es = refl

step_first : (x mid : Scene) (new : World) → Steps x mid → Reaches mid.world new → Reaches x.world new
step_first x mid new (Commanded v c g effects s over up r d i e) k = (
  record { event = event.Command v c; answer = Answered (Ok g) effects; had_room = true } ∷ k.0,
  (mid.world, subst (λ (w : World). HappensBy x.world (event.Command v c) (Answered (Ok g) effects) true w) (sym (ap (λ (y : Scene). y.world) e)) (command_happens x.world v c g effects s up r d i), k.1),
)
step_first x mid new (Received v m ms effects s over up i f h j e) k = (
  record { event = event.Deliver v; answer = Handled effects; had_room = true } ∷ k.0,
  (mid.world, subst (λ (w : World). HappensBy x.world (event.Deliver v) (Handled effects) true w) (sym (ap (λ (y : Scene). y.world) e)) (message_happens x.world v m ms effects s up i f h j), k.1),
)
step_first x mid new (GivesUp v c over r m e) k = subst (λ (w : World). Reaches w new) (ap (λ (y : Scene). y.world) e ∙ same_stopped x v _) k
step_first x mid new (Stops v over e) k = subst (λ (w : World). Reaches w new) (ap (λ (y : Scene). y.world) e ∙ same_stopped x v []) k

leads : (last x : Scene) → LeadsTo last x → Reaches x.world last.world
leads last x NoMore = ([], refl)
leads last x (Then {mid = mid} s rest) = step_first x mid last.world s (leads last mid rest)

pub scenes_are_reached : ScenesAreReached
scenes_are_reached a b x k = leads x (begins a b) k

-- ---- In no scene a vat is down

still_up : (v : Vat) (w : World) (told : Effects) (t : State) → BothUp w → t.down ≡ None → BothUp (after w v told t)
still_up A w told t b e = (e, b.1)
still_up B w told t b e = (b.0, e)

taken_up : (v : Vat) (w : World) (ms : List Message) → BothUp w → BothUp (put_inbox w v ms)
taken_up A w ms b = (b.0, b.1)
taken_up B w ms b = (b.0, b.1)

step_up : (x y : Scene) → Steps x y → BothUp x.world → BothUp y.world
step_up x y (Commanded v c g told t over up r d i e) b = rw e (still_up v x.world told t b (command_leaves_up (core x.world v) c g told t d ∙ up))
step_up x y (Received v m ms told t over up i f d k e) b = rw e (still_up v (put_inbox x.world v ms) told t (taken_up v x.world ms b) (message_leaves_up (core x.world v) m told t f d ∙ up))
step_up x y (GivesUp v c over r m e) b = subst BothUp (sym (ap (λ (z : Scene). z.world) e ∙ same_stopped x v _)) b
step_up x y (Stops v over e) b = subst BothUp (sym (ap (λ (z : Scene). z.world) e ∙ same_stopped x v [])) b

all_up : (last x : Scene) → LeadsTo last x → BothUp x.world → BothUp last.world
all_up last x NoMore b = b
all_up last x (Then {mid = mid} s rest) b = all_up last mid rest (step_up x mid s b)

pub scenes_are_up : ScenesAreUp
scenes_are_up a b x k = all_up x (begins a b) k (refl, refl)

-- ---- Each scene shows a run

-- By one event more the scene shows what the run came to.
abbrev Follows : Scene → List JournalEntry → World → Type 0
Follows y h w = (e : Happening) × (new : World) × HappensBy w e.event e.answer e.had_room new × Shows y (h ++ event_entries h e.event e.had_room e.answer) new

abbrev event_of : Event → StepAnswer → Happening
event_of e answer = record { event = e; answer = answer; had_room = true }

module _ (x : Scene) (h : List JournalEntry) (w : World) (shows : Shows x h w) (v : Vat) (over : is_over x v ≡ false) where
  here : AtVat false (is_over x (other_vat v)) (core w v) (inbox w v) (core x.world v) (inbox x.world v)
  here = mine v x h w shows over

  -- A command that takes the vat down.
  falls_by : (c : Command) (n : ℕ) (es : List JournalEntry) → Obeys (core w v) c (Ok granted.Done) (falling n) (fallen (core w v) n) → telling (granted_entries h v c granted.Done) ≡ telling es → Follows (stopped x v es) h w
  falls_by c n es o e =
      let told = falling n in
      let t = fallen (core w v) n in
      let k : CommandTold (core w v) c (Ok granted.Done) told true t = (Ok granted.Done, told, t, o, refl, (refl, refl)) in (
        event_of (event.Command v c) (Answered (Ok granted.Done) told),
        after w v told t,
        subst (λ (d : Option ℕ). CommandsAt w v c d (Answered (Ok granted.Done) told) true (after w v told t)) (sym here.0) (t, k, refl),
        fell_so x h w v c shows here.0 told t (granted_entries h v c granted.Done) es (record { last = inr (_, refl); deliveries = refl; answers = refl; down = refl }) e,
      )

  commanded : (c : Command) (g : Granted) (told : Effects) (t : State) → refused (core x.world v) c ≡ None → Does (core x.world v) c g told t → IsWithin t → Follows (goes_on x (after x.world v told t) (command_entries x.journal v c true (Answered (Ok g) told))) h w
  commanded c g told t r d i =
      let back = sym here.1 in
      let f : Does (core w v) c g told t = subst (λ (s : State). Does s c g told t) back d in (
        event_of (event.Command v c) (Answered (Ok g) told),
        after w v told t,
        command_happens w v c g told t here.0 (subst (λ (s : State). refused s c ≡ None) back r) f i,
        done_so x h w v c shows here.0 told t g (command_leaves_up (core w v) c g told t f ∙ here.0),
      )

  received : (m : Message) (ms : List Message) (told : Effects) (t : State) → inbox x.world v ≡ m ∷ ms → fault_of (core x.world v) m ≡ None → Handles (core x.world v) m told t → IsWithin t → Follows (goes_on x (after (put_inbox x.world v ms) v told t) (deliver_entries v (Handled told))) h w
  received m ms told t i f d k =
      let back = sym here.1 in
      let last = here.2.0 in
      let left = ms ++ last in
      let g : Handles (core w v) m told t = subst (λ (s : State). Handles s m told t) back d in
      let j : inbox w v ≡ m ∷ left = here.2.2 ∙ ap (λ (l : List Message). l ++ last) i in (
        event_of (event.Deliver v) (Handled told),
        after (put_inbox w v left) v told t,
        message_happens w v m left told t here.0 j (subst (λ (s : State). fault_of s m ≡ None) back f) g k,
        done_shows v x w (h ++ deliver_entries v (Handled told)) (deliver_entries v (Handled told)) left ms told t over (message_leaves_up (core w v) m told t (subst (λ (s : State). fault_of s m ≡ None) back f) g ∙ here.0)
            (got_words v x h w shows told) (here.0, here.1, (last, here.2.1, refl)) (theirs v x h w shows over),
      )

  gives_up : (c : Command) → refused (core x.world v) c ≡ None → MayFall c → Follows (stopped x v (granted_entries x.journal v c granted.Done)) h w
  gives_up c r m =
      falls_by c want_of_room (granted_entries x.journal v c granted.Done)
      (GoesDown (subst (λ (s : State). refused s c ≡ None) (sym here.1) r) m refl (record { effects_are = refl; new_is = refl }))
      (ap telling (written_so h x.journal shows.history v c granted.Done))

  -- It is shut.
  stops : Follows (stopped x v []) h w
  stops =
      falls_by (command.Shut 0) 0 []
      (Shuts 0 refl refl (subst (λ (d : Option ℕ). ShutsFrom (core w v) 0 d (falling 0) (fallen (core w v) 0)) (sym here.0) (record { effects_are = refl; new_is = refl }))) refl

follows : (x y : Scene) (h : List JournalEntry) (w : World) → Shows x h w → Steps x y → Follows y h w
follows x y h w s (Commanded v c g told t over up r d i e) = subst (λ (z : Scene). Follows z h w) (sym e) (commanded x h w s v over c g told t r d i)
follows x y h w s (Received v m ms told t over up i f d k e) = subst (λ (z : Scene). Follows z h w) (sym e) (received x h w s v over m ms told t i f d k)
follows x y h w s (GivesUp v c over r m e) = subst (λ (z : Scene). Follows z h w) (sym e) (gives_up x h w s v over c r m)
follows x y h w s (Stops v over e) = subst (λ (z : Scene). Follows z h w) (sym e) (stops x h w s v over)

runs_on : (last x : Scene) (h : List JournalEntry) (w : World) → Shows x h w → LeadsTo last x → (xs : List Happening) × (new : World) × Run w xs new × Shows last (journal_from h xs) new
runs_on last x h w s NoMore = ([], w, refl, s)
runs_on last x h w s (Then {mid = mid} step rest) =
    let f = follows x mid h w s step in
    let r = runs_on last mid (h ++ event_entries h f.0.event f.0.had_room f.0.answer) f.1 f.3 rest in
    (f.0 ∷ r.0, r.1, (f.1, f.2, r.2), r.3)

pub scenes_show_runs : EverySceneShowsARun
scenes_show_runs a b x k = runs_on x (begins a b) [] (new_world a b) (starts a b) k
