-- A journal with counts among its entries tells a run.
use Rattle.std.proofs.Common.{◌≡◌, ℕ, Bool, true, false, cond, append-nil, Option, None, Some, Result, Ok, Err, List, [], ◌∷◌, ◌++◌, length, refl, sym, ap, subst, ◌∙◌}
use Rattle.std.specs.Prelude.{map}
use Rattle.rpc_msg.specs.declared.ids.Vat.{Vat}
use Rattle.rpc_msg.specs.declared.ids.ObjectId.{ObjectId}
use Rattle.rpc_journal.specs.declared.entry.Origin.{Origin}
use Rattle.rpc_journal.specs.declared.entry.JournalEntry.{JournalEntry}
use Rattle.rpc_journal.specs.declared.entry.JournalEntry.TheVariants as entry
use Rattle.rpc_journal.specs.History.{in_front}
use Rattle.rpc_machine.specs.declared.command.CallCommand.{CallCommand}
use Rattle.rpc_machine.specs.declared.command.Command.{Command}
use Rattle.rpc_machine.specs.declared.command.Command.TheVariants as command
use Rattle.rpc_machine.specs.declared.command.Granted.{Granted}
use Rattle.rpc_machine.specs.declared.command.Granted.TheVariants as granted
use Rattle.rpc_machine.specs.declared.command.Refusal.{Refusal}
use Rattle.rpc_machine.specs.declared.command.Refusal.TheVariants as refusal
use Rattle.rpc_machine.specs.declared.command.Effects.{Effects}
use Rattle.rpc_machine.specs.declared.event.Event.{Event}
use Rattle.rpc_machine.specs.declared.event.Event.TheVariants as event
use Rattle.rpc_machine.specs.World.{World, Happening, Happens, Run, StepAnswer, Answered, Handled, Empty, tables_entry}
use Rattle.rpc_machine.specs.Claims.{IsReached}
use Rattle.rpc_machine.specs.Journal.{Journaled, born, born_promise, asked_entries, made_entries, advanced_entries, refused_entries, granted_entries, own_entries, went_down, effect_entries, event_entries, index_in, journal_from, journal}
use Rattle.laws_runs.proofs.Reading.{all_that-append}
use Rattle.laws_sound.specs.Promised.{but_tables, events_of}
use Rattle.laws_sound.proofs.Kept.{made_kept}
use Rattle.laws_verdicts.specs.Recorded.{GoesOn, Happened, CountsNoted, IsRecorded, nothing_yet}
use Rattle.laws_verdicts.proofs.Walking.{keeps_on}

-- ---- No event writes counts

both : (xs ys : List JournalEntry) → events_of xs ≡ xs → events_of ys ≡ ys → events_of (xs ++ ys) ≡ xs ++ ys
both xs ys e f = all_that-append but_tables xs ys ∙ ap (λ (l : List JournalEntry). l ++ events_of ys) e ∙ ap (λ (l : List JournalEntry). xs ++ l) f

each : {X : Type 0} (f : X → JournalEntry) (xs : List X) → ((x : X) → but_tables (f x) ≡ Some (f x)) → events_of (map f xs) ≡ map f xs
each f [] h = refl
each f (x ∷ xs) h = ap (λ (o : Option JournalEntry). in_front o (events_of (map f xs))) (h x) ∙ ap (λ (l : List JournalEntry). f x ∷ l) (each f xs h)

down_so : (v : Vat) (o : Option ℕ) → events_of (went_down v o) ≡ went_down v o
down_so v None = refl
down_so v (Some n) = refl

effects_so : (v : Vat) (x : Effects) → events_of (effect_entries v x) ≡ effect_entries v x
effects_so v x =
    let sent = map (entry.Sent v) x.sends in
    let delivered = map (entry.Delivered v) x.deliveries in
    let ended = map (entry.Ended v) x.answers in
    let one = both sent delivered (each (entry.Sent v) x.sends (λ m. refl)) (each (entry.Delivered v) x.deliveries (λ d. refl)) in
    let two = both (sent ++ delivered) ended one (each (entry.Ended v) x.answers (λ d. refl)) in
    both (sent ++ delivered ++ ended) (went_down v x.down) two (down_so v x.down)

refused_so : (v : Vat) (r : Refusal) → events_of (refused_entries v r) ≡ refused_entries v r
refused_so v refusal.Down = refl
refused_so v r = refl

born_so : (v : Vat) (o : Origin) (g : Granted) → events_of (born v o g) ≡ born v o g
born_so v o (granted.Reference r) = refl
born_so v o g = refl

promise_so : (v : Vat) (g : Granted) → events_of (born_promise v g) ≡ born_promise v g
promise_so v (granted.Promise p r) = refl
promise_so v g = refl

asked_so : (v : Vat) (g : Granted) → events_of (asked_entries v g) ≡ asked_entries v g
asked_so v (granted.Call c) = refl
asked_so v g = refl

made_so : (h : List JournalEntry) (v : Vat) (c : CallCommand) (g : Granted) → events_of (made_entries h v c g) ≡ made_entries h v c g
made_so h v c (granted.Call id) = refl
made_so h v c g = refl

advanced_so : (v : Vat) (r : _) (g : Granted) → events_of (advanced_entries v r g) ≡ advanced_entries v r g
advanced_so v r (granted.Advanced a) = refl
advanced_so v r g = refl

granted_so : (h : List JournalEntry) (v : Vat) (c : Command) (g : Granted) → events_of (granted_entries h v c g) ≡ granted_entries h v c g
granted_so h v (command.Host o) g = born_so v _ g
granted_so h v (command.CloneRef r) g = born_so v _ g
granted_so h v (command.DropRef r) g = refl
granted_so h v command.Bootstrap g = asked_so v g
granted_so h v (command.Call c) g = made_so h v c g
granted_so h v (command.Field c path) g = born_so v _ g
granted_so h v command.Promise g = promise_so v g
granted_so h v (command.Resolve p r) g = refl
granted_so h v (command.Reject p e) g = refl
granted_so h v (command.Answer t p rs) g = refl
granted_so h v (command.Fail t e) g = refl
granted_so h v (command.Finish c) g = refl
granted_so h v (command.Advance r) g = advanced_so v r g
granted_so h v (command.Shut n) g = refl

own_so : (h : List JournalEntry) (v : Vat) (c : Command) (a : Result Granted Refusal) → events_of (own_entries h v c a) ≡ own_entries h v c a
own_so h v c (Ok g) = granted_so h v c g
own_so h v c (Err r) = refused_so v r

if_room : (b : Bool) (xs : List JournalEntry) → events_of xs ≡ xs → events_of (cond b xs []) ≡ cond b xs []
if_room true xs e = e
if_room false xs e = refl

event_so : (h : List JournalEntry) (e : Event) (room : Bool) (a : StepAnswer) → events_of (event_entries h e room a) ≡ event_entries h e room a
event_so h (event.Command v c) room (Answered a told) = both (cond room (own_entries h v c a) []) (effect_entries v told) (if_room room (own_entries h v c a) (own_so h v c a)) (effects_so v told)
event_so h (event.Command v c) room (Handled told) = refl
event_so h (event.Command v c) room Empty = refl
event_so h (event.Deliver v) room (Answered a told) = refl
event_so h (event.Deliver v) room (Handled told) = ap (λ (l : List JournalEntry). entry.Got v ∷ l) (effects_so v told)
event_so h (event.Deliver v) room Empty = refl

-- ---- Of what was written before, an event reads the made calls alone

made_by : (h k : List JournalEntry) (v : Vat) (c : CallCommand) (g : Granted) → index_in h v c.reference ≡ index_in k v c.reference → made_entries h v c g ≡ made_entries k v c g
made_by h k v c (granted.Call id) e =
    ap
    (λ (i : ℕ). entry.Made v (record { reference = c.reference; index = i; call = id; interface = c.interface; method = c.method; payload = c.payload; refs = c.refs }) ∷ [])
    e
made_by h k v c g e = refl

granted_same : (h : List JournalEntry) (v : Vat) (c : Command) (g : Granted) → granted_entries h v c g ≡ granted_entries (events_of h) v c g
granted_same h v (command.Call c) g = made_by h (events_of h) v c g (sym (ap length (made_kept h (record { vat = v; number = c.reference.0 }))))
granted_same h v c g = refl

own_same : (h : List JournalEntry) (v : Vat) (c : Command) (a : Result Granted Refusal) → own_entries h v c a ≡ own_entries (events_of h) v c a
own_same h v c (Ok g) = granted_same h v c g
own_same h v c (Err r) = refl

event_same : (h : List JournalEntry) (e : Event) (room : Bool) (a : StepAnswer) → event_entries h e room a ≡ event_entries (events_of h) e room a
event_same h (event.Command v c) room (Answered a told) = ap (λ (l : List JournalEntry). cond room l [] ++ effect_entries v told) (own_same h v c a)
event_same h (event.Command v c) room (Handled told) = refl
event_same h (event.Command v c) room Empty = refl
event_same h (event.Deliver v) room a = refl

-- ---- One event more

pub run_more : (w : World) (xs : List Happening) (mid : World) (x : Happening) (new : World) → Run w xs mid → Happens mid x new → Run w (xs ++ x ∷ []) new
run_more w [] mid x new ran h = (new, subst (λ (z : World). Happens z x new) ran h, refl)
run_more w (y ∷ ys) mid x new ran h = (ran.0, ran.1, run_more ran.0 ys mid x new ran.2 h)

journal_more : (h : List JournalEntry) (xs : List Happening) (x : Happening) → journal_from h (xs ++ x ∷ []) ≡ journal_from h xs ++ event_entries (journal_from h xs) x.event x.had_room x.answer
journal_more h [] x = refl
journal_more h (y ∷ ys) x = journal_more (h ++ event_entries h y.event y.had_room y.answer) ys x

pub told_more : (h es : List JournalEntry) (xs : List Happening) (x : Happening) → events_of h ≡ journal xs → es ≡ event_entries h x.event x.had_room x.answer → events_of (h ++ es) ≡ journal (xs ++ x ∷ [])
told_more h es xs x e f =
    all_that-append but_tables h es
    ∙ ap (λ (l : List JournalEntry). l ++ events_of es) e
    ∙ ap (λ (l : List JournalEntry). journal xs ++ l) (ap events_of f ∙ event_so h x.event x.had_room x.answer ∙ event_same h x.event x.had_room x.answer ∙ ap (λ (l : List JournalEntry). event_entries l x.event x.had_room x.answer) e)
    ∙ sym (journal_more [] xs x)

-- Counts that are noted are no event.
pub told_noted : (h : List JournalEntry) (w : World) → events_of (h ++ tables_entry w ∷ []) ≡ events_of h
told_noted h w = all_that-append but_tables h (tables_entry w ∷ []) ∙ append-nil (events_of h)

-- But for what was noted, the journal tells a run that leads to the world.
abbrev pub Tells : Journaled → Type 0
Tells j = IsReached (record { world = j.world; journal = events_of j.journal })

pub tells_on : (old new : Journaled) → Tells old → GoesOn old new → Tells new
tells_on old new k (Happened x h e) = record {
  root_a = k.root_a;
  root_b = k.root_b;
  happened = k.happened ++ x ∷ [];
  ran = run_more _ k.happened old.world x new.world k.ran h;
  told = ap events_of e ∙ told_more old.journal (event_entries old.journal x.event x.had_room x.answer) k.happened x k.told refl;
}
tells_on old new k (CountsNoted e) = subst Tells (sym e) (record {
  root_a = k.root_a;
  root_b = k.root_b;
  happened = k.happened;
  ran = k.ran;
  told = told_noted old.journal old.world ∙ k.told;
})

pub tells_first : (a b : Option ObjectId) → Tells (nothing_yet a b)
tells_first a b = record { root_a = a; root_b = b; happened = []; ran = refl; told = refl }

pub tells : (a b : Option ObjectId) (w : Journaled) → IsRecorded a b w → Tells w
tells a b w k = keeps_on Tells tells_on w (nothing_yet a b) k (tells_first a b)
