-- No event writes counts: a journal has none but those that were asked for.
use Rattle.std.proofs.Common.{◌≡◌, ℕ, Bool, true, false, cond, map, Option, None, Some, Result, Ok, Err, List, [], ◌∷◌, ◌++◌, refl, ap, ◌∙◌}
use Rattle.rpc_msg.specs.declared.ids.Vat.{Vat}
use Rattle.rpc_journal.specs.declared.entry.Origin.{Origin}
use Rattle.rpc_journal.specs.declared.entry.JournalEntry.{JournalEntry}
use Rattle.rpc_journal.specs.declared.entry.JournalEntry.TheVariants as entry
use Rattle.rpc_journal.specs.History.{in_front}
use Rattle.rpc_machine.specs.declared.command.CallCommand.{CallCommand}
use Rattle.rpc_machine.specs.declared.command.Command.{Command}
use Rattle.rpc_machine.specs.declared.command.Command.TheVariants as command
use Rattle.rpc_machine.specs.declared.command.Granted.{Granted}
use Rattle.rpc_machine.specs.declared.command.Granted.TheVariants as granted
use Rattle.rpc_machine.specs.declared.command.Refusal.{Refusal}
use Rattle.rpc_machine.specs.declared.command.Refusal.TheVariants as refusal
use Rattle.rpc_machine.specs.declared.command.Effects.{Effects}
use Rattle.rpc_machine.specs.declared.event.Event.{Event}
use Rattle.rpc_machine.specs.declared.event.Event.TheVariants as event
use Rattle.rpc_machine.specs.World.{Happening, StepAnswer, Answered, Handled, Empty}
use Rattle.rpc_machine.specs.Journal.{born, born_promise, asked_entries, made_entries, advanced_entries, refused_entries, granted_entries, own_entries, went_down, effect_entries, event_entries, journal_from}
use Rattle.laws_runs.proofs.Reading.{all_that-append}
use Rattle.laws_sound.specs.Promised.{but_tables, events_of}

both : (xs ys : List JournalEntry) → events_of xs ≡ xs → events_of ys ≡ ys → events_of (xs ++ ys) ≡ xs ++ ys
both xs ys e f = all_that-append but_tables xs ys ∙ ap (λ (l : List JournalEntry). l ++ events_of ys) e ∙ ap (λ (l : List JournalEntry). xs ++ l) f

each : {X : Type 0} (f : X → JournalEntry) (xs : List X) → ((x : X) → but_tables (f x) ≡ Some (f x)) → events_of (map f xs) ≡ map f xs
each f [] h = refl
each f (x ∷ xs) h = ap (λ (o : Option JournalEntry). in_front o (events_of (map f xs))) (h x) ∙ ap (λ (l : List JournalEntry). f x ∷ l) (each f xs h)

down_so : (v : Vat) (o : Option ℕ) → events_of (went_down v o) ≡ went_down v o
down_so v None = refl
down_so v (Some n) = refl

effects_so : (v : Vat) (x : Effects) → events_of (effect_entries v x) ≡ effect_entries v x
effects_so v x =
    let sent = map (entry.Sent v) x.sends in
    let delivered = map (entry.Delivered v) x.deliveries in
    let ended = map (entry.Ended v) x.answers in
    let one = both sent delivered (each (entry.Sent v) x.sends (λ m. refl)) (each (entry.Delivered v) x.deliveries (λ d. refl)) in
    let two = both (sent ++ delivered) ended one (each (entry.Ended v) x.answers (λ d. refl)) in
    both (sent ++ delivered ++ ended) (went_down v x.down) two (down_so v x.down)

refused_so : (v : Vat) (r : Refusal) → events_of (refused_entries v r) ≡ refused_entries v r
refused_so v refusal.Down = refl
refused_so v r = refl

born_so : (v : Vat) (o : Origin) (g : Granted) → events_of (born v o g) ≡ born v o g
born_so v o (granted.Reference r) = refl
born_so v o g = refl

promise_so : (v : Vat) (g : Granted) → events_of (born_promise v g) ≡ born_promise v g
promise_so v (granted.Promise p r) = refl
promise_so v g = refl

asked_so : (v : Vat) (g : Granted) → events_of (asked_entries v g) ≡ asked_entries v g
asked_so v (granted.Call c) = refl
asked_so v g = refl

made_so : (h : List JournalEntry) (v : Vat) (c : CallCommand) (g : Granted) → events_of (made_entries h v c g) ≡ made_entries h v c g
made_so h v c (granted.Call id) = refl
made_so h v c g = refl

advanced_so : (v : Vat) (r : _) (g : Granted) → events_of (advanced_entries v r g) ≡ advanced_entries v r g
advanced_so v r (granted.Advanced a) = refl
advanced_so v r g = refl

granted_so : (h : List JournalEntry) (v : Vat) (c : Command) (g : Granted) → events_of (granted_entries h v c g) ≡ granted_entries h v c g
granted_so h v (command.Host o) g = born_so v _ g
granted_so h v (command.CloneRef r) g = born_so v _ g
granted_so h v (command.DropRef r) g = refl
granted_so h v command.Bootstrap g = asked_so v g
granted_so h v (command.Call c) g = made_so h v c g
granted_so h v (command.Field c path) g = born_so v _ g
granted_so h v command.Promise g = promise_so v g
granted_so h v (command.Resolve p r) g = refl
granted_so h v (command.Reject p e) g = refl
granted_so h v (command.Answer t p rs) g = refl
granted_so h v (command.Fail t e) g = refl
granted_so h v (command.Finish c) g = refl
granted_so h v (command.Advance r) g = advanced_so v r g
granted_so h v (command.Shut n) g = refl

own_so : (h : List JournalEntry) (v : Vat) (c : Command) (a : Result Granted Refusal) → events_of (own_entries h v c a) ≡ own_entries h v c a
own_so h v c (Ok g) = granted_so h v c g
own_so h v c (Err r) = refused_so v r

if_room : (b : Bool) (xs : List JournalEntry) → events_of xs ≡ xs → events_of (cond b xs []) ≡ cond b xs []
if_room true xs e = e
if_room false xs e = refl

event_so : (h : List JournalEntry) (e : Event) (room : Bool) (a : StepAnswer) → events_of (event_entries h e room a) ≡ event_entries h e room a
event_so h (event.Command v c) room (Answered a told) = both (cond room (own_entries h v c a) []) (effect_entries v told) (if_room room (own_entries h v c a) (own_so h v c a)) (effects_so v told)
event_so h (event.Command v c) room (Handled told) = refl
event_so h (event.Command v c) room Empty = refl
event_so h (event.Deliver v) room (Answered a told) = refl
event_so h (event.Deliver v) room (Handled told) = ap (λ (l : List JournalEntry). entry.Got v ∷ l) (effects_so v told)
event_so h (event.Deliver v) room Empty = refl

pub no_counts : (h : List JournalEntry) (xs : List Happening) → events_of h ≡ h → events_of (journal_from h xs) ≡ journal_from h xs
no_counts h [] e = e
no_counts h (x ∷ xs) e = no_counts (h ++ event_entries h x.event x.had_room x.answer) xs (both h (event_entries h x.event x.had_room x.answer) e (event_so h x.event x.had_room x.answer))
