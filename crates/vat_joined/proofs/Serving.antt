-- The calls to serve that an application was told are of those that the run delivered, in order.
use Rattle.std.proofs.Common.{◌≡◌, ℕ, Bool, true, false, cond, Option, None, Some, Result, Ok, Err, List, [], ◌∷◌, ◌++◌, All, append-nil, append_assoc, map, flat_map, refl, sym, ap, subst, ◌∙◌}
use Rattle.std.specs.Prelude.{take, drop}
use Rattle.std.proofs.lemmas.List.Elements.{All-head, All-tail}
use Rattle.rpc_msg.specs.declared.ids.Vat.{Vat}
use Rattle.rpc_msg.specs.declared.ids.Vat.TheVariants.{A, B}
use Rattle.rpc_msg.specs.declared.ids.Stamp.{Stamp}
use Rattle.rpc_msg.specs.declared.message.Message.{Message}
use Rattle.rpc_journal.specs.declared.report.Delivery.{Delivery}
use Rattle.rpc_journal.specs.declared.report.Ended.{Ended}
use Rattle.rpc_journal.specs.declared.entry.JournalEntry.{JournalEntry}
use Rattle.rpc_journal.specs.declared.entry.JournalEntry.TheVariants as entry
use Rattle.rpc_journal.specs.History.{DeliveredAt, Ref, all_that, caller, delivered, deliveries, if_so, in_front, same_ref, same_vat, stamps}
use Rattle.rpc_machine.specs.declared.command.Command.{Command}
use Rattle.rpc_machine.specs.declared.command.Command.TheVariants as command
use Rattle.rpc_machine.specs.declared.command.Effects.{Effects}
use Rattle.rpc_machine.specs.declared.command.Granted.{Granted}
use Rattle.rpc_machine.specs.declared.command.Granted.TheVariants as granted
use Rattle.rpc_machine.specs.declared.command.Refusal.{Refusal}
use Rattle.rpc_machine.specs.declared.command.Refusal.TheVariants as refusal
use Rattle.rpc_machine.specs.declared.event.Event.{Event as Happens}
use Rattle.rpc_machine.specs.declared.event.Event.TheVariants as happens
use Rattle.rpc_machine.specs.World.{World, Happening, HappensBy, CommandsAt, ReceivesAt, Run, StepAnswer, Answered, Handled, Empty, core, inbox}
use Rattle.rpc_machine.specs.Journal.{effect_entries, event_entries, granted_entries, journal, journal_from, own_entries, refused_entries, went_down}
use Rattle.rpc_machine.specs.Claims.{IsBeginning}
use Rattle.laws_scenes.specs.Ordered.{AreAtOne, IsWhere}
use Rattle.vat_host.specs.declared.event.Event.{Event}
use Rattle.vat_host.specs.declared.event.Event.TheVariants as event
use Rattle.vat_hosts.specs.Calls.{calls_told}
use Rattle.vat_hosts.specs.Worlds.{effects_of, told_in, vat_of}
use Rattle.vat_joined.specs.Promised.{served, through}
use Rattle.vat_joined.proofs.Lists.{parted}

-- ---- beginnings

pub before : (xs ys zs : List Stamp) → IsBeginning xs ys → IsBeginning ys zs → IsBeginning xs zs
before xs ys zs k m = (k.0 ++ m.0, sym (append_assoc xs k.0 m.0) ∙ ap (λ (l : List Stamp). l ++ m.0) k.1 ∙ m.1)

served-append : (xs ys : List Event) → served (xs ++ ys) ≡ served xs ++ served ys
served-append [] ys = refl
served-append (event.Served d ∷ xs) ys = ap (λ (l : List Stamp). d.stamp ∷ l) (served-append xs ys)
served-append (e ∷ xs) ys = served-append xs ys

through_one : (b : Bool) (s : Stamp) (xs ys zs : List Stamp) → xs ≡ ys ++ zs → cond b (s ∷ xs) xs ≡ cond b (s ∷ ys) ys ++ zs
through_one true s xs ys zs e = ap (λ (l : List Stamp). s ∷ l) e
through_one false s xs ys zs e = e

through-append : (r : Ref) (xs ys : List Stamp) → through r (xs ++ ys) ≡ through r xs ++ through r ys
through-append r [] ys = refl
through-append r (s ∷ xs) ys = through_one (same_ref r (caller s)) s (through r (xs ++ ys)) (through r xs) (through r ys) (through-append r xs ys)

-- Of the first so many events.
pub so_far : (r : Ref) (n : ℕ) (es : List Event) → IsBeginning (through r (served (take n es))) (through r (served es))
so_far r n es = (
  through r (served (drop n es)),
  sym (through-append r (served (take n es)) (served (drop n es))) ∙ ap (λ (l : List Stamp). through r l) (sym (served-append (take n es) (drop n es)) ∙ ap served (sym (parted n es))),
)

-- ---- the deliveries of a journal at one vat

abbrev stamp_at : Vat → JournalEntry → Option Stamp
stamp_at v (entry.Delivered u d) = if_so (same_vat v u) d.stamp
stamp_at v e = None

abbrev at : Vat → List JournalEntry → List Stamp
at v h = all_that (stamp_at v) h

front : {X : Type 0} (o : Option X) (xs ys zs : List X) → xs ≡ ys ++ zs → in_front o xs ≡ in_front o ys ++ zs
front None xs ys zs e = e
front {X = X} (Some x) xs ys zs e = ap (λ (l : List X). x ∷ l) e

at-append : (v : Vat) (xs ys : List JournalEntry) → at v (xs ++ ys) ≡ at v xs ++ at v ys
at-append v [] ys = refl
at-append v (e ∷ es) ys = front (stamp_at v e) (at v (es ++ ys)) (at v es) (at v ys) (at-append v es ys)

-- ---- what an event writes

none_sent : (v u : Vat) (ms : List Message) → at v (map (entry.Sent u) ms) ≡ []
none_sent v u [] = refl
none_sent v u (m ∷ ms) = none_sent v u ms

none_ended : (v u : Vat) (xs : List Ended) → at v (map (entry.Ended u) xs) ≡ []
none_ended v u [] = refl
none_ended v u (x ∷ xs) = none_ended v u xs

none_down : (v u : Vat) (o : Option ℕ) → at v (went_down u o) ≡ []
none_down v u None = refl
none_down v u (Some n) = refl

abbrev stamps_in : List Delivery → List Stamp
stamps_in ds = map (λ (d : Delivery). d.stamp) ds

deliveries_so : (v u : Vat) (ds : List Delivery) → at v (map (entry.Delivered u) ds) ≡ cond (same_vat v u) (stamps_in ds) []
deliveries_so A A [] = refl
deliveries_so A B [] = refl
deliveries_so B A [] = refl
deliveries_so B B [] = refl
deliveries_so A A (d ∷ ds) = ap (λ (ss : List Stamp). d.stamp ∷ ss) (deliveries_so A A ds)
deliveries_so A B (d ∷ ds) = deliveries_so A B ds
deliveries_so B A (d ∷ ds) = deliveries_so B A ds
deliveries_so B B (d ∷ ds) = ap (λ (ss : List Stamp). d.stamp ∷ ss) (deliveries_so B B ds)

-- Of four lists the second has them.
second : (v : Vat) (a b c d : List JournalEntry) (ss : List Stamp) → at v a ≡ [] → at v b ≡ ss → at v c ≡ [] → at v d ≡ [] → at v (a ++ b ++ c ++ d) ≡ ss
second v a b c d ss none_a has none_c none_d =
    at-append v (a ++ b ++ c) d ∙ ap (λ (l : List Stamp). at v (a ++ b ++ c) ++ l) none_d ∙ append-nil (at v (a ++ b ++ c))
    ∙ at-append v (a ++ b) c ∙ ap (λ (l : List Stamp). at v (a ++ b) ++ l) none_c ∙ append-nil (at v (a ++ b))
    ∙ at-append v a b ∙ ap (λ (l : List Stamp). l ++ at v b) none_a ∙ has

served_ended : (xs : List Ended) → served (map event.Ended xs) ≡ []
served_ended [] = refl
served_ended (x ∷ xs) = served_ended xs

served_so : (ds : List Delivery) (xs : List Ended) → served (map event.Served ds ++ map event.Ended xs) ≡ stamps_in ds
served_so [] xs = served_ended xs
served_so (d ∷ ds) xs = ap (λ (ss : List Stamp). d.stamp ∷ ss) (served_so ds xs)

if_here : (b : Bool) (es : List Event) (ss : List Stamp) → served es ≡ ss → cond b ss [] ≡ served (cond b es [])
if_here true es ss e = sym e
if_here false es ss e = refl

effects_so : (v u : Vat) (x : Effects) → at v (effect_entries u x) ≡ served (cond (same_vat v u) (calls_told x) [])
effects_so v u x =
    second v (map (entry.Sent u) x.sends) (map (entry.Delivered u) x.deliveries) (map (entry.Ended u) x.answers) (went_down u x.down) (cond (same_vat v u) (stamps_in x.deliveries) [])
    (none_sent v u x.sends) (deliveries_so v u x.deliveries) (none_ended v u x.answers) (none_down v u x.down)
    ∙ if_here (same_vat v u) (calls_told x) (stamps_in x.deliveries) (served_so x.deliveries x.answers)

none_refused : (v u : Vat) (r : Refusal) → at v (refused_entries u r) ≡ []
none_refused v u refusal.Down = refl
none_refused v u r = refl

none_granted : (h : List JournalEntry) (v u : Vat) (c : Command) (g : Granted) → at v (granted_entries h u c g) ≡ []
none_granted h v u (command.Host o) (granted.Reference r) = refl
none_granted h v u (command.Host o) g = refl
none_granted h v u (command.CloneRef q) (granted.Reference r) = refl
none_granted h v u (command.CloneRef q) g = refl
none_granted h v u command.Bootstrap (granted.Call id) = refl
none_granted h v u command.Bootstrap g = refl
none_granted h v u (command.Call c) (granted.Call id) = refl
none_granted h v u (command.Call c) g = refl
none_granted h v u (command.Field c path) (granted.Reference r) = refl
none_granted h v u (command.Field c path) g = refl
none_granted h v u command.Promise (granted.Promise p r) = refl
none_granted h v u command.Promise g = refl
none_granted h v u (command.Advance q) (granted.Advanced a) = refl
none_granted h v u (command.Advance q) g = refl
none_granted h v u c g = refl

none_own : (h : List JournalEntry) (v u : Vat) (c : Command) (a : Result Granted Refusal) → at v (own_entries h u c a) ≡ []
none_own h v u c (Ok g) = none_granted h v u c g
none_own h v u c (Err r) = none_refused v u r

none_if : (v : Vat) (room : Bool) (es : List JournalEntry) → at v es ≡ [] → at v (cond room es []) ≡ []
none_if v true es e = e
none_if v false es e = refl

no_handled : (w : World) (u : Vat) (c : Command) (o : Option ℕ) (x : Effects) (room : Bool) (new : World) → CommandsAt w u c o (Handled x) room new → ⊥
no_handled w u c None x room new k = k
no_handled w u c (Some n) x room new k = k

no_empty : (w : World) (u : Vat) (c : Command) (o : Option ℕ) (room : Bool) (new : World) → CommandsAt w u c o Empty room new → ⊥
no_empty w u c None room new k = k
no_empty w u c (Some n) room new k = k

no_answered : (w : World) (u : Vat) (ms : List Message) (o : Option ℕ) (a : Result Granted Refusal) (x : Effects) (room : Bool) (new : World) → ReceivesAt w u ms o (Answered a x) room new → ⊥
no_answered w u [] o a x room new k = let e : Answered a x ≡ Empty = k.0 in cc
no_answered w u (m ∷ ms) None a x room new k = k
no_answered w u (m ∷ ms) (Some n) a x room new k = let e : Answered a x ≡ Empty = k.0 in cc

nothing_told : (b : Bool) → [] ≡ served (cond b [] [])
nothing_told true = refl
nothing_told false = refl

event_so : (h : List JournalEntry) (v : Vat) (w : World) (e : Happens) (a : StepAnswer) (room : Bool) (new : World) → HappensBy w e a room new
    → at v (event_entries h e room a) ≡ served (cond (same_vat v (vat_of e)) (calls_told (effects_of a)) [])
event_so h v w (happens.Command u c) (Answered a x) room new k =
    at-append v (cond room (own_entries h u c a) []) (effect_entries u x)
    ∙ ap (λ (l : List Stamp). l ++ at v (effect_entries u x)) (none_if v room (own_entries h u c a) (none_own h v u c a)) ∙ effects_so v u x
event_so h v w (happens.Command u c) (Handled x) room new k = absurd (no_handled w u c (core w u).down x room new k)
event_so h v w (happens.Command u c) Empty room new k = absurd (no_empty w u c (core w u).down room new k)
event_so h v w (happens.Deliver u) (Answered a x) room new k = absurd (no_answered w u (inbox w u) (core w u).down a x room new k)
event_so h v w (happens.Deliver u) (Handled x) room new k = effects_so v u x
event_so h v w (happens.Deliver u) Empty room new k = nothing_told (same_vat v u)

-- What the journal has of them is what the run tells.
run_so : (h : List JournalEntry) (v : Vat) (w : World) (xs : List Happening) (new : World) → Run w xs new → at v (journal_from h xs) ≡ at v h ++ served (flat_map (told_in v) xs)
run_so h v w [] new k = sym (append-nil (at v h))
run_so h v w (x ∷ xs) new k =
    let es = event_entries h x.event x.had_room x.answer in
    run_so (h ++ es) v k.0 xs new k.2 ∙ ap (λ (l : List Stamp). l ++ served (flat_map (told_in v) xs)) (at-append v h es ∙ ap (λ (l : List Stamp). at v h ++ l) (event_so h v w x.event x.answer x.had_room k.0 k.1))
    ∙ append_assoc (at v h) (served (told_in v x)) (served (flat_map (told_in v) xs)) ∙ ap (λ (l : List Stamp). at v h ++ l) (sym (served-append (told_in v x) (flat_map (told_in v) xs)))

-- ---- of one reference

abbrev those_at : Vat → List DeliveredAt → List DeliveredAt
those_at v [] = []
those_at v (d ∷ ds) = cond (same_vat v d.vat) (d ∷ those_at v ds) (those_at v ds)

here : (v : Vat) (b : Bool) (d : Delivery) (l : List Stamp) (ds : List DeliveredAt) → same_vat v v ≡ true → l ≡ stamps (those_at v ds)
    → cond b (d.stamp ∷ l) l ≡ stamps (those_at v (in_front (if_so b (record { vat = v; delivery = d })) ds))
here A true d l ds t e = ap (λ (ss : List Stamp). d.stamp ∷ ss) e
here B true d l ds t e = ap (λ (ss : List Stamp). d.stamp ∷ ss) e
here v false d l ds t e = e

there_a : (b : Bool) (d : Delivery) (l : List Stamp) (ds : List DeliveredAt) → l ≡ stamps (those_at A ds) → l ≡ stamps (those_at A (in_front (if_so b (record { vat = B; delivery = d })) ds))
there_a true d l ds e = e
there_a false d l ds e = e

there_b : (b : Bool) (d : Delivery) (l : List Stamp) (ds : List DeliveredAt) → l ≡ stamps (those_at B ds) → l ≡ stamps (those_at B (in_front (if_so b (record { vat = A; delivery = d })) ds))
there_b true d l ds e = e
there_b false d l ds e = e

of_ref : (r : Ref) (v : Vat) (h : List JournalEntry) → through r (at v h) ≡ stamps (those_at v (deliveries h r))
of_ref r v [] = refl
of_ref r A (entry.Delivered A d ∷ es) = here A (same_ref r (caller d.stamp)) d (through r (at A es)) (deliveries es r) refl (of_ref r A es)
of_ref r A (entry.Delivered B d ∷ es) = there_a (same_ref r (caller d.stamp)) d (through r (at A es)) (deliveries es r) (of_ref r A es)
of_ref r B (entry.Delivered A d ∷ es) = there_b (same_ref r (caller d.stamp)) d (through r (at B es)) (deliveries es r) (of_ref r B es)
of_ref r B (entry.Delivered B d ∷ es) = here B (same_ref r (caller d.stamp)) d (through r (at B es)) (deliveries es r) refl (of_ref r B es)
of_ref r v (e ∷ es) = of_ref r v es

-- All at one vat.
abbrev none_delivered : List DeliveredAt
none_delivered = []

none_kept : (b : Bool) → none_delivered ≡ cond b none_delivered none_delivered
none_kept true = refl
none_kept false = refl

kept_all : (v : Vat) (d : DeliveredAt) (ds : List DeliveredAt) → All (IsWhere d) ds → those_at v ds ≡ cond (same_vat v d.vat) ds []
kept_all v d [] k = none_kept (same_vat v d.vat)
kept_all v d (e ∷ ds) k =
    ap (λ (u : Vat). cond (same_vat v u) (e ∷ those_at v ds) (those_at v ds)) (All-head (IsWhere d) e ds k).0 ∙ by (same_vat v d.vat) (those_at v ds) (kept_all v d ds (All-tail (IsWhere d) e ds k))
  where
    by : (b : Bool) (l : List DeliveredAt) → l ≡ cond b ds [] → cond b (e ∷ l) l ≡ cond b (e ∷ ds) []
    by true l f = ap (λ (x : List DeliveredAt). e ∷ x) f
    by false l f = f

all_or_none : (v : Vat) (ds : List DeliveredAt) → AreAtOne ds → IsBeginning (stamps (those_at v ds)) (stamps ds)
all_or_none v [] k = ([], refl)
all_or_none v (d ∷ ds) k = by (same_vat v d.vat) (those_at v ds) (kept_all v d ds k)
  where
    by : (b : Bool) (l : List DeliveredAt) → l ≡ cond b ds [] → IsBeginning (stamps (cond b (d ∷ l) l)) (stamps (d ∷ ds))
    by true l f = ([], append-nil (stamps (d ∷ l)) ∙ ap (λ (x : List DeliveredAt). stamps (d ∷ x)) f)
    by false l f = (stamps (d ∷ ds), ap (λ (x : List DeliveredAt). stamps x ++ stamps (d ∷ ds)) f)

-- The calls of a reference that a vat is told to serve, first in a run.
pub told_are_delivered : (r : Ref) (v : Vat) (w : World) (xs : List Happening) (new : World) → Run w xs new → AreAtOne (deliveries (journal xs) r)
    → IsBeginning (through r (served (flat_map (told_in v) xs))) (delivered (journal xs) r)
told_are_delivered r v w xs new ran one =
    subst (λ (l : List Stamp). IsBeginning l (delivered (journal xs) r)) (sym (of_ref r v (journal xs)) ∙ ap (λ (l : List Stamp). through r l) (run_so [] v w xs new ran))
    (all_or_none v (deliveries (journal xs) r) one)
