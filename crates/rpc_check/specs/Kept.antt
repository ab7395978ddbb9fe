-- What the fields of a checker say.
use Rattle.std.specs.Prelude.{◌-◌, ◌≡◌, ℕ, ◌+◌, ◌*◌, Bool, true, false, cond, Option, None, Some, nat_eq, List, [], ◌∷◌, ◌++◌, ◌&&◌, map, length, drop, filter, ◌≤◌, slice_get}
use Rattle.std.specs.BTreeMap.{get}
use Rattle.std.specs.Ordering.{nat_cmp}
use Rattle.std.specs.Option.{unwrap_or}
use Rattle.rpc_msg.specs.declared.message.Message.{Message}
use Rattle.rpc_check.specs.declared.amounts.Amounts.{Amounts}
use Rattle.rpc_check.specs.declared.said.Lasts.{Lasts}
use Rattle.rpc_check.specs.declared.said.Said.{Said}
use Rattle.rpc_check.specs.declared.releases.Released.{Released}
use Rattle.rpc_check.specs.declared.releases.Released.TheVariants as released
use Rattle.rpc_check.specs.declared.releases.Flagged.{Flagged}
use Rattle.rpc_check.specs.declared.releases.Releases.{Releases}
use Rattle.rpc_msg.specs.declared.ids.Vat.{Vat}
use Rattle.rpc_msg.specs.declared.ids.Vat.TheVariants.{A, B}
use Rattle.rpc_msg.specs.declared.ids.Stamp.{Stamp}
use Rattle.rpc_msg.specs.Vats.{other_vat}
use Rattle.rpc_journal.specs.declared.entry.JournalEntry.{JournalEntry}
use Rattle.rpc_journal.specs.History.{DeliveredAt, same_vat, made, deliveries, stamps}
use Rattle.rpc_check.specs.declared.lines.Place.{Place}
use Rattle.rpc_check.specs.declared.lines.Line.{Line}
use Rattle.rpc_check.specs.declared.lines.Lines.{Lines}
use Rattle.rpc_check.specs.declared.way.Parcel.{Parcel}
use Rattle.rpc_check.specs.declared.way.Way.{Way}
use Rattle.rpc_check.specs.declared.calls.Calls.{Calls}
use Rattle.rpc_check.specs.declared.ways.Ways.{Ways}
use Rattle.rpc_check.specs.declared.downs.Downs.{Downs}
use Rattle.rpc_check.specs.declared.pending.Pending.{Pending}
use Rattle.rpc_check.specs.declared.checker.Checker.{Checker}
use Rattle.rpc_check.specs.Breaches.{is_beginning, at_one_place, sent, sendings, got, on_the_way, is_down, is_delivered, first_breach}
use Rattle.rpc_check.specs.Counts.{CountsById, count_of, is_question, is_answer, last_that, handed_on_by, Sending, gives, releases, of_each}

-- How much an id has.
abbrev pub amount : Amounts → ℕ → ℕ
amount a e = unwrap_or (get nat_cmp a.by_id e) 0

-- An id's amount of exports is that of imports with what is on the way.
abbrev pub is_even : (exported imported handed_on released : Amounts) → ℕ → Bool
is_even x y h r e = nat_eq (amount x e) (amount y e + (amount h e + amount r e))

abbrev pub AllAgree : (exported imported handed_on released : Amounts) → Type 0
AllAgree x y h r = (e : ℕ) → is_even x y h r e ≡ true

-- Lists that were handed on, each at its place.
abbrev pub Lists : Type 0
Lists = List CountsById

-- Each list stays at its place.
abbrev pub Grows : Lists → Lists → Type 0
Grows ls ms = (n : ℕ) (ids : CountsById) → slice_get ls n ≡ Some ids → slice_get ms n ≡ Some ids

abbrev pub last_of : Lasts → ℕ → Option ℕ
last_of l q = get nat_cmp l.by_id q

-- The list at a place. No place stands for the empty one.
abbrev pub list_at : Lists → Option ℕ → Option CountsById
list_at ls None = Some []
list_at ls (Some n) = slice_get ls n

-- What is kept of an id.
abbrev pub listed : Lists → Lasts → ℕ → Option CountsById
listed ls l q = list_at ls (last_of l q)

-- A vat that sent these messages has handed that on by the last of each id.
pub record IsSaid (s : Said) (ms : List Message) : Type 0 where
  pub questions : (q : ℕ) → listed s.lists.items s.questions q ≡ Some (handed_on_by (last_that (is_question q) ms))
  pub answers : (q : ℕ) → listed s.lists.items s.answers q ≡ Some (handed_on_by (last_that (is_answer q) ms))

-- What a message releases, by what its receiver handed on.
abbrev pub released_in : Lists → Released → Option CountsById
released_in ls (released.Count id n) = Some ((id, n) ∷ [])
released_in ls (released.List place) = list_at ls place

-- How much of an export the list at a place has.
abbrev pub weight : Lists → ℕ → ℕ → ℕ
weight ls e n = count_of e (unwrap_or (slice_get ls n) [])

-- What the lists have that messages released which were sent, and which were received.
abbrev pub sent_sum : Lists → ℕ → List Flagged → ℕ
sent_sum ls e [] = 0
sent_sum ls e (x ∷ xs) = x.sent * weight ls e x.list + sent_sum ls e xs

abbrev pub got_sum : Lists → ℕ → List Flagged → ℕ
got_sum ls e [] = 0
got_sum ls e (x ∷ xs) = x.got * weight ls e x.list + got_sum ls e xs

-- How much oftener messages that release a list were sent than received, and received than sent.
abbrev pub more_sent : Flagged → ℕ
more_sent x = x.sent - x.got

abbrev pub more_got : Flagged → ℕ
more_got x = x.got - x.sent

-- What the lists have, each so many times.
abbrev pub sum_by : (Flagged → ℕ) → Lists → ℕ → List Flagged → ℕ
sum_by f ls e [] = 0
sum_by f ls e (x ∷ xs) = f x * weight ls e x.list + sum_by f ls e xs

abbrev pub IsIn : Lists → ℕ → Type 0
IsIn ls n = (ids : CountsById) × (slice_get ls n ≡ Some ids)

-- Each list is there.
abbrev pub AllIn : Lists → List Flagged → Type 0
AllIn ls [] = Unit {0}
AllIn ls (x ∷ xs) = IsIn ls x.list × AllIn ls xs

-- What a message releases that names an export.
abbrev pub direct : ℕ → Released → ℕ
direct e (released.Count id n) = cond (nat_eq e id.0) n 0
direct e (released.List place) = 0

-- They are that much of each export: what is counted, with what was released since, less what was received since. No less
-- is counted than messages name.
pub record IsReleased (ls : Lists) (r : Releases) (named much : ℕ → ℕ) : Type 0 where
  pub all_in : AllIn ls r.flagged.items
  pub least : (e : ℕ) → named e ≤ amount r.counted e
  pub even : (e : ℕ) → amount r.counted e + sent_sum ls e r.flagged.items ≡ got_sum ls e r.flagged.items + much e

-- What the messages of these parcels release that name an export.
abbrev pub direct_sum : ℕ → List Parcel → ℕ
direct_sum e [] = 0
direct_sum e (p ∷ ps) = direct e p.released + direct_sum e ps

-- What a parcel adds to the counts, and what a message on its way does.
abbrev pub added_by : Lists → Parcel → CountsById × Option CountsById
added_by ls p = (p.handed_on, released_in ls p.released)

abbrev pub adds : Sending → CountsById × Option CountsById
adds s = (gives s, Some (releases s))

abbrev pub is_some_left : List Sending → Bool
is_some_left [] = false
is_some_left (s ∷ ss) = true

abbrev pub rest_of : List Sending → List Sending
rest_of [] = []
rest_of (s ∷ ss) = ss

-- These messages are on their way to a vat that handed these lists on.
pub record IsWay (ls : Lists) (w : Way) (ss : List Sending) : Type 0 where
  pub parcels : map (added_by ls) w.parcels.items ≡ map adds ss
  pub handed : (e : ℕ) → amount w.handed_on e ≡ count_of e (of_each gives ss)
  pub given_back : IsReleased ls w.releases (λ e. direct_sum e w.parcels.items) (λ e. count_of e (of_each releases ss))

-- What is known of a reference: the indices of its calls that were made and not delivered, and the place of the first
-- delivery.
pub record Known : Type 0 where
  pub waiting : List ℕ
  pub place : Option Place

abbrev pub known_of : Option Line → Known
known_of None = record { waiting = []; place = None }
known_of (Some line) = record { waiting = line.waiting.items; place = line.place }

abbrev pub line_at : Lines → ℕ → Known
line_at l q = known_of (get nat_cmp l.by_number q)

abbrev pub with_made : Known → ℕ → Known
with_made k i = record { waiting = k.waiting ++ i ∷ []; place = k.place }

abbrev pub fits_place : Option Place → Place → Bool
fits_place None p = true
fits_place (Some first) p = same_vat first.vat p.vat && nat_eq first.object.0 p.object.0

abbrev pub is_next : List ℕ → ℕ → Bool
is_next [] i = false
is_next (n ∷ ns) i = nat_eq i n

-- Whether a call with that index may be delivered there.
abbrev pub takes : Known → ℕ → Place → Bool
takes k i p = is_next k.waiting i && fits_place k.place p

abbrev pub rest_waiting : List ℕ → List ℕ
rest_waiting [] = []
rest_waiting (n ∷ ns) = ns

abbrev pub taken : Known → Place → Known
taken k p = record { waiting = rest_waiting k.waiting; place = Some p }

-- ---- What the parts of a checker say of the entries so far

abbrev pub place_of : DeliveredAt → Place
place_of d = record { vat = d.vat; object = d.delivery.object }

abbrev pub first_place : List DeliveredAt → Option Place
first_place [] = None
first_place (d ∷ ds) = Some (place_of d)

abbrev pub index_of : Stamp → ℕ
index_of s = s.index

-- What is known of a reference with these deliveries and calls.
pub record IsKnown (ds : List DeliveredAt) (ms : List Stamp) (k : Known) : Type 0 where
  pub begins : is_beginning (stamps ds) ms ≡ true
  pub stays : at_one_place ds ≡ true
  pub waits : k.waiting ≡ map index_of (drop (length ds) ms)
  pub at : k.place ≡ first_place ds

abbrev pub lines_of : Calls → Vat → Lines
lines_of c A = c.a
lines_of c B = c.b

abbrev pub CallsFor : Calls → List JournalEntry → Type 0
CallsFor c h = (v : Vat) (q : ℕ) → IsKnown (deliveries h (record { vat = v; number = q })) (made h (record { vat = v; number = q })) (line_at (lines_of c v) q)

abbrev pub way_of : Ways → Vat → Way
way_of w A = w.a
way_of w B = w.b

-- No more was received than was sent, the rest is on its way, and what was said last is kept.
pub record IsWayOf (ls : Lists) (w : Way) (v : Vat) (h : List JournalEntry) : Type 0 where
  pub way : IsWay ls w (on_the_way h v)
  pub fewer : got h (other_vat v) ≤ length (sendings h v)
  pub said : IsSaid w.said (sent h v)

abbrev pub WaysFor : Ways → List JournalEntry → Type 0
WaysFor w h = (v : Vat) → IsWayOf (way_of w (other_vat v)).said.lists.items (way_of w v) v h

-- All lists that were released are counted.
abbrev pub IsCounted : Ways → Type 0
IsCounted w = (v : Vat) → (way_of w v).releases.flagged.items ≡ []

abbrev pub down_of : Downs → Vat → Bool
down_of d A = d.a
down_of d B = d.b

abbrev pub DownsFor : Downs → List JournalEntry → Type 0
DownsFor d h = (v : Vat) → down_of d v ≡ is_down h v

-- As long as no entry breaks a law, the three parts say what the entries say.
pub record IsPending (c : Pending) (h : List JournalEntry) : Type 0 where
  pub calls : CallsFor c.calls h
  pub ways : WaysFor c.ways h
  pub downs : DownsFor c.downs h

-- The checker took these entries.
pub record HasTaken (c : Checker) (h : List JournalEntry) : Type 0 where
  pub number : c.number ≡ length h
  pub delivered : c.delivered ≡ length (filter is_delivered h)
  pub broken : c.broken ≡ first_breach [] h
  pub pending : first_breach [] h ≡ None → IsPending c.pending h
