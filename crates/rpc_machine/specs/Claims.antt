-- What is promised of every run of two vats (docs/protocol.md, "What is promised"): the calls delivered through a
-- reference are a beginning of the calls made through it, in order, each once, all to the object it stands for, and all
-- of them once none is held or in flight; a vat delivers nothing after it went down; each export count equals what the
-- other vat holds or is in flight. What is delivered is what was made, what ends a call is what answered it, and why each
-- vat went down is known: its application shut it, it wanted room or memory, a call would have had to wait where no more
-- may, or the other was down before.
use Rattle.std.specs.Prelude.{◌≡◌, ◌≢◌, ◌↔◌, ℕ, ◌+◌, ◌<◌, Bool, true, false, ◌&&◌, nat_eq, Option, None, Some, IsSome, cond, List, [], ◌∷◌, ◌++◌, All, length, codes}
use Rattle.std.specs.List.{list_any}
use Rattle.std.specs.FinMap as map
use Rattle.rpc_journal.specs.rpc_msg.specs.declared.ids.Vat.{Vat}
use Rattle.rpc_journal.specs.rpc_msg.specs.declared.ids.RefId.{RefId}
use Rattle.rpc_journal.specs.rpc_msg.specs.declared.ids.ObjectId.{ObjectId}
use Rattle.rpc_journal.specs.rpc_msg.specs.declared.ids.Stamp.{Stamp}
use Rattle.rpc_journal.specs.rpc_msg.specs.Vats.{other_vat}
use Rattle.rpc_journal.specs.declared.report.Delivery.{Delivery}
use Rattle.rpc_journal.specs.declared.report.Ended.{Ended}
use Rattle.rpc_journal.specs.declared.report.Outcome.{Outcome}
use Rattle.rpc_journal.specs.declared.report.Outcome.TheVariants as outcome
use Rattle.rpc_journal.specs.declared.entry.MadeCall.{MadeCall}
use Rattle.rpc_journal.specs.declared.entry.JournalEntry.{JournalEntry}
use Rattle.rpc_journal.specs.declared.entry.JournalEntry.TheVariants as entry
use Rattle.rpc_journal.specs.History.{Ref, DeliveredAt, Reply, same_vat, caller, refs_at, made, made_with, deliveries, delivered, answer_of}
use Rattle.rpc_journal.specs.Sources.{Asking, OfBootstrap, OfCall, asking, source}
use Rattle.rpc_journal.specs.Meaning.{History, Meaning, ObjectAt, Broken, root, StandsFor}
use Rattle.rpc_machine.specs.declared.node.Reason.{Reason}
use Rattle.rpc_machine.specs.Payloads.{bootstrap_payload}
use Rattle.rpc_machine.specs.Nodes.{is_import}
use Rattle.rpc_machine.specs.Places.{names}
use Rattle.rpc_machine.specs.Numbers.{held_past_limit, want_of_room, peer_abort}
use Rattle.rpc_machine.specs.Limits.{import_count, export_count}
use Rattle.rpc_machine.specs.Routing.{failed, reason_text}
use Rattle.rpc_machine.specs.World.{World, core, Happening, Run, new_world, shut_number, was_shut}
use Rattle.rpc_machine.specs.Journal.{Journaled, journal}
use Rattle.rpc_machine.specs.UnderWay.{under_way}
use Rattle.rpc_machine.specs.Pending.{pending, is_idle}

abbrev pub IsBeginning : List Stamp → List Stamp → Type 0
IsBeginning xs ys = (rest : List Stamp) × (xs ++ rest ≡ ys)

abbrev pub BothUp : World → Type 0
BothUp w = (w.a.core.down ≡ None) × (w.b.core.down ≡ None)

-- The delivered calls of each reference are a beginning of those made, in order.
abbrev pub IsInOrder : List JournalEntry → Type 0
IsInOrder h = (r : Ref) → IsBeginning (delivered h r) (made h r)

-- Those made through a reference, from the index i on.
abbrev pub IsNumbered : Ref → ℕ → List Stamp → Type 0
IsNumbered r i [] = Unit {0}
IsNumbered r i (s ∷ ss) = (s ≡ record { vat = r.vat; reference = record { 0 = r.number }; index = i }) × IsNumbered r (i + 1) ss

-- No two calls made through a reference have one stamp: they are numbered from 0. So what is delivered is delivered once.
abbrev pub AreNumbered : List JournalEntry → Type 0
AreNumbered h = (r : Ref) → IsNumbered r 0 (made h r)

abbrev pub IsTo : History → Ref → DeliveredAt → Type 0
IsTo h r d = StandsFor h r (ObjectAt d.vat d.delivery.object.0)

-- All of them to the object that the reference stands for.
abbrev pub IsToOne : History → Type 0
IsToOne h = (r : Ref) → All (IsTo h r) (deliveries h.journal r)

-- Where a reference stands for an object, both vats are up and none of its calls is pending, all are delivered.
abbrev pub IsInFull : History → World → Type 0
IsInFull h w =
    (r : Ref) (v : Vat) (o : ℕ) → StandsFor h r (ObjectAt v o) → BothUp w → pending w r ≡ [] → delivered h.journal r ≡ made h.journal r

abbrev pub deliveries_at : Vat → List JournalEntry → List JournalEntry
deliveries_at v [] = []
deliveries_at v (entry.Delivered u d ∷ es) = cond (same_vat v u) (entry.Delivered u d ∷ deliveries_at v es) (deliveries_at v es)
deliveries_at v (e ∷ es) = deliveries_at v es

-- A vat delivers nothing once it is down.
abbrev pub IsQuietWhenDown : List JournalEntry → Type 0
IsQuietWhenDown h = (v : Vat) (n : ℕ) (before behind : List JournalEntry) → h ≡ before ++ entry.Down v n ∷ behind → deliveries_at v behind ≡ []

-- The count of an export is what the other vat received of it and keeps, and what is under way; and an import is there
-- exactly where a place names it.
pub record Agrees (w : World) (v : Vat) (e : ℕ) : Type 0 where
  pub count : export_count (map.get (core w v).exports e) ≡ import_count (map.get (core w (other_vat v)).imports e) + under_way w v e
  pub named : IsSome (map.get (core w v).imports e) ↔ 0 < names (core w v) (is_import e)

abbrev pub CountsAgree : World → Type 0
CountsAgree w = BothUp w → (v : Vat) (e : ℕ) → Agrees w v e

-- Whether none is pending can be asked.
abbrev pub IdleIsNonePending : World → Type 0
IdleIsNonePending w = (r : Ref) → is_idle w r ≡ true ↔ pending w r ≡ []

-- ---- Meanings

-- A reference stands for one thing at most.
abbrev pub MeansOne : History → Type 0
MeansOne h = (r : Ref) (x y : Meaning) → StandsFor h r x → StandsFor h r y → x ≡ y

-- ---- Deliveries and ends

-- The history up to the entry, which is one of its entries.
abbrev pub Upto : (History → JournalEntry → Type 0) → History → Type 0
Upto P h = (before behind : List JournalEntry) (e : JournalEntry) → h.journal ≡ before ++ e ∷ behind → P (record h { journal = before }) e

-- References of a vat that come from nowhere yet, each once.
abbrev pub AreNew : List JournalEntry → List Ref → Type 0
AreNew h [] = Unit {0}
AreNew h (r ∷ rs) = (source h r ≡ None) × All (λ q. q ≢ r) rs × AreNew h rs

-- The call with that stamp was made, and this delivery of it is to an object that its reference stands for. It has the
-- interface, method and payload of the made call, and one new reference for each that was sent.
pub record DeliversMade (h : History) (v : Vat) (d : Delivery) : Type 0 where
  pub to_object : StandsFor h (caller d.stamp) (ObjectAt v d.object.0)
  pub call : MadeCall
  pub was_made : made_with h.journal d.stamp ≡ Some call
  pub interface : d.interface ≡ call.interface
  pub method : d.method ≡ call.method
  pub payload : d.payload ≡ call.payload
  pub refs : length d.refs ≡ length call.refs
  pub are_new : AreNew h.journal (refs_at v d.refs)

abbrev pub IfDelivers : History → JournalEntry → Type 0
IfDelivers h (entry.Delivered v d) = DeliversMade h v d
IfDelivers h e = Unit {0}

-- So each delivery is, in the history up to it.
abbrev pub IsInTime : History → Type 0
IsInTime h = Upto IfDelivers h

-- How a Bootstrap ends: with the root capability, or without one.
abbrev pub EndsRoot : Option ℕ → Outcome → List RefId → Type 0
EndsRoot (Some o) x refs = (x ≡ outcome.Results bootstrap_payload) × (length refs ≡ 1)
EndsRoot None x refs = (x ≡ outcome.Exception (failed (codes "no bootstrap"))) × (refs ≡ [])

-- How a call ends whose task was answered so: with that outcome, and one new reference for each that was sent. Where it
-- was not answered its reference stands for broken, and the outcome says why.
abbrev pub EndsCall : History → Stamp → Option Reply → Outcome → List RefId → Type 0
EndsCall h s (Some a) x refs = (x ≡ a.outcome) × (length refs ≡ length a.refs)
EndsCall h s None x refs = StandsFor h (caller s) Broken × (reason : Reason) × (x ≡ outcome.Exception (failed (reason_text reason))) × (refs ≡ [])

abbrev pub EndsAsked : History → Vat → Option Asking → Outcome → List RefId → Type 0
EndsAsked h v None x refs = ⊥
EndsAsked h v (Some OfBootstrap) x refs = EndsRoot (root h (other_vat v)) x refs
EndsAsked h v (Some (OfCall s)) x refs = EndsCall h s (answer_of h.journal s) x refs

abbrev pub is_end_of : Vat → ℕ → JournalEntry → Bool
is_end_of v c (entry.Ended u x) = same_vat v u && nat_eq c x.call.0
is_end_of v c e = false

-- This end of a call is its first, and as it was asked and answered.
pub record EndsSo (h : History) (v : Vat) (x : Ended) : Type 0 where
  pub once : list_any (is_end_of v x.call.0) h.journal ≡ false
  pub so : EndsAsked h v (asking h.journal v x.call.0) x.outcome x.refs
  pub are_new : AreNew h.journal (refs_at v x.refs)

abbrev pub IfEnds : History → JournalEntry → Type 0
IfEnds h (entry.Ended v x) = EndsSo h v x
IfEnds h e = Unit {0}

abbrev pub EndsAreSo : History → Type 0
EndsAreSo h = Upto IfEnds h

-- ---- Going down

abbrev pub is_down_of : Vat → JournalEntry → Bool
is_down_of v (entry.Down u n) = same_vat v u
is_down_of v e = false

abbrev pub went_down_in : Vat → List JournalEntry → Bool
went_down_in v h = list_any (is_down_of v) h

-- Why a vat goes down with that number: a shut with that number; or no shut, but want of room or memory, a call that would
-- have to wait where no more may, or the Abort of the other vat, which was down before.
pub data FallsFor (shut : Option ℕ) (before : List JournalEntry) (v : Vat) (n : ℕ) : Type 0 where
  ByShut : shut ≡ Some n → FallsFor shut before v n
  ForRoom : shut ≡ None → n ≡ want_of_room → FallsFor shut before v n
  ForHeld : shut ≡ None → n ≡ held_past_limit → FallsFor shut before v n
  ByPeer : shut ≡ None → n ≡ peer_abort → went_down_in (other_vat v) before ≡ true → FallsFor shut before v n

-- It goes down once.
pub record Falls (xs : List Happening) (h : History) (v : Vat) (n : ℕ) : Type 0 where
  pub once : went_down_in v h.journal ≡ false
  pub why : FallsFor (shut_number v xs) h.journal v n

abbrev pub IfFalls : List Happening → History → JournalEntry → Type 0
IfFalls xs h (entry.Down v n) = Falls xs h v n
IfFalls xs h e = Unit {0}

-- A shut that took a vat down has its entry.
abbrev pub ShutsAreTold : List Happening → List JournalEntry → Type 0
ShutsAreTold xs h = (v : Vat) → was_shut v xs ≡ true → went_down_in v h ≡ true

-- So it is of each that went down, and each that a shut took down has its entry.
pub record FallsAreKnown (xs : List Happening) (h : History) : Type 0 where
  pub falls : Upto (IfFalls xs) h
  pub shuts : ShutsAreTold xs h.journal

-- ---- Over every run

abbrev pub object_number : Option ObjectId → Option ℕ
object_number None = None
object_number (Some o) = Some o.0

abbrev pub history : Option ObjectId → Option ObjectId → List JournalEntry → History
history root_a root_b h = record { journal = h; root_a = object_number root_a; root_b = object_number root_b }

-- What is claimed of a world, its history and what happened.
pub record IsSound (h : History) (xs : List Happening) (w : World) : Type 0 where
  -- the headline
  pub in_order : IsInOrder h.journal
  pub numbered : AreNumbered h.journal
  pub to_one : IsToOne h
  pub in_full : IsInFull h w
  pub quiet : IsQuietWhenDown h.journal
  pub counts : CountsAgree w
  -- what its words rest on
  pub means_one : MeansOne h
  pub idle : IdleIsNonePending w
  -- what is delivered, what ends calls, and why vats go down
  pub in_time : IsInTime h
  pub ends : EndsAreSo h
  pub falls : FallsAreKnown xs h

-- Of every world that events lead to from two new vats, whatever their bootstrap objects.
abbrev pub EveryRun : (History → List Happening → World → Type 0) → Type 0
EveryRun P = (root_a root_b : Option ObjectId) (xs : List Happening) (w : World) → Run (new_world root_a root_b) xs w → P (history root_a root_b (journal xs)) xs w

abbrev pub EveryRunIsSound : Type 0
EveryRunIsSound = EveryRun IsSound

-- A run leads to this world with this journal.
pub record IsReached (w : Journaled) : Type 0 where
  pub root_a : Option ObjectId
  pub root_b : Option ObjectId
  pub happened : List Happening
  pub ran : Run (new_world root_a root_b) happened w.world
  pub told : w.journal ≡ journal happened
