-- What is promised of two vats with their journal (docs/protocol.md, "What is promised"): of each world to which a run of two
-- new vats of level 1 leads.
use Rattle.std.specs.Prelude.{◌≡◌, ◌⊎◌, ℕ, Bool, true, false, None, Option, Some, is_some, List, ◌∷◌, ◌++◌}
use Rattle.rpc_msg.specs.declared.ids.Vat.{Vat}
use Rattle.rpc_msg.specs.declared.message.Message.{Message}
use Rattle.rpc_msg.specs.Vats.{other_vat}
use Rattle.rpc_journal.specs.declared.entry.JournalEntry.{JournalEntry}
use Rattle.rpc_journal.specs.declared.entry.JournalEntry.TheVariants as entry
use Rattle.rpc_journal.specs.History.{Ref, all_that, deliveries}
use Rattle.rpc_journal.specs.Meaning.{History, Meaning, StandsFor}
use Rattle.rpc_machine.specs.Claims.{AreNumbered, BothUp, CountsAgree, EndsAreSo, IsInFull, IsInTime, IsSound, IdleIsNonePending, IsInOrder, IsQuietWhenDown, IsReached, IsToOne, MeansOne, history, object_number, went_down_in}
use Rattle.rpc_machine.specs.Faults.{fault_of}
use Rattle.rpc_machine.specs.Numbers.{held_past_limit, peer_abort, want_of_room}
use Rattle.rpc_machine.specs.World.{Happening, Happens, World, core, inbox, was_shut}
use Rattle.laws_runs.specs.SoundScenes.{MayFault}
use Rattle.laws_messages.specs.Left.{IsLastWord}
use Rattle.laws_scenes.specs.InFull.{ArriveInFull}
use Rattle.laws_scenes.specs.Ordered.{AreAtOne}

-- ---- The journal

abbrev pub but_tables : JournalEntry → Option JournalEntry
but_tables (entry.Tables a b) = None
but_tables e = Some e

-- The entries but those of counts, whose writing is no event.
abbrev pub events_of : List JournalEntry → List JournalEntry
events_of h = all_that but_tables h

-- ---- The promises, each of a journal, of which vats a shut took down, or of a world

-- By which references stand for something: the journal, and the bootstrap objects of both vats.
abbrev pub history_of : List JournalEntry → World → History
history_of h w = record { journal = h; root_a = object_number w.a.core.bootstrap; root_b = object_number w.b.core.bootstrap }

-- What a reference stands for by the entries up to any moment, it stands for by those behind too.
abbrev pub MeansForGood : History → Type 0
MeansForGood h = (before behind : List JournalEntry) → h.journal ≡ before ++ behind → (r : Ref) (x : Meaning) → StandsFor (record h { journal = before }) r x → StandsFor h r x

-- All deliveries of a reference are at one object of one vat.
abbrev pub AreEachAtOne : List JournalEntry → Type 0
AreEachAtOne h = (r : Ref) → AreAtOne (deliveries h r)

-- While both vats are up: where one call of a reference was delivered and none is held or on its way, all were delivered.
abbrev pub AreInFull : List JournalEntry → World → Type 0
AreInFull h w = BothUp w → ArriveInFull h w

-- A vat that is up refuses no message of the other but the Abort of one that is down, and a call that would have to wait where
-- no more may.
abbrev pub RefusesNothing : World → Type 0
RefusesNothing w = (v : Vat) (m : Message) (ms : List Message) → (core w v).down ≡ None → inbox w v ≡ m ∷ ms → IsLastWord w v m ⊎ MayFault (fault_of (core w v) m)

-- Why a vat went down with that number: its application shut it; or nobody did, and it wanted room or memory, a call would have
-- had to wait where no more may, or the other vat was down before and said so. (That a shut has its number is said of the run,
-- which knows the shut: `FallsFor` of the claims.)
pub data GoesDownFor (shut : Bool) (before : List JournalEntry) (v : Vat) (n : ℕ) : Type 0 where
  ItsShut : shut ≡ true → GoesDownFor shut before v n
  WantOfRoom : shut ≡ false → n ≡ want_of_room → GoesDownFor shut before v n
  TheLimit : shut ≡ false → n ≡ held_past_limit → GoesDownFor shut before v n
  TheOther : shut ≡ false → n ≡ peer_abort → went_down_in (other_vat v) before ≡ true → GoesDownFor shut before v n

-- It went down once, and for that.
pub record GoesDown (shut : Bool) (before : List JournalEntry) (v : Vat) (n : ℕ) : Type 0 where
  pub once : went_down_in v before ≡ false
  pub why : GoesDownFor shut before v n

-- So it is of each that went down, and each that a shut took down has its entry. So what one vat does takes the other down with 31,
-- 33 or 34 alone, and with 34 only where it was down before.
pub record DownsAreKnown (shut : Vat → Bool) (h : List JournalEntry) : Type 0 where
  pub each : (v : Vat) (n : ℕ) (before behind : List JournalEntry) → h ≡ before ++ entry.Down v n ∷ behind → GoesDown (shut v) before v n
  pub shuts : (v : Vat) → shut v ≡ true → went_down_in v h ≡ true

-- A vat is down exactly where its entry says so.
abbrev pub DownsAreTold : List JournalEntry → World → Type 0
DownsAreTold h w = (v : Vat) → went_down_in v h ≡ is_some (core w v).down

pub record IsPromised (h : List JournalEntry) (shut : Vat → Bool) (w : World) : Type 0 where
  -- the calls delivered through a reference are a beginning of those made through it, in order; no two of these have one stamp,
  -- so each is delivered once; all are at one object; and once one was delivered, all are where none is pending
  pub in_order : IsInOrder h
  pub numbered : AreNumbered h
  pub at_one : AreEachAtOne h
  pub in_full : AreInFull h w
  -- a reference stands for one thing at most, for good; the object is the one for which it stands; and where it stands for an
  -- object, all of its calls are delivered where none is pending, also if none was before
  pub means_one : MeansOne (history_of h w)
  pub lasting : MeansForGood (history_of h w)
  pub to_one : IsToOne (history_of h w)
  pub none_lost : IsInFull (history_of h w) w
  -- what is delivered is what was made, with one new reference for each that was sent, at the object for which the reference stands in
  -- its time; and a call ends once, as it was answered, or as its reference stands for broken
  pub as_made : IsInTime (history_of h w)
  pub ends : EndsAreSo (history_of h w)
  -- nothing is delivered by a vat after it went down
  pub quiet : IsQuietWhenDown h
  -- each count of an export is what the other vat holds of it and what is on its way, while neither is down
  pub counts : CountsAgree w
  -- no check refuses an honest message but for the limit of waiting calls; and why a vat went down
  pub unrefused : RefusesNothing w
  pub downs : DownsAreKnown shut h
  pub told : DownsAreTold h w
  -- and whether a call is pending can be asked
  pub idle : IdleIsNonePending w

-- ---- The law

-- The journal tells a run that leads to the world, and between its events the counts of both vats as often as they were asked for;
-- and of each vat is told whether a shut took it down.
abbrev pub WorldsKeepPromises : Type 0
WorldsKeepPromises =
    (h : List JournalEntry) (shut : Vat → Bool) (w : World) (run : IsReached (record { world = w; journal = events_of h }))
    → ((v : Vat) → shut v ≡ was_shut v run.happened) → IsPromised h shut w

-- All that is promised of runs (`IsSound`) is so of each such world, with its journal.
abbrev pub WorldsAreSound : Type 0
WorldsAreSound = (h : List JournalEntry) (w : World) (run : IsReached (record { world = w; journal = events_of h })) → IsSound (history run.root_a run.root_b h) run.happened w

-- Its vats have the bootstrap objects with which they began, and each event leaves them.
abbrev pub BootstrapsStay : Type 0
BootstrapsStay = (h : List JournalEntry) (w : World) (run : IsReached (record { world = w; journal = events_of h })) → history run.root_a run.root_b h ≡ history_of h w

abbrev pub EventsLeaveBootstraps : Type 0
EventsLeaveBootstraps = (w : World) (x : Happening) (new : World) → Happens w x new → (v : Vat) → (core new v).bootstrap ≡ (core w v).bootstrap
