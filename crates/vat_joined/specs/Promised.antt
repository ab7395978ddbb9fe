-- What is promised of two vats over bytes: of what the two applications did and were told, by the journal.
use Rattle.std.specs.Prelude.{◌≡◌, cond, true, false, Option, List, [], ◌∷◌, ◌++◌, map, flat_map, length, take}
use Rattle.rpc_msg.specs.declared.ids.ObjectId.{ObjectId}
use Rattle.rpc_msg.specs.declared.ids.Stamp.{Stamp}
use Rattle.rpc_msg.specs.declared.ids.Vat.{Vat}
use Rattle.rpc_journal.specs.declared.entry.JournalEntry.{JournalEntry}
use Rattle.rpc_journal.specs.History.{Ref, caller, made, same_ref, same_vat}
use Rattle.rpc_journal.specs.Meaning.{History}
use Rattle.rpc_machine.specs.World.{Happening, Run, World, core, new_world, was_shut}
use Rattle.rpc_machine.specs.Journal.{journal}
use Rattle.rpc_machine.specs.Claims.{IsBeginning, IsSound}
use Rattle.laws_sound.specs.Promised.{IsPromised, history_of}
use Rattle.laws_wired.specs.Wires.{TwoWorlds, world_at}
use Rattle.vat_host.specs.declared.event.Event.{Event}
use Rattle.vat_host.specs.declared.event.Event.TheVariants as event
use Rattle.vat_hosts.specs.Calls.{of_calls}
use Rattle.vat_hosts.specs.Hosts.{Done}
use Rattle.vat_hosts.specs.Worlds.{told_in}
use Rattle.laws_in_bytes.specs.Joined.{end}
use Rattle.laws_in_bytes.specs.Wired.{AreCutOff, done_of}
use Rattle.laws_joined.specs.Sound.{TwoTold, told_at}
use Rattle.vat_joined.specs.declared.entry.JoinedEntry.{JoinedEntry}
use Rattle.vat_joined.specs.declared.entry.JoinedEntry.TheVariants as entry
use Rattle.vat_joined.specs.Recorded.{IsReached, Recorded}

-- ---- what the journal says

-- the command of an entry, with its vat and what it granted
abbrev pub command_of : JoinedEntry → List Done
command_of (entry.Commanded v c granted) = record { vat = v; command = c; granted = granted } ∷ []
command_of (entry.Told v e) = []

-- what an entry says that the application of a vat was told of calls: a call to serve, or an own call that ended
abbrev pub told_of : Vat → JoinedEntry → List Event
told_of v (entry.Commanded u c granted) = []
told_of v (entry.Told u e) = cond (same_vat v u) (of_calls e) []

-- What the application of a vat was told of calls by the journal, and what it is still to be told of them.
abbrev pub told_to : Recorded → Vat → List Event
told_to w v = flat_map (told_of v) w.journal ++ flat_map of_calls (end w.joined v).speaker.host.events

-- ---- one world

-- What an application is told of calls is told alike to what a run of one world tells of its vat, one by one: calls differ in the stamp
-- and in how contents are laid out, with null in the place of capabilities that are broken; and an exception that says why a node is
-- broken may differ in its text. Behind that, once the vat is down, own calls that were open are told as cut off.
pub record IsToldAlike (told run : List Event) : Type 0 where
  pub both : List TwoTold
  pub cut : List Event
  pub cut_off : AreCutOff cut
  pub is : told ≡ map (told_at false) both ++ cut
  pub run_is : run ≡ map (told_at true) both

-- There is a run of two vats in one world. Its commands are those of the journal, in order, with the same answers. What each application
-- was told of calls, and is still to be told, is told alike to what the run tells of its vat. It leads to where both vats are, alike in
-- the same way: a vat is down in it exactly if it is down, with the same number.
pub record IsOneWorld (w : Recorded) : Type 0 where
  pub root_a : Option ObjectId
  pub root_b : Option ObjectId
  pub happened : List Happening
  pub worlds : TwoWorlds
  pub ran : Run (new_world root_a root_b) happened (world_at true worlds)
  pub commands : flat_map done_of happened ≡ flat_map command_of w.journal
  pub told : (v : Vat) → IsToldAlike (told_to w v) (flat_map (told_in v) happened)
  pub cores : (v : Vat) → core (world_at false worlds) v ≡ (end w.joined v).speaker.host.core

abbrev pub world_in : {w : Recorded} → IsOneWorld w → World
world_in one = world_at true one.worlds

-- its journal: what the two applications did and were told, with what went between their vats
abbrev pub journal_in : {w : Recorded} → IsOneWorld w → List JournalEntry
journal_in one = journal one.happened

-- by which references stand for something in it
abbrev pub history_in : {w : Recorded} → IsOneWorld w → History
history_in one = history_of (journal_in one) (world_in one)

-- All of that run is so that is promised of two vats in one world.
abbrev pub IsPromisedIn : {w : Recorded} → IsOneWorld w → Type 0
IsPromisedIn one = IsPromised (journal_in one) (λ v. was_shut v one.happened) (world_in one)

-- and with it, that a vat that was shut has the number of that shut
abbrev pub IsSoundIn : {w : Recorded} → IsOneWorld w → Type 0
IsSoundIn one = IsSound (history_in one) one.happened (world_in one)

-- ---- as it is told

-- the stamps of the calls to serve among what is told
abbrev pub served : List Event → List Stamp
served [] = []
served (event.Served d ∷ es) = d.stamp ∷ served es
served (e ∷ es) = served es

-- those of the calls that were made through a reference
abbrev pub through : Ref → List Stamp → List Stamp
through r [] = []
through r (s ∷ ss) = cond (same_ref r (caller s)) (s ∷ through r ss) (through r ss)

-- What the run tells so far of a vat: as much as its application was told by the journal. The rest it is still to be told.
abbrev pub told_so_far : {w : Recorded} → IsOneWorld w → Vat → List Event
told_so_far {w} one v = take (length (flat_map (told_of v) w.journal)) (flat_map (told_in v) one.happened)

-- Of the calls made through a reference, those that the application of a vat was told to serve are a beginning, in the order in which it was
-- told.
abbrev pub AreToldInOrder : {w : Recorded} → IsOneWorld w → Type 0
AreToldInOrder one = (r : Ref) (v : Vat) → IsBeginning (through r (served (told_so_far one v))) (made (journal_in one) r)

-- ---- the law

-- There is such a run; and of each, all is so that is promised.
pub record KeepsPromises (w : Recorded) : Type 0 where
  pub one_world : IsOneWorld w
  pub promised : (one : IsOneWorld w) → IsPromisedIn one
  pub sound : (one : IsOneWorld w) → IsSoundIn one
  pub as_told : (one : IsOneWorld w) → AreToldInOrder one

-- Whatever two connections do that are joined by two streams of bytes, however these are cut, and in whatever order the two are worked.
abbrev pub JoinedKeepPromises : Type 0
JoinedKeepPromises = (w : Recorded) → IsReached w → KeepsPromises w
