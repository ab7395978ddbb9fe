-- Two vats with the journal that recorded what happened, among whose entries are counts of both vats, noted wherever they were
-- asked for (docs/protocol.md, "Events and the journal").
use Rattle.std.specs.Prelude.{◌≡◌, Option, List, [], ◌∷◌, ◌++◌}
use Rattle.rpc_msg.specs.declared.ids.ObjectId.{ObjectId}
use Rattle.rpc_machine.specs.World.{Happening, Happens, Run, World, new_world, tables_entry}
use Rattle.rpc_machine.specs.Journal.{Journaled, event_entries, journal}
use Rattle.rpc_machine.specs.Claims.{IsReached}
use Rattle.laws_sound.specs.Promised.{events_of}

-- Two new vats of level 1, of which nothing was written.
abbrev pub nothing_yet : Option ObjectId → Option ObjectId → Journaled
nothing_yet root_a root_b = record { world = new_world root_a root_b; journal = [] }

-- An event happens, and its entries are behind those that were there; or the counts of both vats, as they are, are noted behind
-- them, and nothing happens.
pub data GoesOn (old new : Journaled) : Type 0 where
  Happened : (x : Happening) → Happens old.world x new.world → new.journal ≡ old.journal ++ event_entries old.journal x.event x.had_room x.answer → GoesOn old new
  CountsNoted : new ≡ record old { journal = old.journal ++ tables_entry old.world ∷ [] } → GoesOn old new

-- So one after the other, from the second to the first.
pub data LeadsTo (last : Journaled) : Journaled → Type 0 where
  NoMore : LeadsTo last last
  Then : {old mid : Journaled} → GoesOn old mid → LeadsTo last mid → LeadsTo last old

-- To this, with this journal, two new vats of level 1 with those bootstrap objects come.
abbrev pub IsRecorded : Option ObjectId → Option ObjectId → Journaled → Type 0
IsRecorded root_a root_b w = LeadsTo w (nothing_yet root_a root_b)

-- So it is of all of them, whatever they were commanded and whenever messages came and counts were noted.
abbrev pub EveryRecorded : (Journaled → Type 0) → Type 0
EveryRecorded P = (root_a root_b : Option ObjectId) (w : Journaled) → IsRecorded root_a root_b w → P w

-- ---- What these are

-- They go on by each event and by each noting.
abbrev pub RecordedGoOn : Type 0
RecordedGoOn = (root_a root_b : Option ObjectId) (old new : Journaled) → IsRecorded root_a root_b old → GoesOn old new → IsRecorded root_a root_b new

-- Each run leads to such vats, with its journal as it is without notings.
abbrev pub RunsAreRecorded : Type 0
RunsAreRecorded = (root_a root_b : Option ObjectId) (xs : List Happening) (w : World) → Run (new_world root_a root_b) xs w → IsRecorded root_a root_b (record { world = w; journal = journal xs })

-- But for what was noted, such a journal tells a run.
abbrev pub RecordedAreReached : Type 0
RecordedAreReached = EveryRecorded (λ w. IsReached (record { world = w.world; journal = events_of w.journal }))
