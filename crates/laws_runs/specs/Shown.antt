-- Each run is shown by a scene (docs/protocol.md, "Scenes"), and each scene shows a run.
use Rattle.std.specs.Prelude.{◌≡◌, Option, List}
use Rattle.rpc_msg.specs.declared.ids.ObjectId.{ObjectId}
use Rattle.rpc_journal.specs.declared.entry.JournalEntry.{JournalEntry}
use Rattle.rpc_machine.specs.World.{World, Happening, Run, new_world}
use Rattle.rpc_machine.specs.Journal.{journal}
use Rattle.rpc_machine.specs.Claims.{BothUp}
use Rattle.laws_runs.specs.Scenes.{Scene, IsScene, Shows}

-- Every run is shown by a scene to which two new vats come.
abbrev pub EveryRunIsShown : Type 0
EveryRunIsShown =
    (root_a root_b : Option ObjectId) (xs : List Happening) (w : World)
    → Run (new_world root_a root_b) xs w → (x : Scene) × IsScene root_a root_b x × Shows x (journal xs) w

-- Where neither vat is down it shows the world itself.
abbrev pub ShowsBothUp : Type 0
ShowsBothUp = (x : Scene) (h : List JournalEntry) (w : World) → Shows x h w → BothUp w → w ≡ x.world

-- Every scene shows a run. So no more is asked of scenes than what runs come to.
abbrev pub EverySceneShowsARun : Type 0
EverySceneShowsARun =
    (root_a root_b : Option ObjectId) (x : Scene)
    → IsScene root_a root_b x → (xs : List Happening) × (w : World) × Run (new_world root_a root_b) xs w × Shows x (journal xs) w

-- In no scene a vat is down.
abbrev pub ScenesAreUp : Type 0
ScenesAreUp = (root_a root_b : Option ObjectId) (x : Scene) → IsScene root_a root_b x → BothUp x.world

-- The world of each scene is one to which a run leads. So what holds of the cores of every run holds in scenes.
abbrev pub ScenesAreReached : Type 0
ScenesAreReached = (root_a root_b : Option ObjectId) (x : Scene) → IsScene root_a root_b x → (xs : List Happening) × Run (new_world root_a root_b) xs x.world
