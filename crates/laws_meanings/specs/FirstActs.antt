-- What nodes mean behind the first act of each step in a scene.
use Rattle.std.specs.Prelude.{◌≡◌, ◌⊎◌, ℕ, false, Option, List, ◌++◌}
use Rattle.rpc_msg.specs.declared.ids.ObjectId.{ObjectId}
use Rattle.rpc_journal.specs.declared.entry.JournalEntry.{JournalEntry}
use Rattle.rpc_journal.specs.Meaning.{History}
use Rattle.rpc_machine.specs.Progress.{quiet}
use Rattle.rpc_machine.specs.Claims.{history}
use Rattle.rpc_machine.specs.World.{core}
use Rattle.laws_runs.specs.Scenes as scenes
use Rattle.laws_runs.specs.Scenes.{Scene, IsScene}
use Rattle.laws_meanings.specs.CommandMeanings.{OpensNothing, IsWritten, IsWrittenOpen}
use Rattle.laws_meanings.specs.NodeMeanings.{Meant}
use Rattle.laws_meanings.specs.NodeLabels.{Labels, Places}
use Rattle.laws_meanings.specs.MessageMeanings.{IsHeard, ImportsKept, with_imports}
use Rattle.laws_meanings.specs.NoneLost.{BeginningsMean}

-- Before a step nodes mean what the history says; and the history has the entry of its command, or its message says what it
-- should.
abbrev pub IsReady : History → (x new : Scene) → scenes.Steps x new → Type 0
IsReady h x new (scenes.Commanded v c given told s o up r d w e) =
    (l : Labels) × Places h v l quiet (core x.world v) × ((OpensNothing c × IsWritten h v (core x.world v) c) ⊎ IsWrittenOpen h v (core x.world v) c)
IsReady h x new (scenes.Received v y ms told s o up i f d w e) =
    (l : Labels) × Places h v l quiet (core x.world v) × ((is : ℕ → Option Meant) × ImportsKept l (core x.world v) is × IsHeard h v (with_imports l is) (core x.world v) y)
IsReady h x new (scenes.GivesUp v c o r f e) = Unit {0}
IsReady h x new (scenes.Stops v o e) = Unit {0}

-- So they mean it behind its first act. The history may be that of any time, up to the step's end.
abbrev pub FirstActsFollow : Type 0
FirstActsFollow =
    (root_a root_b : Option ObjectId)
    → ((x new : Scene) (t : scenes.Steps x new) → IsScene root_a root_b x → x.over_a ≡ false → x.over_b ≡ false → (es : List JournalEntry) × (more : List JournalEntry) × (new.journal ≡ es ++ more) × IsReady (history root_a root_b es) x new t)
    → BeginningsMean root_a root_b
