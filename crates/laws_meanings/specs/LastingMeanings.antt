-- What nodes mean at a vat is so in a longer history. What a step delivers and ends is written behind it; then the history
-- says itself where the references come from that these give.
use Rattle.std.specs.Prelude.{◌≡◌, Option, List, ◌∷◌, ◌++◌}
use Rattle.rpc_msg.specs.declared.ids.Vat.{Vat}
use Rattle.rpc_msg.specs.declared.ids.ObjectId.{ObjectId}
use Rattle.rpc_journal.specs.declared.entry.JournalEntry.{JournalEntry}
use Rattle.rpc_journal.specs.Meaning.{History}
use Rattle.rpc_machine.specs.declared.command.Effects.{Effects}
use Rattle.rpc_machine.specs.State.{State}
use Rattle.rpc_machine.specs.Progress.{quiet}
use Rattle.rpc_machine.specs.Journal.{effect_entries}
use Rattle.rpc_machine.specs.Claims.{history}
use Rattle.laws_acts.specs.Moments.{Moment}
use Rattle.laws_runs.specs.Meanings.{with_more}
use Rattle.laws_runs.specs.Scenes.{Scene, IsScene}
use Rattle.laws_meanings.specs.NodeMeanings.{IfLedToObject, IfLedToBroken}
use Rattle.laws_meanings.specs.NodeLabels.{Labels, AreLed, EndsAreLed, Places, MomentMeans}

abbrev pub PlacesLast : Type 0
PlacesLast = (h : History) (more : List JournalEntry) (v : Vat) (l : Labels) (e : Effects) (s : State) → Places h v l e s → Places (with_more h more) v l e s

abbrev pub MomentsLast : Type 0
MomentsLast = (h : History) (more : List JournalEntry) (v : Vat) (l : Labels) (d : Moment) → MomentMeans h v l d → MomentMeans (with_more h more) v l d

-- At the end of a step of a scene, with what its effects write: nothing is known by the effects alone any more.
abbrev pub EffectsAreWritten : Type 0
EffectsAreWritten =
    (root_a root_b : Option ObjectId) (x : Scene) (h : List JournalEntry) (v : Vat) (l : Labels) (e : Effects) (s : State)
    → IsScene root_a root_b x → x.journal ≡ h ++ effect_entries v e → Places (history root_a root_b h) v l e s
    → Places (history root_a root_b x.journal) v l quiet s

-- And each of these entries is as what leads to an object, or to broken, says; with the history up to it.
abbrev pub EntriesAreLed : Type 0
EntriesAreLed =
    (root_a root_b : Option ObjectId) (h before behind : List JournalEntry) (v : Vat) (e : Effects) (y : JournalEntry)
    → AreLed (history root_a root_b h) v e.deliveries → EndsAreLed (history root_a root_b h) v e.answers
    → effect_entries v e ≡ before ++ y ∷ behind
    → IfLedToObject (history root_a root_b (h ++ before)) y × IfLedToBroken (history root_a root_b (h ++ before)) y
