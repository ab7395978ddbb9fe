-- No call is lost (docs/history.md, "Calls"): while neither vat gives up, each call that was made is at a place, or the
-- history leads its reference to broken.
use Rattle.std.specs.Prelude.{◌≡◌, ◌⊎◌, ℕ, ◌+◌, ◌≤◌, false, Option, Some, List, [], ◌∷◌, ◌++◌}
use Rattle.rpc_msg.specs.declared.ids.Vat.{Vat}
use Rattle.rpc_msg.specs.declared.ids.ObjectId.{ObjectId}
use Rattle.rpc_msg.specs.declared.ids.Stamp.{Stamp}
use Rattle.rpc_journal.specs.declared.report.Delivery.{Delivery}
use Rattle.rpc_journal.specs.declared.entry.MadeCall.{MadeCall}
use Rattle.rpc_journal.specs.declared.entry.JournalEntry.{JournalEntry}
use Rattle.rpc_journal.specs.History.{Ref, same_stamp, caller, made, made_with, delivered}
use Rattle.rpc_journal.specs.Meaning.{History, ObjectAt, Broken, StandsFor}
use Rattle.rpc_machine.specs.declared.node.Node.{Node}
use Rattle.rpc_machine.specs.declared.calls.WaitingCall.{WaitingCall}
use Rattle.rpc_machine.specs.Claims.{IsToOne, history}
use Rattle.rpc_machine.specs.Pending.{pending}
use Rattle.rpc_machine.specs.World.{core}
use Rattle.laws_acts.specs.Moments.{Moment, beginning}
use Rattle.laws_acts.specs.FirstActs.{Starts}
use Rattle.laws_acts.specs.MessageActs.{Consumes}
use Rattle.laws_acts.specs.SmallActs.{Acts}
use Rattle.laws_runs.specs.Scenes as scenes
use Rattle.laws_runs.specs.Scenes.{Scene, IsScene}
use Rattle.laws_meanings.specs.OnePlace.{counted, is_call, waiting, on_way, places}
use Rattle.laws_meanings.specs.NodeMeanings.{Itself, OfRef, Leads}
use Rattle.laws_meanings.specs.NodeLabels.{Labels, MomentMeans}

-- How often a call with that stamp is there at a moment of a step.
module _ (s : Stamp) where
  abbrev pub in_yet : List (WaitingCall × Node) → ℕ
  in_yet [] = 0
  in_yet (x ∷ xs) = is_call s x.0 + in_yet xs

  abbrev pub in_deliveries : List Delivery → ℕ
  in_deliveries [] = 0
  in_deliveries (d ∷ ds) = counted (same_stamp s d.stamp) + in_deliveries ds

  -- It waits, is to be routed, was sent or was delivered.
  abbrev pub here : Moment → ℕ
  here d = waiting s d.state + in_yet d.yet + (on_way s d.effects.sends + in_deliveries d.effects.deliveries)

-- The history leads the call's reference to broken.
abbrev pub IsToBroken : History → Stamp → Type 0
IsToBroken h s = Leads h (Itself Broken) (OfRef (caller s))

-- The small acts of a step lose no other call.
abbrev pub ActsLoseNone : Type 0
ActsLoseNone = (h : History) (v : Vat) (l : Labels) (d last : Moment) → Acts last d → MomentMeans h v l d → (s : Stamp) → (here s d ≤ here s last) ⊎ IsToBroken h s

-- ---- In scenes

-- The first act of a step, at its vat. One that gives up has none.
abbrev pub IsFirstAct : (x new : Scene) → scenes.Steps x new → Vat → Moment → Type 0
IsFirstAct x new (scenes.Commanded v c given told s o up r d w e) u m = (u ≡ v) × Starts (beginning (core x.world v)) c given m
IsFirstAct x new (scenes.Received v y ms told s o up i f d w e) u m = (u ≡ v) × Consumes (beginning (core x.world v)) y m
IsFirstAct x new (scenes.GivesUp v c o r f e) u m = ⊥
IsFirstAct x new (scenes.Stops v o e) u m = ⊥

-- While neither vat gave up, nodes mean behind the first act of each step what the history says: up to some entry, at the
-- latest that at the step's end.
abbrev pub BeginningsMean : Option ObjectId → Option ObjectId → Type 0
BeginningsMean root_a root_b =
    (x new : Scene) (t : scenes.Steps x new) (v : Vat) (m : Moment)
    → IsScene root_a root_b x → x.over_a ≡ false → x.over_b ≡ false → IsFirstAct x new t v m
    → (es : List JournalEntry) × (more : List JournalEntry) × (new.journal ≡ es ++ more) × (l : Labels) × MomentMeans (history root_a root_b es) v l m

-- Then each call that was made is at a place in each scene, or its reference leads to broken.
abbrev pub CallsAreSomewhere : Type 0
CallsAreSomewhere =
    (root_a root_b : Option ObjectId) (x : Scene) (s : Stamp) (m : MadeCall)
    → BeginningsMean root_a root_b → IsScene root_a root_b x → x.over_a ≡ false → x.over_b ≡ false → made_with x.journal s ≡ Some m
    → (places s x ≡ 1) ⊎ IsToBroken (history root_a root_b x.journal) s

-- So of a reference that stands for an object no call is lost: where none is pending and none was delivered, none was made.
abbrev pub ObjectsLoseNone : Type 0
ObjectsLoseNone =
    (root_a root_b : Option ObjectId) (x : Scene) (r : Ref) (v : Vat) (o : ℕ)
    → BeginningsMean root_a root_b → IsScene root_a root_b x → x.over_a ≡ false → x.over_b ≡ false
    → IsToOne (history root_a root_b x.journal) → StandsFor (history root_a root_b x.journal) r (ObjectAt v o)
    → pending x.world r ≡ [] → delivered x.journal r ≡ [] → made x.journal r ≡ []
