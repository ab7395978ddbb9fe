-- Calls keep their order: of each scene, and of each run (docs/protocol.md, "What is promised").
use Rattle.std.specs.Prelude.{◌≡◌, Option, List, [], ◌∷◌, All}
use Rattle.rpc_msg.specs.declared.ids.ObjectId.{ObjectId}
use Rattle.rpc_journal.specs.declared.entry.JournalEntry.{JournalEntry}
use Rattle.rpc_journal.specs.History.{DeliveredAt, Ref, deliveries}
use Rattle.rpc_machine.specs.Claims.{EveryRun, IsInOrder}
use Rattle.laws_runs.specs.Scenes.{Scene, IsScene}

-- They are at one object of one vat.
abbrev pub IsWhere : DeliveredAt → DeliveredAt → Type 0
IsWhere d e = (e.vat ≡ d.vat) × (e.delivery.object.0 ≡ d.delivery.object.0)

abbrev pub AreAtOne : List DeliveredAt → Type 0
AreAtOne [] = Unit {0}
AreAtOne (d ∷ ds) = All (IsWhere d) ds

-- The calls delivered of each reference are a beginning of those made through it, in order, and all at one object.
pub record IsOrdered (h : List JournalEntry) : Type 0 where
  pub in_order : IsInOrder h
  pub at_one : (r : Ref) → AreAtOne (deliveries h r)

abbrev pub ScenesAreOrdered : Type 0
ScenesAreOrdered = (root_a root_b : Option ObjectId) (x : Scene) → IsScene root_a root_b x → IsOrdered x.journal

-- So in every run.
abbrev pub RunsAreOrdered : Type 0
RunsAreOrdered = EveryRun (λ h xs w. IsOrdered h.journal)
