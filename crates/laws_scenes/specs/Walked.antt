-- Between steps, in each scene: what is so of both vats, and the steps that lead there.
use Rattle.std.specs.Prelude.{◌≡◌, ℕ, Option, None, Some, List, length}
use Rattle.rpc_msg.specs.declared.ids.ObjectId.{ObjectId}
use Rattle.rpc_msg.specs.declared.ids.Vat.{Vat}
use Rattle.rpc_msg.specs.declared.ids.Vat.TheVariants.{A}
use Rattle.rpc_msg.specs.Vats.{other_vat}
use Rattle.rpc_journal.specs.declared.entry.JournalEntry.{JournalEntry}
use Rattle.rpc_journal.specs.declared.entry.JournalEntry.TheVariants as entry
use Rattle.rpc_journal.specs.History.{DeliveredAt, Ref, all_that, made}
use Rattle.rpc_machine.specs.declared.command.Level.TheVariants.{One}
use Rattle.rpc_machine.specs.State.{State, start}
use Rattle.rpc_machine.specs.World.{World, core, inbox}
use Rattle.laws_runs.specs.Scenes.{Scene, IsScene}
use Rattle.laws_routes.specs.Between.{Inside}
use Rattle.laws_routes.specs.ChainLaws.{Steps}
use Rattle.laws_routes.specs.Embargoes.{EmbargoesAreRight}
use Rattle.laws_routes.specs.Midway.{Midway}
use Rattle.laws_routes.specs.PairLaws.{beginning}
use Rattle.laws_routes.specs.Received.{IsMet}
use Rattle.laws_routes.specs.Ties.{Around}
use Rattle.laws_scenes.specs.Meeting.{OfBoth, OfOldest}

-- ---- What the journal tells

abbrev pub told_one : JournalEntry → Option DeliveredAt
told_one (entry.Delivered v d) = Some (record { vat = v; delivery = d })
told_one e = None

-- All deliveries, of whatever reference, in order.
abbrev pub all_told : List JournalEntry → List DeliveredAt
all_told h = all_that told_one h

-- The function counts the calls made through each reference.
abbrev pub Counts : (Ref → ℕ) → List JournalEntry → Type 0
Counts f h = (r : Ref) → f r ≡ length (made h r)

-- ---- Steps

-- The two vats, seen from v, with these calls made and delivered.
abbrev pub seen : World → (Ref → ℕ) → List DeliveredAt → Vat → Around
seen w made told v = record { vat = v; other = core w (other_vat v); out = inbox w (other_vat v); back = inbox w v; made = made; delivered = told }

-- Steps in which all is so that the laws of routes take as known (`laws_routes`) lead there from two new vats.
abbrev pub Leads : Option ObjectId → Option ObjectId → Around → State → Type 0
Leads root_a root_b w s = Steps w s (beginning A One root_b) (start A One root_a)

-- ---- A scene

pub record IsBetweenSteps (root_a root_b : Option ObjectId) (x : Scene) : Type 0 where
  -- each vat alone is as the record of the middle of a step wants it, and its embargoes are right
  pub inside : (v : Vat) → Inside (core x.world v)
  pub right : (v : Vat) → EmbargoesAreRight (core x.world v)
  -- so that record is so of both
  pub midway : OfBoth (λ s other out back. Midway s other out back) x.world
  -- and all that is taken as known of the oldest message on its way
  pub met : OfOldest (λ s other out rest m. IsMet s other out rest m) x.world
  -- the steps that lead there make and deliver what the journal tells, seen from either vat
  pub made : Ref → ℕ
  pub counts : Counts made x.journal
  pub steps : (v : Vat) → Leads root_a root_b (seen x.world made (all_told x.journal) v) (core x.world v)

abbrev pub ScenesAreBetweenSteps : Type 0
ScenesAreBetweenSteps = (root_a root_b : Option ObjectId) (x : Scene) → IsScene root_a root_b x → IsBetweenSteps root_a root_b x
