-- A call ends as its delivery was answered; where it was not answered, broken with a reason (docs/history.md, "Calls").
use Rattle.std.specs.Prelude.{◌≡◌, ◌⊎◌, ℕ, Option, None, Some, List, length}
use Rattle.rpc_msg.specs.declared.ids.Stamp.{Stamp}
use Rattle.rpc_msg.specs.declared.ids.ObjectId.{ObjectId}
use Rattle.rpc_journal.specs.declared.report.Outcome.{Outcome}
use Rattle.rpc_journal.specs.declared.report.Outcome.TheVariants as outcome
use Rattle.rpc_journal.specs.declared.entry.JournalEntry.{JournalEntry}
use Rattle.rpc_journal.specs.declared.entry.JournalEntry.TheVariants as entry
use Rattle.rpc_journal.specs.History.{Reply, answer_of}
use Rattle.rpc_journal.specs.Sources.{Asking, OfBootstrap, OfCall, asking}
use Rattle.rpc_journal.specs.Meaning.{History}
use Rattle.rpc_machine.specs.declared.node.Reason.{Reason}
use Rattle.rpc_machine.specs.Routing.{failed, reason_text}
use Rattle.rpc_machine.specs.Claims.{Upto, history}
use Rattle.laws_runs.specs.Scenes.{Scene, IsScene}

-- It is what was answered to the call's task, with as many capabilities.
abbrev pub IsAnswered : List JournalEntry → Stamp → Outcome → ℕ → Type 0
IsAnswered h s x n = (r : Reply) × (answer_of h s ≡ Some r) × (x ≡ r.outcome) × (n ≡ length r.refs)

-- It is the exception of a broken capability, with its reason.
abbrev pub IsBroken : Outcome → ℕ → Type 0
IsBroken x n = (why : Reason) × (x ≡ outcome.Exception (failed (reason_text why))) × (n ≡ 0)

abbrev pub AnsweredOrBroken : List JournalEntry → Asking → Outcome → ℕ → Type 0
AnsweredOrBroken h OfBootstrap x n = Unit {0}
AnsweredOrBroken h (OfCall s) x n = IsAnswered h s x n ⊎ ((answer_of h s ≡ None) × IsBroken x n)

abbrev pub IfCallEnds : History → JournalEntry → Type 0
IfCallEnds h (entry.Ended v x) = (a : Asking) → asking h.journal v x.call.0 ≡ Some a → AnsweredOrBroken h.journal a x.outcome (length x.refs)
IfCallEnds h e = Unit {0}

-- So in each scene.
abbrev pub CallsEndAsAnswered : Type 0
CallsEndAsAnswered = (root_a root_b : Option ObjectId) (x : Scene) → IsScene root_a root_b x → Upto IfCallEnds (history root_a root_b x.journal)
