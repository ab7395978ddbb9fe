-- A call ends once.
use Rattle.std.specs.Prelude.{◌≡◌, false, Option}
use Rattle.std.specs.List.{list_any}
use Rattle.rpc_msg.specs.declared.ids.ObjectId.{ObjectId}
use Rattle.rpc_journal.specs.declared.entry.JournalEntry.{JournalEntry}
use Rattle.rpc_journal.specs.declared.entry.JournalEntry.TheVariants as entry
use Rattle.rpc_journal.specs.Meaning.{History}
use Rattle.rpc_machine.specs.Claims.{is_end_of, Upto, history}
use Rattle.laws_runs.specs.Scenes.{Scene, IsScene}

abbrev pub IfFirst : History → JournalEntry → Type 0
IfFirst h (entry.Ended v x) = list_any (is_end_of v x.call.0) h.journal ≡ false
IfFirst h e = Unit {0}

-- So in each scene each end of a call is its first.
abbrev pub EndsAreFirst : Type 0
EndsAreFirst = (root_a root_b : Option ObjectId) (x : Scene) → IsScene root_a root_b x → Upto IfFirst (history root_a root_b x.journal)
