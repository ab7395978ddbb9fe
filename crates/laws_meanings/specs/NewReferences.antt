-- The references that a delivery or an end gives are new: they come from nowhere before, and each is given once.
use Rattle.std.specs.Prelude.{Option}
use Rattle.rpc_msg.specs.declared.ids.ObjectId.{ObjectId}
use Rattle.rpc_journal.specs.declared.entry.JournalEntry.{JournalEntry}
use Rattle.rpc_journal.specs.declared.entry.JournalEntry.TheVariants as entry
use Rattle.rpc_journal.specs.History.{refs_at}
use Rattle.rpc_journal.specs.Meaning.{History}
use Rattle.rpc_machine.specs.Claims.{AreNew, Upto, history}
use Rattle.laws_runs.specs.Scenes.{Scene, IsScene}

abbrev pub IfGives : History → JournalEntry → Type 0
IfGives h (entry.Delivered v d) = AreNew h.journal (refs_at v d.refs)
IfGives h (entry.Ended v x) = AreNew h.journal (refs_at v x.refs)
IfGives h e = Unit {0}

-- So in each scene, in the history up to it.
abbrev pub GivenAreNew : Type 0
GivenAreNew = (root_a root_b : Option ObjectId) (x : Scene) → IsScene root_a root_b x → Upto IfGives (history root_a root_b x.journal)
