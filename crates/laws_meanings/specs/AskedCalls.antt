-- What ends was asked: a call or a Bootstrap with that number is in the history up to it.
use Rattle.std.specs.Prelude.{◌≡◌, Option, Some}
use Rattle.rpc_msg.specs.declared.ids.ObjectId.{ObjectId}
use Rattle.rpc_journal.specs.declared.entry.JournalEntry.{JournalEntry}
use Rattle.rpc_journal.specs.declared.entry.JournalEntry.TheVariants as entry
use Rattle.rpc_journal.specs.Sources.{Asking, asking}
use Rattle.rpc_journal.specs.Meaning.{History}
use Rattle.rpc_machine.specs.Claims.{Upto, history}
use Rattle.laws_runs.specs.Scenes.{Scene, IsScene}

abbrev pub IfAsked : History → JournalEntry → Type 0
IfAsked h (entry.Ended v x) = (a : Asking) × (asking h.journal v x.call.0 ≡ Some a)
IfAsked h e = Unit {0}

abbrev pub EndsWereAsked : Type 0
EndsWereAsked = (root_a root_b : Option ObjectId) (x : Scene) → IsScene root_a root_b x → Upto IfAsked (history root_a root_b x.journal)
