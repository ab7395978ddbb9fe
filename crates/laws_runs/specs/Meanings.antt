-- What a reference stands for it goes on to stand for, and it stands for nothing else (docs/history.md, "Meanings last").
use Rattle.std.specs.Prelude.{List, ◌++◌}
use Rattle.rpc_journal.specs.declared.entry.JournalEntry.{JournalEntry}
use Rattle.rpc_journal.specs.History.{Ref}
use Rattle.rpc_journal.specs.Meaning.{History, Meaning, StandsFor}
use Rattle.rpc_machine.specs.Claims.{IsToOne, MeansOne, IsInTime}

-- The history with these entries behind its own.
abbrev pub with_more : History → List JournalEntry → History
with_more h more = record h { journal = h.journal ++ more }

-- Where each delivery is to an object that its reference stands for, later entries change no meaning,
abbrev pub MeaningsLast : Type 0
MeaningsLast = (h : History) (more : List JournalEntry) → IsToOne h → (r : Ref) (x : Meaning) → StandsFor h r x → StandsFor (with_more h more) r x

-- and a reference stands for one thing at most.
abbrev pub MeaningsAreOne : Type 0
MeaningsAreOne = (h : History) → IsToOne h → MeansOne h

-- It is enough that each delivery is to such an object in the history up to it.
abbrev pub InTimeIsToOne : Type 0
InTimeIsToOne = (h : History) → IsInTime h → IsToOne h
