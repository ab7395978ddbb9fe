-- Which line of a text that is no trace is at fault, and how (docs/trace.md, "Traces as files").
use Rattle.std.specs.Prelude.{ℕ, ◌≡◌, ◌⊎◌, ◌+◌, Option, Some, None, List, [], ◌∷◌, take}
use Rattle.std.specs.List.{slice_get}
use Rattle.serde_json.specs.Data.{Data}
use Rattle.serde_json.specs.Read.{read}
use Rattle.rpc_journal.specs.declared.entry.JournalEntry.{JournalEntry}
use Rattle.trace_write.specs.declared.version.TraceVersion.{TraceVersion}
use Rattle.trace_json.specs.declared.fault.TraceFault.{TraceFault}
use Rattle.trace_json.specs.declared.fault.TraceFault.TheVariants as fault
use Rattle.trace_write.specs.Values.{head_of, head_data}
use Rattle.trace_json.specs.Faults.{IsFault, IsVersionFault}
use Rattle.trace_file.specs.declared.fault.FileFault.{FileFault}
use Rattle.trace_file.specs.declared.fault.FileFault.TheVariants as file
use Rattle.trace_file.specs.Lines.{lines_of}
use Rattle.trace_file.specs.Traces.{AreEntryLines}

-- A head of any version.
abbrev pub IsHead : Option Data → Type 0
IsHead o = (n : ℕ) × (o ≡ Some (head_of n))

-- The fault of a line behind the first: a head of any version has a wrong shape there.
abbrev pub IsLaterFault : TraceVersion → TraceFault → Option Data → Type 0
IsLaterFault version fault.Memory o = Unit {0}
IsLaterFault version fault.NotJson o = IsFault version fault.NotJson o
IsLaterFault version fault.WrongShape o = IsFault version fault.WrongShape o ⊎ IsHead o
IsLaterFault version fault.BadBase64 o = IsFault version fault.BadBase64 o
IsLaterFault version fault.BadPayload o = IsFault version fault.BadPayload o
IsLaterFault version fault.Version o = ⊥

-- Of the lines behind the first, those in front of that one say entries, and it has that fault, which is no want of memory.
pub record IsFaultAt (version : TraceVersion) (lines : List (List ℕ)) (number : ℕ) (f : TraceFault) : Type 0 where
  pub index : ℕ
  pub counted : number ≡ index + 2
  pub before : List JournalEntry
  pub said : AreEntryLines version (take index lines) before
  pub line : List ℕ
  pub there : slice_get lines index ≡ Some line
  pub named : ¬ (f ≡ fault.Memory)
  pub wrong : IsLaterFault version f (read line)

abbrev pub IsEntriesFault : TraceVersion → List (List ℕ) → FileFault → Type 0
IsEntriesFault version lines file.Memory = Unit {0}
IsEntriesFault version lines (file.Line number f) = IsFaultAt version lines number f

-- The first line is no head, or a later one is at fault.
abbrev pub IsLinesFault : List (List ℕ) → FileFault → Type 0
IsLinesFault lines file.Memory = Unit {0}
IsLinesFault [] (file.Line number f) = (number ≡ 1) × (f ≡ fault.WrongShape)
IsLinesFault (first ∷ rest) (file.Line number f) =
    ((number ≡ 1) × (¬ (f ≡ fault.Memory)) × IsVersionFault f (read first))
    ⊎ ((version : TraceVersion) × (read first ≡ Some (head_data version)) × IsFaultAt version rest number f)

-- The fault of a text that is no trace.
abbrev pub IsFileFault : List ℕ → FileFault → Type 0
IsFileFault trace f = IsLinesFault (lines_of trace) f
