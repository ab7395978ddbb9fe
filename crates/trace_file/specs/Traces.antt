-- What a trace says, and the text that says it (docs/trace.md, "Traces as files").
use Rattle.std.specs.Prelude.{ℕ, ◌≡◌, Some, List, [], ◌∷◌, ◌++◌}
use Rattle.serde_json.specs.Read.{read}
use Rattle.serde_json.specs.Written.{compact_text}
use Rattle.rpc_journal.specs.declared.entry.JournalEntry.{JournalEntry}
use Rattle.rpc_journal.specs.declared.entry.JournalEntry.TheVariants as entry
use Rattle.trace_write.specs.declared.version.TraceVersion.{TraceVersion}
use Rattle.trace_write.specs.Values.{value, head_data}
use Rattle.trace_write.specs.Fits.{Fits}
use Rattle.trace_file.specs.Lines.{lines_of}

-- Behind the first line stands no head.
abbrev pub IsNoHead : JournalEntry → Type 0
IsNoHead e = ¬ (e ≡ entry.Head)

-- A line behind the first that says that entry.
abbrev pub IsEntryLine : TraceVersion → List ℕ → JournalEntry → Type 0
IsEntryLine version line e = (read line ≡ Some (value version e)) × Fits version e × IsNoHead e

-- Lines that say those entries, in order.
abbrev pub AreEntryLines : TraceVersion → List (List ℕ) → List JournalEntry → Type 0
AreEntryLines version [] [] = Unit {0}
AreEntryLines version [] (e ∷ es) = ⊥
AreEntryLines version (line ∷ lines) [] = ⊥
AreEntryLines version (line ∷ lines) (e ∷ es) = IsEntryLine version line e × AreEntryLines version lines es

-- The first line is the head of that version, and each other one says an entry of it.
abbrev pub AreLines : List (List ℕ) → TraceVersion → List JournalEntry → Type 0
AreLines [] version es = ⊥
AreLines (first ∷ rest) version [] = ⊥
AreLines (first ∷ rest) version (e ∷ es) = (read first ≡ Some (head_data version)) × (e ≡ entry.Head) × AreEntryLines version rest es

-- The text says those entries in that version, a head first.
abbrev pub IsTrace : List ℕ → TraceVersion → List JournalEntry → Type 0
IsTrace trace version es = AreLines (lines_of trace) version es

-- From one state to another by these entries in order.
abbrev pub Follows : {S : Type 0} → (S → JournalEntry → S → Type 0) → S → List JournalEntry → S → Type 0
Follows takes s [] t = t ≡ s
Follows {S} takes s (e ∷ es) t = (mid : S) × takes s e mid × Follows takes mid es t

-- The text of an entry's line, with the newline that ends it.
abbrev pub line_text : TraceVersion → JournalEntry → List ℕ
line_text version e = compact_text (value version e) ++ 10 ∷ []

-- The text of entries in order.
abbrev pub trace_text : TraceVersion → List JournalEntry → List ℕ
trace_text version [] = []
trace_text version (e ∷ es) = line_text version e ++ trace_text version es
