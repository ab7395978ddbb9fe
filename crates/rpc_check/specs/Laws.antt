-- What the definitions of the verdict mean.
use Rattle.std.specs.Prelude.{◌≡◌, ◌↔◌, ◌⊎◌, ℕ, true, None, Some, List, ◌∷◌, ◌++◌, length, filter}
use Rattle.rpc_journal.specs.declared.entry.JournalEntry.{JournalEntry}
use Rattle.rpc_check.specs.declared.verdict.Verdict.TheVariants.{Good}
use Rattle.rpc_check.specs.Counts.{CountsById, count_of, same_counts}
use Rattle.rpc_check.specs.Breaches.{breach, is_delivered, verdict_of}

-- Counts are the same where they give every id the same.
abbrev pub SameForEveryId : Type 0
SameForEveryId = (xs ys : CountsById) → (same_counts xs ys ≡ true) ↔ ((e : ℕ) → count_of e xs ≡ count_of e ys)

-- No entry breaks a law.
abbrev pub AllKeep : List JournalEntry → Type 0
AllKeep h = (before after : List JournalEntry) (e : JournalEntry) → h ≡ before ++ e ∷ after → breach before e ≡ None

-- An entry breaks the law that the verdict names, and no entry before it breaks any.
abbrev pub OneBreaks : List JournalEntry → Type 0
OneBreaks h = (before : List JournalEntry) × (e : JournalEntry) × (after : List JournalEntry) × (h ≡ before ++ e ∷ after) × AllKeep before × (breach before e ≡ Some (verdict_of h))

-- The verdict is good where no entry breaks a law, and counts the deliveries; else it is what the first such entry breaks.
abbrev pub VerdictIsFirst : Type 0
VerdictIsFirst = (h : List JournalEntry) → (AllKeep h × (verdict_of h ≡ Good (length (filter is_delivered h)))) ⊎ OneBreaks h
