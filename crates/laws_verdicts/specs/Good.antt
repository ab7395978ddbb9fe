-- What the verdict says of the journal of two vats (docs/trace.md, "The verdict").
use Rattle.std.specs.Prelude.{◌≡◌, Bool, false, List, ◌∷◌, ◌++◌, length, filter}
use Rattle.rpc_journal.specs.declared.entry.JournalEntry.{JournalEntry}
use Rattle.rpc_journal.specs.declared.entry.JournalEntry.TheVariants as entry
use Rattle.rpc_check.specs.declared.verdict.Verdict.TheVariants.{Good}
use Rattle.rpc_check.specs.Breaches.{breaks_order, gets_nothing, acts_after_down, miscounts, is_delivered, verdict_of}
use Rattle.laws_verdicts.specs.Recorded.{EveryRecorded}

-- No entry breaks this law, by the entries before it.
abbrev pub NoneBreaks : (List JournalEntry → JournalEntry → Bool) → List JournalEntry → Type 0
NoneBreaks breaks h = (before behind : List JournalEntry) (e : JournalEntry) → h ≡ before ++ e ∷ behind → breaks before e ≡ false

-- ---- The four laws

-- Each delivery is of the next call of its reference, at the place of the first.
abbrev pub EachIsInOrder : Type 0
EachIsInOrder = EveryRecorded (λ w. NoneBreaks breaks_order w.journal)

-- Whatever a vat receives, the other sent it before.
abbrev pub EachGotWasSent : Type 0
EachGotWasSent = EveryRecorded (λ w. NoneBreaks gets_nothing w.journal)

-- A vat that went down sends, delivers, answers and ends nothing.
abbrev pub NoneActsAfterDown : Type 0
NoneActsAfterDown = EveryRecorded (λ w. NoneBreaks acts_after_down w.journal)

-- Where counts are noted while both vats are up, each count of an export is that of the other's import with what the journal shows
-- as sent and not received.
abbrev pub NotedCountsAgree : Type 0
NotedCountsAgree = EveryRecorded (λ w. NoneBreaks miscounts w.journal)

-- ---- The verdict

-- It is good, with the number of the deliveries.
abbrev pub IsGood : List JournalEntry → Type 0
IsGood h = verdict_of h ≡ Good (length (filter is_delivered h))

-- So it is of each journal that recorded two vats, and with a head in front.
abbrev pub EveryVerdictIsGood : Type 0
EveryVerdictIsGood = EveryRecorded (λ w. IsGood w.journal)

abbrev pub EveryHeadedVerdictIsGood : Type 0
EveryHeadedVerdictIsGood = EveryRecorded (λ w. IsGood (entry.Head ∷ w.journal))
