-- Journals go on by one more, and runs are such journals.
use Rattle.std.proofs.Common.{List, [], ◌∷◌, refl, subst}
use Rattle.rpc_journal.specs.declared.entry.JournalEntry.{JournalEntry}
use Rattle.rpc_machine.specs.World.{World, Happening, Run}
use Rattle.rpc_machine.specs.Journal.{Journaled, journal_from}
use Rattle.laws_verdicts.specs.Recorded.{GoesOn, Happened, LeadsTo, NoMore, Then, RecordedGoOn, RunsAreRecorded, nothing_yet}

more : (old new first : Journaled) → LeadsTo old first → GoesOn old new → LeadsTo new first
more old new first NoMore g = Then g NoMore
more old new first (Then {mid = mid} h rest) g = Then h (more old new mid rest g)

pub go_on : RecordedGoOn
go_on a b old new k g = more old new (nothing_yet a b) k g

runs : (w : World) (h : List JournalEntry) (xs : List Happening) (end : World) → Run w xs end → LeadsTo (record { world = end; journal = journal_from h xs }) (record { world = w; journal = h })
runs w h [] end k = subst (λ (v : World). LeadsTo (record { world = end; journal = h }) (record { world = v; journal = h })) k NoMore
runs w h (x ∷ xs) end k = Then (Happened x k.1 refl) (runs k.0 (_) xs end k.2)

pub runs_recorded : RunsAreRecorded
runs_recorded a b xs w k = runs (nothing_yet a b).world [] xs w k
