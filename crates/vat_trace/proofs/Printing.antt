-- From two vats that were put side by side to what is printed.
use Rattle.std.proofs.Common.{◌≡◌, ℕ, List, [], ◌∷◌, ◌++◌, append-nil, refl, sym, ap, subst, ◌∙◌}
use Rattle.rpc_journal.specs.declared.entry.JournalEntry.{JournalEntry}
use Rattle.rpc_journal.specs.declared.entry.JournalEntry.TheVariants as entry
use Rattle.rpc_machine.specs.World.{tables_entry}
use Rattle.rpc_machine.specs.Journal.{Journaled, journal}
use Rattle.script_language.specs.declared.line.Line.{Line}
use Rattle.trace_write.specs.declared.version.TraceVersion.TheVariants.{Two}
use Rattle.rpc_check.specs.declared.verdict.Verdict.{Verdict}
use Rattle.rpc_check.specs.declared.verdict.Verdict.TheVariants.{Good}
use Rattle.rpc_check.specs.Breaches.{verdict_of}
use Rattle.trace_file.specs.Traces.{trace_text}
use Rattle.laws_verdicts.specs.Good.{IsGood, EveryHeadedVerdictIsGood}
use Rattle.laws_verdicts.specs.Recorded.{IsRecorded, RunsAreRecorded, RecordedGoOn, CountsNoted}
use Rattle.link_logs.specs.Promises.{Pair, IsTold, happened_in, world_of}
use Rattle.vat_trace_lib.specs.declared.fault.ScriptFault.{ScriptFault}
use Rattle.vat_trace_lib.specs.declared.fault.ScriptFault.TheVariants as fault
use Rattle.vat_trace_lib.specs.Answers.{complaint, status_of}
use Rattle.vat_trace.specs.Pairs.{IsNoted, noted}
use Rattle.vat_trace.specs.Printed.{entries_of, PrintsBoth, SaysLines, FaultsLines, FaultsPair, PrintsPair}
use Rattle.vat_trace.specs.Answers.{PairsTo}

-- The check finds the journal good, with the counts at its end and a head in front.
noted_is_good : RunsAreRecorded → RecordedGoOn → EveryHeadedVerdictIsGood → (p : Pair) (h : List JournalEntry) → IsTold p h → IsGood (entries_of p h)
noted_is_good runs more good p h t =
    let old : Journaled = record { world = world_of p; journal = journal (happened_in p) } in
    let new : Journaled = record { world = world_of p; journal = noted p (journal (happened_in p)) } in
    let recorded = runs (p.start_a.core).bootstrap (p.start_b.core).bootstrap (happened_in p) (world_of p) t.ran in
    let now = more (p.start_a.core).bootstrap (p.start_b.core).bootstrap old new recorded (CountsNoted refl) in
    subst (λ (es : List JournalEntry). IsGood (entries_of p es)) (sym t.told) (good (p.start_a.core).bootstrap (p.start_b.core).bootstrap new now)

pub prints_both : RunsAreRecorded → RecordedGoOn → EveryHeadedVerdictIsGood
    → (p : Pair) (entries journal : List JournalEntry) (text : List ℕ) (verdict : Verdict)
    → IsNoted p entries → journal ≡ entries → text ≡ trace_text Two (entry.Head ∷ journal) → verdict ≡ verdict_of (entry.Head ∷ journal)
    → PrintsBoth p text verdict
prints_both runs more good p entries journal text verdict n same printed checked =
    let is : entry.Head ∷ journal ≡ entries_of p n.0 = ap (λ (es : List JournalEntry). entry.Head ∷ es) (same ∙ n.2) in
    (n.0, n.1, printed ∙ ap (trace_text Two) is, checked ∙ ap verdict_of is, noted_is_good runs more good p n.0 n.1)

-- The fault of a script whose lines were read.
pub faults_read : (script : List ℕ) (lines : List Line) (f : ScriptFault) → SaysLines script lines → FaultsLines lines f → FaultsPair script f
faults_read script lines (fault.Unnamed number e) said failed = (lines, said, failed)
faults_read script lines (fault.Line number e) said failed = absurd failed
faults_read script lines fault.NotText said failed = absurd failed
faults_read script lines fault.Memory said failed = tt

-- Nothing is said behind a trace, since its verdict is good; and the status is 0.
pub pairs_to : (script trace text : List ℕ) (verdict : Verdict) (status : ℕ)
    → PrintsPair script trace verdict → text ≡ trace ++ complaint verdict → status ≡ status_of verdict → PairsTo script text status
pairs_to script trace text verdict status prints is ends =
    let both = prints.2.4 in
    let good : verdict ≡ Good _ = both.3 ∙ both.4 in
    let same : text ≡ trace = is ∙ ap (λ (v : Verdict). trace ++ complaint v) good ∙ append-nil trace in
    record { verdict = verdict; prints = subst (λ (t : List ℕ). PrintsPair script t verdict) (sym same) prints; status_is = ends ∙ ap status_of good }
