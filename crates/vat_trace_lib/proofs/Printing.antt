-- From what was played to what is printed.
use Rattle.std.proofs.Common.{◌≡◌, ℕ, List, ◌∷◌, ◌++◌, append-nil, Err, sym, ap, subst, ◌∙◌}
use Rattle.rpc_journal.specs.declared.entry.JournalEntry.{JournalEntry}
use Rattle.rpc_journal.specs.declared.entry.JournalEntry.TheVariants as entry
use Rattle.script_language.specs.declared.line.Line.{Line}
use Rattle.script_language.specs.declared.names.Names.{Names}
use Rattle.script_language.specs.Bindings.{no_names}
use Rattle.vat_world.specs.World.{Seen, shut, IsReached, KeepsPromises}
use Rattle.laws_sound.specs.Promised.{WorldsKeepPromises}
use Rattle.trace_write.specs.declared.version.TraceVersion.TheVariants.{Two}
use Rattle.rpc_check.specs.declared.verdict.Verdict.{Verdict}
use Rattle.rpc_check.specs.declared.verdict.Verdict.TheVariants.{Good}
use Rattle.rpc_check.specs.Breaches.{verdict_of}
use Rattle.laws_verdicts.specs.Good.{IsGood}
use Rattle.trace_file.specs.Traces.{trace_text}
use Rattle.vat_trace_lib.specs.declared.fault.ScriptFault.{ScriptFault}
use Rattle.vat_trace_lib.specs.declared.fault.ScriptFault.TheVariants as fault
use Rattle.vat_trace_lib.specs.Playing.{Plays, PlaysAll, IsUnnamedAt, noted}
use Rattle.vat_trace_lib.specs.Traces.{first_seen, entries_of, PrintsLines, FaultsLines, SaysLines, Prints, Faults}
use Rattle.vat_trace_lib.specs.Answers.{RunsTo, complaint, status_of}

-- The fault of lines that were played from the start.
pub faults_so : (w new : Seen) (names bound : Names) (lines : List Line) (f : ScriptFault)
    → w ≡ first_seen → names ≡ no_names → PlaysAll w names lines (Err f) new bound → FaultsLines lines f
faults_so w new names bound lines (fault.Unnamed number e) first unnamed played =
    subst (λ (n : Names). IsUnnamedAt first_seen n lines number e) unnamed (subst (λ (v : Seen). IsUnnamedAt v names lines number e) first (new, bound, played))
faults_so w new names bound lines (fault.Line number e) first unnamed played = played
faults_so w new names bound lines fault.NotText first unnamed played = played
faults_so w new names bound lines fault.Memory first unnamed played = tt

-- The trace of lines that were played from the start, with the counts at its end, and its verdict.
pub prints_so : (w mid new : Seen) (names bound : Names) (lines : List Line) (journal : List JournalEntry) (text : List ℕ) (verdict : Verdict)
    → w ≡ first_seen → names ≡ no_names → Plays w names lines mid bound → new ≡ noted mid → WorldsKeepPromises → IsReached new → journal ≡ new.journal
    → text ≡ trace_text Two (entry.Head ∷ journal) → verdict ≡ verdict_of (entry.Head ∷ journal) → IsGood (entry.Head ∷ journal)
    → PrintsLines lines text verdict
prints_so w mid new names bound lines journal text verdict first unnamed played is law reached told printed checked good =
    let entries : entry.Head ∷ journal ≡ entries_of (noted mid) =
    ap (λ (es : List JournalEntry). entry.Head ∷ es) told ∙ ap (λ (v : Seen). entry.Head ∷ v.journal) is in (
      mid,
      bound,
      subst (λ (n : Names). Plays first_seen n lines mid bound) unnamed (subst (λ (v : Seen). Plays v names lines mid bound) first played),
      subst IsReached is reached,
      subst KeepsPromises is (law new.journal (shut new) new.world reached.run reached.shuts),
      printed ∙ ap (trace_text Two) entries,
      checked ∙ ap verdict_of entries,
      subst IsGood entries good,
    )

-- The fault of a script whose lines were read.
pub faults_read : (script : List ℕ) (lines : List Line) (f : ScriptFault) → SaysLines script lines → FaultsLines lines f → Faults script f
faults_read script lines (fault.Unnamed number e) said failed = (lines, said, failed)
faults_read script lines (fault.Line number e) said failed = absurd failed
faults_read script lines fault.NotText said failed = absurd failed
faults_read script lines fault.Memory said failed = tt

-- ---- What is said behind a trace

-- Nothing, since its verdict is good; and the status is 0.
pub runs_to : (script trace text : List ℕ) (verdict : Verdict) (status : ℕ) → Prints script trace verdict → text ≡ trace ++ complaint verdict → status ≡ status_of verdict → RunsTo script text status
runs_to script trace text verdict status prints is ends =
    let p = prints.2 in
    let good : verdict ≡ Good _ = p.6 ∙ p.7 in
    let same : text ≡ trace = is ∙ ap (λ (v : Verdict). trace ++ complaint v) good ∙ append-nil trace in
    (verdict, subst (λ (t : List ℕ). Prints script t verdict) (sym same) prints, ends ∙ ap status_of good)
