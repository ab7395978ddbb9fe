-- The fault that is told is one of the lines'.
use Rattle.std.proofs.Common.{◌≡◌, ℕ, Bool, true, false, ◌||◌, cond, Option, None, Some, Result, Ok, Err, List, refl, sym, subst}
use Rattle.script_language.specs.declared.line.Line.{Line}
use Rattle.script_language.specs.declared.fault.NameFault.{NameFault}
use Rattle.link_workers.specs.declared.worker_end.WorkerEnd.{WorkerEnd}
use Rattle.link_logs.specs.Promises.{Pair}
use Rattle.vat_trace_lib.specs.declared.fault.ScriptFault.{ScriptFault}
use Rattle.vat_trace_lib.specs.declared.fault.ScriptFault.TheVariants as fault
use Rattle.vat_trace.specs.Pairs.{WorksFirst}
use Rattle.vat_trace.specs.Judged.{line_at_fault, lower_of, lacks_memory, unnamed_at, judged}
use Rattle.vat_trace.specs.Printed.{FaultsLines}

module _ (lines : List Line) (a b : WorkerEnd) (p : Pair) (worked : WorksFirst lines a b p) where
  -- What a judgement says of the lines.
  abbrev IsSo : Result Unit ScriptFault → Type 0
  IsSo (Ok u) = Unit {0}
  IsSo (Err f) = FaultsLines lines f

  unnamed : (x : Option (ℕ × NameFault)) → lower_of (line_at_fault a) (line_at_fault b) ≡ x → IsSo (unnamed_at x)
  unnamed None is = tt
  unnamed (Some x) is = (a, b, p, worked, is)

  decided : (lacks : Bool) (r : Result Unit ScriptFault) → IsSo r → IsSo (cond lacks (Err fault.Memory) r)
  decided true r so = tt
  decided false r so = so

  pub faults_so : (r : Result Unit ScriptFault) (f : ScriptFault) → r ≡ judged a b → r ≡ Err f → FaultsLines lines f
  faults_so r f is failed =
      let so = decided (lacks_memory a || lacks_memory b) (unnamed_at (lower_of (line_at_fault a) (line_at_fault b))) (unnamed (lower_of (line_at_fault a) (line_at_fault b)) refl) in
      subst IsSo failed (subst IsSo (sym is) so)
