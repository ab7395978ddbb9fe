use Rattle.std.proofs.Common.{string_bytes, subst, ◌∙◌}
use Rattle.vat_trace_lib.specs.Traces.{PrintsLines, FaultsLines}
use Rattle.vat_trace_lib.proofs.Printing.{faults_read}
use Rattle.vat_trace_lib.proofs.run.trace_of_script.Goals as goal

pub returns-in-Ok-trace_of_lines-clause-prints : goal.returns-in-Ok-trace_of_lines-clause-prints
returns-in-Ok-trace_of_lines-clause-prints c = (
  c.in-Ok.lines,
  c.in-Ok.ensures,
  subst (λ lines. PrintsLines lines (string_bytes c.in-Ok-trace_of_lines.trace.text) c.in-Ok-trace_of_lines.trace.verdict) (c.deref-2.ensures.value ∙ c.deref.ensures) c.in-Ok-trace_of_lines.ensures.prints,
)

pub returns-in-Err-clause-faults : goal.returns-in-Err-clause-faults
returns-in-Err-clause-faults c =
    faults_read c.args.script.now c.in-Ok.lines c.in-Err.fault c.in-Ok.ensures
    (subst (λ lines. FaultsLines lines c.in-Err.fault) (c.deref-2.ensures.value ∙ c.deref.ensures) c.in-Err.ensures.faults)
