use Rattle.std.proofs.Common.{string_bytes, subst, ◌∙◌}
use Rattle.vat_trace.specs.Printed.{FaultsLines}
use Rattle.vat_trace.proofs.Printing.{faults_read}
use Rattle.vat_trace.proofs.trace.trace_of_pair.Goals as goal

pub returns-in-Err-clause-faults : goal.returns-in-Err-clause-faults
returns-in-Err-clause-faults g c =
    faults_read c.args.script.now c.in-Ok.lines c.in-Err.fault c.in-Ok.ensures
    (subst (λ lines. FaultsLines lines c.in-Err.fault) (c.deref-2.ensures.value ∙ c.deref.ensures) c.in-Err.ensures.faults)
