use Rattle.std.proofs.Common.{List, ℕ, string_bytes, subst}
use Rattle.vat_trace_lib.specs.Traces.{Prints}
use Rattle.vat_trace_lib.proofs.Printing.{runs_to}
use Rattle.vat_trace_lib.proofs.answers.run.Goals as goal

pub returns-clause-answers : goal.returns-clause-answers
returns-clause-answers c =
    runs_to _ _ _ _ _ (subst (λ (script : List ℕ). Prints script (string_bytes c.in_ok-trace.trace.text) c.in_ok-trace.trace.verdict) c.as_bytes.ensures.value c.in_ok-trace.ensures.prints)
    c.in_ok-printed.ensures.text c.in_ok-printed.ensures.status
