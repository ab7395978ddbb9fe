use Rattle.std.proofs.Common.{List, ℕ, string_bytes, subst}
use Rattle.vat_trace.specs.Printed.{PrintsPair}
use Rattle.vat_trace.proofs.Printing.{pairs_to}
use Rattle.vat_trace.proofs.program.answer.Goals as goal

pub returns-clause-answers : goal.returns-clause-answers
returns-clause-answers g c =
    pairs_to _ _ _ _ _ (subst (λ (script : List ℕ). PrintsPair script (string_bytes c.in_ok-trace.trace.text) c.in_ok-trace.trace.verdict) c.as_bytes.ensures.value c.in_ok-trace.ensures.prints)
    c.in_ok-printed.ensures.text c.in_ok-printed.ensures.status
