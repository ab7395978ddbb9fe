use Rattle.vat_trace.proofs.Printing.{prints_both}
use Rattle.vat_trace.proofs.trace.trace_of_gathered.Goals as goal

pub returns-in-Ok : goal.returns-in-Ok
returns-in-Ok c =
    prints_both c.journals_tell_runs.ensures.runs c.journals_tell_runs.ensures.more c.every_verdict_is_good.ensures.headed
    _ _ _ _ _ c.in_ok-journal.ensures c.as_slice.ensures.value c.in-Ok.ensures.text c.in-Ok.ensures.verdict
