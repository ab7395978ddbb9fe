use Rattle.vat_trace_lib.proofs.Printing.{faults_so, prints_so}
use Rattle.vat_trace_lib.proofs.run.trace_in.Goals as goal

pub returns-in-Err-clause-faults : goal.returns-in-Err-clause-faults
returns-in-Err-clause-faults c = faults_so _ _ _ _ _ _ c.requires.new c.requires.unnamed c.in-Err.ensures

pub returns-in-Ok-checked-clause-prints : goal.returns-in-Ok-checked-clause-prints
returns-in-Ok-checked-clause-prints c =
    prints_so _ _ _ _ _ _ _ _ _ c.requires.new c.requires.unnamed c.in-Ok.ensures c.in-Ok-note_tables.ensures.ok c.worlds_keep_promises.ensures c.journal.ensures.reached c.journal.ensures.entries c.in-Ok-checked.ensures.text c.in-Ok-checked.ensures.verdict c.journal.ensures.headed
