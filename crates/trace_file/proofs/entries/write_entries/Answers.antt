use Rattle.trace_file.proofs.Going.{text_more}
use Rattle.trace_file.proofs.entries.write_entries.Goals as goal

pub loop-entry-preserved : goal.loop-entry-preserved
loop-entry-preserved c =
    text_more _ _ _ _ _ _ _ c.loop-entry-test.true c.entry-item.is c.loop-entry.invariant c.in_ok-write_entry.ensures
