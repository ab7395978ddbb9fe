use Rattle.laws_runs.proofs.AboveZero as above
use Rattle.laws_runs.proofs.counts.entries_count.Goals as goal

pub returns : goal.returns
returns c = record { acts = above.acts; consumes = above.consumes }
