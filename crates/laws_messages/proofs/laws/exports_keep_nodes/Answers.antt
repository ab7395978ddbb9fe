use Rattle.laws_messages.proofs.Grown.{acts, consumes}
use Rattle.laws_messages.proofs.laws.exports_keep_nodes.Goals as goal

pub returns : goal.returns
returns c = record { acts = acts; consumes = consumes }
