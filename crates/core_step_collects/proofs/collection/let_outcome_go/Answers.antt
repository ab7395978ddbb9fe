use Rattle.std.specs.FinMap as map
use Rattle.core_store.specs.Holding.{state_of}
use Rattle.core_step_collects.proofs.Dropping.{unnamed_outcome}
use Rattle.core_step_collects.proofs.collection.let_outcome_go.Goals as goal

pub remove_outcome-requires-clause-unnamed : goal.remove_outcome-requires-clause-unnamed
remove_outcome-requires-clause-unnamed c =
    unnamed_outcome (state_of c.args.store.now) c.args.key (map.get (state_of c.args.store.now).outcomes c.args.key) c.requires.loose
