use Rattle.std.specs.FinMap as map
use Rattle.core_store.specs.Holding.{state_of}
use Rattle.core_step_collects.proofs.Dropping.{unnamed_promise}
use Rattle.core_step_collects.proofs.collection.let_promise_go.Goals as goal

pub remove_promise-requires-clause-unnamed : goal.remove_promise-requires-clause-unnamed
remove_promise-requires-clause-unnamed c =
    unnamed_promise (state_of c.args.store.now) c.args.key (map.get (state_of c.args.store.now).promises c.args.key) c.requires.loose
