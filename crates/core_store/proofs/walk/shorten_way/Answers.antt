use Rattle.std.proofs.Common.{sym}
use Rattle.core_store.specs.Holding.{state_of}
use Rattle.core_store.proofs.Walking.{settles_here, settles_found}
use Rattle.core_store.proofs.walk.shorten_way.Goals as goal

pub returns-in_default-clause-end : goal.returns-in_default-clause-end
returns-in_default-clause-end c =
    settles_here (state_of c.args.store.now) c.args.store.now.links c.args.node c.hop.result (sym c.requires.far) c.in_default.is c.hop.ensures

pub returns-then-has_no_link-clause-end : goal.returns-then-has_no_link-clause-end
returns-then-has_no_link-clause-end c =
    settles_found (state_of c.args.store.now) c.args.store.now.links c.args.node c.hop.result c.in-Some.first (sym c.requires.far) c.in-Some.is c.hop.ensures
    (c.has_no_link.ensures c.if-has_no_link.true (state_of c.args.store.now))
