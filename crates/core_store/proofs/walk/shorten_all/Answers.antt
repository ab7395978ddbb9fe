use Rattle.std.proofs.Common.{◌∙◌, sym, subst}
use Rattle.core_store.specs.declared.store.Store.{Store}
use Rattle.core_store.specs.Holding.{IsSound}
use Rattle.core_store.proofs.walk.shorten_all.Goals as goal

pub shorten-requires : goal.shorten-requires
shorten-requires c = subst (λ (x : Store). IsSound x) (sym c.loop-node.invariant) c.requires

pub loop-node-preserved : goal.loop-node-preserved
loop-node-preserved c = c.shorten.ensures.same ∙ c.loop-node.invariant
