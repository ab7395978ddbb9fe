use Rattle.std.proofs.Common.{◌∙◌, sym, subst}
use Rattle.core_store.specs.declared.store.Store.{Store}
use Rattle.core_store.specs.Holding.{IsSound}
use Rattle.core_store_waits.proofs.outcomes.shorten_caps.Goals as goal

pub shorten-requires : goal.shorten-requires
shorten-requires c = subst (λ (x : Store). IsSound x) (sym c.loop-index.invariant) c.requires

pub loop-index-preserved : goal.loop-index-preserved
loop-index-preserved c = c.shorten.ensures.same ∙ c.loop-index.invariant
