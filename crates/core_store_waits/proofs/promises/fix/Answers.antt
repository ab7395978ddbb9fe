use Rattle.std.proofs.Common.{◌≡◌, ◌-◌, sym, subst}
use Rattle.std.specs.FinMap as map
use Rattle.core_store.specs.declared.store.Store.{Store}
use Rattle.core_store.specs.Holding.{state_of, IsSound}
use Rattle.core_store_waits.specs.Changes.{Fixes}
use Rattle.core_store_waits.proofs.promises.fix.Goals as goal

pub shorten-requires : goal.shorten-requires
shorten-requires c = c.settle_promise.ensures.sound

pub returns-clause-ok : goal.returns-clause-ok
returns-clause-ok c =
    subst (λ (x : Store). Fixes (state_of c.args.store.now) c.args.key c.args.to (map.get (state_of c.args.store.now).promises c.args.key) (state_of x) x.waits.taken) (sym c.shorten.ensures.same) c.in_ok-settle_promise.ensures.ok

pub returns-clause-left : goal.returns-clause-left
returns-clause-left c = subst (λ (x : Store). x.slack ≡ c.args.store.now.slack - 1) (sym c.shorten.ensures.same) c.in_ok-settle_promise.ensures.left

pub returns-clause-sound : goal.returns-clause-sound
returns-clause-sound c = subst (λ (x : Store). IsSound x) (sym c.shorten.ensures.same) c.settle_promise.ensures.sound
