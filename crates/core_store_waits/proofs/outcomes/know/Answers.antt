use Rattle.std.proofs.Common.{◌≡◌, ◌-◌, ◌+◌, length, sym, subst}
use Rattle.std.specs.FinMap as map
use Rattle.rpc_machine.specs.Progress.{caps_of}
use Rattle.core_refcounts.specs.Names.{named_all}
use Rattle.core_store.specs.declared.store.Store.{Store}
use Rattle.core_store.specs.Holding.{state_of, IsSound}
use Rattle.core_store.specs.Noted.{noted_of}
use Rattle.core_store_waits.specs.Changes.{Knows}
use Rattle.core_store_waits.specs.Noting.{noted_unnamed}
use Rattle.core_store_waits.proofs.outcomes.know.Goals as goal

pub shorten_caps-requires : goal.shorten_caps-requires
shorten_caps-requires c = c.know_value.ensures.sound

pub returns-clause-ok : goal.returns-clause-ok
returns-clause-ok c =
    subst (λ (x : Store). Knows (state_of c.args.store.now) c.args.key c.args.value (map.get (state_of c.args.store.now).outcomes c.args.key) (state_of x)) (sym c.shorten_caps.ensures) c.in_ok-know_value.ensures.ok

pub returns-clause-taken : goal.returns-clause-taken
returns-clause-taken c = subst (λ (x : Store). x.waits.taken ≡ c.args.store.now.waits.taken) (sym c.shorten_caps.ensures) c.know_value.ensures.taken

pub returns-clause-left : goal.returns-clause-left
returns-clause-left c =
    subst (λ (x : Store). x.slack ≡ c.args.store.now.slack - (length (caps_of c.args.value) + 1)) (sym c.shorten_caps.ensures) c.in_ok-know_value.ensures.left

pub returns-clause-noted : goal.returns-clause-noted
returns-clause-noted c =
    subst (λ (x : Store). noted_of x.names ≡ noted_of (noted_unnamed (named_all c.args.store.now.names (caps_of c.args.value)) c.args.key)) (sym c.shorten_caps.ensures) c.in_ok-know_value.ensures.noted

pub returns-clause-sound : goal.returns-clause-sound
returns-clause-sound c = subst (λ (x : Store). IsSound x) (sym c.shorten_caps.ensures) c.know_value.ensures.sound
