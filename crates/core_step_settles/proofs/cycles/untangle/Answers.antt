use Rattle.std.proofs.Common.{◌≡◌, IfOk, OnOk, sym, subst}
use Rattle.core_store.specs.declared.store.Store.{Store}
use Rattle.core_store.specs.Holding.{state_of}
use Rattle.core_step.specs.InProgress.{progress_of, IsReady}
use Rattle.core_step_settles.specs.Circles.{UntanglesWith, with_promises}
use Rattle.core_step_settles.proofs.cycles.untangle.Goals as goal

pub untangle_walked-requires : goal.untangle_walked-requires
untangle_walked-requires c = subst (λ (x : Store). IsReady (record (c.args.step.now) { store = x })) (sym c.shorten_all.ensures) c.requires.ready

pub returns : goal.returns
returns c =
    let fit = c.untangle_walked.result in
    let new = c.untangle_walked.new.step in
    let walked = c.untangle_walked.ensures in
    let same = c.shorten_all.ensures in record {
      ok = subst (λ (x : Store). IfOk fit (λ caps. UntanglesWith (state_of x) c.args.key c.args.payload.now 0 c.args.caps caps (state_of new.store))) same walked.ok;
      only =
          subst (λ (x : Store). OnOk fit (progress_of new ≡ with_promises (progress_of (record (c.args.step.now) { store = x })) new.store.waits.promises)) same
          walked.only;
      taken = subst (λ (x : Store). OnOk fit (new.store.waits.taken ≡ x.waits.taken)) same walked.taken;
      ready = walked.ready;
    }
