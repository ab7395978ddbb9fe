use Rattle.std.proofs.Common.{None, refl, ap}
use Rattle.core_store.proofs.Beginning.{sound_new}
use Rattle.core_store.proofs.store.Store.new.Goals as goal

pub returns-clause-sound : goal.returns-clause-sound
returns-clause-sound c =
    sound_new _ c.args.vat c.args.level c.args.bootstrap
    (λ i. record {
      vat = c.args.vat;
      level = c.args.level;
      bootstrap = c.args.bootstrap;
      questions = c.new.ensures i;
      answers = c.new-2.ensures i;
      imports = c.new-3.ensures i;
      exports = c.new-4.ensures i;
      refs = c.new-5.ensures i;
      calls = c.new-6.ensures i;
      tasks = c.new-7.ensures i;
      unsettled = c.new-8.ensures i;
      promises = ap (λ w. w.promises) c.new-9.ensures i;
      outcomes = ap (λ w. w.outcomes) c.new-9.ensures i;
      embargoes = ap (λ w. w.embargoes) c.new-9.ensures i;
      next_ref = 0;
      next_call = 0;
      next_task = 0;
      next_promise = 0;
      down = None;
    })
    (ap (λ w. w.taken) c.new-9.ensures) (ap (λ w. w.held) c.new-9.ensures) c.new-10.ensures refl refl refl
