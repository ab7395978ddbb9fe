use Rattle.std.proofs.Common.{ap, ◌-◌}
use Rattle.core_store.specs.Holding.{state_of}
use Rattle.core_step_messages.proofs.GivenBack.{one_less}
use Rattle.core_step_messages.proofs.remainders.Remaining.give_back.Goals as goal

pub returns-clause-remains : goal.returns-clause-remains
returns-clause-remains c = λ none m h.
    one_less (state_of c.args.store.now) m c.args.self.now c.set.new.self c.args.id.0 _ h (ap (λ n. n - 1) c.of-left.ensures) c.in_ok-set.ensures
