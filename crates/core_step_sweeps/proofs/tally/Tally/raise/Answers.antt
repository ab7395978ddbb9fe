use Rattle.std.proofs.Common.{sym}
use Rattle.core_step_sweeps.proofs.ListedKeys.{listed_set}
use Rattle.core_step_sweeps.proofs.tally.Tally.raise.Goals as goal

pub invariant_of-self : goal.invariant_of-self
invariant_of-self c =
    listed_set c.self.inside.numbers.entries c.self.inside.keys.items c.args.key c.in-Some.count.now c.in-Some.count.now (sym c.in-Some.ensures.value) c.self.invariant

pub invariant_of-self-in-Some : goal.invariant_of-self-in-Some
invariant_of-self-in-Some c =
    listed_set c.self.inside.numbers.entries c.self.inside.keys.items c.args.key c.in-Some-checked_add.more c.in-Some.count.now (sym c.in-Some.ensures.value) c.self.invariant
