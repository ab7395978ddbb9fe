use Rattle.std.proofs.Common.{sym}
use Rattle.core_store.specs.Holding.{state_of}
use Rattle.core_step_collects.proofs.Giving.{flagged}
use Rattle.core_step_collects.proofs.flags.flag_for.Goals as goal

pub returns-then-not-is_empty : goal.returns-then-not-is_empty
returns-then-not-is_empty c =
    flagged (state_of c.args.store.now) c.args.ids.now c.all_spared.result c.in-One.is (sym c.if-not-is_empty.ensures) c.all_spared.ensures
