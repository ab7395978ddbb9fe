use Rattle.std.proofs.Common.{◌∙◌}
use Rattle.core_store.specs.Holding.{state_of}
use Rattle.core_step_collects.proofs.Walking.{may_go, in_any_order}
use Rattle.core_step_collects.proofs.runs.sorted_spared.Goals as goal

pub returns : goal.returns
returns c = c.runs_spared.ensures ∙ in_any_order (may_go (state_of c.args.store.now)) c.args.ids.now c.sort_unstable.new.self c.sort_unstable.ensures.permutation
