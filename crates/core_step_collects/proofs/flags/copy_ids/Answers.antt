use Rattle.std.proofs.Common.{arith, ◌∙◌}
use Rattle.std.proofs.lemmas.List.{length-set}
use Rattle.core_step_collects.proofs.Copying.{copied_more}
use Rattle.core_step_collects.proofs.flags.copy_ids.Goals as goal

pub loop-at-preserved : goal.loop-at-preserved
loop-at-preserved c =
    let before = c.loop-at.invariant in
    (length-set _ _ _ ∙ before.0, copied_more c.args.ids.now c.loop-at.copied c.loop-at.at (record { 0 = 0 }) c.loop-at-test.true (omega (arith, before.0, c.loop-at-test.true, c.requires)) before.1)
