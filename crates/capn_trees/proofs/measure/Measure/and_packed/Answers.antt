use Rattle.std.proofs.Common.{ap, ◌∙◌}
use Rattle.capn_trees.specs.Measuring.{together}
use Rattle.capn_trees.proofs.measure.Measure.and_packed.Goals as goal

pub returns : goal.returns
returns c = λ caps xs counted. c.and.ensures ∙ ap (together c.args.self) (c.packed_measure.ensures caps xs counted)
