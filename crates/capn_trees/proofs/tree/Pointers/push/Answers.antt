use Rattle.std.proofs.Common.{refl, ap, ◌∙◌}
use Rattle.capn_trees.specs.declared.measure.Measure.{Measure}
use Rattle.capn_trees.specs.Views.{view}
use Rattle.capn_trees.proofs.Found.{depth_found}
use Rattle.capn_trees.proofs.tree.Pointers.push.Goals as goal

pub returns-then-measure-clause-fault : goal.returns-then-measure-clause-fault
returns-then-measure-clause-fault c =
    let deep = depth_found (view c.args.tree) 127 c.start.result c.measure_tree-measure.result (ap (λ (m : Measure). m.is_too_deep) c.start.ensures) c.measure_tree-measure.ensures ∙ c.if-measure.true in
    rw deep refl

pub returns-in-Ok-clause-fault : goal.returns-in-Ok-clause-fault
returns-in-Ok-clause-fault c =
    depth_found (view c.args.tree) 127 c.start.result c.measure_tree-measure.result (ap (λ (m : Measure). m.is_too_deep) c.start.ensures) c.measure_tree-measure.ensures ∙ c.if-measure.false

pub returns-in-Err-clause-fault : goal.returns-in-Err-clause-fault
returns-in-Err-clause-fault c =
    let shallow = depth_found (view c.args.tree) 127 c.start.result c.measure_tree-measure.result (ap (λ (m : Measure). m.is_too_deep) c.start.ensures) c.measure_tree-measure.ensures ∙ c.if-measure.false in
    rw shallow refl
