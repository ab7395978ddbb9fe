use Rattle.laws_merge.specs.Machine.{side}
use Rattle.laws_merge.proofs.Views as views
use Rattle.laws_merge.proofs.laws.merge_of_views.Goals as goal

pub returns : goal.returns
returns g c = views.merge_of_views g.row.P.Denot g.row.Q.Denot (side g.A.Steps.step) (side g.B.Steps.step)
