use Rattle.core_step_checks.proofs.Wires.{told_same, told_by}
use Rattle.core_step_checks.proofs.known.leads_back.Goals as goal

pub returns-clause-is : goal.returns-clause-is
returns-clause-is c = rw (← c.settle.ensures) (told_by c.eq.result c.settle.result c.args.wire c.eq.ensures)

pub returns-clause-same : goal.returns-clause-same
returns-clause-same c =
    let told = told_by c.eq.result c.settle.result c.args.wire c.eq.ensures in
    rw (← c.settle.ensures) (told_same c.eq.result c.settle.result c.args.wire c.requires.wire told.0 told.1)
