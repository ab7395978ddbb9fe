use Rattle.vat_trace.proofs.Judgements.{faults_so}
use Rattle.vat_trace.proofs.trace.trace_of_run.Goals as goal

pub returns-in-Err-clause-faults : goal.returns-in-Err-clause-faults
returns-in-Err-clause-faults c =
    faults_so c.args.lines.now c.args.run.now.a c.args.run.now.b c.args.run.now.gathered.both c.requires _ _ c.judge.ensures c.in-Err.is
