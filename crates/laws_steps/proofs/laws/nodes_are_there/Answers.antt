use Rattle.laws_steps.proofs.Reached.{are_there, after_command, after_message}
use Rattle.laws_steps.proofs.InRuns.{in_runs}
use Rattle.laws_steps.proofs.laws.nodes_are_there.Goals as goal

pub returns-clause-there : goal.returns-clause-there
returns-clause-there c = are_there

pub returns-clause-runs : goal.returns-clause-runs
returns-clause-runs c = in_runs

pub returns-clause-settled : goal.returns-clause-settled
returns-clause-settled c =
    let law = c.settled_stays.ensures.stays in
    record {
      commands = λ s k a x t r h n. law.commands s k a x t h (after_command s k a x t r h) n;
      messages = λ s m x t r h n. law.messages s m x t h (after_message s m x t r h) n;
    }
