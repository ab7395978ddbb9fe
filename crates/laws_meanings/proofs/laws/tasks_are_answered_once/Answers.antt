use Rattle.laws_meanings.proofs.Tasking.{tasks_open, tasks_once}
use Rattle.laws_meanings.proofs.laws.tasks_are_answered_once.Goals as goal

pub returns-clause-open : goal.returns-clause-open
returns-clause-open c = tasks_open

pub returns-clause-once : goal.returns-clause-once
returns-clause-once c = tasks_once
