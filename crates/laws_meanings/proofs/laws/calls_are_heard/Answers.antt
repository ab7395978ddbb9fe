use Rattle.laws_meanings.proofs.ReadLabels.{calls_heard, resolves_heard}
use Rattle.laws_meanings.proofs.laws.calls_are_heard.Goals as goal

pub returns-clause-calls : goal.returns-clause-calls
returns-clause-calls c = calls_heard

pub returns-clause-resolves : goal.returns-clause-resolves
returns-clause-resolves c = resolves_heard
