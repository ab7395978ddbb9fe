use Rattle.laws_meanings.proofs.ReadReturns.{messages_heard, returns_heard}
use Rattle.laws_meanings.proofs.laws.messages_are_heard.Goals as goal

pub returns-clause-returns : goal.returns-clause-returns
returns-clause-returns c = returns_heard

pub returns-clause-messages : goal.returns-clause-messages
returns-clause-messages c = messages_heard
