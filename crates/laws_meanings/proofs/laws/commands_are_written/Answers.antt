use Rattle.laws_meanings.proofs.Writing.{commands_written}
use Rattle.laws_meanings.proofs.laws.commands_are_written.Goals as goal

pub returns : goal.returns
returns c = commands_written c.payloads_name_their_own.ensures c.own_numbers_were_asked.ensures c.tasks_are_answered_once.ensures.open c.promises_are_settled_once.ensures
