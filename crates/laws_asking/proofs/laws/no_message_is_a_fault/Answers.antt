use Rattle.laws_asking.proofs.Hearing.{none_is_a_fault}
use Rattle.laws_asking.proofs.laws.no_message_is_a_fault.Goals as goal

pub returns : goal.returns
returns c = none_is_a_fault
