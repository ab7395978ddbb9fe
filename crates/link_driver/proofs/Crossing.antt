-- A's end may go to another thread, as its worker uses it.
use denote.Param.Send.{IsSend}
use denote.Param.SendFields.{declared_send}
use Rattle.link_ends.specs.contracts.ends.AtA as AtA
use Rattle.link_ends.proofs.Crossing.{end_a_send}
use Rattle.link_driver.specs.contracts.worker.Worked as Worked

pub worked_send : IsSend (Worked.the_row AtA.the_row)
worked_send = declared_send (Worked.the_type AtA.the_row) (end_a_send, tt)
