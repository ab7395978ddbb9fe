-- A vat may go to another thread.
use denote.Param.Send.{IsSend}
use Rattle.link_sides.specs.contracts.side.VatSide as VatSide
use Rattle.link_sides.proofs.side.VatSide.TheSendSync as Sides

pub side_send : IsSend VatSide.the_row
side_send = Sides.the_send
