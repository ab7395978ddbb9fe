-- A's end may go to another thread.
use denote.Param.Send.{IsSend, sendable}
use denote.Param.SendFields.{variants_send, declared_send}
use Rattle.std.proofs.Crossing.{crosses}
use Rattle.rpc_msg.specs.contracts.message.Message as Message
use Rattle.rpc_msg.specs.contracts.message.PlainMessage as PlainMessage
use Rattle.rpc_machine.specs.contracts.command.Command as Command
use Rattle.rpc_machine.specs.contracts.command.Effects as Effects
use Rattle.link_sides.specs.AnswerRow as Answer
use Rattle.link_rings.specs.contracts.end.End as End
use Rattle.link_rings.proofs.Crossing.{end_send}
use Rattle.link_logs.specs.contracts.note.Note as Note
use Rattle.link_sides.specs.contracts.side.VatSide as VatSide
use Rattle.link_sides.specs.contracts.side.VatSidePartyNoteMessage.TheImpl.{ghosts}
use Rattle.link_sides.proofs.Crossing.{side_send}
use Rattle.link_ends.specs.contracts.ends.VatEnd as VatEnd
use Rattle.link_ends.specs.contracts.ends.AtA as AtA

note_send : IsSend Note.the_row
note_send = search (sendable, crosses) depth 40

plain_send : IsSend PlainMessage.the_row
plain_send = search (sendable, crosses) depth 40 fits 100000

message_send : IsSend Message.the_row
message_send = search (variants_send, plain_send) depth 10

vat_end_send : IsSend (End.the_row VatSide.the_row Note.the_row Message.the_row VatSide.the_row Command.the_row Answer.the_row Effects.the_row ghosts)
vat_end_send = end_send VatSide.the_row Note.the_row Message.the_row VatSide.the_row Command.the_row Answer.the_row Effects.the_row ghosts side_send note_send message_send

pub end_a_send : IsSend (VatEnd.the_row AtA.the_row)
end_a_send = declared_send (VatEnd.the_type AtA.the_row) (vat_end_send, (search sendable, tt))
