-- The seat of a vat, in the words of `link_rings` and `link_sides` (docs/threads.md).
use Rattle.std.specs.Prelude.{◌≡◌, []}
use Rattle.rpc_msg.specs.declared.message.Message.{Message}
use Rattle.rpc_machine.specs.declared.command.Command.{Command}
use Rattle.rpc_machine.specs.declared.command.Effects.{Effects}
use Rattle.rpc_machine.specs.State.{State}
use Rattle.link_sides.specs.Answer.{Answer}
use Rattle.link_rings.specs.declared.frame.Frame.{Frame}
use Rattle.link_rings.specs.declared.turn.Turn.{Turn}
use Rattle.link_rings.specs.Seats.{Sat, CommandsAt, TakesAt, place}
use Rattle.link_logs.specs.declared.note.Note.{Note}
use Rattle.link_logs.specs.Steps.{Held, StepsSo, input_of, sends_of}
use Rattle.link_sides.specs.Sides.{down_by, AnswersSo, TellsSo, when_down}
use Rattle.link_ends.specs.Ends.{held, new_held}

-- What contracts see of a seat: its vat as it was handed in and as it is, with what it wrote, its log, and all its frames.
abbrev pub VatSat : Type 0
VatSat = Sat Held Message Note

-- That of a core, with nothing done.
abbrev pub new_seat : State → VatSat
new_seat s = record { start = new_held s; side = new_held s; log = []; waiting = record { frames = []; made = 0; heard = 0; room = 1 } }

-- A command at a seat. While its vat is up one entry is added to the log: of the command with what is answered, or of a shut.
-- One that is down refuses it, and nothing changes.
pub record CommandsSo (old : VatSat) (c : Command) (given : Answer) (new : VatSat) : Type 0 where
  pub start : new.start ≡ old.start
  pub commands : CommandsAt down_by input_of sends_of StepsSo AnswersSo (λ c a. a ≡ when_down c) (down_by old.side) (place held old) c given (place held new)

-- A frame at a seat. While its vat is up one entry is added to the log: of the frame with what is told, or of a shut.
pub record TakesSo (old : VatSat) (f : Frame Message) (turn : Turn Effects) (new : VatSat) : Type 0 where
  pub start : new.start ≡ old.start
  pub takes : TakesAt down_by input_of sends_of StepsSo TellsSo (down_by old.side) (place held old) f turn (place held new)
