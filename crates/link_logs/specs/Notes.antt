-- What a note says of its step (docs/threads.md, "Of two vats").
use Rattle.std.specs.Prelude.{Bool, true, Ok, List}
use Rattle.rpc_msg.specs.declared.message.Message.{Message}
use Rattle.rpc_machine.specs.declared.command.Command.{Command}
use Rattle.rpc_machine.specs.declared.command.Granted.TheVariants as granted
use Rattle.rpc_machine.specs.declared.command.Effects.{Effects}
use Rattle.rpc_machine.specs.World.{StepAnswer, Answered, Handled}
use Rattle.laws_merge.specs.Machine as weave
use Rattle.laws_merge.specs.Machine.{Input, Receive}
use Rattle.laws_runs.specs.Sides as sides
use Rattle.link_logs.specs.declared.note.Told.{Told}
use Rattle.link_logs.specs.declared.note.Told.TheVariants as told

-- What came: a command, the end of its work, or a message.
abbrev pub input_by : Told → Input Command Message
input_by (told.Obeyed c a e room) = weave.Command c.value
input_by (told.Shut e) = weave.Shut
input_by (told.Received m e room) = Receive m.value

abbrev pub effects_by : Told → Effects
effects_by (told.Obeyed c a e room) = e.value
effects_by (told.Shut e) = e.value
effects_by (told.Received m e room) = e.value

-- The messages that it sent.
abbrev pub sends_by : Told → List Message
sends_by t = (effects_by t).sends

abbrev pub answer_by : Told → StepAnswer
answer_by (told.Obeyed c a e room) = Answered a.value e.value
answer_by (told.Shut e) = Answered (Ok granted.Done) e.value
answer_by (told.Received m e room) = Handled e.value

abbrev pub room_by : Told → Bool
room_by (told.Obeyed c a e room) = room
room_by (told.Shut e) = true
room_by (told.Received m e room) = room

-- The same, as the logs of two vats note it.
abbrev pub noted : Told → sides.Note
noted t = record { answer = answer_by t; had_room = room_by t }
