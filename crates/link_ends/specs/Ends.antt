-- The ends of two vats, in the words of `link_rings` and `link_sides` (docs/threads.md).
use Rattle.std.specs.Prelude.{◌≡◌, true, []}
use Rattle.rpc_msg.specs.declared.ids.Vat.{Vat}
use Rattle.rpc_msg.specs.declared.ids.Vat.TheVariants.{A, B}
use Rattle.rpc_msg.specs.declared.message.Message.{Message}
use Rattle.rtrb.specs.Ring.{sent, received}
use Rattle.rpc_machine.specs.declared.command.Command.{Command}
use Rattle.rpc_machine.specs.declared.command.Effects.{Effects}
use Rattle.rpc_machine.specs.declared.command.Level.TheVariants.{One}
use Rattle.rpc_machine.specs.State.{State}
use Rattle.rpc_machine.specs.Queries.{is_new}
use Rattle.link_sides.specs.Answer.{Answer}
use Rattle.link_rings.specs.declared.turn.Turn.{Turn}
use Rattle.link_rings.specs.Seats.{CommandsAt}
use Rattle.link_rings.specs.Ends.{Ended, AreLinked, IsSameEnd, Turns, place}
use Rattle.link_logs.specs.declared.note.Note.{Note}
use Rattle.link_logs.specs.Steps.{Held, StepsSo, input_of, sends_of}
use Rattle.link_sides.specs.Sides.{down_by, AnswersSo, TellsSo, when_down}
use Rattle.link_logs.specs.Promises.{IsBegun}

-- What contracts see of an end: its vat as it was handed in and as it is, with what it wrote, its log, the frames that wait, and
-- its ends of the two rings.
abbrev pub VatEnded : Type 0
VatEnded = Ended Held Message Note

abbrev pub held : Held → Held
held h = h

-- A core with nothing written.
abbrev pub new_held : State → Held
new_held s = record { core = s; journal = [] }

-- A new core of that vat, of level 1.
pub record IsNewCore (v : Vat) (s : State) : Type 0 where
  pub vat : s.vat ≡ v
  pub level : s.level ≡ One
  pub is_new : is_new s ≡ true

-- They come from one link, and were handed new cores of A and B, of level 1.
abbrev pub AreEnds : VatEnded → VatEnded → Type 0
AreEnds a b = AreLinked a b × IsBegun A a.start × IsBegun B b.start

-- A command at an end. While its vat is up one entry is added to the log: of the command, which is a step of its core, with
-- what is answered; or of a shut, and then it is refused as one of a vat that is down. One that is down refuses it, and nothing
-- changes.
pub record Takes (old : VatEnded) (c : Command) (given : Answer) (new : VatEnded) : Type 0 where
  pub end : IsSameEnd old new
  pub commands : CommandsAt down_by input_of sends_of StepsSo AnswersSo (λ c a. a ≡ when_down c) (down_by old.side) (place held old) c given (place held new)
  pub pushed : sent new.producer ≡ sent old.producer
  pub popped : received new.consumer ≡ received old.consumer

-- A turn of an end.
abbrev pub TurnsSo : VatEnded → Turn Effects → VatEnded → Type 0
TurnsSo old turn new = Turns held down_by input_of sends_of StepsSo TellsSo (down_by old.side) old turn new
