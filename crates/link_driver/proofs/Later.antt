-- Of the log of an end nothing is lost.
use Rattle.std.proofs.Common.{◌≡◌, ◌⊎◌, inl, inr, ℕ, Option, None, Some, List, [], ◌∷◌, ◌++◌, append-nil, sym, ap, ◌∙◌}
use Rattle.rpc_msg.specs.declared.message.Message.{Message}
use Rattle.rpc_machine.specs.declared.command.Command.{Command}
use Rattle.rpc_machine.specs.declared.command.Effects.{Effects}
use Rattle.link_rings.specs.declared.entry.Entry.{Entry}
use Rattle.link_rings.specs.declared.turn.Turn.{Turn}
use Rattle.link_rings.specs.declared.turn.Turn.TheVariants.{Idle, Handled, Down}
use Rattle.link_rings.specs.Seats.{CommandsAt}
use Rattle.link_rings.specs.Ends.{IsSameEnd, Flushes, Turns, place}
use Rattle.link_rings.specs.declared.frame.Frame.{Frame}
use Rattle.link_rings.specs.Entries.{Place, LogsFrame, LogsShut, IsRefusal}
use Rattle.link_sides.specs.Answer.{Answer}
use Rattle.link_sides.specs.Sides.{down_by, AnswersSo, TellsSo, when_down}
use Rattle.link_logs.specs.declared.note.Note.{Note}
use Rattle.link_logs.specs.Steps.{Held, StepsSo, input_of, sends_of}
use Rattle.link_ends.specs.Ends.{VatEnded, held, Takes, TurnsSo}
use Rattle.link_driver.specs.Works.{IsLater}

-- So many entries are added, or none.
abbrev Adds : VatEnded → VatEnded → Type 0
Adds x y = (more : List (Entry Note)) × (y.log ≡ x.log ++ more)

none : (x y : VatEnded) → y.log ≡ x.log → Adds x y
none x y e = ([], e ∙ sym (append-nil x.log))

later : (x y : VatEnded) → IsSameEnd x y → Adds x y → IsLater x y
later x y same adds = record { same = same; more = adds.0; log = adds.1 }

taken : (x y : VatEnded) (c : Command) (given : Answer) (d : Option ℕ)
    → CommandsAt down_by input_of sends_of StepsSo AnswersSo (λ c a. a ≡ when_down c) d (place held x) c given (place held y) → Adds x y
taken x y c given None h = (h.entry ∷ [], h.logs.logs.log)
taken x y c given (Some n) h = none x y (ap (λ (p : Place Held Message Note). p.log) h.1)

pub takes_later : (x y : VatEnded) (c : Command) (given : Answer) → Takes x c given y → IsLater x y
takes_later x y c given t = later x y t.end (taken x y c given (down_by x.side) t.commands)

-- The frame that took it down, or a shut for it, has one entry.
fell : (x y : VatEnded) (f : Frame Message) (n : ℕ) (e : Entry Note)
    → LogsFrame down_by input_of sends_of StepsSo (place held x) (place held y) f e ⊎ (LogsShut down_by input_of sends_of StepsSo (place held x) (place held y) n e × IsRefusal x.waiting f n)
    → y.log ≡ x.log ++ e ∷ []
fell x y f n e (inl frame) = frame.logs.log
fell x y f n e (inr shut) = shut.0.logs.log

turned : (x y : VatEnded) (turn : Turn Effects) (d : Option ℕ) → Turns held down_by input_of sends_of StepsSo TellsSo d x turn y → Adds x y
turned x y Idle None h = none x y h.0.log
turned x y (Handled effects) None h = (h.happens.entry ∷ [], h.happens.logs.logs.log)
turned x y (Down n) None h = (h.happens.entry ∷ [], fell x y h.frame n h.happens.entry h.happens.logs)
turned x y Idle (Some m) h = absurd h
turned x y (Handled effects) (Some m) h = absurd h
turned x y (Down n) (Some m) h = none x y (ap (λ (e : VatEnded). e.log) h.1)

pub turns_later : (x y : VatEnded) (turn : Turn Effects) → IsSameEnd x y → TurnsSo x turn y → IsLater x y
turns_later x y turn same t = later x y same (turned x y turn (down_by x.side) t)

pub flushes_later : (x y : VatEnded) (count : ℕ) → IsSameEnd x y → Flushes x count y → IsLater x y
flushes_later x y count same f = later x y same (none x y f.log)
