-- Two vats and the messages on their way between them: what may happen (docs/protocol.md, "Two vats").
use Rattle.std.specs.Prelude.{◌≡◌, ℕ, Bool, true, false, cond, ◌&&◌, is_some, Option, None, Some, Result, Ok, List, [], ◌∷◌, ◌++◌}
use Rattle.rpc_journal.specs.rpc_msg.specs.declared.ids.Vat.{Vat}
use Rattle.rpc_journal.specs.rpc_msg.specs.declared.ids.Vat.TheVariants.{A, B}
use Rattle.rpc_journal.specs.rpc_msg.specs.declared.ids.ObjectId.{ObjectId}
use Rattle.rpc_journal.specs.rpc_msg.specs.declared.message.Message.{Message}
use Rattle.rpc_journal.specs.rpc_msg.specs.Vats.{other_vat}
use Rattle.rpc_journal.specs.declared.report.Advanced.TheVariants as advanced
use Rattle.rpc_journal.specs.declared.entry.JournalEntry.{JournalEntry}
use Rattle.rpc_journal.specs.declared.entry.JournalEntry.TheVariants as entry
use Rattle.rpc_journal.specs.History.{same_vat, or_rest, if_so}
use Rattle.rpc_machine.specs.declared.command.Command.{Command}
use Rattle.rpc_machine.specs.declared.command.Command.TheVariants as command
use Rattle.rpc_machine.specs.declared.command.Granted.{Granted}
use Rattle.rpc_machine.specs.declared.command.Granted.TheVariants as granted
use Rattle.rpc_machine.specs.declared.command.Refusal.{Refusal}
use Rattle.rpc_machine.specs.declared.command.Effects.{Effects}
use Rattle.rpc_machine.specs.declared.command.Level.TheVariants.{One}
use Rattle.rpc_machine.specs.declared.event.Event.{Event}
use Rattle.rpc_machine.specs.declared.event.Event.TheVariants as event
use Rattle.rpc_machine.specs.Numbers.{want_of_room}
use Rattle.rpc_machine.specs.State.{State, start}
use Rattle.rpc_machine.specs.Down.{fallen, falling}
use Rattle.rpc_machine.specs.Steps.{Obeys, Receives}
use Rattle.rpc_machine.specs.Queries.{counts_of}

-- A vat's core, and the messages on their way to it, the oldest first.
pub record Side : Type 0 where
  pub core : State
  pub inbox : List Message

pub record World : Type 0 where
  pub a : Side
  pub b : Side

abbrev pub side : World → Vat → Side
side w A = w.a
side w B = w.b

abbrev pub put_side : World → Vat → Side → World
put_side w A x = record w { a = x }
put_side w B x = record w { b = x }

abbrev pub core : World → Vat → State
core w v = (side w v).core

abbrev pub inbox : World → Vat → List Message
inbox w v = (side w v).inbox

abbrev pub put_core : World → Vat → State → World
put_core w v s = put_side w v (record (side w v) { core = s })

abbrev pub put_inbox : World → Vat → List Message → World
put_inbox w v ms = put_side w v (record (side w v) { inbox = ms })

-- Two new vats of level 1 with these bootstrap objects, and nothing on its way.
abbrev pub new_world : Option ObjectId → Option ObjectId → World
new_world root_a root_b = record { a = record { core = start A One root_a; inbox = [] }; b = record { core = start B One root_b; inbox = [] } }

-- ---- What happens

-- What an event answers: what the command answers, with its effects; the effects of the message; or that there was none,
-- or the vat is down.
pub data StepAnswer : Type 0 where
  Answered : (answer : Result Granted Refusal) (effects : Effects) → StepAnswer
  Handled : (effects : Effects) → StepAnswer
  Empty : StepAnswer

-- An event, what it answered, and whether the links and the journal had room for what it says.
pub record Happening : Type 0 where
  pub event : Event
  pub answer : StepAnswer
  pub had_room : Bool

-- ---- One vat's step, and what is told of it

-- Where the links and the journal had no room for what a step says, the vat goes down with fault 33, if the step did not
-- take it down. Room for that is kept.
abbrev pub overflow_effects : Effects → Option ℕ → Effects
overflow_effects effects None = falling want_of_room
overflow_effects effects (Some n) = effects

abbrev pub overflown : State → Option ℕ → State
overflown s None = fallen s want_of_room
overflown s (Some n) = s

-- A core's step with these effects to the state s is told with those effects, and leaves that state.
abbrev pub Tells : Effects → State → Bool → Effects → State → Type 0
Tells effects s true told new = (told ≡ effects) × (new ≡ s)
Tells effects s false told new = (told ≡ overflow_effects effects s.down) × (new ≡ overflown s s.down)

-- What is left of an answer where there was no room: a reference that was to advance did not.
abbrev pub given_up : Result Granted Refusal → Result Granted Refusal
given_up (Ok (granted.Advanced a)) = Ok (granted.Advanced advanced.Nothing)
given_up answer = answer

-- A command to a vat: what it answers, the effects as they are told, and what it leaves.
abbrev pub CommandTold : State → Command → Result Granted Refusal → Effects → Bool → State → Type 0
CommandTold s c answer told room new =
    (said : Result Granted Refusal) × (effects : Effects) × (mid : State) × Obeys s c said effects mid
    × (answer ≡ cond room said (given_up said)) × Tells effects mid room told new

-- A message that a vat receives: the effects as they are told, and what it leaves.
abbrev pub MessageTold : State → Message → Effects → Bool → State → Type 0
MessageTold s m told room new = (effects : Effects) × (mid : State) × Receives s m effects mid × Tells effects mid room told new

-- ---- Events of a world

-- The vat's core is new, and what it sent is behind what was on its way.
abbrev pub after : World → Vat → Effects → State → World
after w v effects s = put_inbox (put_core w v s) (other_vat v) (inbox w (other_vat v) ++ effects.sends)

-- A command at a vat that is up.
abbrev pub CommandsUp : World → Vat → Command → StepAnswer → Bool → World → Type 0
CommandsUp w v c (Answered answer told) room new = (s : State) × CommandTold (core w v) c answer told room s × (new ≡ after w v told s)
CommandsUp w v c (Handled told) room new = ⊥
CommandsUp w v c Empty room new = ⊥

-- At a vat that is down a command is refused, a shut does nothing, and nothing changes.
abbrev pub CommandsDown : World → Vat → Command → StepAnswer → World → Type 0
CommandsDown w v c (Answered answer told) new = Obeys (core w v) c answer told (core w v) × (new ≡ w)
CommandsDown w v c (Handled told) new = ⊥
CommandsDown w v c Empty new = ⊥

abbrev pub CommandsAt : World → Vat → Command → Option ℕ → StepAnswer → Bool → World → Type 0
CommandsAt w v c None answer room new = CommandsUp w v c answer room new
CommandsAt w v c (Some n) answer room new = CommandsDown w v c answer new

-- A vat that is up receives this message.
abbrev pub ReceivesUp : World → Vat → Message → StepAnswer → Bool → World → Type 0
ReceivesUp w v m (Answered answer told) room new = ⊥
ReceivesUp w v m (Handled told) room new = (s : State) × MessageTold (core w v) m told room s × (new ≡ after w v told s)
ReceivesUp w v m Empty room new = ⊥

-- It is the oldest one that was sent to it. Nothing happens where there is none, or the vat is down.
abbrev pub ReceivesAt : World → Vat → List Message → Option ℕ → StepAnswer → Bool → World → Type 0
ReceivesAt w v [] down answer room new = (answer ≡ Empty) × (new ≡ w)
ReceivesAt w v (m ∷ ms) (Some n) answer room new = (answer ≡ Empty) × (new ≡ w)
ReceivesAt w v (m ∷ ms) None answer room new = ReceivesUp (put_inbox w v ms) v m answer room new

abbrev pub HappensBy : World → Event → StepAnswer → Bool → World → Type 0
HappensBy w (event.Command v c) answer room new = CommandsAt w v c (core w v).down answer room new
HappensBy w (event.Deliver v) answer room new = ReceivesAt w v (inbox w v) (core w v).down answer room new

-- One event.
abbrev pub Happens : World → Happening → World → Type 0
Happens w x new = HappensBy w x.event x.answer x.had_room new

-- Events in order, whatever each answers.
abbrev pub Run : World → List Happening → World → Type 0
Run w [] new = new ≡ w
Run w (x ∷ xs) new = (mid : World) × Happens w x mid × Run mid xs new

-- ---- Questions to a world

abbrev pub shut_with : Vat → Event → StepAnswer → Option ℕ
shut_with v (event.Command u (command.Shut n)) (Answered answer told) = if_so (same_vat v u && is_some told.down) n
shut_with v e answer = None

-- The number of the shut that took the vat down, if one did.
abbrev pub shut_number : Vat → List Happening → Option ℕ
shut_number v [] = None
shut_number v (x ∷ xs) = or_rest (shut_with v x.event x.answer) (shut_number v xs)

-- A shut took the vat down.
abbrev pub was_shut : Vat → List Happening → Bool
was_shut v xs = is_some (shut_number v xs)

-- The entry of both vats' counts. To write it is no event.
abbrev pub tables_entry : World → JournalEntry
tables_entry w = entry.Tables (counts_of w.a.core) (counts_of w.b.core)
