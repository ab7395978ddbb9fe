-- One host, whatever is done with it and whatever its peer sends: a run of one vat with any peer (docs/laws/authority.md).
use Rattle.std.specs.Prelude.{◌≡◌, Option, Some, Result, Ok, Err, List, [], ◌∷◌, ◌++◌, flat_map}
use Rattle.rpc_msg.specs.declared.message.Message.{Message}
use Rattle.rpc_machine.specs.declared.command.Command.{Command}
use Rattle.rpc_machine.specs.declared.command.Granted.{Granted}
use Rattle.rpc_machine.specs.declared.command.Refusal.{Refusal}
use Rattle.laws_authority.specs.Runs.{Event as Logged, DidCommand, GotMessage}
use Rattle.vat_host.specs.declared.event.Event.{Event}
use Rattle.vat_host.specs.Hosting.{Hosted, Does, Hears, Refuses, Tells}
use Rattle.vat_hosts.specs.Calls.{calls_told, of_calls}

-- ---- what may be done

-- A command, with what it answers; the oldest messages are taken out, to be sent to the peer; a message of the peer comes; the host is
-- asked for what it has to tell.
pub data Act : Type 0 where
  Commands : Command → Result Granted Refusal → Act
  Takes : List Message → Act
  Receives : Message → Act
  Asks : Option Event → Act

abbrev pub TakesOut : Hosted → List Message → Hosted → Type 0
TakesOut old ms new = (left : List Message) × (old.messages ≡ ms ++ left) × (new ≡ record old { messages = left })

abbrev pub Acts : Hosted → Act → Hosted → Type 0
Acts old (Commands c (Ok granted)) new = Does old c granted new
Acts old (Commands c (Err refusal)) new = Refuses old c refusal new
Acts old (Takes ms) new = TakesOut old ms new
Acts old (Receives m) new = Hears old m new
Acts old (Asks event) new = Tells old event new

-- What is done, in order.
abbrev pub ActsAll : Hosted → List Act → Hosted → Type 0
ActsAll old [] new = new ≡ old
ActsAll old (x ∷ xs) new = (mid : Hosted) × Acts old x mid × ActsAll mid xs new

-- ---- what happened to its vat

-- A command was done, or a message came.
pub data Happening : Type 0 where
  Commanded : Command → Happening
  Received : Message → Happening

abbrev pub happened_by : Act → List Happening
happened_by (Commands c (Ok granted)) = Commanded c ∷ []
happened_by (Receives m) = Received m ∷ []
happened_by x = []

-- what a log has of that, the oldest first
abbrev pub happened_in : List Logged → List Happening
happened_in [] = []
happened_in (DidCommand s c x ∷ log) = happened_in log ++ Commanded c ∷ []
happened_in (GotMessage s m x ∷ log) = happened_in log ++ Received m ∷ []

-- ---- what its application is told of calls

abbrev pub told_by : Act → List Event
told_by (Asks (Some e)) = of_calls e
told_by x = []

-- what the application was told, and what it is still to be told
abbrev pub told_to : List Act → Hosted → List Event
told_to xs h = flat_map told_by xs ++ flat_map of_calls h.events

-- what the steps of a log left to tell, the oldest first
abbrev pub calls_in : List Logged → List Event
calls_in [] = []
calls_in (DidCommand s c x ∷ log) = calls_in log ++ calls_told x
calls_in (GotMessage s m x ∷ log) = calls_in log ++ calls_told x
