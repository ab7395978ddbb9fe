-- One connection, whatever is done with it and whatever bytes its peer sends (docs/laws/hosts.md, "One connection and any peer").
use Rattle.std.specs.Prelude.{◌≡◌, ◌⊎◌, ℕ, Option, Some, Result, Ok, List, [], ◌∷◌, ◌++◌, flat_map}
use Rattle.rpc_machine.specs.declared.command.Command.{Command}
use Rattle.rpc_machine.specs.declared.command.Command.TheVariants as command
use Rattle.rpc_machine.specs.declared.command.Granted.{Granted}
use Rattle.rpc_machine.specs.declared.command.Refusal.{Refusal}
use Rattle.laws_authority.specs.Runs.{Event as Logged}
use Rattle.peer_finishes.specs.declared.held.Finishes.{Finishes}
use Rattle.vat_host.specs.declared.event.Event.{Event}
use Rattle.vat_hosts.specs.Calls.{of_calls}
use Rattle.vat_hosts.specs.OneHost.{Happening, Commanded, Received, happened_in}
use Rattle.vat_connection.specs.Connecting.{Connected, Asks as AsksCommand, AsksToFit, Finishes as FinishesStream, Gives as GivesBytes, IsShut, Receives as ReceivesBytes, Tells}
use Rattle.vat_connection.specs.Speaking.{finishing}
use Rattle.vat_connection.specs.declared.load.Limits.{Limits}

-- ---- what may be done

-- A command, with what it answers; bytes of the peer come; its stream ends; the vat is shut; the bytes for the peer are handed out; the
-- connection is asked for what it has to tell; the limits of its load are set, and when its Finishes go.
pub data Act : Type 0 where
  Commands : Command → Result Granted Refusal → Act
  Receives : List ℕ → Act
  Ends : Act
  Shuts : ℕ → Act
  Gives : List ℕ → Act
  Asks : Option Event → Act
  SetsLimits : Limits → Act
  SetsFinishes : Finishes → Act

abbrev pub Acts : Connected → Act → Connected → Type 0
Acts old (Commands c answer) new = AsksCommand old c answer new ⊎ AsksToFit old c answer new
Acts old (Receives bytes) new = ReceivesBytes old bytes new
Acts old Ends new = FinishesStream old new
Acts old (Shuts number) new = IsShut old number new
Acts old (Gives bytes) new = GivesBytes old bytes new
Acts old (Asks event) new = Tells old event new
Acts old (SetsLimits limits) new = new ≡ record old { limits = limits }
Acts old (SetsFinishes finishes) new = new ≡ record old { speaker = finishing old.speaker finishes }

-- What is done, in order.
abbrev pub ActsAll : Connected → List Act → Connected → Type 0
ActsAll old [] new = new ≡ old
ActsAll old (x ∷ xs) new = (mid : Connected) × Acts old x mid × ActsAll mid xs new

-- ---- which commands were done

-- A shut counts as none: a vat also goes down by itself.
abbrev pub but_shut : Command → List Command
but_shut (command.Shut n) = []
but_shut c = c ∷ []

abbrev pub commanded_by : Act → List Command
commanded_by (Commands c (Ok granted)) = but_shut c
commanded_by x = []

abbrev pub command_of : Happening → List Command
command_of (Commanded c) = but_shut c
command_of (Received m) = []

-- those of a log, the oldest first
abbrev pub commanded_in : List Logged → List Command
commanded_in log = flat_map command_of (happened_in log)

-- ---- what its application is told of calls

abbrev pub told_by : Act → List Event
told_by (Asks (Some e)) = of_calls e
told_by x = []

-- what the application was told, and what it is still to be told
abbrev pub told_to : List Act → Connected → List Event
told_to xs c = flat_map told_by xs ++ flat_map of_calls c.speaker.host.events
