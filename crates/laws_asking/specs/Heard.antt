-- What a vat says is heard through the adapter of its peer, without a fault (docs/messages.md, "Peers of other make").
use Rattle.std.specs.Prelude.{◌≡◌, ◌≢◌, ℕ, Option, Result, Ok, Err, List, [], ◌∷◌, ◌++◌}
use Rattle.rpc_msg.specs.declared.ids.Vat.{Vat}
use Rattle.rpc_msg.specs.declared.ids.ObjectId.{ObjectId}
use Rattle.rpc_msg.specs.declared.message.Message.{Message}
use Rattle.rpc_codec.specs.Envelopes.{profile}
use Rattle.rpc_machine.specs.declared.command.Level.{Level}
use Rattle.rpc_machine.specs.declared.command.Command.{Command}
use Rattle.rpc_machine.specs.declared.command.Granted.{Granted}
use Rattle.rpc_machine.specs.declared.command.Refusal.{Refusal}
use Rattle.rpc_machine.specs.declared.command.Effects.{Effects}
use Rattle.rpc_machine.specs.State.{State, start}
use Rattle.rpc_machine.specs.Down.{fallen}
use Rattle.rpc_machine.specs.Steps.{Obeys, Receives}
use Rattle.peer_finishes.specs.declared.held.Finishes.{Finishes}
use Rattle.peer_adapter.specs.declared.errors.PeerFault.{PeerFault}
use Rattle.peer_adapter.specs.Peering.{Coming, Peering, Tables, comes, fresh, goes}
use Rattle.laws_asking.specs.Turns.{BringsNoneBack}

-- A vat of any level came to the state, whatever it was commanded and whatever it received, but for questions of its own. It said these
-- messages, the oldest first.
pub data Says : State → List Message → Type 0 where
  New : (vat : Vat) (level : Level) (bootstrap : Option ObjectId) → Says (start vat level bootstrap) []
  Commanded : {s t : State} {said : List Message} (c : Command) (answer : Result Granted Refusal) (x : Effects) → Says s said → Obeys s c answer x t → Says t (said ++ x.sends)
  Received : {s t : State} {said : List Message} (m : Message) (x : Effects) → Says s said → BringsNoneBack m → Receives s m x t → Says t (said ++ x.sends)
  Fell : {s : State} {said : List Message} (n : ℕ) → Says s said → Says (fallen s n) said

-- An adapter heard these messages in order, and found none at fault, with any tables of the vat behind it. That vat said anything
-- meanwhile.
pub data HeardBy : Peering → List Message → Type 0 where
  NoneYet : HeardBy fresh []
  Hears : {p : Peering} {ms : List Message} (t : Tables) (m : Message) (c : Coming) → HeardBy p ms → comes t p (profile m) ≡ Ok c → HeardBy c.state (ms ++ m ∷ [])
  Goes : {p : Peering} {ms : List Message} (m : Message) → HeardBy p ms → HeardBy (goes p m).state ms
  Sets : {p : Peering} {ms : List Message} (f : Finishes) → HeardBy p ms → HeardBy (record p { finishes = record (p.finishes) { finishes = f } }) ms

-- No message that the vat says is a fault for the adapter, which heard all before it.
abbrev pub NoneIsAFault : Type 0
NoneIsAFault =
    (s : State) (said before after : List Message) (m : Message) (p : Peering) (t : Tables) (f : PeerFault) → Says s said → said ≡ before ++ m ∷ after → HeardBy p before
    → comes t p (profile m) ≢ Err f
