-- In each scene a command is written as meanings want it: with its own entries the history says first what they say.
use Rattle.std.specs.Prelude.{◌≡◌, ℕ, ◌<◌, false, Option, None, List, ◌++◌}
use Rattle.rpc_msg.specs.declared.ids.Vat.{Vat}
use Rattle.rpc_msg.specs.declared.ids.ObjectId.{ObjectId}
use Rattle.rpc_msg.specs.Op.{Op}
use Rattle.rpc_msg.specs.CapAt.TheVariants.{Cap}
use Rattle.rpc_msg.specs.Payloads.{Contents as Payload}
use Rattle.rpc_machine.specs.Payloads.{cap_at, caps_in}
use Rattle.rpc_machine.specs.declared.command.Command.{Command}
use Rattle.rpc_machine.specs.declared.command.Command.TheVariants as command
use Rattle.rpc_machine.specs.declared.command.Granted.{Granted}
use Rattle.rpc_machine.specs.declared.command.Effects.{Effects}
use Rattle.rpc_machine.specs.State.{State}
use Rattle.rpc_machine.specs.Refusals.{refused}
use Rattle.rpc_machine.specs.Steps.{Does}
use Rattle.rpc_machine.specs.World.{core}
use Rattle.rpc_machine.specs.Journal.{granted_entries}
use Rattle.rpc_machine.specs.Claims.{history}
use Rattle.laws_runs.specs.Scenes.{Scene, IsScene, is_over}
use Rattle.laws_meanings.specs.CommandMeanings.{IsWritten, IsWrittenOpen}

abbrev pub Opens : Command → Type 0
Opens command.Bootstrap = Unit {0}
Opens (command.Call k) = Unit {0}
Opens command.Promise = Unit {0}
Opens c = ⊥

-- A payload names no other capabilities than go with it.
abbrev pub NamesItsCaps : Type 0
NamesItsCaps = (p : Payload) (path : List Op) (i : ℕ) → cap_at p path ≡ Cap i → i < caps_in p

-- So of each command that is done in a scene.
abbrev pub CommandsAreWritten : Type 0
CommandsAreWritten =
    (root_a root_b : Option ObjectId) (x : Scene) (v : Vat) (c : Command) (g : Granted) (e : Effects) (t : State)
    → IsScene root_a root_b x → is_over x v ≡ false → refused (core x.world v) c ≡ None → Does (core x.world v) c g e t
    → IsWritten (history root_a root_b (x.journal ++ granted_entries x.journal v c g)) v (core x.world v) c
    × (Opens c → IsWrittenOpen (history root_a root_b (x.journal ++ granted_entries x.journal v c g)) v (core x.world v) c)
