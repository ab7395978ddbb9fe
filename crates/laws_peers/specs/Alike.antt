-- Between two vats each message is heard as it came (docs/messages.md, "Peers of other make").
use Rattle.std.specs.Prelude.{◌≡◌, Option, List, [], ◌∷◌}
use Rattle.rpc_msg.specs.declared.ids.Vat.{Vat}
use Rattle.rpc_msg.specs.declared.ids.ObjectId.{ObjectId}
use Rattle.rpc_msg.specs.Messages.{descriptors_of_plain}
use Rattle.rpc_msg.specs.declared.message.PlainMessage.{PlainMessage}
use Rattle.rpc_msg.specs.declared.message.Message.{Message}
use Rattle.rpc_msg.specs.declared.message.Message.TheVariants as message
use Rattle.rpc_codec.specs.Envelopes.{profile}
use Rattle.rpc_machine.specs.State.{State}
use Rattle.rpc_machine.specs.World.{World, new_world, core, inbox}
use Rattle.laws_messages.specs.Oldest.{IsFirstResolve, NoneClashes}
use Rattle.laws_runs.specs.Between.{Steady}
use Rattle.laws_runs.specs.SceneSessions.{InScenes}
use Rattle.peer_kinds.specs.Kinds.{comes, heard}
use Rattle.peer_kinds.specs.Laws.{NamesAlike}
use Rattle.peer_kinds.specs.Standings.{standings_in}

-- The oldest message on its way to either vat is heard as it came.
abbrev pub IsHeardAsItCame : World → Type 0
IsHeardAsItCame w = (v : Vat) (m : Message) (ms : List Message) → inbox w v ≡ m ∷ ms → comes (standings_in (core w v)) (profile m) ≡ heard (profile m)

pub record KindsStandAside : Type 0 where
  pub steady : (root_a root_b : Option ObjectId) (w : World) → Steady w (new_world root_a root_b) → IsHeardAsItCame w
  pub scenes : InScenes IsHeardAsItCame

-- A message that names no import in another kind, and resolves no import twice, names each export in one kind.
abbrev pub FittingNamesAreAlike : Type 0
FittingNamesAreAlike =
    (s : State) (p : PlainMessage) → IsFirstResolve s p → NoneClashes s [] (descriptors_of_plain p) → NamesAlike (standings_in s) (profile (message.Plain p))
