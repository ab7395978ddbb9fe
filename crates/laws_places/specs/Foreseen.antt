-- What settles a promise or an outcome makes no more exports than it may want (docs/protocol.md, "Limits").
use Rattle.std.specs.Prelude.{◌≡◌, ◌≤◌, ◌+◌, false}
use Rattle.std.specs.FinMap as map
use Rattle.rpc_machine.specs.declared.command.Command.{Command}
use Rattle.rpc_machine.specs.declared.command.Effects.{Effects}
use Rattle.rpc_machine.specs.declared.command.Granted.{Granted}
use Rattle.rpc_machine.specs.Limits.{table_limit}
use Rattle.rpc_machine.specs.State.{State}
use Rattle.rpc_machine.specs.Steps.{Does, MayFall}
use Rattle.laws_steps.specs.NodesThere.{IsReached}
use Rattle.laws_places.specs.Wanted.{wanted, wanted_by_calls, lacks_places}

-- `answer` and `resolve` make at most as many exports as they may want, and `fail` and `reject` make none.
abbrev pub ExportsAreForeseen : Type 0
ExportsAreForeseen = (s : State) (c : Command) (g : Granted) (x : Effects) (t : State) → IsReached s → MayFall c → Does s c g x t → map.len t.exports ≤ map.len s.exports + wanted s c

-- So where the exports that it may want by itself have a place, the limit of exports is passed at most by the capabilities of calls that
-- wait for what is settled; and where none of these has any, it is not passed.
abbrev pub PlacesSuffice : Type 0
PlacesSuffice = (s : State) (c : Command) (g : Granted) (x : Effects) (t : State) → IsReached s → MayFall c → map.len s.exports ≤ table_limit → lacks_places s c ≡ false → Does s c g x t → map.len t.exports ≤ table_limit + wanted_by_calls s c
