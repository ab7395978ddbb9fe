-- What an end may answer to a command (docs/protocol.md, "Commands of the whole machine").
use Rattle.std.specs.Prelude.{◌≡◌, false}
use Rattle.rpc_machine.specs.declared.command.Command.{Command}
use Rattle.rpc_machine.specs.declared.command.Command.TheVariants as command
use Rattle.rpc_machine.specs.declared.command.Granted.{Granted}
use Rattle.rpc_machine.specs.declared.command.Granted.TheVariants as granted
use Rattle.rpc_machine.specs.Refusals.{is_shut}
use Rattle.link_sides.specs.Answer.{Answer}
use Rattle.link_sides.specs.Answer.TheVariants.{Done, Refused}
use Rattle.link_sides.specs.Sides.{IsQuiet}

abbrev pub IsNone : Granted → Type 0
IsNone granted.Done = Unit {0}
IsNone g = ⊥

abbrev pub IsReference : Granted → Type 0
IsReference (granted.Reference r) = Unit {0}
IsReference g = ⊥

abbrev pub IsCall : Granted → Type 0
IsCall (granted.Call c) = Unit {0}
IsCall g = ⊥

abbrev pub IsPromise : Granted → Type 0
IsPromise (granted.Promise p r) = Unit {0}
IsPromise g = ⊥

abbrev pub IsAdvanced : Granted → Type 0
IsAdvanced (granted.Advanced a) = Unit {0}
IsAdvanced g = ⊥

-- What each command grants.
abbrev pub Grants : Command → Granted → Type 0
Grants (command.Host o) g = IsReference g
Grants (command.CloneRef r) g = IsReference g
Grants (command.DropRef r) g = IsNone g
Grants command.Bootstrap g = IsCall g
Grants (command.Call c) g = IsCall g
Grants (command.Field c path) g = IsReference g
Grants command.Promise g = IsPromise g
Grants (command.Resolve p r) g = IsNone g
Grants (command.Reject p exception) g = IsNone g
Grants (command.Answer t payload refs) g = IsNone g
Grants (command.Fail t exception) g = IsNone g
Grants (command.Finish c) g = IsNone g
Grants (command.Advance r) g = IsAdvanced g
Grants (command.Shut n) g = IsNone g

-- It is done, with what such a command grants; what only makes a reference or a promise says nothing. Or it is refused, and
-- handed back; a shut never is.
abbrev pub IsAnswer : Command → Answer → Type 0
IsAnswer c (Done g effects) = Grants c g × IsQuiet c effects
IsAnswer c (Refused r back) = (back ≡ c) × (is_shut c ≡ false)
