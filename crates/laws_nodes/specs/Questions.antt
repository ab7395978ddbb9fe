-- When questions end (docs/protocol.md, "The end of a step").
use Rattle.std.specs.Prelude.{◌≡◌, ℕ, ◌<◌, Option, None, Some}
use Rattle.std.specs.FinMap as map
use Rattle.finite_maps.specs.Tally.{Map}
use Rattle.rpc_machine.specs.declared.calls.OwnCall.{OwnCall}
use Rattle.rpc_machine.specs.declared.entries.Role.{Role}
use Rattle.rpc_machine.specs.declared.entries.Role.TheVariants as role
use Rattle.rpc_machine.specs.declared.entries.Returned.{Returned}
use Rattle.rpc_machine.specs.declared.entries.Finishing.TheVariants as finishing
use Rattle.rpc_machine.specs.declared.entries.Question.{Question}
use Rattle.rpc_machine.specs.State.{State}
use Rattle.laws_steps.specs.NodesThere.{IsReached}

-- It was asked for a call of the application that is finished.
abbrev pub IsEnded : Map OwnCall → Role → Type 0
IsEnded calls (role.Direct c) = map.get calls c.0 ≡ None
IsEnded calls (role.Relay o) = ⊥

-- The call was made before.
abbrev pub IsOld : ℕ → Role → Type 0
IsOld next (role.Direct c) = c.0 < next
IsOld next (role.Relay o) = Unit {0}

abbrev pub IsInTime : Map OwnCall → ℕ → Option Question → Type 0
IsInTime calls next None = Unit {0}
IsInTime calls next (Some x) = (x.finish ≡ finishing.Sent → (x.returned ≡ None) × IsEnded calls x.role) × IsOld next x.role

abbrev pub IsRelayOpen : Role → Option Returned → Type 0
IsRelayOpen (role.Direct c) r = Unit {0}
IsRelayOpen (role.Relay o) r = r ≡ None

abbrev pub IsOpen : Option Question → Type 0
IsOpen None = Unit {0}
IsOpen (Some x) = IsRelayOpen x.role x.returned

pub record QuestionsEnd (s : State) : Type 0 where
  pub each : (q : ℕ) → IsInTime s.calls s.next_call (map.get s.questions q)
  pub relays : (q : ℕ) → IsOpen (map.get s.questions q)

abbrev pub EachEndsInTime : Type 0
EachEndsInTime = (s : State) → IsReached s → QuestionsEnd s
