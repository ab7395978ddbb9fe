-- Why a received message is not taken.
use Rattle.std.specs.Prelude.{◌≡◌, ◌⊎◌, ℕ, Option, Some}
use Rattle.rpc_msg.specs.declared.message.Message.{Message}
use Rattle.rpc_machine.specs.declared.fault.Fault.{Fault}
use Rattle.rpc_machine.specs.declared.fault.Fault.TheVariants as fault
use Rattle.rpc_machine.specs.Numbers.{fault_number}
use Rattle.rpc_machine.specs.State.{State}
use Rattle.rpc_machine.specs.Faults.{fault_of}
use Rattle.rpc_machine.specs.Steps.{MayLackRoom}

-- The fault that the checks find, or want of room or of memory, where that may come.
abbrev pub StopsIf : Option ℕ → Type 0 → Fault → Type 0
StopsIf found may f = (found ≡ Some (fault_number f)) ⊎ ((f ≡ fault.WantOfRoom) × may)

-- Where it may come.
abbrev pub Stops : Option ℕ → Fault → Type 0
Stops found f = StopsIf found (Unit {0}) f

-- The message takes the vat down with this fault.
abbrev pub StopsBy : State → Message → Fault → Type 0
StopsBy s m f = StopsIf (fault_of s m) (MayLackRoom m) f
