-- A new core (docs/protocol.md, "What a vat holds").
use Rattle.std.specs.Prelude.{◌≡◌, true}
use Rattle.rpc_machine.specs.State.{State, start}
use Rattle.rpc_machine.specs.Queries.{is_new}

abbrev pub NewIsStart : Type 0
NewIsStart = (s : State) → is_new s ≡ true → s ≡ start s.vat s.level s.bootstrap
