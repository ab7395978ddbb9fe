-- What a vat is called by never changes (docs/protocol.md, "What a vat holds").
use Rattle.std.specs.Prelude.{◌≡◌}
use Rattle.rpc_machine.specs.declared.command.Effects.{Effects}
use Rattle.rpc_machine.specs.State.{State}

-- A step from s to t leaves which vat it is, its level and its bootstrap object.
pub record KeepsNames (s : State) (effects : Effects) (t : State) : Type 0 where
  pub vat : t.vat ≡ s.vat
  pub level : t.level ≡ s.level
  pub bootstrap : t.bootstrap ≡ s.bootstrap
