-- A vat that went down.
use Rattle.std.proofs.Common.{◌≡◌, ℕ, Option, Some, None, Bool, true, false, is_some, refl, ap}
use Rattle.rpc_machine.specs.declared.command.Effects.{Effects}
use Rattle.rpc_machine.specs.Down.{ShutsFrom}
use Rattle.rpc_machine.specs.State.{State}
use Rattle.vat_connection.specs.Speaking.{Speaking, Falls}

shuts_by : (s new : State) (n : ℕ) (d : Option ℕ) (effects : Effects) → d ≡ None → ShutsFrom s n d effects new → new.down ≡ Some n
shuts_by s new n None effects up shuts = ap (λ (t : State). t.down) shuts.new_is
shuts_by s new n (Some m) effects up shuts = absurd (let e : ◌≡◌ {A = Option ℕ} (Some m) None = up in cc)

pub falls_down : (old new : Speaking) (n : ℕ) → old.host.core.down ≡ None → Falls old n new → new.host.core.down ≡ Some n
falls_down old new n up falls = shuts_by old.host.core new.host.core n old.host.core.down falls.0.0 up falls.0.1

pub is_up : (d : Option ℕ) → is_some d ≡ false → d ≡ None
is_up None e = refl
is_up (Some n) e = absurd (let k : ◌≡◌ {A = Bool} true false = e in cc)
