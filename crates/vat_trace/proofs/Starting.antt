-- Two new vats.
use Rattle.std.proofs.Common.{◌≡◌, true, ap, subst}
use Rattle.rpc_msg.specs.declared.ids.Vat.{Vat}
use Rattle.rpc_machine.specs.State.{State}
use Rattle.rpc_machine.specs.Queries.{is_new}
use Rattle.link_driver.specs.Ends.{VatEnded, IsNewCore, new_held}
use Rattle.link_rings.specs.Ends.{IsNew}
use Rattle.vat_trace.specs.Pairs.{first_state, first_held}

pub new_core : (v : Vat) (s : State) → s ≡ first_state v → is_new s ≡ true → IsNewCore v s
new_core v s e new = record { vat = ap (λ (u : State). u.vat) e; level = ap (λ (u : State). u.level) e; is_new = new }

pub first_end : (v : Vat) (s : State) (x : VatEnded) → s ≡ first_state v → IsNew (new_held s) x → IsNew (first_held v) x
first_end v s x e n = subst (λ (u : State). IsNew (new_held u) x) e n
