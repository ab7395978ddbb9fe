-- A new core is how its vat begins.
use Rattle.std.proofs.Common.{◌≡◌, true, None, sym, ap, subst, ◌∙◌}
use Rattle.rpc_msg.specs.declared.ids.Vat.{Vat}
use Rattle.rpc_machine.specs.declared.command.Level.{Level}
use Rattle.rpc_machine.specs.declared.command.Level.TheVariants.{One}
use Rattle.rpc_machine.specs.State.{State, start}
use Rattle.rpc_machine.specs.Queries.{is_new}
use Rattle.laws_ends.specs.NewCores.{NewIsStart}
use Rattle.link_logs.specs.Steps.{Held}
use Rattle.link_logs.specs.Promises.{IsBegun}
use Rattle.link_ends.specs.Ends.{IsNewCore, new_held}

starts : NewIsStart → (v : Vat) (s : State) → IsNewCore v s → s ≡ start v One s.bootstrap
starts law v s n =
    law s n.is_new ∙ ap (λ (u : Vat). start u s.level s.bootstrap) n.vat ∙ ap (λ (l : Level). start v l s.bootstrap) n.level

pub begun : NewIsStart → (v : Vat) (s : State) (h : Held) → h ≡ new_held s → IsNewCore v s → IsBegun v h
begun law v s h e n = subst (λ (g : Held). IsBegun v g) (sym e) (ap new_held (starts law v s n))

pub is_up : NewIsStart → (s : State) (h : Held) → h ≡ new_held s → is_new s ≡ true → h.core.down ≡ None
is_up law s h e n = ap (λ (g : Held). g.core.down) e ∙ ap (λ (u : State). u.down) (law s n)
