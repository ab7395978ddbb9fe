use Rattle.std.proofs.Common.{Option, ap, subst, ◌∙◌}
use Rattle.std.specs.FinMap as map
use Rattle.finite_maps.proofs.Gets.{get-remove_same}
use Rattle.rpc_machine.specs.declared.entries.Reference.{Reference}
use Rattle.rpc_machine.specs.State.{State}
use Rattle.core_store.specs.Holding.{state_of}
use Rattle.core_steps.specs.Undoing.{LiftsOf}
use Rattle.core_steps.proofs.Leading.{back_again}
use Rattle.core_steps.proofs.undo.lead_back.Goals as goal

pub put_back_ref-requires-clause-free : goal.put_back_ref-requires-clause-free
put_back_ref-requires-clause-free c =
    ap (λ m. map.get m c.args.id.0) (c.lift_of.ensures.refs ∙ ap (λ (x : State). x.refs) c.forget_ref-led.ensures.state) ∙ get-remove_same (state_of c.args.store.now).refs c.args.id.0

pub returns-clause-back : goal.returns-clause-back
returns-clause-back c = λ s there free led.
    let t = state_of c.args.store.now in
    let u = state_of c.lift_of.new.store in
    let hs = c.lift_of.new.store.waits.taken in
    let lifts = subst (λ (o : Option Reference). LiftsOf (record t { refs = map.remove t.refs c.args.id.0 }) o u hs) c.forget_ref-led.ensures.value
    (subst (λ (x : State). LiftsOf x c.forget_ref-led.result u hs) c.forget_ref-led.ensures.state c.lift_of.ensures.lifted) in
    let back = back_again s t u (state_of c.put_back_ref.new.store) c.args.id.0 c.args.from hs there free led lifts c.put_back_ref.ensures.state in
    (back.0, ap (λ w. w.taken) c.put_back_ref.ensures.waits ∙ back.1)
