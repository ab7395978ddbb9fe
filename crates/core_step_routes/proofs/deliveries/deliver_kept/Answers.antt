use Rattle.std.proofs.Common.{◌++◌, List, ap, ◌∙◌, arith}
use Rattle.rpc_msg.specs.declared.ids.RefId.{RefId}
use Rattle.rpc_machine.specs.Progress.{new_refs}
use Rattle.core_step_routes.proofs.Delivering.{same_next, ready_tasked, delivered}
use Rattle.core_step_routes.proofs.deliveries.deliver_kept.Goals as goal

pub add_task-task-requires-clause-number : goal.add_task-task-requires-clause-number
add_task-task-requires-clause-number c =
    let e = same_next c.args.step.now.store c.add_refs.new.store c.deref-2.result.now c.add_refs.ensures.state in
    let a = c.requires.next_task in
    omega (arith, e, a)

pub tell_delivery-requires-clause-ready : goal.tell_delivery-requires-clause-ready
tell_delivery-requires-clause-ready c =
    let a = c.add_refs.ensures.left in let b = c.add_task-task.ensures.left in
    ready_tasked c.args.step.now c.args.call c.deref-2.result.now c.add_refs.new.store c.add_task-task.new.store c.add_refs.ensures.state c.add_task-task.ensures.state
    c.requires.ready c.add_task-task.ensures.sound (omega (arith, a, b))

pub returns-clause-delivered : goal.returns-clause-delivered
returns-clause-delivered c =
    let x = c.args.step.now in
    delivered x c.args.call c.deref-2.result.now c.add_refs.new.store c.add_task-task.new.store c.add_refs.ensures.state c.add_task-task.ensures.state
    c.args.object c.add_task-task.result c.from_vec.result _ (c.deref-2.ensures.value ∙ c.deref.ensures) c.add_task-task.ensures.value
    (c.from_vec.ensures ∙ c.add_refs.ensures.ids ∙ ap (λ (l : List RefId). l ++ new_refs x.store.next_ref c.deref-2.result.now) c.requires.empty)
    c.tell_delivery.ensures.said
