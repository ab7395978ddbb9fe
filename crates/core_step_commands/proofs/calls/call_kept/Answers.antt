use Rattle.std.proofs.Common.{◌≡◌, false, true, IsOk, sym, subst, ℕ, List, ap, ◌∙◌, arith}
use Rattle.rpc_machine.specs.declared.node.Node.{Node}
use Rattle.rpc_machine.specs.declared.calls.Request.{Request}
use Rattle.rpc_machine.specs.Fullness.{lacks_room_through}
use Rattle.rpc_machine.specs.Commands.{heads}
use Rattle.core_store.specs.Holding.{state_of}
use Rattle.core_step.specs.InProgress.{progress_of}
use Rattle.core_step_routes.specs.Prepared.{IsPrepared}
use Rattle.core_step_commands.proofs.Making.{caps_long, more_calls, is_new, makes}
use Rattle.core_step_commands.proofs.Rooms.{goes_numbered, room_numbered}
use Rattle.core_step_commands.proofs.calls.call_kept.Goals as goal

pub call_through-requires-clause-slack : goal.call_through-requires-clause-slack
call_through-requires-clause-slack c =
    let long = caps_long (state_of c.args.step.now.store) c.args.call c.in-Some.reference c.request_of-request.result c.request_of-request.ensures in
    let left = c.number_through-number.ensures.left in let a = c.requires.slack in
    omega (arith, long, left, a)

pub call_through-requires-clause-new : goal.call_through-requires-clause-new
call_through-requires-clause-new c =
    is_new c.args.step.now c.number_through-number.new.step c.args.call.reference.0 c.number_through-number.ensures.numbered c.number_through-number.result c.requires.ready c.number_through-number.ensures.value

pub call_through-requires-clause-counted : goal.call_through-requires-clause-counted
call_through-requires-clause-counted c =
    let more = more_calls c.args.step.now c.number_through-number.new.step c.args.call.reference.0 c.number_through-number.ensures.numbered in
    let given = ap (λ i. i.0) c.number_through-number.ensures.value in
    omega (arith, more, given)

pub call_through-requires-clause-prepared : goal.call_through-requires-clause-prepared
call_through-requires-clause-prepared c =
    subst (λ (n : ℕ). IsPrepared n c.args.lists) (sym (caps_long (state_of c.args.step.now.store) c.args.call c.in-Some.reference c.request_of-request.result c.request_of-request.ensures)) c.requires.prepared

pub returns-clause-acts : goal.returns-clause-acts
returns-clause-acts c =
    makes (progress_of c.args.step.now) (progress_of c.number_through-number.new.step) c.args.call c.in-Some.reference c.request_of-request.result c.number_through-number.result _ (sym c.in-Some.ensures)
    c.number_through-number.ensures.numbered c.request_of-request.ensures c.number_through-number.ensures.value c.in_ok-call_through.ensures.called

pub returns-in_err-call_through-clause-fits : goal.returns-in_err-call_through-clause-fits
returns-in_err-call_through-clause-fits c = λ none there room.
    let x = c.args.step.now in
    let s = state_of x.store in
    let mid = c.number_through-number.new.step in
    let r = c.args.call.reference.0 in
    let y = c.in-Some.reference in
    let is = c.number_through-number.ensures.numbered in
    let caps : c.request_of-request.result.caps ≡ heads s c.args.call.refs = ap (λ (q : Request). q.caps) c.request_of-request.ensures in
    let roomy = ap (λ (ns : List Node). lacks_room_through (state_of mid.store) ns y.head y.embargo) caps ∙ room_numbered x mid r is y (sym c.in-Some.ensures) (heads s c.args.call.refs) room in
    let ok = c.call_through.ensures.fits (c.number_through-number.ensures.taken ∙ none) (goes_numbered x mid r is y (sym c.in-Some.ensures) _ there) roomy in
    absurd (let bad : false ≡ true = subst IsOk c.in_err-call_through.was ok in cc)

pub returns-clause-left : goal.returns-clause-left
returns-clause-left c =
    let long = caps_long (state_of c.args.step.now.store) c.args.call c.in-Some.reference c.request_of-request.result c.request_of-request.ensures in
    let same = c.number_through-number.ensures.left in let a = c.in_ok-call_through.ensures.left in
    omega (arith, long, same, a)
