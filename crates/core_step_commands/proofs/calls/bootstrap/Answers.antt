use Rattle.std.proofs.Common.{ap, ◌∙◌, arith}
use Rattle.std.specs.FinMap as map
use Rattle.finite_maps.proofs.Lens.{len_new}
use Rattle.rpc_machine.specs.State.{State}
use Rattle.core_step.proofs.Readying.{ready_grown}
use Rattle.core_step_commands.proofs.calls.bootstrap.Goals as goal

pub send-requires-clause-ready : goal.send-requires-clause-ready
send-requires-clause-ready c =
    let asked = ap (λ (s : State). map.len s.questions) c.in-Ok.ensures.asked.1 ∙ len_new _ _ _ c.in-Ok.ensures.asked.0 in
    let numbered = ap (λ (s : State). map.len s.questions) c.number_call-call.ensures.state in
    let imports = ap (λ (s : State). map.len s.imports) c.in-Ok.ensures.asked.1 ∙ ap (λ (s : State). map.len s.imports) c.number_call-call.ensures.state in
    let left = c.in-Ok.ensures.left in
    let before = c.number_call-call.ensures.left in
    let some = c.requires.slack in
    ready_grown c.args.step.now c.ask_direct.new.store c.requires.ready c.ask_direct.ensures.sound (omega (arith, left, before)) (omega (arith, asked, numbered, left, before, some)) (omega (arith, imports, left, before))
