use Rattle.std.proofs.Common.{◌≡◌, false, true, length, IsOk, sym, ap, subst, ◌∙◌, arith}
use Rattle.std.specs.FinMap as map
use Rattle.rpc_machine.specs.declared.entries.Role.TheVariants as role
use Rattle.core_store.specs.Holding.{state_of}
use Rattle.core_step_routes.proofs.Sending.{ready_relayed, asks}
use Rattle.core_step_routes.proofs.Describing.{questions_kept}
use Rattle.core_step_routes.proofs.questions.relay_kept.Goals as goal

pub send-requires-clause-ready : goal.send-requires-clause-ready
send-requires-clause-ready c =
    let a = c.describe_all_kept.ensures.left.1 in let b = c.in_ok-question.ensures.left in let s = c.describe_all_kept.ensures.left.0 in let r = c.requires.slack in let l = ap length (c.deref-2.ensures.value ∙ c.deref.ensures) in
    ready_relayed c.args.step.now c.in_ok-question.question.0 (role.Relay c.args.call.outcome) c.deref-2.result.now c.describe_all_kept.new.said.items c.from_vec.result
    c.describe_all_kept.new.store c.ask_relay.new.store c.in_ok-describe_all_kept.ensures.ok c.in_ok-question.ensures.asked c.requires.ready c.ask_relay.ensures.sound (omega (arith, a, b, s, r, l))

pub returns-clause-relayed : goal.returns-clause-relayed
returns-clause-relayed c = (
  c.in_ok-question.question.0,
  asks c.args.step.now c.in_ok-question.question.0 (role.Relay c.args.call.outcome) c.deref-2.result.now c.describe_all_kept.new.said.items c.from_vec.result
      c.describe_all_kept.new.store c.ask_relay.new.store c.in_ok-describe_all_kept.ensures.ok c.in_ok-question.ensures.asked
      c.args.target c.args.call.request c.from_vec-2.result _ (c.deref-2.ensures.value ∙ c.deref.ensures) (c.from_vec.ensures ∙ c.in_ok-describe_all_kept.ensures.ids) c.from_vec-2.ensures c.send.ensures.said,
)

pub returns-in_err-question-clause-fits : goal.returns-in_err-question-clause-fits
returns-in_err-question-clause-fits c = λ free room.
    let kept = questions_kept (state_of c.args.step.now.store) (state_of c.describe_all_kept.new.store) c.deref-2.result.now c.describe_all_kept.new.said.items c.in_ok-describe_all_kept.ensures.ok in
    absurd (let bad : false ≡ true = subst IsOk c.in_err-question.was (c.ask_relay.ensures.below (λ full. free (ap map.len (sym kept) ∙ full))) in cc)
