use Rattle.std.proofs.Common.{◌≡◌, false, true, length, IsOk, sym, ap, subst, ◌∙◌, arith}
use Rattle.std.specs.FinMap as map
use Rattle.core_store.specs.Holding.{state_of}
use Rattle.core_step_routes.proofs.Calling.{calls_kept, next_call_kept, ready_called, calls}
use Rattle.core_step_routes.proofs.Describing.{questions_kept}
use Rattle.core_step_routes.proofs.questions.call_direct_kept.Goals as goal

pub ask_direct-requires-clause-new : goal.ask_direct-requires-clause-new
ask_direct-requires-clause-new c =
    ap (λ m. map.get m c.args.id.0) (calls_kept (state_of c.args.step.now.store) (state_of c.describe_all_kept.new.store) c.deref-2.result.now c.describe_all_kept.new.said.items c.in_ok-describe_all_kept.ensures.ok) ∙ c.requires.new

pub ask_direct-requires-clause-counted : goal.ask_direct-requires-clause-counted
ask_direct-requires-clause-counted c =
    let e = next_call_kept (state_of c.args.step.now.store) (state_of c.describe_all_kept.new.store) c.deref-2.result.now c.describe_all_kept.new.said.items c.in_ok-describe_all_kept.ensures.ok in let a = c.requires.counted in omega (arith, e, a)

pub send-requires-clause-ready : goal.send-requires-clause-ready
send-requires-clause-ready c =
    let a = c.describe_all_kept.ensures.left.1 in let b = c.in_ok-question.ensures.left in let s = c.describe_all_kept.ensures.left.0 in let r = c.requires.slack in let l = ap length (c.deref-2.ensures.value ∙ c.deref.ensures) in
    ready_called c.args.step.now c.in_ok-question.question c.args.id c.deref-2.result.now c.describe_all_kept.new.said.items c.from_vec.result
    c.describe_all_kept.new.store c.ask_direct.new.store c.in_ok-describe_all_kept.ensures.ok c.in_ok-question.ensures.asked c.requires.ready c.ask_direct.ensures.sound (omega (arith, a, b, s, r, l))

pub returns-clause-called : goal.returns-clause-called
returns-clause-called c =
    calls c.args.step.now c.in_ok-question.question c.args.id c.deref-2.result.now c.describe_all_kept.new.said.items c.from_vec.result
    c.describe_all_kept.new.store c.ask_direct.new.store c.in_ok-describe_all_kept.ensures.ok c.in_ok-question.ensures.asked
    c.args.target c.args.request c.from_vec-2.result _ (c.deref-2.ensures.value ∙ c.deref.ensures) (c.from_vec.ensures ∙ c.in_ok-describe_all_kept.ensures.ids) c.from_vec-2.ensures c.send.ensures.said

pub returns-in_err-question-clause-fits : goal.returns-in_err-question-clause-fits
returns-in_err-question-clause-fits c = λ free room.
    let kept = questions_kept (state_of c.args.step.now.store) (state_of c.describe_all_kept.new.store) c.deref-2.result.now c.describe_all_kept.new.said.items c.in_ok-describe_all_kept.ensures.ok in
    absurd (let bad : false ≡ true = subst IsOk c.in_err-question.was (c.ask_direct.ensures.below (λ full. free (ap map.len (sym kept) ∙ full))) in cc)
