use Rattle.std.proofs.Common.{refl, ◌∙◌}
use Rattle.core_step.specs.InProgress.{progress_of}
use Rattle.core_step_settles.proofs.Said.{tells_peer}
use Rattle.core_step_settles.proofs.answers.returns.Goals as goal

pub returns-clause-told : goal.returns-clause-told
returns-clause-told c =
    let found = c.in-Some.answer.now in
    tells_peer (progress_of c.args.step.now) c.args.q c.args.value found found.finished c.in_ok-taken.taken c.deref-2.result.now
    (progress_of c.say_back.new.step) (progress_of c.collect.new.step) (progress_of c.send_return.new.step) c.in_ok-said.said.body c.in_ok-said.said.ids
    c.in-Some.ensures refl c.in_ok-taken.ensures (c.deref-2.ensures.value ∙ c.deref.ensures) c.in_ok-said.ensures.says c.in_ok-said.ensures.same c.collect.ensures.collects c.in_ok-send_return.ensures.sent
