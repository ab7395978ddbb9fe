use Rattle.std.proofs.Common.{ℕ, sym, ap, ◌∙◌}
use Rattle.rpc_machine.specs.Down.{silent, falling, fallen}
use Rattle.core_store.specs.Holding.{state_of}
use Rattle.core_step.specs.InProgress.{progress_of}
use Rattle.core_steps.proofs.Received.{aborted, ended, fell}
use Rattle.core_steps.proofs.messages.receive.Goals as goal

pub returns-then-is_abort-clause-receives : goal.returns-then-is_abort-clause-receives
returns-then-is_abort-clause-receives c =
    let s = state_of c.args.machine.now.step.store in
    aborted s (state_of c.fall_silently_as.new.machine.step.store) c.args.message c.fall_silently_as.result c.in-None.is (sym c.is_abort.ensures ∙ c.if-is_abort.true)
    (c.fall_silently_as.ensures.effects ∙ ap (λ (n : ℕ). silent n) c.code.ensures)
    (c.fall_silently_as.ensures.state ∙ c.named_of-named.ensures c.code.result ∙ ap (λ (n : ℕ). fallen s n) c.code.ensures)

pub returns-clause-receives : goal.returns-clause-receives
returns-clause-receives c =
    let s = state_of c.args.machine.now.step.store in
    fell s (state_of c.fall_as.new.machine.step.store) c.args.message c.fall_as.result c.in-Err.fault c.in-None.is (sym c.is_abort.ensures ∙ c.if-is_abort.false) c.in-Err.ensures.fault
    (c.fall_as.ensures.effects ∙ ap (λ (n : ℕ). falling n) c.code-2.ensures)
    (c.fall_as.ensures.state ∙ c.named_of-named.ensures c.code-2.result ∙ ap (λ (n : ℕ). fallen s n) c.code-2.ensures)

pub returns-in_default-received-clause-receives : goal.returns-in_default-received-clause-receives
returns-in_default-received-clause-receives c =
    ended (state_of c.args.machine.now.step.store) c.args.message (progress_of c.receive_whole-received.new.step) c.end_settled.result (state_of c.end_settled.new.step.store) c.in-None.is c.in_default-received.ensures.none c.in_default-received.ensures.done
    c.end_settled.ensures.ends c.end_settled.ensures.idle.sound.within
