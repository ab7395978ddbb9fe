use Rattle.std.proofs.Common.{◌≡◌, true, false, sym, ap, subst, ◌∙◌}
use Rattle.rpc_machine.specs.declared.command.Command.TheVariants as command
use Rattle.rpc_machine.specs.declared.command.Granted.TheVariants as granted
use Rattle.rpc_machine.specs.Progress.{Progress}
use Rattle.rpc_machine.specs.State.{State}
use Rattle.rpc_machine.specs.Settling.{NoneLeft}
use Rattle.core_store.specs.Holding.{state_of}
use Rattle.core_step.specs.InProgress.{progress_of}
use Rattle.core_step_commands.specs.Straight.{IsStraight}
use Rattle.core_steps.proofs.Answered.{does, done}
use Rattle.core_steps.proofs.straight_call.call_straight.Goals as goal

pub call_straight-id-requires-clause-straight : goal.call_straight-id-requires-clause-straight
call_straight-id-requires-clause-straight c = subst (λ (s : State). IsStraight s c.args.call c.args.straight) (sym c.begin_quietly.ensures.same) c.requires.straight

pub sweep-requires-clause-settled : goal.sweep-requires-clause-settled
sweep-requires-clause-settled c = c.call_straight-id.ensures.arisen ∙ ap (λ (p : Progress). p.arisen) c.in-Ok.ensures.begun

pub unreachable-requires : goal.unreachable-requires
unreachable-requires c =
    let bad : false ≡ true = c.in_default-sweep.ensures.rested (c.call_straight-id.ensures.noted ∙ c.in-Ok.ensures.rested) in
    cc

pub returns-clause-obeys : goal.returns-clause-obeys
returns-clause-obeys c =
    let s = state_of c.args.machine.now.step.store in
    let id = c.call_straight-id in
    let none = id.ensures.arisen ∙ ap (λ (p : Progress). p.arisen) c.in-Ok.ensures.begun in
    done s (command.Call c.args.call) (granted.Call id.result) c.in-Ok-sweep.effects (state_of c.sweep.new.step.store) c.requires.straight.allowed
    (does s (command.Call c.args.call) (granted.Call id.result) _ _ c.in-Ok-sweep.effects _ c.in-Ok.ensures.begun id.ensures.acts (c.in-Ok-sweep.ensures.ends (progress_of id.new.step) (NoneLeft none)))
    c.in-Ok-sweep.ensures.idle.sound.within
