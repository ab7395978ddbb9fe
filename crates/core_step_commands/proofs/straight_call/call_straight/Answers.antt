use Rattle.std.proofs.Common.{List, ap}
use Rattle.rpc_machine.specs.declared.node.Node.{Node}
use Rattle.core_step.specs.InProgress.{progress_of}
use Rattle.core_step_commands.proofs.Directly.{sent_by, straight_made}
use Rattle.core_step_commands.proofs.straight_call.call_straight.Goals as goal

pub returns-clause-acts : goal.returns-clause-acts
returns-clause-acts c =
    let d = progress_of c.args.step.now in
    straight_made d (progress_of c.number_through-number.new.step) c.args.call c.args.straight c.number_through-number.result (progress_of c.call_direct_kept.new.step) c.requires.straight
    c.number_through-number.ensures.numbered c.number_through-number.ensures.value _ (ap (λ (caps : List Node). sent_by d.state c.args.call c.args.straight.made caps) c.new.ensures) c.in-Ok.ensures.called
