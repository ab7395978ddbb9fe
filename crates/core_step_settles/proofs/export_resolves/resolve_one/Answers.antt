use Rattle.std.proofs.Common.{subst}
use Rattle.std.proofs.lemmas.Result.{on_ok_weaker}
use Rattle.rpc_machine.specs.declared.node.Node.{Node}
use Rattle.rpc_machine.specs.Settling.{ResolvesBy}
use Rattle.core_step.specs.InProgress.{progress_of}
use Rattle.core_step_settles.proofs.Resolves.{names_where}
use Rattle.core_step_settles.proofs.export_resolves.resolve_one.Goals as goal

pub returns-in_default : goal.returns-in_default
returns-in_default c =
    let d = progress_of c.args.step.now in
    let new = progress_of c.resolve_to.new.step in record {
      sent =
          on_ok_weaker c.resolve_to.result
          (λ h. subst (λ (n : Node). ResolvesBy d c.args.id c.args.told.now n new) c.settle-at.ensures (names_where d c.args.id c.args.told.now c.settle-at.result new c.in_default.not-Broken h))
          c.resolve_to.ensures.sent;
      taken = c.resolve_to.ensures.taken;
      ready = c.resolve_to.ensures.ready;
    }
