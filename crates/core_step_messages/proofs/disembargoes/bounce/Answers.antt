use Rattle.std.proofs.Common.{◌≡◌, OnOk, sym, subst}
use Rattle.rpc_machine.specs.Advancing.{wire_target}
use Rattle.rpc_machine.specs.Faults.{target_node}
use Rattle.rpc_machine.specs.Messages.{Bounces}
use Rattle.rpc_machine.specs.Nodes.{settle}
use Rattle.core_store.specs.Holding.{state_of}
use Rattle.core_step.specs.declared.step.Step.{Step}
use Rattle.core_step.specs.InProgress.{progress_of, IsReady}
use Rattle.core_step_messages.proofs.disembargoes.bounce.Goals as goal

pub bounce_back-requires : goal.bounce_back-requires
bounce_back-requires c = subst (λ (x : Step). IsReady x) (sym c.shorten_target.ensures) c.requires

pub returns : goal.returns
returns c =
    let new = c.bounce_back.new.step in record {
      bounces =
          subst
          (λ (x : Step). OnOk c.bounce_back.result (Bounces (progress_of x) c.args.id (wire_target (settle (state_of x.store) (target_node (state_of x.store) c.args.target))) (progress_of new)))
          c.shorten_target.ensures c.bounce_back.ensures.bounces;
      taken = subst (λ (x : Step). OnOk c.bounce_back.result (new.store.waits.taken ≡ x.store.waits.taken)) c.shorten_target.ensures c.bounce_back.ensures.taken;
      ready = c.bounce_back.ensures.ready;
    }
