use Rattle.std.proofs.Common.{◌≡◌, ◌+◌, ◌≤◌, None, sym, subst}
use Rattle.rpc_machine.specs.declared.command.Command.TheVariants as command
use Rattle.rpc_machine.specs.declared.command.Granted.TheVariants as granted
use Rattle.rpc_machine.specs.Commands.{Acts}
use Rattle.rpc_machine.specs.Refusals.{refused}
use Rattle.core_store.specs.Holding.{state_of}
use Rattle.core_step.specs.declared.step.Step.{Step}
use Rattle.core_step.specs.InProgress.{progress_of, IsReady}
use Rattle.core_step_commands.proofs.advances.advance.Goals as goal

pub advance_walked-requires-clause-ready : goal.advance_walked-requires-clause-ready
advance_walked-requires-clause-ready c = subst (λ (x : Step). IsReady x) (sym c.shorten_ways.ensures) c.requires.ready

pub advance_walked-requires-clause-slack : goal.advance_walked-requires-clause-slack
advance_walked-requires-clause-slack c = subst (λ (x : Step). 3 ≤ x.store.slack) (sym c.shorten_ways.ensures) c.requires.slack

pub advance_walked-requires-clause-allowed : goal.advance_walked-requires-clause-allowed
advance_walked-requires-clause-allowed c =
    subst (λ (x : Step). refused (state_of x.store) (command.Advance c.args.id) ≡ None) (sym c.shorten_ways.ensures) c.requires.allowed

pub returns : goal.returns
returns c =
    let new = c.advance_walked.new.step in
    let walked = c.advance_walked.ensures in
    let same = c.shorten_ways.ensures in record {
      acts =
          subst (λ (x : Step). Acts (progress_of x) (command.Advance c.args.id) (granted.Advanced c.advance_walked.result) (progress_of new)) same walked.acts;
      left = subst (λ (x : Step). x.store.slack ≤ new.store.slack + 3) same walked.left;
      taken = subst (λ (x : Step). new.store.waits.taken ≡ x.store.waits.taken) same walked.taken;
      ready = walked.ready;
    }
