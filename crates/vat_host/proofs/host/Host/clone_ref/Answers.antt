use Rattle.std.proofs.Common.{refl, rules}
use Rattle.rpc_machine.specs.declared.command.Command.TheVariants as command
use Rattle.rpc_machine.specs.declared.command.Granted.TheVariants as granted
use Rattle.rpc_machine.specs.Progress.{quiet}
use Rattle.vat_host.proofs.Doing.{obeyed, refuses, silent}
use Rattle.vat_host.proofs.Knowing.{by_command}
use Rattle.vat_host.proofs.host.Host.clone_ref.Goals as goal

pub returns-in-Err-clause-refused : goal.returns-in-Err-clause-refused
returns-in-Err-clause-refused c =
    refuses c.args.self.now c.self.inside.core c.clone_ref.new.self (command.CloneRef c.args.id) c.in-Err.refusal
    c.self.inside.kept.messages.0 c.self.inside.kept.messages.0 c.self.inside.kept.events.0 c.self.inside.kept.events.0 c.self.inside.objects c.self.inside.unanswered c.self.inside.down_notice
    c.self.view_is refl refl c.in-Err.ensures.unchanged c.in-Err.ensures.refused

pub returns-clause-done : goal.returns-clause-done
returns-clause-done c = (
  quiet,
  obeyed c.args.self.now c.self.inside.core c.clone_ref.new.self (command.CloneRef c.args.id) (granted.Reference c.in-Ok.made) quiet c.self.inside.kept.messages.0 c.self.inside.kept.events.0 c.self.inside.objects c.self.inside.unanswered c.self.inside.down_notice c.self.view_is c.in-Ok.ensures.done,
  silent c.args.self.now c.self.inside.core c.clone_ref.new.self c.self.inside.kept.messages.0 c.self.inside.kept.events.0 c.self.inside.objects c.self.inside.unanswered c.self.inside.down_notice c.self.view_is,
)

pub invariant_of-self-2 : goal.invariant_of-self-2
invariant_of-self-2 c = (search rules, by_command c.self.inside.core (command.CloneRef c.args.id) (granted.Reference c.in-Ok.made) quiet c.clone_ref.new.self c.self.inside.objects refl c.in-Ok.ensures.done c.self.invariant.1)
