use Rattle.std.proofs.Common.{refl, rules, sym, subst}
use Rattle.rpc_machine.specs.declared.command.Command.TheVariants as command
use Rattle.rpc_machine.specs.declared.command.Granted.TheVariants as granted
use Rattle.rpc_machine.specs.Progress.{quiet}
use Rattle.laws_released.specs.Known.{KnowsAll}
use Rattle.vat_host.specs.Objects.{Objects}
use Rattle.vat_host.proofs.Doing.{hosts, hosts_again, obeyed, refuses}
use Rattle.vat_host.proofs.Knowing.{by_host}
use Rattle.vat_host.proofs.host.Host.host_again.Goals as goal

pub returns-in-Err-clause-refused : goal.returns-in-Err-clause-refused
returns-in-Err-clause-refused c =
    refuses c.args.self.now c.self.inside.core c.host.new.self (command.Host c.args.object) c.in-Err.refusal
    c.self.inside.kept.messages.0 c.self.inside.kept.messages.0 c.self.inside.kept.events.0 c.self.inside.kept.events.0 c.self.inside.objects c.self.inside.unanswered c.self.inside.down_notice
    c.self.view_is refl refl c.in-Err.ensures.unchanged c.in-Err.ensures.refused

pub returns-clause-done : goal.returns-clause-done
returns-clause-done c = (
  quiet,
  obeyed c.args.self.now c.self.inside.core c.host.new.self (command.Host c.args.object) (granted.Reference c.in-Ok.made) quiet c.self.inside.kept.messages.0 c.self.inside.kept.events.0 c.self.inside.objects c.self.inside.unanswered c.self.inside.down_notice c.self.view_is c.in-Ok.ensures.done,
  hosts c.args.self.now c.self.inside.core c.host.new.self c.args.object c.self.inside.kept.messages.0 c.self.inside.kept.events.0 c.self.inside.objects c.self.inside.objects c.self.inside.unanswered c.self.inside.down_notice c.self.view_is
      (hosts_again c.args.self.now c.args.object c.self.inside.core c.self.inside.kept.messages.0 c.self.inside.kept.events.0 c.self.inside.objects c.self.inside.unanswered c.self.inside.down_notice c.self.view_is c.requires),
)

pub invariant_of-self-2 : goal.invariant_of-self-2
invariant_of-self-2 c = (
  search rules,
  subst (λ (m : Objects). KnowsAll c.host.new.self m)
      (sym (hosts_again c.args.self.now c.args.object c.self.inside.core c.self.inside.kept.messages.0 c.self.inside.kept.events.0 c.self.inside.objects c.self.inside.unanswered c.self.inside.down_notice c.self.view_is c.requires))
      (by_host c.self.inside.core c.args.object (granted.Reference c.in-Ok.made) quiet c.host.new.self c.self.inside.objects c.in-Ok.ensures.done c.self.invariant.1),
)
