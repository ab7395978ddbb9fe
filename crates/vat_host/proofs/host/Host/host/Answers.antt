use Rattle.std.proofs.Common.{refl, rules, sym, subst, ◌∙◌}
use Rattle.rpc_machine.specs.State.{State}
use Rattle.rpc_machine.specs.declared.command.Command.TheVariants as command
use Rattle.rpc_machine.specs.declared.command.Granted.TheVariants as granted
use Rattle.rpc_machine.specs.Progress.{quiet}
use Rattle.laws_released.specs.Known.{KnowsAll}
use Rattle.vat_host.specs.Hosting.{Refuses}
use Rattle.vat_host.specs.Objects.{Objects}
use Rattle.vat_host.proofs.Doing.{hosted, hosts, obeyed, refuses, taken_back}
use Rattle.vat_host.proofs.Knowing.{by_host}
use Rattle.vat_host.proofs.host.Host.host.Goals as goal

pub invariant_of-self-in-Ok : goal.invariant_of-self-in-Ok
invariant_of-self-in-Ok c = (
  search rules,
  subst (λ (m : Objects). KnowsAll c.host.new.self m) (sym c.in_ok-put.ensures.ok)
      (by_host c.self.inside.core c.args.object (granted.Reference c.in-Ok.made) quiet c.host.new.self c.self.inside.objects c.in-Ok.ensures.done c.self.invariant.1),
)

pub returns-in-Ok-clause-done : goal.returns-in-Ok-clause-done
returns-in-Ok-clause-done c = (
  quiet,
  obeyed c.args.self.now c.self.inside.core c.host.new.self (command.Host c.args.object) (granted.Reference c.in-Ok.made) quiet c.self.inside.kept.messages.0 c.self.inside.kept.events.0 c.self.inside.objects c.self.inside.unanswered c.self.inside.down_notice c.self.view_is c.in-Ok.ensures.done,
  hosts c.args.self.now c.self.inside.core c.host.new.self c.args.object c.self.inside.kept.messages.0 c.self.inside.kept.events.0 c.self.inside.objects c.put.new.self c.self.inside.unanswered c.self.inside.down_notice c.self.view_is c.in_ok-put.ensures.ok,
)

pub invariant_of-self-in-Err : goal.invariant_of-self-in-Err
invariant_of-self-in-Err c = (
  search rules,
  subst (λ (m : Objects). KnowsAll c.host.new.self m)
      (sym (taken_back c.self.inside.objects c.put.new.self c.take.new.self c.args.object (sym c.has.ensures ∙ c.if-has.false) c.in_ok-put.ensures.ok c.take.ensures))
      (subst (λ (s : State). KnowsAll s c.self.inside.objects) (sym c.in-Err.ensures.unchanged) c.self.invariant.1),
)

pub returns-in-Err-clause-refused : goal.returns-in-Err-clause-refused
returns-in-Err-clause-refused c =
    subst (λ (m : Objects). Refuses c.args.self.now (command.Host c.args.object) c.in-Err.refusal (hosted c.host.new.self c.self.inside.kept.messages.0 c.self.inside.kept.events.0 m c.self.inside.unanswered c.self.inside.down_notice))
    (sym (taken_back c.self.inside.objects c.put.new.self c.take.new.self c.args.object (sym c.has.ensures ∙ c.if-has.false) c.in_ok-put.ensures.ok c.take.ensures))
    (refuses c.args.self.now c.self.inside.core c.host.new.self (command.Host c.args.object) c.in-Err.refusal
    c.self.inside.kept.messages.0 c.self.inside.kept.messages.0 c.self.inside.kept.events.0 c.self.inside.kept.events.0 c.self.inside.objects c.self.inside.unanswered c.self.inside.down_notice
    c.self.view_is refl refl c.in-Err.ensures.unchanged c.in-Err.ensures.refused)
