use Rattle.std.proofs.Common.{refl, rules}
use Rattle.rpc_machine.specs.declared.command.Command.TheVariants as command
use Rattle.rpc_machine.specs.declared.command.Granted.TheVariants as granted
use Rattle.vat_host.proofs.Doing.{kept, obeyed, refuses}
use Rattle.vat_host.proofs.Knowing.{by_command}
use Rattle.vat_host.proofs.host.Host.fail.Goals as goal

pub returns-in-Err-clause-refused : goal.returns-in-Err-clause-refused
returns-in-Err-clause-refused c =
    refuses c.args.self.now c.self.inside.core c.fail.new.self (command.Fail c.args.task c.args.exception) c.in-Err.refused.refusal
    c.self.inside.kept.messages.0 c.make_place.new.self.messages.0 c.self.inside.kept.events.0 c.make_place.new.self.events.0 c.self.inside.objects c.self.inside.unanswered c.self.inside.down_notice
    c.self.view_is c.make_place.ensures.messages c.make_place.ensures.events c.in-Err.ensures.unchanged c.in-Err.ensures.refused

pub returns-clause-done : goal.returns-clause-done
returns-clause-done c = (
  c.in-Ok-fail.effects,
  obeyed c.args.self.now c.self.inside.core c.fail.new.self (command.Fail c.args.task c.args.exception) granted.Done c.in-Ok-fail.effects c.self.inside.kept.messages.0 c.self.inside.kept.events.0 c.self.inside.objects c.self.inside.unanswered c.self.inside.down_notice c.self.view_is c.in-Ok-fail.ensures.done,
  kept c.args.self.now c.self.inside.core c.fail.new.self c.in-Ok-fail.effects
      c.self.inside.kept.messages.0 c.make_place.new.self.messages.0 c.keep.new.self.messages.0
      c.self.inside.kept.events.0 c.make_place.new.self.events.0 c.keep.new.self.events.0 c.self.inside.objects c.self.inside.unanswered c.follow.new.self c.self.inside.down_notice
      c.self.view_is c.make_place.ensures.messages c.make_place.ensures.events c.keep.ensures.messages c.keep.ensures.events c.follow.ensures,
)

pub invariant_of-self-2 : goal.invariant_of-self-2
invariant_of-self-2 c = (search rules, by_command c.self.inside.core (command.Fail c.args.task c.args.exception) granted.Done c.in-Ok-fail.effects c.fail.new.self c.self.inside.objects refl c.in-Ok-fail.ensures.done c.self.invariant.1)
