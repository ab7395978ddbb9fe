use Rattle.std.proofs.Common.{ap, refl, rules, sym, ◌∙◌}
use Rattle.rpc_machine.specs.Steps.{Shuts}
use Rattle.vat_host.proofs.Doing.{hosts_nothing, kept_by, obeyed, refuses}
use Rattle.vat_host.specs.Hosting.{hosted_by}
use Rattle.vat_host.proofs.Knowing.{by_command}
use Rattle.vat_host.proofs.host.Host.command.Goals as goal

pub returns-in-Shut : goal.returns-in-Shut
returns-in-Shut c = (
  c.shut.ensures.0,
  Shuts c.in-Shut.number c.in-Shut.is refl c.shut.ensures.1,
  c.shut.ensures.2 ∙ hosts_nothing c.args.self.now c.args.command c.shut.ensures.0 c.shut.new.self.core (ap hosted_by c.in-Shut.is),
)

pub returns-in-Done : goal.returns-in-Done
returns-in-Done c = (
  c.in-Done.effects,
  obeyed c.args.self.now c.self.inside.core c.command.new.self c.args.command c.in-Done.granted c.in-Done.effects
      c.self.inside.kept.messages.0 c.self.inside.kept.events.0 c.self.inside.objects c.self.inside.unanswered c.self.inside.down_notice c.self.view_is c.in-Done.ensures.answers.obeys,
  kept_by c.args.self.now c.self.inside.core c.command.new.self c.args.command c.in-Done.effects
      c.self.inside.kept.messages.0 c.make_place.new.self.messages.0 c.keep.new.self.messages.0
      c.self.inside.kept.events.0 c.make_place.new.self.events.0 c.keep.new.self.events.0 c.self.inside.objects c.self.inside.unanswered c.follow.new.self c.self.inside.down_notice
      c.self.view_is c.make_place.ensures.messages c.make_place.ensures.events c.keep.ensures.messages c.keep.ensures.events c.follow.ensures
      (sym c.hosted_by.ensures.value ∙ c.in_default-hosted_by.is),
)

pub invariant_of-self-in-Done : goal.invariant_of-self-in-Done
invariant_of-self-in-Done c = (
  search rules,
  by_command c.self.inside.core c.args.command c.in-Done.granted c.in-Done.effects c.command.new.self c.self.inside.objects (sym c.hosted_by.ensures.value ∙ c.in_default-hosted_by.is) c.in-Done.ensures.answers.obeys c.self.invariant.1,
)

pub returns-in-Refused : goal.returns-in-Refused
returns-in-Refused c = (
  refuses c.args.self.now c.self.inside.core c.command.new.self c.args.command c.in-Refused.refusal
      c.self.inside.kept.messages.0 c.make_place.new.self.messages.0 c.self.inside.kept.events.0 c.make_place.new.self.events.0 c.self.inside.objects c.self.inside.unanswered c.self.inside.down_notice
      c.self.view_is c.make_place.ensures.messages c.make_place.ensures.events
      c.in-Refused.ensures.answers.unchanged c.in-Refused.ensures.answers.obeys,
  c.in-Refused.ensures.answers.handed_back,
)
