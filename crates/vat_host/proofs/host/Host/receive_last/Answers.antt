use Rattle.std.proofs.Common.{Option, ap, rules, subst, sym, ℕ, ◌∙◌}
use Rattle.rpc_machine.specs.Down.{ShutsFrom}
use Rattle.rpc_machine.specs.Numbers.{want_of_room}
use Rattle.vat_host.specs.declared.event.Event.{Event}
use Rattle.vat_host.specs.Hosting.{stepped_so}
use Rattle.vat_host.proofs.Doing.{shut_known}
use Rattle.vat_host.proofs.Falling.{down_shut, received}
use Rattle.vat_host.proofs.Knowing.{by_message}
use Rattle.vat_host.proofs.host.Host.receive_last.Goals as goal

pub returns-clause-heard : goal.returns-clause-heard
returns-clause-heard c = (
  c.shut.ensures.0,
  received c.args.self.now.core c.args.message c.shut.ensures.0 c.shut.new.self.core (sym c.is_abort.ensures ∙ c.if-is_abort.false)
      (subst (λ (n : ℕ). ShutsFrom c.args.self.now.core n c.args.self.now.core.down c.shut.ensures.0 c.shut.new.self.core) c.code.ensures c.shut.ensures.1),
  c.shut.ensures.2
      ∙ ap (λ (k : Option Event). stepped_so c.args.self.now c.shut.ensures.0 k c.shut.new.self.core)
      (sym (shut_known c.args.message c.args.self.now.core want_of_room c.shut.ensures.0 c.shut.new.self.core
      (subst (λ (n : ℕ). ShutsFrom c.args.self.now.core n c.args.self.now.core.down c.shut.ensures.0 c.shut.new.self.core) c.code.ensures c.shut.ensures.1))),
)

pub returns-clause-down : goal.returns-clause-down
returns-clause-down c =
    down_shut c.args.self.now.core want_of_room c.shut.ensures.0 c.shut.new.self.core
    (subst (λ (n : ℕ). ShutsFrom c.args.self.now.core n c.args.self.now.core.down c.shut.ensures.0 c.shut.new.self.core) c.code.ensures c.shut.ensures.1)

pub invariant_of-self : goal.invariant_of-self
invariant_of-self c = (search rules, by_message c.self.inside.core c.args.message c.receive-effects.result c.receive-effects.new.self c.self.inside.objects c.receive-effects.ensures.steps c.self.invariant.1)
