use Rattle.std.proofs.Common.{subst}
use Rattle.rpc_machine.specs.State.{State}
use Rattle.laws_authority.specs.Authority.{TakesNothing}
use Rattle.laws_authority.specs.Runs.RunsTo.{Received}
use Rattle.core_store.specs.Holding.{state_of}
use Rattle.vat_core.specs.Given.{HearsGiven}
use Rattle.vat_core.proofs.Reaching.{stands_received}
use Rattle.vat_core.proofs.vat.Core.receive.Goals as goal

pub invariant_of-self : goal.invariant_of-self
invariant_of-self c = stands_received c.self.inside.machine c.receive.new.machine c.args.message c.receive.result c.receive.ensures.receives c.receive.ensures.resting c.self.invariant

pub returns-clause-authority : goal.returns-clause-authority
returns-clause-authority c =
    let old = state_of c.self.inside.machine.step.store in
    let new = state_of c.receive.new.machine.step.store in
    subst (λ (s : State). TakesNothing s c.args.message c.receive.result new) c.self.view_is
    (c.authority_is_kept.ensures.kept.messages old c.args.message c.receive.result new c.self.invariant.reached c.receive.ensures.receives)

pub returns-clause-given : goal.returns-clause-given
returns-clause-given c =
    let old = state_of c.self.inside.machine.step.store in
    let new = state_of c.receive.new.machine.step.store in
    subst (λ (s : State). HearsGiven s c.args.message c.receive.result new) c.self.view_is
    (λ log runs. (Received c.args.message c.receive.result runs c.receive.ensures.receives, c.authority_is_given.ensures.messages old log runs c.args.message c.receive.result new c.receive.ensures.receives))
