use Rattle.std.proofs.Common.{Ok, refl, sym, ap, subst, ◌∙◌}
use Rattle.rpc_machine.specs.declared.command.Command.TheVariants as command
use Rattle.rpc_machine.specs.declared.command.Granted.TheVariants as granted
use Rattle.rpc_machine.specs.declared.command.Refusal.TheVariants as refusal
use Rattle.core_store.specs.Holding.{state_of}
use Rattle.core_steps.specs.declared.machine.Machine.{Machine}
use Rattle.vat_core.specs.Standing.{IsStanding}
use Rattle.vat_core.proofs.Answering.{refuses_at, refuses_walked, obeys_at, down_refuses}
use Rattle.vat_core.proofs.Reaching.{stands}
use Rattle.vat_core.proofs.vat.Core.call_any.Goals as goal

pub returns-in-Err-clause-refused : goal.returns-in-Err-clause-refused
returns-in-Err-clause-refused c =
    refuses_walked c.self.inside.machine c.shorten_heads.new.machine _ (command.Call c.args.call) c.in-Err.refusal c.shorten_heads.ensures c.self.view_is c.in-Err.ensures.err

pub returns-in_default-clause-refused : goal.returns-in_default-clause-refused
returns-in_default-clause-refused c = refuses_at _ _ (command.Call c.args.call) refusal.Down c.self.view_is (down_refuses (state_of c.self.inside.machine.step.store) (command.Call c.args.call) _ refl c.in_default.is)

pub invariant_of-self : goal.invariant_of-self
invariant_of-self c = subst (λ (m : Machine). IsStanding m) (sym c.shorten_heads.ensures) c.self.invariant

pub invariant_of-self-2 : goal.invariant_of-self-2
invariant_of-self-2 c =
    stands c.shorten_heads.new.machine c.call.new.machine (command.Call c.args.call) _ _ c.call.ensures.obeys c.call.ensures.resting
    (subst (λ (m : Machine). IsStanding m) (sym c.shorten_heads.ensures) c.self.invariant)

pub invariant_of-self-in-Err-call : goal.invariant_of-self-in-Err-call
invariant_of-self-in-Err-call c =
    stands c.shorten_heads.new.machine c.call.new.machine (command.Call c.args.call) _ _ c.call.ensures.obeys c.call.ensures.resting
    (subst (λ (m : Machine). IsStanding m) (sym c.shorten_heads.ensures) c.self.invariant)

pub returns-clause-done : goal.returns-clause-done
returns-clause-done c =
    obeys_at _ _ _ (command.Call c.args.call) (Ok (granted.Call c.in-Ok.done.0)) c.in-Ok.done.1
    (ap (λ (m : Machine). state_of m.step.store) c.shorten_heads.ensures ∙ c.self.view_is) c.in-Ok.ensures.obeys
