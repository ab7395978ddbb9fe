use Rattle.std.proofs.Common.{◌≢◌, List, Some, refl, sym, ap, subst, arith, ◌∙◌}
use Rattle.std.specs.FinMap as map
use Rattle.rpc_msg.specs.Op.{Op}
use Rattle.rpc_machine.specs.declared.node.Node.{Node}
use Rattle.rpc_machine.specs.declared.node.Node.TheVariants as node
use Rattle.core_waits.specs.Waiting.{Waiting, waiting_of}
use Rattle.core_waits.specs.Links.{link_of}
use Rattle.core_waits.specs.Owned.{list_at, IsOwned}
use Rattle.finite_maps.specs.Tally.{Map}
use Rattle.core_waits.specs.declared.entries.OutcomeEntry.{OutcomeEntry}
use Rattle.core_waits.proofs.Seen.{owned_gone_outcome, seen_gone_outcome, outcome_in, outcome_seen}
use Rattle.core_waits.proofs.Hopping.{holds_over, holds_gone_outcome, apart_outcome}
use Rattle.core_waits.proofs.waits.Waits.remove_outcome.Goals as goal

pub invariant_of-self : goal.invariant_of-self
invariant_of-self c =
    (subst (λ (m : Map OutcomeEntry). IsOwned (list_at c.self.inside.promises.entries m c.self.inside.embargoes.entries c.self.inside.taken) c.self.inside.pool.lists) (sym c.remove.ensures.removed) (owned_gone_outcome c.self.inside.promises.entries c.self.inside.outcomes.entries c.self.inside.embargoes.entries c.self.inside.taken c.self.inside.pool.lists c.args.key c.self.invariant.0), record { for_promises = c.self.invariant.1.for_promises; for_outcomes = let room = c.self.invariant.1.for_outcomes in let kept = c.remove.ensures.room in omega (arith, room, kept); for_embargoes = c.self.invariant.1.for_embargoes; for_calls = c.self.invariant.1.for_calls }, holds_over c.self.inside.promises.entries _ (map.remove c.self.inside.outcomes.entries c.args.key) _ refl c.remove.ensures.removed (holds_gone_outcome c.self.inside.promises.entries c.self.inside.outcomes.entries c.args.key (apart_outcome c.self.inside.promises.entries c.self.inside.outcomes.entries c.self.inside.embargoes.entries c.self.inside.taken c.self.inside.pool.lists c.self.inside.room c.args.key (subst (λ (w : Waiting). (n : Node) (path : List Op) → link_of w n ≢ Some (node.Field c.args.key path)) (sym c.self.view_is) c.requires.no_link)) c.self.invariant.2))

pub invariant_of-self-2 : goal.invariant_of-self-2
invariant_of-self-2 c =
    (subst (λ (m : Map OutcomeEntry). IsOwned (list_at c.self.inside.promises.entries m c.self.inside.embargoes.entries c.self.inside.taken) c.self.inside.pool.lists) (sym c.remove.ensures.removed) (owned_gone_outcome c.self.inside.promises.entries c.self.inside.outcomes.entries c.self.inside.embargoes.entries c.self.inside.taken c.self.inside.pool.lists c.args.key c.self.invariant.0), record { for_promises = c.self.invariant.1.for_promises; for_outcomes = let room = c.self.invariant.1.for_outcomes in let kept = c.remove.ensures.room in omega (arith, room, kept); for_embargoes = c.self.invariant.1.for_embargoes; for_calls = c.self.invariant.1.for_calls }, holds_over c.self.inside.promises.entries _ (map.remove c.self.inside.outcomes.entries c.args.key) _ refl c.remove.ensures.removed (holds_gone_outcome c.self.inside.promises.entries c.self.inside.outcomes.entries c.args.key (apart_outcome c.self.inside.promises.entries c.self.inside.outcomes.entries c.self.inside.embargoes.entries c.self.inside.taken c.self.inside.pool.lists c.self.inside.room c.args.key (subst (λ (w : Waiting). (n : Node) (path : List Op) → link_of w n ≢ Some (node.Field c.args.key path)) (sym c.self.view_is) c.requires.no_link)) c.self.invariant.2))

pub returns-in_err-caller-clause-removed : goal.returns-in_err-caller-clause-removed
returns-in_err-caller-clause-removed c =
    rw (← c.self.view_is) (ap (λ (m : Map OutcomeEntry). waiting_of c.self.inside.promises.entries m c.self.inside.embargoes.entries c.self.inside.taken c.self.inside.pool.lists c.self.inside.room) c.remove.ensures.removed ∙ seen_gone_outcome c.self.inside.promises.entries c.self.inside.outcomes.entries c.self.inside.embargoes.entries c.self.inside.taken c.self.inside.pool.lists c.self.inside.room c.self.inside.taken c.args.key)

pub returns-clause-removed : goal.returns-clause-removed
returns-clause-removed c =
    rw (← c.self.view_is) (ap (λ (m : Map OutcomeEntry). waiting_of c.self.inside.promises.entries m c.self.inside.embargoes.entries c.self.inside.taken c.self.inside.pool.lists c.self.inside.room) c.remove.ensures.removed ∙ seen_gone_outcome c.self.inside.promises.entries c.self.inside.outcomes.entries c.self.inside.embargoes.entries c.self.inside.taken c.self.inside.pool.lists c.self.inside.room c.self.inside.taken c.args.key)

pub returns-in_err-caller-clause-value : goal.returns-in_err-caller-clause-value
returns-in_err-caller-clause-value c =
    rw (← c.self.view_is) (c.from_residual.ensures ∙ ap outcome_in c.in_err-caller.ensures.value ∙ sym (outcome_seen c.self.inside.pool.lists c.self.inside.outcomes.entries c.args.key))

pub returns-clause-value : goal.returns-clause-value
returns-clause-value c =
    rw (← c.self.view_is) (ap outcome_in c.in_ok-caller.ensures.value ∙ sym (outcome_seen c.self.inside.pool.lists c.self.inside.outcomes.entries c.args.key))
