use Rattle.std.proofs.Common.{◌≢◌, Some, refl, sym, ap, subst, arith, ◌∙◌}
use Rattle.std.specs.FinMap as map
use Rattle.rpc_machine.specs.declared.node.Node.{Node}
use Rattle.rpc_machine.specs.declared.node.Node.TheVariants as node
use Rattle.core_waits.specs.Waiting.{Waiting, waiting_of}
use Rattle.core_waits.specs.Owned.{list_at, IsOwned}
use Rattle.finite_maps.specs.Tally.{Map}
use Rattle.core_waits.specs.declared.entries.PromiseEntry.{PromiseEntry}
use Rattle.core_waits.specs.Links.{to_of, link_of}
use Rattle.core_waits.proofs.Seen.{owned_gone_promise, seen_gone_promise, link_seen}
use Rattle.core_waits.proofs.Hopping.{holds_over, holds_gone_promise, apart_promise}
use Rattle.core_waits.proofs.waits.Waits.remove_promise.Goals as goal

pub invariant_of-self : goal.invariant_of-self
invariant_of-self c =
    (subst (λ (m : Map PromiseEntry). IsOwned (list_at m c.self.inside.outcomes.entries c.self.inside.embargoes.entries c.self.inside.taken) c.self.inside.pool.lists) (sym c.remove.ensures.removed) (owned_gone_promise c.self.inside.promises.entries c.self.inside.outcomes.entries c.self.inside.embargoes.entries c.self.inside.taken c.self.inside.pool.lists c.args.key c.self.invariant.0), record { for_promises = let room = c.self.invariant.1.for_promises in let kept = c.remove.ensures.room in omega (arith, room, kept); for_outcomes = c.self.invariant.1.for_outcomes; for_embargoes = c.self.invariant.1.for_embargoes; for_calls = c.self.invariant.1.for_calls }, holds_over (map.remove c.self.inside.promises.entries c.args.key) _ c.self.inside.outcomes.entries _ c.remove.ensures.removed refl (holds_gone_promise c.self.inside.promises.entries c.self.inside.outcomes.entries c.args.key (apart_promise c.self.inside.promises.entries c.self.inside.outcomes.entries c.self.inside.embargoes.entries c.self.inside.taken c.self.inside.pool.lists c.self.inside.room c.args.key (subst (λ (w : Waiting). (n : Node) → link_of w n ≢ Some (node.Promise c.args.key)) (sym c.self.view_is) c.requires.no_link)) c.self.invariant.2))

pub invariant_of-self-2 : goal.invariant_of-self-2
invariant_of-self-2 c =
    (subst (λ (m : Map PromiseEntry). IsOwned (list_at m c.self.inside.outcomes.entries c.self.inside.embargoes.entries c.self.inside.taken) c.self.inside.pool.lists) (sym c.remove.ensures.removed) (owned_gone_promise c.self.inside.promises.entries c.self.inside.outcomes.entries c.self.inside.embargoes.entries c.self.inside.taken c.self.inside.pool.lists c.args.key c.self.invariant.0), record { for_promises = let room = c.self.invariant.1.for_promises in let kept = c.remove.ensures.room in omega (arith, room, kept); for_outcomes = c.self.invariant.1.for_outcomes; for_embargoes = c.self.invariant.1.for_embargoes; for_calls = c.self.invariant.1.for_calls }, holds_over (map.remove c.self.inside.promises.entries c.args.key) _ c.self.inside.outcomes.entries _ c.remove.ensures.removed refl (holds_gone_promise c.self.inside.promises.entries c.self.inside.outcomes.entries c.args.key (apart_promise c.self.inside.promises.entries c.self.inside.outcomes.entries c.self.inside.embargoes.entries c.self.inside.taken c.self.inside.pool.lists c.self.inside.room c.args.key (subst (λ (w : Waiting). (n : Node) → link_of w n ≢ Some (node.Promise c.args.key)) (sym c.self.view_is) c.requires.no_link)) c.self.invariant.2))

pub returns-in_err-remove-clause-removed : goal.returns-in_err-remove-clause-removed
returns-in_err-remove-clause-removed c =
    rw (← c.self.view_is) (ap (λ (m : Map PromiseEntry). waiting_of m c.self.inside.outcomes.entries c.self.inside.embargoes.entries c.self.inside.taken c.self.inside.pool.lists c.self.inside.room) c.remove.ensures.removed ∙ seen_gone_promise c.self.inside.promises.entries c.self.inside.outcomes.entries c.self.inside.embargoes.entries c.self.inside.taken c.self.inside.pool.lists c.self.inside.room c.self.inside.taken c.args.key)

pub returns-clause-removed : goal.returns-clause-removed
returns-clause-removed c =
    rw (← c.self.view_is) (ap (λ (m : Map PromiseEntry). waiting_of m c.self.inside.outcomes.entries c.self.inside.embargoes.entries c.self.inside.taken c.self.inside.pool.lists c.self.inside.room) c.remove.ensures.removed ∙ seen_gone_promise c.self.inside.promises.entries c.self.inside.outcomes.entries c.self.inside.embargoes.entries c.self.inside.taken c.self.inside.pool.lists c.self.inside.room c.self.inside.taken c.args.key)

pub returns-in_err-remove-clause-value : goal.returns-in_err-remove-clause-value
returns-in_err-remove-clause-value c =
    rw (← c.self.view_is) (c.from_residual.ensures ∙ ap to_of c.in_err-remove.ensures.value ∙ sym (link_seen c.self.inside.pool.lists c.self.inside.promises.entries c.args.key))

pub returns-clause-value : goal.returns-clause-value
returns-clause-value c =
    rw (← c.self.view_is) (ap to_of c.in_ok-remove.ensures.value ∙ sym (link_seen c.self.inside.pool.lists c.self.inside.promises.entries c.args.key))
