use Rattle.std.proofs.Common.{sym, subst, refl, List}
use Rattle.rpc_msg.specs.Op.{Op}
use Rattle.rpc_machine.specs.declared.node.Node.TheVariants as node
use Rattle.core_waits.specs.Waiting.{Waiting}
use Rattle.core_waits.specs.Links.{Leads, link_of, IsPlaceOf}
use Rattle.core_waits.proofs.Seen.{owned_same_outcome}
use Rattle.core_waits.proofs.Hopping.{leads_seen, holds_outcome, holds_more_outcome, unseen_outcome}
use Rattle.core_waits.proofs.waits.Waits.shorten_field.Goals as goal

pub invariant_of-self-in_default-place_of : goal.invariant_of-self-in_default-place_of
invariant_of-self-in_default-place_of c = (
  owned_same_outcome _ _ _ _ _ _ _ c.self.invariant.0 _ (sym c.in-Some.ensures.value) refl,
  record { for_promises = c.self.invariant.1.for_promises; for_outcomes = c.self.invariant.1.for_outcomes; for_embargoes = c.self.invariant.1.for_embargoes; for_calls = c.self.invariant.1.for_calls },
  holds_outcome c.self.inside.promises.entries c.self.inside.outcomes.entries c.args.key c.in-Some.place.now c.in-Some.place.now c.in-Some.ensures.value refl refl c.self.invariant.2,
)

pub returns-in_default-place_of : goal.returns-in_default-place_of
returns-in_default-place_of c = rw (← c.self.view_is) (unseen_outcome c.self.inside.promises.entries c.self.inside.outcomes.entries c.self.inside.embargoes.entries c.self.inside.taken c.self.inside.pool.lists c.self.inside.room c.args.key c.in-Some.place.now c.in-Some.place.now.hops c.in-Some.ensures.value)

pub invariant_of-self-2 : goal.invariant_of-self-2
invariant_of-self-2 c = (
  owned_same_outcome _ _ _ _ _ _ _ c.self.invariant.0 _ (sym c.in-Some.ensures.value) refl,
  record { for_promises = c.self.invariant.1.for_promises; for_outcomes = c.self.invariant.1.for_outcomes; for_embargoes = c.self.invariant.1.for_embargoes; for_calls = c.self.invariant.1.for_calls },
  holds_more_outcome c.self.inside.promises.entries c.self.inside.outcomes.entries c.args.key c.in-Some-place_of.index c.args.path c.in-Some.place.now _ c.args.hop c.in-Some.ensures.value refl c.keep.ensures
      (subst (λ (p : List Op). IsPlaceOf c.in-Some-place_of.index p c.in-Some.place.now.value) c.as_slice.ensures.value c.in-Some-place_of.ensures) c.requires.some
      (leads_seen c.self.inside.promises.entries c.self.inside.outcomes.entries c.self.inside.embargoes.entries c.self.inside.taken c.self.inside.pool.lists c.self.inside.room c.args.hop.far (node.Field c.args.key c.args.path) c.args.hop.to (subst (λ (w : Waiting). Leads (link_of w) c.args.hop.far (node.Field c.args.key c.args.path) c.args.hop.to) (sym c.self.view_is) c.requires.way)) c.self.invariant.2,
)

pub returns : goal.returns
returns c = rw (← c.self.view_is) (unseen_outcome c.self.inside.promises.entries c.self.inside.outcomes.entries c.self.inside.embargoes.entries c.self.inside.taken c.self.inside.pool.lists c.self.inside.room c.args.key c.in-Some.place.now c.keep.new.self c.in-Some.ensures.value)
