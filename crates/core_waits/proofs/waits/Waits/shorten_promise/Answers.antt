use Rattle.std.proofs.Common.{sym, subst, refl}
use Rattle.rpc_machine.specs.declared.node.Node.TheVariants as node
use Rattle.core_waits.specs.Waiting.{Waiting}
use Rattle.core_waits.specs.Links.{Leads, link_of}
use Rattle.core_waits.proofs.Seen.{owned_same_promise}
use Rattle.core_waits.proofs.Hopping.{leads_seen, holds_more_promise, unseen_promise}
use Rattle.core_waits.proofs.waits.Waits.shorten_promise.Goals as goal

pub invariant_of-self-2 : goal.invariant_of-self-2
invariant_of-self-2 c = (
  owned_same_promise _ _ _ _ _ _ _ c.self.invariant.0 _ (sym c.in-Some.ensures.value) refl,
  record { for_promises = c.self.invariant.1.for_promises; for_outcomes = c.self.invariant.1.for_outcomes; for_embargoes = c.self.invariant.1.for_embargoes; for_calls = c.self.invariant.1.for_calls },
  holds_more_promise c.self.inside.promises.entries c.self.inside.outcomes.entries c.args.key c.in-Some.place.now _ c.args.hop c.in-Some.ensures.value refl c.keep.ensures c.requires.some
      (leads_seen c.self.inside.promises.entries c.self.inside.outcomes.entries c.self.inside.embargoes.entries c.self.inside.taken c.self.inside.pool.lists c.self.inside.room c.args.hop.far (node.Promise c.args.key) c.args.hop.to (subst (λ (w : Waiting). Leads (link_of w) c.args.hop.far (node.Promise c.args.key) c.args.hop.to) (sym c.self.view_is) c.requires.way)) c.self.invariant.2,
)

pub returns : goal.returns
returns c = rw (← c.self.view_is) (unseen_promise c.self.inside.promises.entries c.self.inside.outcomes.entries c.self.inside.embargoes.entries c.self.inside.taken c.self.inside.pool.lists c.self.inside.room c.args.key c.in-Some.place.now c.keep.new.self c.in-Some.ensures.value)
