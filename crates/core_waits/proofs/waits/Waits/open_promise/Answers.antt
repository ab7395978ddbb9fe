use Rattle.std.proofs.Common.{ap, None, sym, subst, refl, arith}
use Rattle.core_waits.specs.Waiting.{promise_list, promise_with}
use Rattle.core_waits.specs.Links.{to_of}
use Rattle.core_waits.specs.Owned.{list_at, IsOwned}
use Rattle.finite_maps.specs.Tally.{Map}
use Rattle.core_waits.specs.declared.entries.PromiseEntry.{PromiseEntry}
use Rattle.core_waits.proofs.Seen.{no_room, owned_new_promise, seen_new_promise, new_free}
use Rattle.core_waits.proofs.Hopping.{holds_over, holds_opened_promise}
use Rattle.core_waits.proofs.waits.Waits.open_promise.Goals as goal

pub invariant_of-self : goal.invariant_of-self
invariant_of-self c =
    let room = c.self.invariant.1 in
    (subst (λ (m : Map PromiseEntry). IsOwned (list_at m c.self.inside.outcomes.entries c.self.inside.embargoes.entries c.self.inside.taken) c.self.inside.pool.lists) (sym c.in_default.ensures.same) c.self.invariant.0, record { for_promises = let kept = no_room c.self.inside.promises.room c.add.new.self.room c.in_default.ensures.had_room in omega (arith, room.for_promises, kept); for_outcomes = room.for_outcomes; for_embargoes = room.for_embargoes; for_calls = room.for_calls }, holds_over c.self.inside.promises.entries _ c.self.inside.outcomes.entries _ c.in_default.ensures.same refl c.self.invariant.2)

pub invariant_of-self-2 : goal.invariant_of-self-2
invariant_of-self-2 c =
    let room = c.self.invariant.1 in let less = c.saturating_sub-self-inside.ensures in
    (subst (λ (m : Map PromiseEntry). IsOwned (list_at m c.self.inside.outcomes.entries c.self.inside.embargoes.entries c.self.inside.taken) c.self.inside.pool.lists) (sym c.in-Ok.ensures.ok) (owned_new_promise c.self.inside.promises.entries c.self.inside.outcomes.entries c.self.inside.embargoes.entries c.self.inside.taken c.self.inside.pool.lists c.in-Ok.key (record { to = None; list = None; hops = c.new.result }) c.self.invariant.0 refl), record { for_promises = omega (arith, less, room.for_promises, c.in-Ok.ensures.room); for_outcomes = omega (arith, less, room.for_outcomes); for_embargoes = omega (arith, less, room.for_embargoes); for_calls = omega (arith, less, room.for_calls) }, holds_opened_promise c.self.inside.promises.entries c.self.inside.outcomes.entries _ c.in-Ok.key _ c.in-Ok.ensures.ok (ap to_of c.in-Ok.ensures.free) c.new.ensures c.self.invariant.2)

pub returns-clause-free : goal.returns-clause-free
returns-clause-free c =
    rw (← c.self.view_is) (new_free promise_list promise_with c.self.inside.pool.lists _ _ c.in-Ok.ensures.free)

pub returns-clause-ok : goal.returns-clause-ok
returns-clause-ok c =
    rw (← c.self.view_is) (seen_new_promise c.self.inside.promises.entries c.self.inside.outcomes.entries c.self.inside.embargoes.entries c.self.inside.taken c.self.inside.pool.lists c.self.inside.room _ c.saturating_sub-self-inside.ensures _ c.in-Ok.key (record { to = None; list = None; hops = c.new.result }) c.in-Ok.ensures.ok)
