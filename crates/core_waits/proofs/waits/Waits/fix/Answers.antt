use Rattle.std.proofs.Common.{ap, ◌∙◌, sym, Some, None, refl}
use Rattle.core_waits.specs.Waiting.{waiting_of, promise_list, promise_with}
use Rattle.core_waits.specs.Links.{to_of}
use Rattle.core_waits.proofs.Seeing.{seen_here}
use Rattle.core_waits.proofs.Seen.{none_taken, not_open, not_fixed, owned_out_promise, fixes, seen_set_promise}
use Rattle.core_waits.proofs.Hopping.{holds_new_promise}
use Rattle.core_waits.proofs.waits.Waits.fix.Goals as goal

pub returns-in_default-clause-never : goal.returns-in_default-clause-never
returns-in_default-clause-never c =
    rw (← c.self.view_is) (λ some none. absurd (none_taken _ _ _ _ _ _ c.self.invariant.0 c.in_default.is none))

pub returns-in_default-get-clause-never : goal.returns-in_default-get-clause-never
returns-in_default-get-clause-never c =
    rw (← c.self.view_is) (λ at none. absurd (not_open _ _ _ (sym c.in_default-get.ensures) at))

pub returns-in_default-to-clause-never : goal.returns-in_default-to-clause-never
returns-in_default-to-clause-never c =
    rw (← c.self.view_is) (λ at none. absurd (not_fixed _ _ _ _ _ (sym c.in-Some.ensures) c.in_default-to.is at))

pub invariant_of-self : goal.invariant_of-self
invariant_of-self c =
    (owned_out_promise _ _ _ _ _ _ (record { to = Some c.args.to; list = None; hops = c.clear.new.self }) c.self.invariant.0 _ c.in-Some.entry.now c.in-None.is (sym c.in-Some.ensures) refl refl, record { for_promises = c.self.invariant.1.for_promises; for_outcomes = c.self.invariant.1.for_outcomes; for_embargoes = c.self.invariant.1.for_embargoes; for_calls = c.self.invariant.1.for_calls }, holds_new_promise c.self.inside.promises.entries c.self.inside.outcomes.entries _ _ (ap to_of (sym c.in-Some.ensures) ∙ c.in-None-to.is) c.clear.ensures c.self.invariant.2)

pub returns-clause-ok : goal.returns-clause-ok
returns-clause-ok c =
    rw (← c.self.view_is) (fixes (waiting_of c.self.inside.promises.entries c.self.inside.outcomes.entries c.self.inside.embargoes.entries c.self.inside.taken c.self.inside.pool.lists c.self.inside.room) _ _ _ _ _ c.in-None-to.is (seen_here promise_list promise_with c.self.inside.pool.lists _ _ _ (sym c.in-Some.ensures)) (seen_set_promise c.self.inside.promises.entries c.self.inside.outcomes.entries c.self.inside.embargoes.entries c.self.inside.taken c.self.inside.pool.lists c.self.inside.room c.in-Some.entry.now.list c.args.key (record { to = Some c.args.to; list = None; hops = c.clear.new.self })))
