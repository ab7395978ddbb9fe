use Rattle.std.proofs.Common.{◌≡◌, ◌∙◌, ap, sym, None, Option, unwrap_or, refl}
use Rattle.core_waits.specs.Waiting.{waiting_of, outcome_list, outcome_with}
use Rattle.core_waits.proofs.Seeing.{seen_here}
use Rattle.std.specs.FinMap as map
use Rattle.core_waits.specs.declared.entries.OutcomeEntry.{OutcomeEntry}
use Rattle.core_waits.proofs.Seen.{none_taken, not_there, owned_out_outcome, takes_held, seen_set_outcome}
use Rattle.core_waits.proofs.Hopping.{holds_outcome}
use Rattle.core_waits.proofs.waits.Waits.take_held.Goals as goal

pub returns-in_default-clause-never : goal.returns-in_default-clause-never
returns-in_default-clause-never c =
    rw (← c.self.view_is) (λ some none. absurd (none_taken _ _ _ _ _ _ c.self.invariant.0 c.in_default.is none))

pub returns-in_default-get-clause-never : goal.returns-in_default-get-clause-never
returns-in_default-get-clause-never c =
    rw (← c.self.view_is) (λ some none. absurd (not_there outcome_list outcome_with _ _ _ (sym c.in_default-get.ensures) some))

pub invariant_of-self : goal.invariant_of-self
invariant_of-self c =
    (owned_out_outcome _ _ _ _ _ _ (record c.in-Some-get_mut.place.now { list = None }) c.self.invariant.0 _ c.in-Some.entry.now c.in-None.is (sym c.in-Some.ensures) refl refl, record { for_promises = c.self.invariant.1.for_promises; for_outcomes = c.self.invariant.1.for_outcomes; for_embargoes = c.self.invariant.1.for_embargoes; for_calls = c.self.invariant.1.for_calls }, holds_outcome c.self.inside.promises.entries c.self.inside.outcomes.entries _ c.in-Some-get_mut.place.now _ c.in-Some-get_mut.ensures.value refl refl c.self.invariant.2)

pub returns-clause-ok : goal.returns-clause-ok
returns-clause-ok c =
    let same : c.in-Some.entry.now ≡ c.in-Some-get_mut.place.now = ap (λ (o : Option OutcomeEntry). unwrap_or o c.in-Some-get_mut.place.now) (c.in-Some.ensures ∙ sym c.in-Some-get_mut.ensures.value) in
    rw (← c.self.view_is) (takes_held (waiting_of c.self.inside.promises.entries c.self.inside.outcomes.entries c.self.inside.embargoes.entries c.self.inside.taken c.self.inside.pool.lists c.self.inside.room) _ _ _ (seen_here outcome_list outcome_with c.self.inside.pool.lists _ _ _ (sym c.in-Some-get_mut.ensures.value)) (ap (λ (x : OutcomeEntry). waiting_of c.self.inside.promises.entries (map.insert c.self.inside.outcomes.entries c.args.key (record c.in-Some-get_mut.place.now { list = None })) c.self.inside.embargoes.entries x.list c.self.inside.pool.lists c.self.inside.room) same ∙ seen_set_outcome c.self.inside.promises.entries c.self.inside.outcomes.entries c.self.inside.embargoes.entries c.self.inside.taken c.self.inside.pool.lists c.self.inside.room c.in-Some-get_mut.place.now.list c.args.key (record c.in-Some-get_mut.place.now { list = None })))
