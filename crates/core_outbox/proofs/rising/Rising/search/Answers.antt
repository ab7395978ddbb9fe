use Rattle.std.proofs.Common.{rules, sym, subst, ◌∙◌}
use Rattle.std.proofs.lemmas.List.Sorted.{answers_always}
use Rattle.core_outbox.specs.Rising.{IsRising}
use Rattle.core_outbox.proofs.Search.{searched, entries_seen}
use Rattle.core_outbox.proofs.rising.Rising.search.Goals as goal

pub returns-clause-found : goal.returns-clause-found
returns-clause-found g c =
    let facts = c.binary_search_by_key.ensures in
    let by_id = facts.position (λ entry. entry.0) (answers_always _ _ _ (λ f a r g called. search rules)) in
    let seen = entries_seen _ _ _ c.self.invariant c.self.view_is ∙ sym c.deref.ensures.value in
    let said = searched c.deref.result.now c.args.id (subst IsRising (sym c.deref.ensures.value) c.self.invariant) _ facts.bound by_id in
    rw seen said.found

pub returns-clause-absent : goal.returns-clause-absent
returns-clause-absent g c =
    let facts = c.binary_search_by_key.ensures in
    let by_id = facts.position (λ entry. entry.0) (answers_always _ _ _ (λ f a r g called. search rules)) in
    let seen = entries_seen _ _ _ c.self.invariant c.self.view_is ∙ sym c.deref.ensures.value in
    let said = searched c.deref.result.now c.args.id (subst IsRising (sym c.deref.ensures.value) c.self.invariant) _ facts.bound by_id in
    rw seen said.absent
