use Rattle.std.proofs.Common.{rules}
use Rattle.std.proofs.lemmas.List.Sorted.{answers_always}
use Rattle.rising_table.proofs.RisingPlaces.{searched}
use Rattle.rising_table.proofs.rising.search.Goals as goal

pub returns-clause-found : goal.returns-clause-found
returns-clause-found g c =
    let facts = c.binary_search_by_key.ensures in
    let by_number = facts.position (λ place. place.0) (answers_always _ _ _ (λ f a r g called. search rules)) in
    let said = searched c.args.places.now c.args.number c.requires _ facts.bound by_number in
    said.found

pub returns-clause-absent : goal.returns-clause-absent
returns-clause-absent g c =
    let facts = c.binary_search_by_key.ensures in
    let by_number = facts.position (λ place. place.0) (answers_always _ _ _ (λ f a r g called. search rules)) in
    let said = searched c.args.places.now c.args.number c.requires _ facts.bound by_number in
    said.absent
