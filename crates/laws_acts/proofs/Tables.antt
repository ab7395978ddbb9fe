-- Places follow the entries of each table.
use Rattle.std.proofs.Common.{◌≡◌, ℕ, ◌+◌, Bool, List, arith}
use Rattle.std.specs.FinMap as map
use Rattle.finite_maps.specs.Tally.{Map}
use Rattle.rpc_machine.specs.declared.node.Node.{Node}
use Rattle.rpc_machine.specs.declared.calls.Promise.{Promise}
use Rattle.rpc_machine.specs.declared.calls.KeptOutcome.{KeptOutcome}
use Rattle.rpc_machine.specs.declared.entries.Question.{Question}
use Rattle.rpc_machine.specs.declared.entries.AnswerEntry.{AnswerEntry}
use Rattle.rpc_machine.specs.declared.entries.Import.{Import}
use Rattle.rpc_machine.specs.declared.entries.Export.{Export}
use Rattle.rpc_machine.specs.declared.entries.Reference.{Reference}
use Rattle.rpc_machine.specs.declared.entries.Embargo.{Embargo}
use Rattle.rpc_machine.specs.State.{State}
use Rattle.rpc_machine.specs.Places.{named_by_reference, named_by_embargo, named_by_promise, named_by_outcome, named_by_question, named_by_import, named_by_export, named_by_answer, places, names}
use Rattle.laws_acts.specs.Alike.{part}
use Rattle.laws_acts.specs.Laws.{FollowEntries, PlacesFollowTables}
use Rattle.laws_acts.proofs.Parts.{how_many_append, part_new, part_gone, part_set, names_are}

-- From what another table in place of one changes.
module _ {X : Type 0} (f : ℕ → X → List Node) (table : State → Map X) (with_table : State → Map X → State)
    (parted : (test : Node → Bool) (s : State) (m : Map X) → names (with_table s m) test + part test f (table s) ≡ names s test + part test f m) where
  follow : FollowEntries X f table with_table
  follow = record {
    comes = λ s k x free test.
        let a = parted test s (map.insert (table s) k x) in
        let b = part_new test f (table s) k x free in
        let c = how_many_append test (f k x) (places s) in
        omega (arith, a, b, c);
    goes = λ s k x there test.
        let a = parted test s (map.remove (table s) k) in
        let b = part_gone test f (table s) k x there in
        let c = how_many_append test (f k x) (places (with_table s (map.remove (table s) k))) in
        omega (arith, a, b, c);
    changes = λ s k x y there test.
        let a = parted test s (map.insert (table s) k y) in
        let b = part_set test f (table s) k x y there in
        let c = how_many_append test (f k y) (places s) in
        let d = how_many_append test (f k x) (places (with_table s (map.insert (table s) k y))) in
        omega (arith, a, b, c, d);
  }

refs_part : (test : Node → Bool) (s : State) (m : Map Reference) → names (record s { refs = m }) test + part test named_by_reference s.refs ≡ names s test + part test named_by_reference m
refs_part test s m = let a = names_are test s in let b = names_are test (record s { refs = m }) in omega (arith, a, b)

embargoes_part : (test : Node → Bool) (s : State) (m : Map Embargo) → names (record s { embargoes = m }) test + part test named_by_embargo s.embargoes ≡ names s test + part test named_by_embargo m
embargoes_part test s m = let a = names_are test s in let b = names_are test (record s { embargoes = m }) in omega (arith, a, b)

promises_part : (test : Node → Bool) (s : State) (m : Map Promise) → names (record s { promises = m }) test + part test named_by_promise s.promises ≡ names s test + part test named_by_promise m
promises_part test s m = let a = names_are test s in let b = names_are test (record s { promises = m }) in omega (arith, a, b)

outcomes_part : (test : Node → Bool) (s : State) (m : Map KeptOutcome) → names (record s { outcomes = m }) test + part test named_by_outcome s.outcomes ≡ names s test + part test named_by_outcome m
outcomes_part test s m = let a = names_are test s in let b = names_are test (record s { outcomes = m }) in omega (arith, a, b)

questions_part : (test : Node → Bool) (s : State) (m : Map Question) → names (record s { questions = m }) test + part test named_by_question s.questions ≡ names s test + part test named_by_question m
questions_part test s m = let a = names_are test s in let b = names_are test (record s { questions = m }) in omega (arith, a, b)

imports_part : (test : Node → Bool) (s : State) (m : Map Import) → names (record s { imports = m }) test + part test named_by_import s.imports ≡ names s test + part test named_by_import m
imports_part test s m = let a = names_are test s in let b = names_are test (record s { imports = m }) in omega (arith, a, b)

exports_part : (test : Node → Bool) (s : State) (m : Map Export) → names (record s { exports = m }) test + part test named_by_export s.exports ≡ names s test + part test named_by_export m
exports_part test s m = let a = names_are test s in let b = names_are test (record s { exports = m }) in omega (arith, a, b)

answers_part : (test : Node → Bool) (s : State) (m : Map AnswerEntry) → names (record s { answers = m }) test + part test named_by_answer s.answers ≡ names s test + part test named_by_answer m
answers_part test s m = let a = names_are test s in let b = names_are test (record s { answers = m }) in omega (arith, a, b)

pub tables : PlacesFollowTables
tables = record {
  refs = follow named_by_reference (λ s. s.refs) (λ s m. record s { refs = m }) refs_part;
  embargoes = follow named_by_embargo (λ s. s.embargoes) (λ s m. record s { embargoes = m }) embargoes_part;
  promises = follow named_by_promise (λ s. s.promises) (λ s m. record s { promises = m }) promises_part;
  outcomes = follow named_by_outcome (λ s. s.outcomes) (λ s m. record s { outcomes = m }) outcomes_part;
  questions = follow named_by_question (λ s. s.questions) (λ s m. record s { questions = m }) questions_part;
  imports = follow named_by_import (λ s. s.imports) (λ s m. record s { imports = m }) imports_part;
  exports = follow named_by_export (λ s. s.exports) (λ s m. record s { exports = m }) exports_part;
  answers = follow named_by_answer (λ s. s.answers) (λ s m. record s { answers = m }) answers_part;
}
