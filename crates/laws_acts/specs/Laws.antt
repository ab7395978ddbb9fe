-- What is proved of places: they change as the entries of the tables do.
use Rattle.std.specs.Prelude.{◌≡◌, ◌⊎◌, ℕ, ◌+◌, ◌<◌, Bool, Option, None, Some, List, [], ◌∷◌, ◌++◌}
use Rattle.std.specs.FinMap as map
use Rattle.std.specs.List.{Contains}
use Rattle.rpc_machine.specs.rpc_msg.specs.declared.ids.Vat.{Vat}
use Rattle.rpc_machine.specs.rpc_msg.specs.declared.ids.ObjectId.{ObjectId}
use Rattle.finite_maps.specs.Tally.{Map}
use Rattle.rpc_machine.specs.declared.node.Node.{Node}
use Rattle.rpc_machine.specs.declared.node.Node.TheVariants as node
use Rattle.rpc_machine.specs.declared.calls.WaitingCall.{WaitingCall}
use Rattle.rpc_machine.specs.declared.calls.HeldCall.{HeldCall}
use Rattle.rpc_machine.specs.declared.calls.Promise.{Promise}
use Rattle.rpc_machine.specs.declared.calls.Promise.TheVariants as promise
use Rattle.rpc_machine.specs.declared.calls.KeptOutcome.{KeptOutcome}
use Rattle.rpc_machine.specs.declared.calls.Caller.{Caller}
use Rattle.rpc_machine.specs.declared.calls.Value.{Value}
use Rattle.rpc_machine.specs.declared.command.Level.{Level}
use Rattle.rpc_machine.specs.declared.entries.Question.{Question}
use Rattle.rpc_machine.specs.declared.entries.AnswerEntry.{AnswerEntry}
use Rattle.rpc_machine.specs.declared.entries.Import.{Import}
use Rattle.rpc_machine.specs.declared.entries.Export.{Export}
use Rattle.rpc_machine.specs.declared.entries.Reference.{Reference}
use Rattle.rpc_machine.specs.declared.entries.Role.{Role}
use Rattle.rpc_machine.specs.declared.entries.Embargo.{Embargo}
use Rattle.rpc_machine.specs.State.{State, start}
use Rattle.rpc_machine.specs.Lists.{how_many, update}
use Rattle.rpc_machine.specs.Nodes.{is_promise, is_field, is_import, is_pipe}
use Rattle.rpc_machine.specs.Places.{places, names, named_by_calls, named_by_held, named_by_reference, named_by_embargo, named_by_promise, named_by_outcome, named_by_question, named_by_import, named_by_export, named_by_answer}
use Rattle.rpc_machine.specs.Settling.{known, exports_where}
use Rattle.rpc_machine.specs.Down.{fallen}
use Rattle.rpc_machine.specs.Collecting.{IsLoosePromise, IsLooseOutcome, IsLooseImport, IsTight, CallerIsDone}
use Rattle.rpc_machine.specs.Sweeping.{IsOver}
use Rattle.rpc_machine.specs.Messages.{unembargoed}
use Rattle.laws_acts.specs.Alike.{Alike, part, places_beside}

-- ---- Tables

-- How often places name what is tested: the sum over the eight tables.
abbrev pub NamesAreSummed : Type 0
NamesAreSummed =
    (test : Node → Bool) (s : State) → names s test
    ≡ part test named_by_reference s.refs + part test named_by_embargo s.embargoes + part test named_by_promise s.promises + part test named_by_outcome s.outcomes
    + part test named_by_question s.questions + part test named_by_import s.imports + part test named_by_export s.exports + part test named_by_answer s.answers

-- Where an entry of this table comes, what it names is named once more; where one goes, what it named is named once
-- less; and where one takes the place of another, both.
pub record FollowEntries (X : Type 0) (named_by : ℕ → X → List Node) (table : State → Map X) (with_table : State → Map X → State) : Type 0 where
  pub comes : (s : State) (k : ℕ) (x : X) → map.get (table s) k ≡ None → Alike (named_by k x ++ places s) (places (with_table s (map.insert (table s) k x)))
  pub goes : (s : State) (k : ℕ) (x : X) → map.get (table s) k ≡ Some x → Alike (places s) (named_by k x ++ places (with_table s (map.remove (table s) k)))
  pub changes : (s : State) (k : ℕ) (x y : X) → map.get (table s) k ≡ Some x → Alike (named_by k y ++ places s) (named_by k x ++ places (with_table s (map.insert (table s) k y)))

-- So do the places of each of the eight tables.
pub record PlacesFollowTables : Type 0 where
  pub refs : FollowEntries Reference named_by_reference (λ s. s.refs) (λ s m. record s { refs = m })
  pub embargoes : FollowEntries Embargo named_by_embargo (λ s. s.embargoes) (λ s m. record s { embargoes = m })
  pub promises : FollowEntries Promise named_by_promise (λ s. s.promises) (λ s m. record s { promises = m })
  pub outcomes : FollowEntries KeptOutcome named_by_outcome (λ s. s.outcomes) (λ s m. record s { outcomes = m })
  pub questions : FollowEntries Question named_by_question (λ s. s.questions) (λ s m. record s { questions = m })
  pub imports : FollowEntries Import named_by_import (λ s. s.imports) (λ s m. record s { imports = m })
  pub exports : FollowEntries Export named_by_export (λ s. s.exports) (λ s m. record s { exports = m })
  pub answers : FollowEntries AnswerEntry named_by_answer (λ s. s.answers) (λ s m. record s { answers = m })

-- A vat that is new, or down, names nothing.
pub record NothingNamed : Type 0 where
  pub new : (vat : Vat) (level : Level) (bootstrap : Option ObjectId) → Alike (places (start vat level bootstrap)) []
  pub down : (s : State) (n : ℕ) → Alike (places (fallen s n)) []

-- ---- Calls that were taken out

-- What waiting calls name stays named while they are taken out and routed, one after the other.
pub record TakenCallsStayNamed : Type 0 where
  -- a promise is fixed, and the calls that waited for it are taken out
  pub fixed : (s : State) (p : ℕ) (to : Node) (calls : List WaitingCall) (taken : List HeldCall) → map.get s.promises p ≡ Some (promise.Open calls) → named_by_held taken ≡ named_by_calls calls
      → Alike (to ∷ places_beside [] s) (node.Promise p ∷ places_beside taken (record s { promises = map.insert s.promises p (promise.Fixed to) }))
  -- those that waited for an outcome that is known are taken out
  pub told : (s : State) (o : ℕ) (x : KeptOutcome) (v : Value) → map.get s.outcomes o ≡ Some x → x.value ≡ Some v
      → Alike (places_beside [] s) (places_beside x.waiting (known s o x.caller [] v))
  -- an embargo is lifted, and the calls under it are taken out
  pub lifted : (s : State) (e : ℕ) (b : Embargo) (taken : List HeldCall) → map.get s.embargoes e ≡ Some b → named_by_held taken ≡ named_by_calls b.waiting
      → Alike (places_beside [] s) (b.node ∷ places_beside taken (record s { refs = update s.refs b.reference.0 unembargoed; embargoes = map.remove s.embargoes e }))
  -- the next of them is taken to be routed
  pub next : (s : State) (h : HeldCall) (rest : List HeldCall) → Alike (places_beside (h ∷ rest) s) (h.call.request.caps ++ places_beside rest s)
  -- and whatever else changes meanwhile
  pub meanwhile : (taken : List HeldCall) (come gone : List Node) (s t : State) → Alike (come ++ places s) (gone ++ places t) → Alike (come ++ places_beside taken s) (gone ++ places_beside taken t)

-- ---- What is loose

-- What is loose after a change was loose before, or a place that named it went. (By its names alone: x is the entry after
-- the change, and whoever is done then was done before.)
pub record LooseByNamesThatWent : Type 0 where
  pub promises : (s t : State) (come gone : List Node) → Alike (come ++ places s) (gone ++ places t)
      → (p : ℕ) (x : Option Promise) → IsLoosePromise t p x → IsLoosePromise s p x ⊎ (0 < how_many (is_promise p) gone)
  pub outcomes : (s t : State) (come gone : List Node) → Alike (come ++ places s) (gone ++ places t)
      → (o : ℕ) (x : Option KeptOutcome) → ((who : Caller) → CallerIsDone t o who → CallerIsDone s o who) → IsLooseOutcome t o x → IsLooseOutcome s o x ⊎ (0 < how_many (is_field o) gone)
  pub imports : (s t : State) (come gone : List Node) → Alike (come ++ places s) (gone ++ places t)
      → (e : ℕ) (x : Option Import) → IsLooseImport t e x → IsLooseImport s e x ⊎ (0 < how_many (is_import e) gone)
  pub questions : (s t : State) (come gone : List Node) → Alike (come ++ places s) (gone ++ places t)
      → (q : ℕ) (x : Question) (r : Role) → ((c : ℕ) → map.get t.calls c ≡ None → map.get s.calls c ≡ None) → IsOver t q x r → IsOver s q x r ⊎ (0 < how_many (is_pipe q) gone)

-- Each thing that is loose is noted in these lists.
pub record AllNoted (s : State) (promises outcomes imports : List ℕ) : Type 0 where
  pub of_promises : (p : ℕ) → IsLoosePromise s p (map.get s.promises p) → Contains promises p
  pub of_outcomes : (o : ℕ) → IsLooseOutcome s o (map.get s.outcomes o) → Contains outcomes o
  pub of_imports : (e : ℕ) → IsLooseImport s e (map.get s.imports e) → Contains imports e

-- Where none is noted, none would go.
abbrev pub TightByNoneNoted : Type 0
TightByNoneNoted = (s : State) → AllNoted s [] [] [] → IsTight s

-- ---- Resolves

-- What no place names has no export: no Resolve is sent for it.
abbrev pub NoResolves : Type 0
NoResolves = (s : State) (test : Node → Bool) → names s test ≡ 0 → exports_where test (map.entries s.exports) ≡ []
