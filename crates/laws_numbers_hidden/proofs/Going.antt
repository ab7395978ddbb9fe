-- A step in progress, with other numbers.
use Rattle.std.proofs.Common.{◌≡◌, ℕ, ◌+◌, List, [], ◌∷◌, map, None, refl, ap, ◌∙◌}
use Rattle.finite_maps.proofs.Values.{map_values-insert, map_values-remove}
use Rattle.std.specs.FinMap as finite
use Rattle.finite_maps.specs.Tally.{Map}
use Rattle.rpc_msg.specs.declared.ids.ObjectId.{ObjectId}
use Rattle.rpc_msg.specs.declared.ids.RefId.{RefId}
use Rattle.rpc_machine.specs.declared.node.Node.{Node}
use Rattle.rpc_machine.specs.declared.calls.Value.{Value}
use Rattle.rpc_machine.specs.declared.calls.KeptOutcome.{KeptOutcome}
use Rattle.rpc_machine.specs.declared.calls.Promise.{Promise}
use Rattle.rpc_machine.specs.declared.entries.Question.{Question}
use Rattle.rpc_machine.specs.declared.entries.Embargo.{Embargo}
use Rattle.rpc_machine.specs.declared.entries.Import.{Import}
use Rattle.rpc_machine.specs.declared.entries.Export.{Export}
use Rattle.rpc_machine.specs.declared.entries.Reference.{Reference}
use Rattle.rpc_machine.specs.State.{State}
use Rattle.laws_numbers_hidden.specs.Renamed.{node_by, value_by, kept_by, promise_by, embargo_by, question_by, reference_by, import_by, export_by, state_by, effects_by}
use Rattle.rpc_machine.specs.Progress.{Progress, with_refs, new_refs}

module _ (f : ObjectId → ObjectId) where
  abbrev pub arisen_by : ℕ × Value → ℕ × Value
  arisen_by x = (x.0, value_by f x.1)

  abbrev pub progress_by : Progress → Progress
  progress_by d = record { state = state_by f d.state; effects = effects_by f d.effects; arisen = map arisen_by d.arisen; released = d.released }

  pub put_promise : (s : State) (k : ℕ) (x : Promise) → state_by f (record s { promises = finite.insert s.promises k x }) ≡ record (state_by f s) { promises = finite.insert (state_by f s).promises k (promise_by f x) }
  put_promise s k x = ap (λ (m : Map Promise). record (state_by f s) { promises = m }) (map_values-insert (promise_by f) s.promises k x)

  pub cut_promise : (s : State) (k : ℕ) → state_by f (record s { promises = finite.remove s.promises k }) ≡ record (state_by f s) { promises = finite.remove (state_by f s).promises k }
  cut_promise s k = ap (λ (m : Map Promise). record (state_by f s) { promises = m }) (map_values-remove (promise_by f) s.promises k)

  pub put_outcome : (s : State) (k : ℕ) (x : KeptOutcome) → state_by f (record s { outcomes = finite.insert s.outcomes k x }) ≡ record (state_by f s) { outcomes = finite.insert (state_by f s).outcomes k (kept_by f x) }
  put_outcome s k x = ap (λ (m : Map KeptOutcome). record (state_by f s) { outcomes = m }) (map_values-insert (kept_by f) s.outcomes k x)

  pub cut_outcome : (s : State) (k : ℕ) → state_by f (record s { outcomes = finite.remove s.outcomes k }) ≡ record (state_by f s) { outcomes = finite.remove (state_by f s).outcomes k }
  cut_outcome s k = ap (λ (m : Map KeptOutcome). record (state_by f s) { outcomes = m }) (map_values-remove (kept_by f) s.outcomes k)

  pub put_question : (s : State) (k : ℕ) (x : Question) → state_by f (record s { questions = finite.insert s.questions k x }) ≡ record (state_by f s) { questions = finite.insert (state_by f s).questions k (question_by f x) }
  put_question s k x = ap (λ (m : Map Question). record (state_by f s) { questions = m }) (map_values-insert (question_by f) s.questions k x)

  pub cut_question : (s : State) (k : ℕ) → state_by f (record s { questions = finite.remove s.questions k }) ≡ record (state_by f s) { questions = finite.remove (state_by f s).questions k }
  cut_question s k = ap (λ (m : Map Question). record (state_by f s) { questions = m }) (map_values-remove (question_by f) s.questions k)

  pub put_embargo : (s : State) (k : ℕ) (x : Embargo) → state_by f (record s { embargoes = finite.insert s.embargoes k x }) ≡ record (state_by f s) { embargoes = finite.insert (state_by f s).embargoes k (embargo_by f x) }
  put_embargo s k x = ap (λ (m : Map Embargo). record (state_by f s) { embargoes = m }) (map_values-insert (embargo_by f) s.embargoes k x)

  pub put_ref : (s : State) (k : ℕ) (x : Reference) → state_by f (record s { refs = finite.insert s.refs k x }) ≡ record (state_by f s) { refs = finite.insert (state_by f s).refs k (reference_by f x) }
  put_ref s k x = ap (λ (m : Map Reference). record (state_by f s) { refs = m }) (map_values-insert (reference_by f) s.refs k x)

  pub cut_ref : (s : State) (k : ℕ) → state_by f (record s { refs = finite.remove s.refs k }) ≡ record (state_by f s) { refs = finite.remove (state_by f s).refs k }
  cut_ref s k = ap (λ (m : Map Reference). record (state_by f s) { refs = m }) (map_values-remove (reference_by f) s.refs k)

  pub put_import : (s : State) (k : ℕ) (x : Import) → state_by f (record s { imports = finite.insert s.imports k x }) ≡ record (state_by f s) { imports = finite.insert (state_by f s).imports k (import_by f x) }
  put_import s k x = ap (λ (m : Map Import). record (state_by f s) { imports = m }) (map_values-insert (import_by f) s.imports k x)

  pub cut_import : (s : State) (k : ℕ) → state_by f (record s { imports = finite.remove s.imports k }) ≡ record (state_by f s) { imports = finite.remove (state_by f s).imports k }
  cut_import s k = ap (λ (m : Map Import). record (state_by f s) { imports = m }) (map_values-remove (import_by f) s.imports k)

  pub put_export : (s : State) (k : ℕ) (x : Export) → state_by f (record s { exports = finite.insert s.exports k x }) ≡ record (state_by f s) { exports = finite.insert (state_by f s).exports k (export_by f x) }
  put_export s k x = ap (λ (m : Map Export). record (state_by f s) { exports = m }) (map_values-insert (export_by f) s.exports k x)

  -- ---- new references

  pub refs_so : (s : State) (ns : List Node) → state_by f (with_refs s ns) ≡ with_refs (state_by f s) (map (node_by f) ns)
  refs_so s [] = refl
  refs_so s (n ∷ ns) =
      refs_so (record s { refs = finite.insert s.refs s.next_ref (record { head = n; embargo = None; made = 0 }); next_ref = s.next_ref + 1 }) ns
      ∙ ap (λ (r : Map Reference). with_refs (record (state_by f s) { refs = r; next_ref = s.next_ref + 1 }) (map (node_by f) ns))
      (map_values-insert (reference_by f) s.refs s.next_ref (record { head = n; embargo = None; made = 0 }))

  pub same_news : (next : ℕ) (ns : List Node) → new_refs next ns ≡ new_refs next (map (node_by f) ns)
  same_news next [] = refl
  same_news next (n ∷ ns) = ap (λ (rs : List RefId). record { 0 = next } ∷ rs) (same_news (next + 1) ns)
