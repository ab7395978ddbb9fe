-- A step in progress in both, and how it goes on.
use Rattle.std.proofs.Common.{◌≡◌, ℕ, ◌+◌, Bool, true, false, List, [], ◌∷◌, ◌++◌, map, Option, None, Some, refl, sym, ap, ◌∙◌}
use Rattle.std.specs.FinMap as finite
use Rattle.finite_maps.specs.Tally.{Map, map_values, option_changed}
use Rattle.finite_maps.proofs.Values.{get-map_values, map_values-insert, map_values-remove}
use Rattle.rpc_machine.specs.declared.calls.Promise.{Promise}
use Rattle.rpc_machine.specs.declared.calls.Value.{Value}
use Rattle.rpc_machine.specs.declared.calls.KeptOutcome.{KeptOutcome}
use Rattle.rpc_machine.specs.declared.entries.Question.{Question}
use Rattle.rpc_machine.specs.declared.entries.Embargo.{Embargo}
use Rattle.rpc_machine.specs.declared.entries.Reference.{Reference}
use Rattle.rpc_machine.specs.declared.entries.Import.{Import}
use Rattle.rpc_msg.specs.declared.ids.RefId.{RefId}
use Rattle.rpc_machine.specs.State.{State}
use Rattle.rpc_machine.specs.Progress.{Progress, with_refs, new_refs}
use Rattle.laws_wired.specs.Pairs.{TwoNodes, TwoReferences, TwoImports, node_at, reference_at, import_at, TwoValues, TwoKept, TwoPromises, TwoEmbargoes, TwoQuestions, TwoStates, TwoMessages, TwoDeliveries, TwoEnded, TwoEffects, value_at, kept_at, promise_at, embargo_at, question_at, state_at, message_at, effects_at}
use Rattle.laws_wired.proofs.Settles.{map-append}

pub record TwoProgress : Type 0 where
  pub state : TwoStates
  pub effects : TwoEffects
  pub arisen : List (ℕ × TwoValues)
  pub released : Map ℕ

abbrev pub arisen_at : Bool → ℕ × TwoValues → ℕ × Value
arisen_at b x = (x.0, value_at b x.1)

abbrev pub progress_at : Bool → TwoProgress → Progress
progress_at b d = record { state = state_at b d.state; effects = effects_at b d.effects; arisen = map (arisen_at b) d.arisen; released = d.released }

-- What one run comes to, the other comes to alike.
abbrev pub State2 : State → (State → Type 0) → Type 0
State2 new Q = (y : TwoStates) × (new ≡ state_at false y) × Q (state_at true y)

abbrev pub Next2 : Progress → (Progress → Type 0) → Type 0
Next2 new Q = (y : TwoProgress) × (new ≡ progress_at false y) × Q (progress_at true y)

abbrev pub in_state : TwoProgress → TwoStates → TwoProgress
in_state d s = record d { state = s }

abbrev pub send2 : TwoProgress → TwoMessages → TwoProgress
send2 d m = record d { effects = record (d.effects) { sends = d.effects.sends ++ m ∷ [] } }

abbrev pub deliver_to2 : TwoProgress → TwoDeliveries → TwoProgress
deliver_to2 d x = record d { effects = record (d.effects) { deliveries = d.effects.deliveries ++ x ∷ [] } }

abbrev pub end2 : TwoProgress → TwoEnded → TwoProgress
end2 d x = record d { effects = record (d.effects) { answers = d.effects.answers ++ x ∷ [] } }

abbrev pub arise2 : TwoProgress → ℕ → TwoValues → TwoProgress
arise2 d o w = record d { arisen = d.arisen ++ (o, w) ∷ [] }

module _ (b : Bool) where
  pub sends : (d : TwoProgress) (m : TwoMessages)
      → progress_at b (send2 d m) ≡ record (progress_at b d) { effects = record (effects_at b d.effects) { sends = map (message_at b) d.effects.sends ++ message_at b m ∷ [] } }
  sends d m =
      let e = map-append (message_at b) d.effects.sends (m ∷ []) in
      λ i. record (progress_at b d) { effects = record (effects_at b d.effects) { sends = e i } }

  pub arises_so : (d : TwoProgress) (o : ℕ) (w : TwoValues)
      → progress_at b (arise2 d o w) ≡ record (progress_at b d) { arisen = map (arisen_at b) d.arisen ++ (o, value_at b w) ∷ [] }
  arises_so d o w =
      let e = map-append (arisen_at b) d.arisen ((o, w) ∷ []) in
      λ i. record (progress_at b d) { arisen = e i }

  -- ---- one table at a time

  pub put_promise : (z : TwoStates) (k : ℕ) (x : TwoPromises)
      → state_at b (record z { promises = finite.insert z.promises k x }) ≡ record (state_at b z) { promises = finite.insert (state_at b z).promises k (promise_at b x) }
  put_promise z k x = ap (λ (m : Map Promise). record (state_at b z) { promises = m }) (map_values-insert (promise_at b) z.promises k x)

  pub cut_promise : (z : TwoStates) (k : ℕ)
      → state_at b (record z { promises = finite.remove z.promises k }) ≡ record (state_at b z) { promises = finite.remove (state_at b z).promises k }
  cut_promise z k = ap (λ (m : Map Promise). record (state_at b z) { promises = m }) (map_values-remove (promise_at b) z.promises k)

  pub put_outcome : (z : TwoStates) (k : ℕ) (x : TwoKept)
      → state_at b (record z { outcomes = finite.insert z.outcomes k x }) ≡ record (state_at b z) { outcomes = finite.insert (state_at b z).outcomes k (kept_at b x) }
  put_outcome z k x = ap (λ (m : Map KeptOutcome). record (state_at b z) { outcomes = m }) (map_values-insert (kept_at b) z.outcomes k x)

  pub cut_outcome : (z : TwoStates) (k : ℕ)
      → state_at b (record z { outcomes = finite.remove z.outcomes k }) ≡ record (state_at b z) { outcomes = finite.remove (state_at b z).outcomes k }
  cut_outcome z k = ap (λ (m : Map KeptOutcome). record (state_at b z) { outcomes = m }) (map_values-remove (kept_at b) z.outcomes k)

  pub put_question : (z : TwoStates) (k : ℕ) (x : TwoQuestions)
      → state_at b (record z { questions = finite.insert z.questions k x }) ≡ record (state_at b z) { questions = finite.insert (state_at b z).questions k (question_at b x) }
  put_question z k x = ap (λ (m : Map Question). record (state_at b z) { questions = m }) (map_values-insert (question_at b) z.questions k x)

  pub cut_question : (z : TwoStates) (k : ℕ)
      → state_at b (record z { questions = finite.remove z.questions k }) ≡ record (state_at b z) { questions = finite.remove (state_at b z).questions k }
  cut_question z k = ap (λ (m : Map Question). record (state_at b z) { questions = m }) (map_values-remove (question_at b) z.questions k)

  pub put_embargo : (z : TwoStates) (k : ℕ) (x : TwoEmbargoes)
      → state_at b (record z { embargoes = finite.insert z.embargoes k x }) ≡ record (state_at b z) { embargoes = finite.insert (state_at b z).embargoes k (embargo_at b x) }
  put_embargo z k x = ap (λ (m : Map Embargo). record (state_at b z) { embargoes = m }) (map_values-insert (embargo_at b) z.embargoes k x)

  pub cut_embargo : (z : TwoStates) (k : ℕ)
      → state_at b (record z { embargoes = finite.remove z.embargoes k }) ≡ record (state_at b z) { embargoes = finite.remove (state_at b z).embargoes k }
  cut_embargo z k = ap (λ (m : Map Embargo). record (state_at b z) { embargoes = m }) (map_values-remove (embargo_at b) z.embargoes k)

  pub put_ref : (z : TwoStates) (k : ℕ) (x : TwoReferences)
      → state_at b (record z { refs = finite.insert z.refs k x }) ≡ record (state_at b z) { refs = finite.insert (state_at b z).refs k (reference_at b x) }
  put_ref z k x = ap (λ (m : Map Reference). record (state_at b z) { refs = m }) (map_values-insert (reference_at b) z.refs k x)

  pub cut_ref : (z : TwoStates) (k : ℕ)
      → state_at b (record z { refs = finite.remove z.refs k }) ≡ record (state_at b z) { refs = finite.remove (state_at b z).refs k }
  cut_ref z k = ap (λ (m : Map Reference). record (state_at b z) { refs = m }) (map_values-remove (reference_at b) z.refs k)

  pub put_import : (z : TwoStates) (k : ℕ) (x : TwoImports)
      → state_at b (record z { imports = finite.insert z.imports k x }) ≡ record (state_at b z) { imports = finite.insert (state_at b z).imports k (import_at b x) }
  put_import z k x = ap (λ (m : Map Import). record (state_at b z) { imports = m }) (map_values-insert (import_at b) z.imports k x)

  pub cut_import : (z : TwoStates) (k : ℕ)
      → state_at b (record z { imports = finite.remove z.imports k }) ≡ record (state_at b z) { imports = finite.remove (state_at b z).imports k }
  cut_import z k = ap (λ (m : Map Import). record (state_at b z) { imports = m }) (map_values-remove (import_at b) z.imports k)

-- ---- new references

abbrev pub with_ref2 : TwoStates → TwoNodes → TwoStates
with_ref2 z m = record z { rest = record (z.rest) { next_ref = z.rest.next_ref + 1 }; refs = finite.insert z.refs z.rest.next_ref (record { head = m; embargo = None; made = 0 }) }

abbrev pub with_refs2 : TwoStates → List TwoNodes → TwoStates
with_refs2 z [] = z
with_refs2 z (m ∷ ms) = with_refs2 (with_ref2 z m) ms

pub refs_at : (b : Bool) (z : TwoStates) (ms : List TwoNodes) → state_at b (with_refs2 z ms) ≡ with_refs (state_at b z) (map (node_at b) ms)
refs_at b z [] = refl
refs_at b z (m ∷ ms) =
    refs_at b (with_ref2 z m) ms
    ∙ ap (λ (r : Map Reference). with_refs (record (state_at b z) { refs = r; next_ref = z.rest.next_ref + 1 }) (map (node_at b) ms))
    (map_values-insert (reference_at b) z.refs z.rest.next_ref (record { head = m; embargo = None; made = 0 }))

pub same_news : (next : ℕ) (ms : List TwoNodes) (b : Bool) → new_refs next (map (node_at b) ms) ≡ new_refs next (map (node_at false) ms)
same_news next [] b = refl
same_news next (m ∷ ms) b = ap (λ (rs : List RefId). record { 0 = next } ∷ rs) (same_news (next + 1) ms b)

-- ---- keys that are free

none_changed : {X Y : Type 0} (f : X → Y) (o : Option X) → option_changed f o ≡ None → o ≡ None
none_changed f None e = refl
none_changed f (Some x) e = cc

pub free_in : {X Y : Type 0} (f h : X → Y) (m : Map X) (k : ℕ) → finite.get (map_values f m) k ≡ None → finite.get (map_values h m) k ≡ None
free_in f h m k e = get-map_values h m k ∙ ap (option_changed h) (none_changed f (finite.get m k) (sym (get-map_values f m k) ∙ e))
