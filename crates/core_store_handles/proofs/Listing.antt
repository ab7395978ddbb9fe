-- References that are made one after the other.
use Rattle.std.proofs.Common.{◌≡◌, ℕ, suc, ◌+◌, ◌≤◌, ◌<◌, List, [], ◌∷◌, ◌++◌, length, take, refl, sym, ap, ◌∙◌, arith}
use Rattle.std.proofs.lemmas.List.{length-take-le, append_assoc}
use Rattle.rpc_msg.specs.declared.ids.RefId.{RefId}
use Rattle.rpc_machine.specs.declared.node.Node.{Node}
use Rattle.rpc_machine.specs.State.{State}
use Rattle.rpc_machine.specs.Progress.{with_refs, new_refs}

one_more_ref : (s : State) (ns : List Node) (n : Node) → with_refs s (ns ++ n ∷ []) ≡ with_refs (with_refs s ns) (n ∷ [])
one_more_ref s [] n = refl
one_more_ref s (m ∷ ns) n = one_more_ref (with_refs s (m ∷ [])) ns n

one_more_id : (next : ℕ) (ns : List Node) (n : Node) → new_refs next (ns ++ n ∷ []) ≡ new_refs next ns ++ record { 0 = next + length ns } ∷ []
one_more_id next [] n = let e : next ≡ next + 0 = omega arith in ap (λ k. new_refs k (n ∷ [])) e
one_more_id next (m ∷ ns) n =
    let e : next + 1 + length ns ≡ next + suc (length ns) = omega arith in
    ap (λ (ids : List RefId). record { 0 = next } ∷ ids) (one_more_id (next + 1) ns n ∙ ap (λ k. new_refs (next + 1) ns ++ record { 0 = k } ∷ []) e)

-- After i of the nodes n is the next.
module _ (ns : List Node) (i : ℕ) (n : Node) (more : i < length ns) (taken : take i ns ++ n ∷ [] ≡ take (i + 1) ns) where
  pub refs_next : (start now new : State) → now ≡ with_refs start (take i ns) → new ≡ with_refs now (n ∷ []) → new ≡ with_refs start (take (i + 1) ns)
  refs_next start now new before h = h ∙ ap (λ (s : State). with_refs s (n ∷ [])) before ∙ sym (one_more_ref start (take i ns) n) ∙ ap (with_refs start) taken

  pub ids_next : (old now new : List RefId) (id : RefId) (next at : ℕ) → now ≡ old ++ new_refs next (take i ns) → at ≡ next + i → id ≡ record { 0 = at } → new ≡ now ++ id ∷ [] → new ≡ old ++ new_refs next (take (i + 1) ns)
  ids_next old now new id next at before up value h =
      let few : i ≤ length ns = omega (arith, more) in
      let far : at ≡ next + length (take i ns) = let e = length-take-le i ns few in omega (arith, e, up) in
      let ids : List RefId = new_refs next (take i ns) in
      h ∙ ap (λ (is : List RefId). is ++ id ∷ []) before ∙ append_assoc old ids (id ∷ []) ∙ ap (λ (j : RefId). old ++ (ids ++ j ∷ [])) (value ∙ ap (λ (k : ℕ). record { 0 = k }) far)
      ∙ ap (λ (is : List RefId). old ++ is) (sym (one_more_id next (take i ns) n) ∙ ap (new_refs next) taken)
