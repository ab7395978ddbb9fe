-- What goes leaves as it is: all but promises, outcomes, imports and what is to be released.
use Rattle.std.proofs.Common.{◌≡◌, ◌⊎◌, inl, inr, ℕ, Option, None, refl, sym, ap, subst, ◌∙◌}
use Rattle.std.specs.FinMap as map
use Rattle.finite_maps.specs.Tally.{Map}
use Rattle.finite_maps.proofs.Gets.{at_each, get-remove_same, get-remove_other}
use Rattle.rpc_machine.specs.declared.calls.KeptOutcome.{KeptOutcome}
use Rattle.rpc_machine.specs.Progress.{Progress}
use Rattle.rpc_machine.specs.Collecting.{Goes, PromiseGoes, OutcomeGoes, ImportGoes, Collects, Tight, Loose}

abbrev pub collected : Progress → Progress → Progress
collected d n = record d { state = record (d.state) { promises = n.state.promises; outcomes = n.state.outcomes; imports = n.state.imports }; released = n.released }

goes_only : (d new : Progress) → Goes d new → new ≡ collected d new
goes_only d new (PromiseGoes p h e) = e ∙ ap (collected d) (sym e)
goes_only d new (OutcomeGoes o h e) = e ∙ ap (collected d) (sym e)
goes_only d new (ImportGoes i h e) = e ∙ ap (collected d) (sym e)

pub collects_only : (new d : Progress) → Collects new d → new ≡ collected d new
collects_only new d (Tight h) = refl
collects_only new d (Loose {mid = mid} g rest) = collects_only new mid rest ∙ ap (λ (p : Progress). collected p new) (goes_only d mid g)

-- ---- An outcome stays as it was, or goes

abbrev pub IsSameOrGone : {X : Type 0} → Option X → Option X → Type 0
IsSameOrGone old new = (new ≡ old) ⊎ (new ≡ None)

pub then_so : {X : Type 0} (a b c : Option X) → IsSameOrGone a b → IsSameOrGone b c → IsSameOrGone a c
then_so a b c h (inr gone) = inr gone
then_so a b c (inl same) (inl again) = inl (again ∙ same)
then_so a b c (inr gone) (inl again) = inr (again ∙ gone)

abbrev pub Leaves : Progress → Progress → Type 0
Leaves d new = (o : ℕ) → IsSameOrGone (map.get d.state.outcomes o) (map.get new.state.outcomes o)

removed : (m : Map KeptOutcome) (k o : ℕ) → IsSameOrGone (map.get m o) (map.get (map.remove m k) o)
removed m k = at_each (λ (q : ℕ). IsSameOrGone (map.get m q) (map.get (map.remove m k) q)) k (inr (get-remove_same m k)) (λ q apart. inl (get-remove_other m k q apart))

goes_leaves : (d new : Progress) → Goes d new → Leaves d new
goes_leaves d new (PromiseGoes p h e) = λ o. inl (ap (λ (x : Progress). map.get x.state.outcomes o) e)
goes_leaves d new (OutcomeGoes k h e) = λ o. subst (λ (x : Progress). IsSameOrGone (map.get d.state.outcomes o) (map.get x.state.outcomes o)) (sym e) (removed d.state.outcomes k o)
goes_leaves d new (ImportGoes i h e) = λ o. inl (ap (λ (x : Progress). map.get x.state.outcomes o) e)

pub collects_leaves : (new d : Progress) → Collects new d → Leaves d new
collects_leaves new d (Tight h) = λ o. inl refl
collects_leaves new d (Loose {mid = mid} g rest) = λ o.
    then_so (map.get d.state.outcomes o) (map.get mid.state.outcomes o) (map.get new.state.outcomes o) (goes_leaves d mid g o) (collects_leaves new mid rest o)
