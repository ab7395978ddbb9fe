-- Where nothing is to go, a step's end leaves all as it is: there is no other end.
use Rattle.std.proofs.Common.{◌≡◌, ℕ, List, [], refl, sym, ap, subst, ◌∙◌}
use Rattle.std.specs.FinMap as map
use Rattle.finite_maps.specs.Tally.{Map}
use Rattle.rpc_machine.specs.declared.entries.Question.{Question}
use Rattle.rpc_machine.specs.declared.command.Effects.{Effects}
use Rattle.rpc_machine.specs.State.{State}
use Rattle.rpc_machine.specs.Progress.{Progress}
use Rattle.rpc_machine.specs.Collecting.{IsTight, Goes, PromiseGoes, OutcomeGoes, ImportGoes, Collects, Tight, Loose}
use Rattle.rpc_machine.specs.Sweeping.{IsToFinish, Withers, Over, Thing, Asked, FinishesEach, release_each, releases, Sweeps}
use Rattle.rpc_machine.specs.Steps.{staying_up, Ends}
use Rattle.rpc_machine_examples.proofs.GivenMaps.{progress, NothingOver, entries_empty}
use Rattle.rpc_machine_examples.proofs.EndOfStep.{none_arose}

pub nothing_goes : (d new : Progress) → IsTight d.state → Goes d new → ⊥
nothing_goes d new t (PromiseGoes p h f) = t.promises p h
nothing_goes d new t (OutcomeGoes o h f) = t.outcomes o h
nothing_goes d new t (ImportGoes i h f) = t.imports i h

pub stays_tight : (new d : Progress) → IsTight d.state → Collects new d → new ≡ d
stays_tight new d t (Tight h) = refl
stays_tight new d t (Loose {mid = mid} g rest) = absurd (nothing_goes d mid t g)

none_over : (d : Progress) (over : Map Question) → IsTight d.state → NothingOver d.state → Withers d over → over ≡ map.empty
none_over d over t n (Over h k) = refl
none_over d over t n (Thing {mid = mid} g rest) = absurd (nothing_goes d mid t g)
none_over d over t n (Asked q x f h rest) = absurd (n q (subst (IsToFinish d.state q) (sym f) h))

stays : (s : State) (y : Effects) (new : Progress) → IsTight s → NothingOver s → Sweeps (progress s y) new → new ≡ progress s y
stays s y new t n h =
    let d : Progress = progress s y in
    let g = h.2 in
    let k = g.2 in
    let none : map.entries h.0 ≡ [] = ap (λ (j : Map Question). map.entries j) (none_over d h.0 t n h.1) ∙ entries_empty in
    let a : g.0 ≡ d = subst (λ (xs : List (ℕ × Question)). FinishesEach d xs g.0) none g.1 in
    let b : k.0 ≡ d = stays_tight k.0 d t (subst (λ (p : Progress). Collects k.0 p) a k.1) in
    let c : releases d ≡ d = ap (λ (xs : List (ℕ × ℕ)). record (release_each d xs) { released = map.empty }) entries_empty in
    k.2 ∙ ap releases b ∙ c

-- The only end of a step whose first act leads there.
pub only_end : (s : State) (y : Effects) (acted : Progress) (x : Effects) (new : State) → acted ≡ progress s y → IsTight s → NothingOver s → Ends acted x new → (x ≡ staying_up y) × (new ≡ s)
only_end s y acted x new f t n h =
    let a : h.drained ≡ progress s y = none_arose h.drained acted h.drains (ap (λ (p : Progress). p.arisen) f) ∙ f in
    let b : h.swept ≡ progress s y = stays s y h.swept t n (subst (λ (p : Progress). Sweeps p h.swept) a h.sweeps) in
    (h.effects_are ∙ ap (λ (p : Progress). staying_up p.effects) b, h.new_is ∙ ap (λ (p : Progress). p.state) b)
