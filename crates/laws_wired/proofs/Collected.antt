-- What no place names goes alike in both.
use Rattle.std.proofs.Common.{◌≡◌, ℕ, ◌-◌, Bool, true, false, cond, not, ◌&&◌, ◌||◌, nat_eq, nat_lt, nat_le, List, [], ◌∷◌, map, Option, None, Some, refl, sym, ap, subst, ◌∙◌}
use Rattle.std.specs.FinMap as finite
use Rattle.std.specs.List.{list_all}
use Rattle.finite_maps.specs.Tally.{Map, map_values, option_changed}
use Rattle.finite_maps.proofs.Values.{get-map_values, map_values-insert, map_values-remove}
use Rattle.rpc_machine.specs.declared.command.Level.{Level}
use Rattle.rpc_machine.specs.declared.command.Level.TheVariants.{Zero, One}
use Rattle.rpc_machine.specs.declared.node.Node.{Node}
use Rattle.rpc_machine.specs.declared.node.Node.TheVariants as node
use Rattle.rpc_machine.specs.declared.node.Reason.{Reason}
use Rattle.rpc_machine.specs.declared.calls.Caller.{Caller}
use Rattle.rpc_machine.specs.declared.calls.Caller.TheVariants as caller
use Rattle.rpc_machine.specs.declared.entries.Import.{Import}
use Rattle.rpc_machine.specs.Nodes.{is_promise, is_field, is_import}
use Rattle.rpc_machine.specs.Lists.{how_many, is_empty}
use Rattle.rpc_machine.specs.Places.{names}
use Rattle.rpc_machine.specs.Progress.{Progress, with_state}
use Rattle.rpc_machine.specs.Collecting.{IsLoosePromise, CallerIsDone, IsLooseValue, IsLooseOutcome, IsLooseImport, release, without_import, Goes, PromiseGoes, OutcomeGoes, ImportGoes, IsTight, Collects, Tight, Loose}
use Rattle.rpc_machine.specs.Flags.{may_lose, is_spared, flag_at, flag_for, give_one, give_each, give_if, give_back}
use Rattle.laws_wired.specs.Pairs.{TwoValues, TwoKept, TwoPromises, Open, Fixed, TwoImports, TwoStates, import_at, held_at, value_at, kept_at, promise_at, state_at}
use Rattle.laws_wired.proofs.Named.{same_names}
use Rattle.laws_wired.proofs.Going.{TwoProgress, progress_at, Next2, in_state, cut_promise, cut_outcome, cut_import}

pub empty_as : {X Y : Type 0} (f h : X → Y) (xs : List X) → map f xs ≡ [] → map h xs ≡ []
empty_as f h [] e = refl
empty_as f h (x ∷ xs) e = cc

-- From either to either.
module _ (z : TwoStates) where
  pub none_names : (b c : Bool) (test : Node → Bool) → ((reason : Reason) → test (node.Broken reason) ≡ false) → names (state_at b z) test ≡ 0 → names (state_at c z) test ≡ 0
  none_names true true test blind h = h
  none_names true false test blind h = sym (same_names test blind z) ∙ h
  none_names false true test blind h = same_names test blind z ∙ h
  none_names false false test blind h = h

  module _ (b c : Bool) where
    promise_as : (p : ℕ) (o : Option TwoPromises) → IsLoosePromise (state_at b z) p (option_changed (promise_at b) o) → IsLoosePromise (state_at c z) p (option_changed (promise_at c) o)
    promise_as p None h = absurd h
    promise_as p (Some (Open calls)) h = absurd h
    promise_as p (Some (Fixed to)) h = none_names b c (is_promise p) (λ r. refl) h

    promise_there : (p : ℕ) → IsLoosePromise (state_at b z) p (finite.get (state_at b z).promises p) → IsLoosePromise (state_at c z) p (finite.get (state_at c z).promises p)
    promise_there p h =
        subst (IsLoosePromise (state_at c z) p) (sym (get-map_values (promise_at c) z.promises p))
        (promise_as p (finite.get z.promises p) (subst (IsLoosePromise (state_at b z) p) (get-map_values (promise_at b) z.promises p) h))

    done_as : (o : ℕ) (who : Caller) → CallerIsDone (state_at b z) o who → CallerIsDone (state_at c z) o who
    done_as o (caller.Application k) h = h
    done_as o (caller.Peer q) h = h

    value_as : (o : ℕ) (x : TwoKept) (w : Option TwoValues)
        → IsLooseValue (state_at b z) o (kept_at b x) (option_changed (value_at b) w) → IsLooseValue (state_at c z) o (kept_at c x) (option_changed (value_at c) w)
    value_as o x None h = absurd h
    value_as o x (Some w) h = (empty_as (held_at b) (held_at c) x.waiting h.0, done_as o x.caller h.1, none_names b c (is_field o) (λ r. refl) h.2)

    outcome_as : (o : ℕ) (x : Option TwoKept) → IsLooseOutcome (state_at b z) o (option_changed (kept_at b) x) → IsLooseOutcome (state_at c z) o (option_changed (kept_at c) x)
    outcome_as o None h = absurd h
    outcome_as o (Some x) h = value_as o x x.value h

    outcome_there : (o : ℕ) → IsLooseOutcome (state_at b z) o (finite.get (state_at b z).outcomes o) → IsLooseOutcome (state_at c z) o (finite.get (state_at c z).outcomes o)
    outcome_there o h =
        subst (IsLooseOutcome (state_at c z) o) (sym (get-map_values (kept_at c) z.outcomes o))
        (outcome_as o (finite.get z.outcomes o) (subst (IsLooseOutcome (state_at b z) o) (get-map_values (kept_at b) z.outcomes o) h))

    import_as : (e : ℕ) (x : Option TwoImports) → IsLooseImport (state_at b z) e (option_changed (import_at b) x) → IsLooseImport (state_at c z) e (option_changed (import_at c) x)
    import_as e None h = absurd h
    import_as e (Some x) h = none_names b c (is_import e) (λ r. refl) h

    import_there : (e : ℕ) → IsLooseImport (state_at b z) e (finite.get (state_at b z).imports e) → IsLooseImport (state_at c z) e (finite.get (state_at c z).imports e)
    import_there e h =
        subst (IsLooseImport (state_at c z) e) (sym (get-map_values (import_at c) z.imports e))
        (import_as e (finite.get z.imports e) (subst (IsLooseImport (state_at b z) e) (get-map_values (import_at b) z.imports e) h))

  pub tight : (b c : Bool) → IsTight (state_at b z) → IsTight (state_at c z)
  tight b c h = record {
    promises = λ p l. h.promises p (promise_there c b p l);
    outcomes = λ o l. h.outcomes o (outcome_there c b o l);
    imports = λ e l. h.imports e (import_there c b e l);
  }

abbrev less_promise : TwoProgress → ℕ → TwoProgress
less_promise d p = in_state d (record (d.state) { promises = finite.remove d.state.promises p })

abbrev less_outcome : TwoProgress → ℕ → TwoProgress
less_outcome d o = in_state d (record (d.state) { outcomes = finite.remove d.state.outcomes o })

abbrev release2 : Map ℕ → ℕ → Option TwoImports → Map ℕ
release2 m e None = m
release2 m e (Some x) = finite.insert m e x.count

releases_so : (b : Bool) (m : Map ℕ) (e : ℕ) (o : Option TwoImports) → release2 m e o ≡ release m e (option_changed (import_at b) o)
releases_so b m e None = refl
releases_so b m e (Some x) = refl

abbrev less_import : TwoProgress → ℕ → TwoProgress
less_import d e = record d {
  state = record (d.state) { imports = finite.remove d.state.imports e };
  released = release2 d.released e (finite.get d.state.imports e);
}

import_goes : (b : Bool) (d : TwoProgress) (e : ℕ) → progress_at b (less_import d e) ≡ without_import (progress_at b d) e
import_goes b d e =
    let s = cut_import b d.state e in
    let r = releases_so b d.released e (finite.get d.state.imports e) ∙ sym (ap (release d.released e) (get-map_values (import_at b) d.state.imports e)) in
    λ i. record (progress_at b d) { state = s i; released = r i }

pub goes : (d : TwoProgress) (new : Progress) → Goes (progress_at false d) new → Next2 new (Goes (progress_at true d))
goes d new (PromiseGoes p h e) = (
  less_promise d p,
  e ∙ sym (ap (with_state (progress_at false d)) (cut_promise false d.state p)),
  PromiseGoes p (promise_there d.state false true p h) (ap (with_state (progress_at true d)) (cut_promise true d.state p)),
)
goes d new (OutcomeGoes o h e) = (
  less_outcome d o,
  e ∙ sym (ap (with_state (progress_at false d)) (cut_outcome false d.state o)),
  OutcomeGoes o (outcome_there d.state false true o h) (ap (with_state (progress_at true d)) (cut_outcome true d.state o)),
)
goes d new (ImportGoes k h e) = (less_import d k, e ∙ sym (import_goes false d k), ImportGoes k (import_there d.state false true k h) (import_goes true d k))

-- The progress is given by an equation, as it is the index of the relation.
pub collects : (new at : Progress) (d : TwoProgress) → at ≡ progress_at false d → Collects new at → Next2 new (λ x. Collects x (progress_at true d))
collects new at d e (Tight h) = (d, e, Tight (tight d.state false true (subst (λ (z : Progress). IsTight z.state) e h)))
collects new at d e (Loose {mid = mid} g rest) =
    let k = goes d mid (subst (λ (z : Progress). Goes z mid) e g) in
    let r = collects new mid k.0 k.1 rest in
    (r.0, r.1, Loose k.2 r.2)

-- ---- the release flags

abbrev give_one2 : Map TwoImports → ℕ → Option TwoImports → Map TwoImports
give_one2 m e None = m
give_one2 m e (Some x) = cond (nat_le x.count 1) (finite.remove m e) (finite.insert m e (record x { count = x.count - 1 }))

abbrev pub give_each2 : Map TwoImports → List ℕ → Map TwoImports
give_each2 m [] = m
give_each2 m (e ∷ es) = give_each2 (give_one2 m e (finite.get m e)) es

module _ (b : Bool) where
  lessened : (m : Map TwoImports) (e : ℕ) (x : TwoImports) (last : Bool)
      → map_values (import_at b) (cond last (finite.remove m e) (finite.insert m e (record x { count = x.count - 1 })))
      ≡ cond last (finite.remove (map_values (import_at b) m) e) (finite.insert (map_values (import_at b) m) e (record (import_at b x) { count = x.count - 1 }))
  lessened m e x true = map_values-remove (import_at b) m e
  lessened m e x false = map_values-insert (import_at b) m e (record x { count = x.count - 1 })

  given_one : (m : Map TwoImports) (e : ℕ) (o : Option TwoImports) → map_values (import_at b) (give_one2 m e o) ≡ give_one (map_values (import_at b) m) e (option_changed (import_at b) o)
  given_one m e None = refl
  given_one m e (Some x) = lessened m e x (nat_le x.count 1)

  given_each : (m : Map TwoImports) (es : List ℕ) → map_values (import_at b) (give_each2 m es) ≡ give_each (map_values (import_at b) m) es
  given_each m [] = refl
  given_each m (e ∷ es) =
      given_each (give_one2 m e (finite.get m e)) es
      ∙ ap (λ (n : Map Import). give_each n es) (given_one m e (finite.get m e) ∙ sym (ap (give_one (map_values (import_at b) m) e) (get-map_values (import_at b) m e)))

module _ (z : TwoStates) where
  loses_same : (e k : ℕ) (o : Option TwoImports) → may_lose (state_at true z) e k (option_changed (import_at true) o) ≡ may_lose (state_at false z) e k (option_changed (import_at false) o)
  loses_same e k None = refl
  loses_same e k (Some x) = ap (λ (c : ℕ). nat_lt k x.count || nat_eq c k) (same_names (is_import e) (λ r. refl) z)

  loses_there : (e k : ℕ) → may_lose (state_at true z) e k (finite.get (state_at true z).imports e) ≡ may_lose (state_at false z) e k (finite.get (state_at false z).imports e)
  loses_there e k =
      ap (may_lose (state_at true z) e k) (get-map_values (import_at true) z.imports e)
      ∙ loses_same e k (finite.get z.imports e)
      ∙ sym (ap (may_lose (state_at false z) e k) (get-map_values (import_at false) z.imports e))

  spared_same : (ids es : List ℕ) → list_all (is_spared (state_at true z) ids) es ≡ list_all (is_spared (state_at false z) ids) es
  spared_same ids [] = refl
  spared_same ids (e ∷ es) =
      let a = loses_there e (how_many (nat_eq e) ids) in
      let b = spared_same ids es in
      λ i. a i && b i

  flag_at_same : (l : Level) (ids : List ℕ) → flag_at l (state_at true z) ids ≡ flag_at l (state_at false z) ids
  flag_at_same Zero ids = refl
  flag_at_same One ids = ap (λ (b : Bool). not (is_empty ids) && b) (spared_same ids ids)

  pub same_flag : (ids : List ℕ) → flag_for (state_at true z) ids ≡ flag_for (state_at false z) ids
  same_flag ids = flag_at_same z.rest.level ids

  -- What the flag lets go, as it is over the wire.
  abbrev give2_if : Bool → List ℕ → TwoStates
  give2_if false ids = z
  give2_if true ids = record z { imports = give_each2 z.imports ids }

  abbrev pub give2 : List ℕ → TwoStates
  give2 ids = give2_if (flag_for (state_at false z) ids) ids

  gives_if : (b flag : Bool) (ids : List ℕ) → state_at b (give2_if flag ids) ≡ give_if (state_at b z) flag ids
  gives_if b false ids = refl
  gives_if b true ids = ap (λ (m : Map Import). record (state_at b z) { imports = m }) (given_each b z.imports ids)

  pub gives : (b : Bool) (ids : List ℕ) → state_at b (give2 ids) ≡ give_back (state_at b z) ids
  gives false ids = gives_if false (flag_for (state_at false z) ids) ids
  gives true ids = gives_if true (flag_for (state_at false z) ids) ids ∙ ap (λ (f : Bool). give_if (state_at true z) f ids) (sym (same_flag ids))
