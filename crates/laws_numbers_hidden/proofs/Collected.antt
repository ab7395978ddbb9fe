-- What no place names goes the same with other numbers.
use Rattle.std.proofs.Common.{◌≡◌, ℕ, ◌||◌, ◌&&◌, not, Bool, true, false, cond, List, [], ◌∷◌, map, Option, None, Some, refl, sym, ap, subst, ◌∙◌}
use Rattle.finite_maps.proofs.Values.{get-map_values, map_values-insert, map_values-remove}
use Rattle.std.specs.FinMap as finite
use Rattle.finite_maps.specs.Tally.{Map, map_values, option_changed}
use Rattle.rpc_msg.specs.declared.ids.ObjectId.{ObjectId}
use Rattle.rpc_machine.specs.declared.node.Node.{Node}
use Rattle.rpc_machine.specs.declared.node.Node.TheVariants as node
use Rattle.rpc_machine.specs.declared.calls.HeldCall.{HeldCall}
use Rattle.rpc_machine.specs.declared.calls.Caller.{Caller}
use Rattle.rpc_machine.specs.declared.calls.Caller.TheVariants as caller
use Rattle.rpc_machine.specs.declared.calls.Value.{Value}
use Rattle.rpc_machine.specs.declared.calls.KeptOutcome.{KeptOutcome}
use Rattle.rpc_machine.specs.declared.calls.Promise.{Promise}
use Rattle.rpc_machine.specs.declared.calls.Promise.TheVariants as promise
use Rattle.rpc_machine.specs.declared.entries.Import.{Import}
use Rattle.rpc_machine.specs.declared.command.Level.{Level}
use Rattle.rpc_machine.specs.declared.command.Level.TheVariants.{Zero, One}
use Rattle.rpc_machine.specs.State.{State}
use Rattle.laws_numbers_hidden.specs.Renamed.{held_by, value_by, kept_by, promise_by, import_by, state_by}
use Rattle.std.specs.List.{list_all}
use Rattle.std.specs.Prelude.{nat_lt, nat_eq, nat_le, ◌-◌}
use Rattle.rpc_machine.specs.Lists.{how_many, is_empty}
use Rattle.rpc_machine.specs.Nodes.{is_promise, is_field, is_import}
use Rattle.rpc_machine.specs.Places.{names}
use Rattle.rpc_machine.specs.Progress.{Progress, with_state}
use Rattle.rpc_machine.specs.Collecting.{IsLoosePromise, CallerIsDone, IsLooseValue, IsLooseOutcome, IsLooseImport, without_import, release, Goes, PromiseGoes, OutcomeGoes, ImportGoes, IsTight, Collects, Tight, Loose}
use Rattle.rpc_machine.specs.Flags.{may_lose, is_spared, flag_at, flag_for, give_one, give_each, give_if, give_back}
use Rattle.laws_numbers_hidden.proofs.Named.{same_names}
use Rattle.laws_numbers_hidden.proofs.Going.{progress_by, cut_promise, cut_outcome, cut_import}

module _ (f : ObjectId → ObjectId) where
  abbrev S : State → State
  S = state_by f

  abbrev P : Progress → Progress
  P = progress_by f

  module _ (s : State) where
    pub unnamed : (test : Node → Bool) → ((o x : ObjectId) → test (node.Object o) ≡ test (node.Object x)) → names s test ≡ 0 → names (state_by f s) test ≡ 0
    unnamed test h e = same_names f test h s ∙ e

    pub unnamed_before : (test : Node → Bool) → ((o x : ObjectId) → test (node.Object o) ≡ test (node.Object x)) → names (state_by f s) test ≡ 0 → names s test ≡ 0
    unnamed_before test h e = sym (same_names f test h s) ∙ e

    promise_as : (p : ℕ) (o : Option Promise) → IsLoosePromise s p o → IsLoosePromise (S s) p (option_changed (promise_by f) o)
    promise_as p None h = absurd h
    promise_as p (Some (promise.Open calls)) h = absurd h
    promise_as p (Some (promise.Fixed to)) h = unnamed (is_promise p) (λ o x. refl) h

    promise_before : (p : ℕ) (o : Option Promise) → IsLoosePromise (S s) p (option_changed (promise_by f) o) → IsLoosePromise s p o
    promise_before p None h = absurd h
    promise_before p (Some (promise.Open calls)) h = absurd h
    promise_before p (Some (promise.Fixed to)) h = unnamed_before (is_promise p) (λ o x. refl) h

    done_as : (o : ℕ) (who : Caller) → CallerIsDone s o who → CallerIsDone (S s) o who
    done_as o (caller.Application k) h = h
    done_as o (caller.Peer q) h = h

    done_before : (o : ℕ) (who : Caller) → CallerIsDone (S s) o who → CallerIsDone s o who
    done_before o (caller.Application k) h = h
    done_before o (caller.Peer q) h = h

    none_before : (hs : List HeldCall) → map (held_by f) hs ≡ [] → hs ≡ []
    none_before [] e = refl
    none_before (h ∷ hs) e = cc

    value_as : (o : ℕ) (x : KeptOutcome) (w : Option Value) → IsLooseValue s o x w → IsLooseValue (S s) o (kept_by f x) (option_changed (value_by f) w)
    value_as o x None h = absurd h
    value_as o x (Some w) h = (ap (map (held_by f)) h.0, done_as o x.caller h.1, unnamed (is_field o) (λ o x. refl) h.2)

    value_before : (o : ℕ) (x : KeptOutcome) (w : Option Value) → IsLooseValue (S s) o (kept_by f x) (option_changed (value_by f) w) → IsLooseValue s o x w
    value_before o x None h = absurd h
    value_before o x (Some w) h = (none_before x.waiting h.0, done_before o x.caller h.1, unnamed_before (is_field o) (λ o x. refl) h.2)

    outcome_as : (o : ℕ) (x : Option KeptOutcome) → IsLooseOutcome s o x → IsLooseOutcome (S s) o (option_changed (kept_by f) x)
    outcome_as o None h = absurd h
    outcome_as o (Some x) h = value_as o x x.value h

    outcome_before : (o : ℕ) (x : Option KeptOutcome) → IsLooseOutcome (S s) o (option_changed (kept_by f) x) → IsLooseOutcome s o x
    outcome_before o None h = absurd h
    outcome_before o (Some x) h = value_before o x x.value h

    import_as : (e : ℕ) (x : Option Import) → IsLooseImport s e x → IsLooseImport (S s) e (option_changed (import_by f) x)
    import_as e None h = absurd h
    import_as e (Some x) h = unnamed (is_import e) (λ o x. refl) h

    import_before : (e : ℕ) (x : Option Import) → IsLooseImport (S s) e (option_changed (import_by f) x) → IsLooseImport s e x
    import_before e None h = absurd h
    import_before e (Some x) h = unnamed_before (is_import e) (λ o x. refl) h

    pub tight : IsTight s → IsTight (state_by f s)
    tight h = record {
      promises = λ p l. h.promises p (promise_before p (finite.get s.promises p) (subst (IsLoosePromise (S s) p) (get-map_values (promise_by f) s.promises p) l));
      outcomes = λ o l. h.outcomes o (outcome_before o (finite.get s.outcomes o) (subst (IsLooseOutcome (S s) o) (get-map_values (kept_by f) s.outcomes o) l));
      imports = λ e l. h.imports e (import_before e (finite.get s.imports e) (subst (IsLooseImport (S s) e) (get-map_values (import_by f) s.imports e) l));
    }

  releases_so : (m : Map ℕ) (e : ℕ) (o : Option Import) → release m e o ≡ release m e (option_changed (import_by f) o)
  releases_so m e None = refl
  releases_so m e (Some x) = refl

  import_goes : (d : Progress) (e : ℕ) → P (without_import d e) ≡ without_import (P d) e
  import_goes d e =
      let s = cut_import f d.state e in
      let r = releases_so d.released e (finite.get d.state.imports e) ∙ sym (ap (release d.released e) (get-map_values (import_by f) d.state.imports e)) in
      λ i. record (P d) { state = s i; released = r i }

  pub goes : (d new : Progress) → Goes d new → Goes (progress_by f d) (progress_by f new)
  goes d new (PromiseGoes p h e) =
      PromiseGoes p (subst (IsLoosePromise (S d.state) p) (sym (get-map_values (promise_by f) d.state.promises p)) (promise_as d.state p (finite.get d.state.promises p) h)) (ap P e ∙ ap (with_state (P d)) (cut_promise f d.state p))
  goes d new (OutcomeGoes o h e) =
      OutcomeGoes o (subst (IsLooseOutcome (S d.state) o) (sym (get-map_values (kept_by f) d.state.outcomes o)) (outcome_as d.state o (finite.get d.state.outcomes o) h)) (ap P e ∙ ap (with_state (P d)) (cut_outcome f d.state o))
  goes d new (ImportGoes k h e) =
      ImportGoes k (subst (IsLooseImport (S d.state) k) (sym (get-map_values (import_by f) d.state.imports k)) (import_as d.state k (finite.get d.state.imports k) h)) (ap P e ∙ import_goes d k)

  pub collects : (new d : Progress) → Collects new d → Collects (progress_by f new) (progress_by f d)
  collects new _ (Tight h) = Tight (tight new.state h)
  collects new d (Loose {mid = mid} g rest) = Loose (goes d mid g) (collects new mid rest)

  -- ---- the release flags

  lessened : (m : Map Import) (e : ℕ) (x : Import) (last : Bool)
      → map_values (import_by f) (cond last (finite.remove m e) (finite.insert m e (record x { count = x.count - 1 })))
      ≡ cond last (finite.remove (map_values (import_by f) m) e) (finite.insert (map_values (import_by f) m) e (record (import_by f x) { count = x.count - 1 }))
  lessened m e x true = map_values-remove (import_by f) m e
  lessened m e x false = map_values-insert (import_by f) m e (record x { count = x.count - 1 })

  given_one : (m : Map Import) (e : ℕ) (o : Option Import) → map_values (import_by f) (give_one m e o) ≡ give_one (map_values (import_by f) m) e (option_changed (import_by f) o)
  given_one m e None = refl
  given_one m e (Some x) = lessened m e x (nat_le x.count 1)

  given_each : (m : Map Import) (es : List ℕ) → map_values (import_by f) (give_each m es) ≡ give_each (map_values (import_by f) m) es
  given_each m [] = refl
  given_each m (e ∷ es) =
      given_each (give_one m e (finite.get m e)) es
      ∙ ap (λ (n : Map Import). give_each n es) (given_one m e (finite.get m e) ∙ sym (ap (give_one (map_values (import_by f) m) e) (get-map_values (import_by f) m e)))

  module _ (s : State) where
    loses_same : (e k : ℕ) (o : Option Import) → may_lose (S s) e k (option_changed (import_by f) o) ≡ may_lose s e k o
    loses_same e k None = refl
    loses_same e k (Some x) = ap (λ (c : ℕ). nat_lt k x.count || nat_eq c k) (same_names f (is_import e) (λ o x. refl) s)

    loses_there : (e k : ℕ) → may_lose (S s) e k (finite.get (S s).imports e) ≡ may_lose s e k (finite.get s.imports e)
    loses_there e k = ap (may_lose (S s) e k) (get-map_values (import_by f) s.imports e) ∙ loses_same e k (finite.get s.imports e)

    spared_same : (ids es : List ℕ) → list_all (is_spared (S s) ids) es ≡ list_all (is_spared s ids) es
    spared_same ids [] = refl
    spared_same ids (e ∷ es) =
        let a = loses_there e (how_many (nat_eq e) ids) in
        let b = spared_same ids es in
        λ i. a i && b i

    flag_at_same : (l : Level) (ids : List ℕ) → flag_at l (S s) ids ≡ flag_at l s ids
    flag_at_same Zero ids = refl
    flag_at_same One ids = ap (λ (b : Bool). not (is_empty ids) && b) (spared_same ids ids)

    pub same_flag : (ids : List ℕ) → flag_for (state_by f s) ids ≡ flag_for s ids
    same_flag ids = flag_at_same s.level ids

    gives_if : (flag : Bool) (ids : List ℕ) → S (give_if s flag ids) ≡ give_if (S s) flag ids
    gives_if false ids = refl
    gives_if true ids = ap (λ (m : Map Import). record (S s) { imports = m }) (given_each s.imports ids)

    pub gives : (ids : List ℕ) → state_by f (give_back s ids) ≡ give_back (state_by f s) ids
    gives ids = gives_if (flag_for s ids) ids ∙ ap (λ (b : Bool). give_if (S s) b ids) (sym (same_flag ids))
