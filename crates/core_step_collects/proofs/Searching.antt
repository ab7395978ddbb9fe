-- What is noted is looked through, and what is not loose is noted no more.
use Rattle.std.proofs.Common.{◌≡◌, ◌⊎◌, inl, inr, ℕ, ◌+◌, ◌-◌, ◌≤◌, ◌<◌, List, [], ◌∷◌, ◌++◌, length, length-append, Option, None, Some, sym, ap, subst, ◌∙◌, arith}
use Rattle.std.specs.List.{Contains}
use Rattle.std.proofs.lemmas.List.Elements.{Contains-push_cases}
use Rattle.std.specs.FinMap as map
use Rattle.rpc_machine.specs.declared.node.Node.{Node}
use Rattle.rpc_machine.specs.declared.node.Node.TheVariants as node
use Rattle.rpc_machine.specs.declared.calls.HeldCall.{HeldCall}
use Rattle.rpc_machine.specs.declared.calls.Promise.{Promise}
use Rattle.rpc_machine.specs.declared.calls.Promise.TheVariants as promise
use Rattle.rpc_machine.specs.declared.calls.Value.{Value}
use Rattle.rpc_machine.specs.declared.calls.KeptOutcome.{KeptOutcome}
use Rattle.rpc_machine.specs.declared.entries.Import.{Import}
use Rattle.rpc_machine.specs.State.{State}
use Rattle.rpc_machine.specs.Nodes.{is_promise, is_field, is_import}
use Rattle.rpc_machine.specs.Places.{places, names}
use Rattle.rpc_machine.specs.Collecting.{IsLoosePromise, IsLooseOutcome, IsLooseValue, IsLooseImport}
use Rattle.laws_acts.specs.Alike.{places_beside}
use Rattle.core_refcounts.specs.Names.{Counted, Names, Counts, Takes, times_named, noting}
use Rattle.core_store.specs.declared.store.Store.{Store}
use Rattle.core_store.specs.Holding.{state_of, all_named, IsFixed, IsTold, IsToldTo, IsThere, IsCovered, IsSound}

-- ---- Other notes

abbrev pub with_notes : Counted → List ℕ → ℕ → Counted
with_notes c xs n = record c { noted = xs; spare = n }

-- What was taken out is noted again.
pub noted_again : (c d : Counted) (k : ℕ) → c.noted ≡ d.noted ++ k ∷ [] → d ≡ with_notes c d.noted (c.spare + 1) → noting d k ≡ c
noted_again c d k e f =
    let one : c.spare + 1 - 1 ≡ c.spare = omega arith in
    ap (λ (x : Counted). noting x k) f
    ∙ ap (λ (xs : List ℕ). with_notes c xs (c.spare + 1 - 1)) (sym e)
    ∙ ap (λ (n : ℕ). with_notes c c.noted n) one

pub shorter : (xs ys : List ℕ) (k : ℕ) → xs ≡ ys ++ k ∷ [] → length ys < length xs
shorter xs ys k e = let a = length-append ys (k ∷ []) in let b = ap (λ (zs : List ℕ). length zs) e in omega (arith, a, b)

abbrev renoted : Names → List ℕ → ℕ → List ℕ → ℕ → List ℕ → ℕ → Names
renoted c ps a os b es d = record c { promises = with_notes c.promises ps a; outcomes = with_notes c.outcomes os b; imports = with_notes c.imports es d }

module _ (x : Store) (ps os es : List ℕ) (a b d : ℕ) where
  abbrev other : Names
  other = renoted x.names ps a os b es d

  as_bounded : IsSound x → (n : Node) → times_named other n ≤ x.added
  as_bounded h (node.Object o) = h.bounded.names (node.Object o)
  as_bounded h (node.Promise p) = h.bounded.names (node.Promise p)
  as_bounded h (node.Field o path) = h.bounded.names (node.Field o path)
  as_bounded h (node.Import e) = h.bounded.names (node.Import e)
  as_bounded h (node.Pipe q path) = h.bounded.names (node.Pipe q path)
  as_bounded h (node.Broken reason) = h.bounded.names (node.Broken reason)

  -- Where no less is spare, and what is noted covers the state.
  sound_renoted : x.names.promises.spare ≤ a → x.names.outcomes.spare ≤ b → x.names.imports.spare ≤ d → IsCovered (state_of x) other → IsSound x → IsSound (record x { names = other })
  sound_renoted more_a more_b more_d covered h = record {
    counted = record { promises = h.counted.promises; outcomes = h.counted.outcomes; imports = h.counted.imports; questions = h.counted.questions; objects = h.counted.objects };
    covered = covered;
    within = h.within;
    numbered = h.numbered;
    holds = record { counted = h.holds.counted; within = h.holds.within };
    far = h.far;
    bounded = record { names = as_bounded h; links = h.bounded.links; added = h.bounded.added };
    room = record {
      questions = h.room.questions;
      answers = h.room.answers;
      imports = h.room.imports;
      exports = h.room.exports;
      refs = h.room.refs;
      calls = h.room.calls;
      tasks = h.room.tasks;
      unsettled = h.room.unsettled;
      waits = h.room.waits;
      names = record { promises = h.room.names.promises; outcomes = h.room.names.outcomes; imports = h.room.names.imports; questions = h.room.names.questions; objects = h.room.names.objects };
      notes = record {
        promises = let n = h.room.notes.promises in omega (arith, n, more_a);
        outcomes = let n = h.room.notes.outcomes in omega (arith, n, more_b);
        imports = let n = h.room.notes.imports in omega (arith, n, more_d);
        questions = h.room.notes.questions;
      };
    };
  }

-- ---- What is loose

-- No call is taken out to be routed: the places of the state are counted.
pub counted_now : (x : Store) → x.waits.taken ≡ [] → Counts x.names (all_named x) → Counts x.names (places (state_of x))
counted_now x none h = subst (λ (hs : List HeldCall). Counts x.names (places_beside hs (state_of x))) none h

loose_fixed : (s : State) (p : ℕ) (o : Option Promise) → names s (is_promise p) ≡ 0 → IsFixed o → IsLoosePromise s p o
loose_fixed s p None z h = absurd h
loose_fixed s p (Some (promise.Open calls)) z h = absurd h
loose_fixed s p (Some (promise.Fixed to)) z h = z

loose_value : (s : State) (o : ℕ) (x : KeptOutcome) (v : Option Value) → names s (is_field o) ≡ 0 → IsToldTo s o x v → IsLooseValue s o x v
loose_value s o x None z h = absurd h
loose_value s o x (Some v) z h = (h.0, h.1, z)

loose_told : (s : State) (o : ℕ) (x : Option KeptOutcome) → names s (is_field o) ≡ 0 → IsTold s o x → IsLooseOutcome s o x
loose_told s o None z h = absurd h
loose_told s o (Some x) z h = loose_value s o x x.value z h

loose_there : (s : State) (e : ℕ) (x : Option Import) → names s (is_import e) ≡ 0 → IsThere x → IsLooseImport s e x
loose_there s e None z h = absurd h
loose_there s e (Some x) z h = z

-- ---- Of what is noted the last is taken out

-- What is noted otherwise, and isn't the one that was taken out.
pub others : (xs ys : List ℕ) (k j : ℕ) (P : ℕ → Type 0) → xs ≡ ys ++ k ∷ [] → ¬ (P k) → P j → Contains xs j → Contains ys j
others xs ys k j P e none here h = by (Contains-push_cases ys k j (subst (λ (zs : List ℕ). Contains zs j) e h))
  where
    by : Contains ys j ⊎ (k ≡ j) → Contains ys j
    by (inl there) = there
    by (inr same) = absurd (none (subst P (sym same) here))

module _ (x : Store) (none : x.waits.taken ≡ []) (h : IsSound x) where
  abbrev s : State
  s = state_of x

  counted : Counts x.names (places s)
  counted = counted_now x none h.counted

  more : (n : ℕ) → n ≤ n + 1
  more n = omega arith

  same : (n : ℕ) → n ≤ n
  same n = omega arith

  pub promise_dropped : (xs : List ℕ) (k : ℕ) → x.names.promises.noted ≡ xs ++ k ∷ [] → ¬ (IsLoosePromise s k (map.get s.promises k))
      → IsSound (record x { names = record (x.names) { promises = with_notes x.names.promises xs (x.names.promises.spare + 1) } })
  promise_dropped xs k e tight =
      sound_renoted x xs x.names.outcomes.noted x.names.imports.noted (x.names.promises.spare + 1) x.names.outcomes.spare x.names.imports.spare
      (more x.names.promises.spare) (same x.names.outcomes.spare) (same x.names.imports.spare)
      (record {
        promises = λ p fixed z. others x.names.promises.noted xs k p (λ j. IsLoosePromise s j (map.get s.promises j)) e tight (loose_fixed s p (map.get s.promises p) (sym (counted.promises p) ∙ z) fixed) (h.covered.promises p fixed z);
        outcomes = h.covered.outcomes;
        imports = h.covered.imports;
        questions = h.covered.questions;
      })
      h

  pub outcome_dropped : (xs : List ℕ) (k : ℕ) → x.names.outcomes.noted ≡ xs ++ k ∷ [] → ¬ (IsLooseOutcome s k (map.get s.outcomes k))
      → IsSound (record x { names = record (x.names) { outcomes = with_notes x.names.outcomes xs (x.names.outcomes.spare + 1) } })
  outcome_dropped xs k e tight =
      sound_renoted x x.names.promises.noted xs x.names.imports.noted x.names.promises.spare (x.names.outcomes.spare + 1) x.names.imports.spare
      (same x.names.promises.spare) (more x.names.outcomes.spare) (same x.names.imports.spare)
      (record {
        promises = h.covered.promises;
        outcomes = λ o told z. others x.names.outcomes.noted xs k o (λ j. IsLooseOutcome s j (map.get s.outcomes j)) e tight (loose_told s o (map.get s.outcomes o) (sym (counted.outcomes o) ∙ z) told) (h.covered.outcomes o told z);
        imports = h.covered.imports;
        questions = h.covered.questions;
      })
      h

  pub import_dropped : (xs : List ℕ) (k : ℕ) → x.names.imports.noted ≡ xs ++ k ∷ [] → ¬ (IsLooseImport s k (map.get s.imports k))
      → IsSound (record x { names = record (x.names) { imports = with_notes x.names.imports xs (x.names.imports.spare + 1) } })
  import_dropped xs k e tight =
      sound_renoted x x.names.promises.noted x.names.outcomes.noted xs x.names.promises.spare x.names.outcomes.spare (x.names.imports.spare + 1)
      (same x.names.promises.spare) (same x.names.outcomes.spare) (more x.names.imports.spare)
      (record {
        promises = h.covered.promises;
        outcomes = h.covered.outcomes;
        imports = λ i there z. others x.names.imports.noted xs k i (λ j. IsLooseImport s j (map.get s.imports j)) e tight (loose_there s i (map.get s.imports i) (sym (counted.imports i) ∙ z) there) (h.covered.imports i there z);
        questions = h.covered.questions;
      })
      h

  -- The names as they are then; and noted again it is as it was.
  pub promise_passed : (t : Names) (k : ℕ) → Takes x.names.promises (Some k) t.promises (t ≡ record (x.names) { promises = t.promises }) → ¬ (IsLoosePromise s k (map.get s.promises k)) → IsSound (record x { names = t })
  promise_passed t k took tight =
      subst (λ (n : Names). IsSound (record x { names = n })) (sym (took.2 ∙ ap (λ (c : Counted). record (x.names) { promises = c }) took.1)) (promise_dropped t.promises.noted k took.0 tight)

  pub promise_again : (t u : Names) (k : ℕ) → Takes x.names.promises (Some k) t.promises (t ≡ record (x.names) { promises = t.promises }) → u ≡ record t { promises = noting t.promises k } → IsSound (record x { names = u })
  promise_again t u k took e =
      let back : u ≡ x.names =
      e ∙ ap (λ (n : Names). record n { promises = noting t.promises k }) took.2 ∙ ap (λ (c : Counted). record (x.names) { promises = c }) (noted_again x.names.promises t.promises k took.0 took.1) in
      subst (λ (n : Names). IsSound (record x { names = n })) (sym back) h

  pub outcome_passed : (t : Names) (k : ℕ) → Takes x.names.outcomes (Some k) t.outcomes (t ≡ record (x.names) { outcomes = t.outcomes }) → ¬ (IsLooseOutcome s k (map.get s.outcomes k)) → IsSound (record x { names = t })
  outcome_passed t k took tight =
      subst (λ (n : Names). IsSound (record x { names = n })) (sym (took.2 ∙ ap (λ (c : Counted). record (x.names) { outcomes = c }) took.1)) (outcome_dropped t.outcomes.noted k took.0 tight)

  pub outcome_again : (t u : Names) (k : ℕ) → Takes x.names.outcomes (Some k) t.outcomes (t ≡ record (x.names) { outcomes = t.outcomes }) → u ≡ record t { outcomes = noting t.outcomes k } → IsSound (record x { names = u })
  outcome_again t u k took e =
      let back : u ≡ x.names =
      e ∙ ap (λ (n : Names). record n { outcomes = noting t.outcomes k }) took.2 ∙ ap (λ (c : Counted). record (x.names) { outcomes = c }) (noted_again x.names.outcomes t.outcomes k took.0 took.1) in
      subst (λ (n : Names). IsSound (record x { names = n })) (sym back) h

  pub import_passed : (t : Names) (k : ℕ) → Takes x.names.imports (Some k) t.imports (t ≡ record (x.names) { imports = t.imports }) → ¬ (IsLooseImport s k (map.get s.imports k)) → IsSound (record x { names = t })
  import_passed t k took tight =
      subst (λ (n : Names). IsSound (record x { names = n })) (sym (took.2 ∙ ap (λ (c : Counted). record (x.names) { imports = c }) took.1)) (import_dropped t.imports.noted k took.0 tight)

  pub import_again : (t u : Names) (k : ℕ) → Takes x.names.imports (Some k) t.imports (t ≡ record (x.names) { imports = t.imports }) → u ≡ record t { imports = noting t.imports k } → IsSound (record x { names = u })
  import_again t u k took e =
      let back : u ≡ x.names =
      e ∙ ap (λ (n : Names). record n { imports = noting t.imports k }) took.2 ∙ ap (λ (c : Counted). record (x.names) { imports = c }) (noted_again x.names.imports t.imports k took.0 took.1) in
      subst (λ (n : Names). IsSound (record x { names = n })) (sym back) h
