-- What is among the places of a vat.
use Rattle.std.proofs.Common.{◌≡◌, ◌⊎◌, inl, inr, ℕ, suc, Bool, true, false, ◌&&◌, cond, List, [], ◌∷◌, ◌++◌, Some, refl, sym, ap, subst, ◌∙◌, arith, T}
use Rattle.std.specs.Ordering.{nat_cmp, eq_by_cmp}
use Rattle.std.specs.FinMap as map
use Rattle.std.specs.FinMap.Entries as entries
use Rattle.finite_maps.specs.Tally.{Map}
use Rattle.laws_acts.specs.rpc_machine.specs.declared.node.Node.{Node}
use Rattle.laws_acts.specs.rpc_machine.specs.State.{State}
use Rattle.laws_acts.specs.rpc_machine.specs.Lists.{how_many, from_each, of_map}
use Rattle.laws_acts.specs.rpc_machine.specs.Places.{named_by_reference, named_by_embargo, named_by_promise, named_by_outcome, named_by_question, named_by_import, named_by_export, named_by_answer, places}
use Rattle.laws_steps.specs.Settled.{IsAmong}
use Rattle.finite_maps.proofs.Tested.{ties, equal}
use Rattle.finite_maps.proofs.Sorted.{behind, first_entry}

pub among_left : (n : Node) (xs ys : List Node) → IsAmong n xs → IsAmong n (xs ++ ys)
among_left n [] ys h = absurd h
among_left n (x ∷ xs) ys (inl e) = inl e
among_left n (x ∷ xs) ys (inr h) = inr (among_left n xs ys h)

pub among_right : (n : Node) (xs ys : List Node) → IsAmong n ys → IsAmong n (xs ++ ys)
among_right n [] ys h = h
among_right n (x ∷ xs) ys h = inr (among_right n xs ys h)

module _ {X : Type 0} (f : ℕ → X → List Node) (k : ℕ) (x : X) (n : Node) where
  from_found : (es : List (ℕ × X)) → entries.find nat_cmp k es ≡ Some x → IsAmong n (f k x) → IsAmong n (from_each f es)
  from_found [] h i = cc
  from_found (e ∷ es) h i = by (λ g. from_found es g i) (eq_by_cmp nat_cmp k e.0) refl h
    where
      by : (entries.find nat_cmp k es ≡ Some x → IsAmong n (from_each f es)) → (b : Bool) → eq_by_cmp nat_cmp k e.0 ≡ b → cond b (Some e.1) (entries.find nat_cmp k es) ≡ Some x → IsAmong n (f e.0 e.1 ++ from_each f es)
      by behind true c g =
          let a : e.1 ≡ x = cc in
          let j : k ≡ e.0 = equal k e.0 (sym (ties k e.0) ∙ c) in
          among_left n (f e.0 e.1) (from_each f es) (subst (λ (y : X). IsAmong n (f e.0 y)) (sym a) (subst (λ (q : ℕ). IsAmong n (f q x)) j i))
      by behind false c g = among_right n (f e.0 e.1) (from_each f es) (behind g)

  -- What an entry names.
  pub named : (m : Map X) → map.get m k ≡ Some x → IsAmong n (f k x) → IsAmong n (of_map f m)
  named m h i = from_found (map.entries m) (sym (map.get-entries m k) ∙ h) i

pub among_split : (n : Node) (xs ys : List Node) → IsAmong n (xs ++ ys) → IsAmong n xs ⊎ IsAmong n ys
among_split n [] ys h = inr h
among_split n (x ∷ xs) ys (inl e) = inl (inl e)
among_split n (x ∷ xs) ys (inr h) = by (among_split n xs ys h)
  where
    by : IsAmong n xs ⊎ IsAmong n ys → IsAmong n (x ∷ xs) ⊎ IsAmong n ys
    by (inl i) = inl (inr i)
    by (inr i) = inr i

-- What no place names is not among them.
pub none_among : (test : Node → Bool) (xs : List Node) → how_many test xs ≡ 0 → (n : Node) → IsAmong n xs → test n ≡ false
none_among test [] h n i = absurd i
none_among test (x ∷ xs) h n i = by (none_among test xs) (test x) refl h i
  where
    by : (how_many test xs ≡ 0 → (n : Node) → IsAmong n xs → test n ≡ false) → (b : Bool) → test x ≡ b → cond b (suc (how_many test xs)) (how_many test xs) ≡ 0 → IsAmong n (x ∷ xs) → test n ≡ false
    by rest true e g j = absurd (omega (arith, g))
    by rest false e g (inl j) = ap test j ∙ e
    by rest false e g (inr j) = rest g n j

pub none_counted : (test : Node → Bool) (xs : List Node) → ((n : Node) → IsAmong n xs → test n ≡ false) → how_many test xs ≡ 0
none_counted test [] h = refl
none_counted test (x ∷ xs) h = subst (λ (b : Bool). cond b (suc (how_many test xs)) (how_many test xs) ≡ 0) (sym (h x (inl refl))) (none_counted test xs (λ n i. h n (inr i)))

-- ---- The places of each part

abbrev pub upto_embargoes : State → List Node
upto_embargoes s = of_map named_by_reference s.refs ++ of_map named_by_embargo s.embargoes

abbrev pub upto_promises : State → List Node
upto_promises s = upto_embargoes s ++ of_map named_by_promise s.promises

abbrev pub upto_outcomes : State → List Node
upto_outcomes s = upto_promises s ++ of_map named_by_outcome s.outcomes

abbrev pub upto_questions : State → List Node
upto_questions s = upto_outcomes s ++ of_map named_by_question s.questions

abbrev pub upto_imports : State → List Node
upto_imports s = upto_questions s ++ of_map named_by_import s.imports

abbrev pub upto_exports : State → List Node
upto_exports s = upto_imports s ++ of_map named_by_export s.exports

module _ (s : State) (n : Node) where
  pub of_exports : IsAmong n (upto_exports s) → IsAmong n (places s)
  of_exports h = among_left n (upto_exports s) (of_map named_by_answer s.answers) h

  of_imports : IsAmong n (upto_imports s) → IsAmong n (places s)
  of_imports h = of_exports (among_left n (upto_imports s) (of_map named_by_export s.exports) h)

  of_questions : IsAmong n (upto_questions s) → IsAmong n (places s)
  of_questions h = of_imports (among_left n (upto_questions s) (of_map named_by_import s.imports) h)

  of_outcomes : IsAmong n (upto_outcomes s) → IsAmong n (places s)
  of_outcomes h = of_questions (among_left n (upto_outcomes s) (of_map named_by_question s.questions) h)

  of_promises : IsAmong n (upto_promises s) → IsAmong n (places s)
  of_promises h = of_outcomes (among_left n (upto_promises s) (of_map named_by_outcome s.outcomes) h)

  pub in_refs : IsAmong n (of_map named_by_reference s.refs) → IsAmong n (places s)
  in_refs h = of_promises (among_left n (upto_embargoes s) (of_map named_by_promise s.promises) (among_left n (of_map named_by_reference s.refs) (of_map named_by_embargo s.embargoes) h))

  pub in_embargoes : IsAmong n (of_map named_by_embargo s.embargoes) → IsAmong n (places s)
  in_embargoes h = of_promises (among_left n (upto_embargoes s) (of_map named_by_promise s.promises) (among_right n (of_map named_by_reference s.refs) (of_map named_by_embargo s.embargoes) h))

  pub in_promises : IsAmong n (of_map named_by_promise s.promises) → IsAmong n (places s)
  in_promises h = of_promises (among_right n (upto_embargoes s) (of_map named_by_promise s.promises) h)

  pub in_outcomes : IsAmong n (of_map named_by_outcome s.outcomes) → IsAmong n (places s)
  in_outcomes h = of_outcomes (among_right n (upto_promises s) (of_map named_by_outcome s.outcomes) h)

  pub in_questions : IsAmong n (of_map named_by_question s.questions) → IsAmong n (places s)
  in_questions h = of_questions (among_right n (upto_outcomes s) (of_map named_by_question s.questions) h)

  pub in_imports : IsAmong n (of_map named_by_import s.imports) → IsAmong n (places s)
  in_imports h = of_imports (among_right n (upto_questions s) (of_map named_by_import s.imports) h)

  pub in_exports : IsAmong n (of_map named_by_export s.exports) → IsAmong n (places s)
  in_exports h = of_exports (among_right n (upto_imports s) (of_map named_by_export s.exports) h)

  pub in_answers : IsAmong n (of_map named_by_answer s.answers) → IsAmong n (places s)
  in_answers h = among_right n (upto_exports s) (of_map named_by_answer s.answers) h

  -- A node that is named is named by one of the parts.
  pub where_named : {P : Type 0} → (IsAmong n (of_map named_by_reference s.refs) → P) → (IsAmong n (of_map named_by_embargo s.embargoes) → P) → (IsAmong n (of_map named_by_promise s.promises) → P) → (IsAmong n (of_map named_by_outcome s.outcomes) → P) → (IsAmong n (of_map named_by_question s.questions) → P) → (IsAmong n (of_map named_by_import s.imports) → P) → (IsAmong n (of_map named_by_export s.exports) → P) → (IsAmong n (of_map named_by_answer s.answers) → P) → IsAmong n (places s) → P
  where_named {P} f1 f2 f3 f4 f5 f6 f7 f8 h = c8 (among_split n (upto_exports s) (of_map named_by_answer s.answers) h)
    where
      c2 : IsAmong n (of_map named_by_reference s.refs) ⊎ IsAmong n (of_map named_by_embargo s.embargoes) → P
      c2 (inl i) = f1 i
      c2 (inr i) = f2 i

      c3 : IsAmong n (upto_embargoes s) ⊎ IsAmong n (of_map named_by_promise s.promises) → P
      c3 (inl i) = c2 (among_split n (of_map named_by_reference s.refs) (of_map named_by_embargo s.embargoes) i)
      c3 (inr i) = f3 i

      c4 : IsAmong n (upto_promises s) ⊎ IsAmong n (of_map named_by_outcome s.outcomes) → P
      c4 (inl i) = c3 (among_split n (upto_embargoes s) (of_map named_by_promise s.promises) i)
      c4 (inr i) = f4 i

      c5 : IsAmong n (upto_outcomes s) ⊎ IsAmong n (of_map named_by_question s.questions) → P
      c5 (inl i) = c4 (among_split n (upto_promises s) (of_map named_by_outcome s.outcomes) i)
      c5 (inr i) = f5 i

      c6 : IsAmong n (upto_questions s) ⊎ IsAmong n (of_map named_by_import s.imports) → P
      c6 (inl i) = c5 (among_split n (upto_outcomes s) (of_map named_by_question s.questions) i)
      c6 (inr i) = f6 i

      c7 : IsAmong n (upto_imports s) ⊎ IsAmong n (of_map named_by_export s.exports) → P
      c7 (inl i) = c6 (among_split n (upto_questions s) (of_map named_by_import s.imports) i)
      c7 (inr i) = f7 i

      c8 : IsAmong n (upto_exports s) ⊎ IsAmong n (of_map named_by_answer s.answers) → P
      c8 (inl i) = c7 (among_split n (upto_imports s) (of_map named_by_export s.exports) i)
      c8 (inr i) = f8 i

-- ---- An entry that names a node

pub by_an_entry : {X : Type 0} (f : ℕ → X → List Node) (n : Node) (es : List (ℕ × X)) → T (entries.is_sorted nat_cmp es) → IsAmong n (from_each f es) → (k : ℕ) × (x : X) × (entries.find nat_cmp k es ≡ Some x) × IsAmong n (f k x)
by_an_entry f n [] h i = absurd i
by_an_entry {X} f n (e ∷ es) h i = by (by_an_entry f n es) (entries.below_all nat_cmp e.0 es) refl h (among_split n (f e.0 e.1) (from_each f es) i)
  where
    by : (T (entries.is_sorted nat_cmp es) → IsAmong n (from_each f es) → (k : ℕ) × (x : X) × (entries.find nat_cmp k es ≡ Some x) × IsAmong n (f k x)) → (b : Bool) → entries.below_all nat_cmp e.0 es ≡ b → T (b && entries.is_sorted nat_cmp es) → IsAmong n (f e.0 e.1) ⊎ IsAmong n (from_each f es) → (k : ℕ) × (x : X) × (entries.find nat_cmp k (e ∷ es) ≡ Some x) × IsAmong n (f k x)
    by rest false b g j = absurd g
    by rest true b g (inl j) = (e.0, e.1, first_entry e es, j)
    by rest true b g (inr j) =
        let r = rest g j in
        let k = r.0 in
        let x = r.1 in
        let t = r.2 in
        let u : eq_by_cmp nat_cmp k e.0 ≡ false = behind e.0 es k x (subst (λ (c : Bool). T c) (sym b) tt) t in
        (k, x, ap (λ b. cond b (Some e.1) (entries.find nat_cmp k es)) u ∙ t, r.3)

pub by_entry : {X : Type 0} (f : ℕ → X → List Node) (n : Node) (m : Map X) → IsAmong n (of_map f m) → (k : ℕ) × (x : X) × (map.get m k ≡ Some x) × IsAmong n (f k x)
by_entry f n m h =
    let r = by_an_entry f n (map.entries m) (map.entries_sorted m) h in
    let t = r.2 in
    (r.0, r.1, map.get-entries m r.0 ∙ t, r.3)
