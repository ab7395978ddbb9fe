-- Where the thought begins and ends.
use Rattle.std.proofs.Common.{◌≡◌, ◌≢◌, ℕ, zero, suc, ◌+◌, ◌≤◌, ◌<◌, Bool, true, false, cond, nat_eq, List, [], ◌∷◌, ◌++◌, length, reverse, get_or, Option, None, Some, IsSome, refl, sym, ap, subst, ◌∙◌, arith}
use Rattle.std.specs.Ordering.{nat_cmp, is_lt}
use Rattle.std.specs.List.{Contains, sum_by}
use Rattle.std.specs.List.Sorted.{IsPermutation, IsSortedBy}
use Rattle.std.proofs.lemmas.List.Sums.{sum_by-cons}
use Rattle.std.proofs.lemmas.List.Sorted.{sum_by-IsPermutation, IsPermutation-reverse}
use Rattle.std.specs.FinMap as map
use Rattle.finite_maps.specs.Tally.{Map}
use Rattle.finite_maps.proofs.Gets.{alike}
use Rattle.rpc_msg.specs.declared.ids.QuestionId.{QuestionId}
use Rattle.rpc_machine.specs.declared.node.Node.{Node}
use Rattle.rpc_machine.specs.declared.node.Node.TheVariants as node
use Rattle.rpc_machine.specs.declared.entries.Question.{Question}
use Rattle.rpc_machine.specs.declared.entries.Role.{Role}
use Rattle.rpc_machine.specs.declared.entries.Role.TheVariants as role
use Rattle.rpc_machine.specs.declared.entries.Returned.{Returned}
use Rattle.rpc_machine.specs.State.{State}
use Rattle.rpc_machine.specs.Lists.{how_many}
use Rattle.rpc_machine.specs.Nodes.{is_promise, is_field, is_import, is_pipe}
use Rattle.rpc_machine.specs.Places.{places}
use Rattle.rpc_machine.specs.declared.command.Effects.{Effects}
use Rattle.rpc_machine.specs.Progress.{Progress, begin}
use Rattle.rpc_machine.specs.Steps.{staying_up}
use Rattle.rpc_machine.specs.Collecting.{IsTight}
use Rattle.rpc_machine.specs.Sweeping.{IsToFinish, IsOver, Withers, Over}
use Rattle.laws_acts.proofs.Parts.{how_many_append}
use Rattle.core_refcounts.specs.Names.{Names, Counts, no_names}
use Rattle.core_store.specs.declared.store.Store.{Store}
use Rattle.core_store.specs.Holding.{state_of, all_named, IsCovered, IsNotedFor, IsNotedAs, HasReturned}
use Rattle.core_step_sweeps.specs.declared.thought.Thought.{Thought}
use Rattle.core_step_sweeps.specs.Over.{AreOver, AreRising, IsAboveAll}
use Rattle.core_step_sweeps.specs.Thinking.{IsLeft, WithersBy, Covers, IsThought, IsQuiet, nodes_of, gone_of, all_gone, left, is_id, picked, promise_node, field_node, import_node, pipe_node}
use Rattle.core_step_sweeps.proofs.Looking.{counts_none, counts_places, promise_from, outcome_from, import_from}
use Rattle.core_step_sweeps.proofs.Rising.{entries_standing}
use Rattle.finite_maps.proofs.Tested.{itself}

-- ---- The beginning

-- The node of a key is among those of the keys.
among : (node_of : ℕ → Node) (test : Node → Bool) (keys : List ℕ) (k : ℕ) → test (node_of k) ≡ true → Contains keys k → 0 < how_many test (nodes_of node_of keys)
among node_of test keys k is here = at keys here.0 here.1 here.2
  where
    at : (js : List ℕ) (i : ℕ) → i < length js → get_or js i k ≡ k → 0 < how_many test (nodes_of node_of js)
    at [] i below same = absurd (omega (arith, below))
    at (j ∷ js) zero below same =
        let b : test (node_of j) ≡ true = ap (λ (m : ℕ). test (node_of m)) same ∙ is in
        let a : how_many test (nodes_of node_of (j ∷ js)) ≡ suc (how_many test (nodes_of node_of js)) = ap (λ b. cond b (suc (how_many test (nodes_of node_of js))) (how_many test (nodes_of node_of js))) b in
        omega (arith, a)
    at (j ∷ js) (suc i) below same =
        let a = at js i (omega (arith, below)) same in
        by (test (node_of j)) a
      where
        by : (b : Bool) → 0 < how_many test (nodes_of node_of js) → 0 < cond b (suc (how_many test (nodes_of node_of js))) (how_many test (nodes_of node_of js))
        by true g = omega (arith, g)
        by false g = g

-- Nothing went.
pub begins : (s : State) → IsLeft s s [] [] []
begins s = record {
  beside = refl;
  promises = λ k. refl;
  outcomes = λ k. refl;
  imports = λ k. refl;
  questions = λ k. refl;
  alike = λ test. refl;
  ids = λ k. refl;
  once = λ k. omega arith;
  withers = λ d rest is next. record { over = rest; withers = next d is; are = λ k. refl };
}

module _ (x : Store) (counted : Counts x.names (all_named x)) (none : x.waits.taken ≡ []) (covered : IsCovered (state_of x) x.names) where
  abbrev s : State
  s = state_of x

  here : Counts x.names (places s)
  here = counts_places x counted none

  noted_over : (q : ℕ) (y : Question) (r : Role) → IsOver s q y r → IsNotedFor s x.names.questions q y r → Contains x.names.questions.noted q
  noted_over q y (role.Relay o) over h = h (returned y.returned over)
    where
      returned : (o : Option Returned) → IsSome o → HasReturned o
      returned None e = absurd (let g : false ≡ true = e in cc)
      returned (Some said) e = tt
  noted_over q y (role.Direct c) over h = h over.0 (here.questions q ∙ over.1)

  pub noted_question : (q : ℕ) (o : Option Question) → IsToFinish s q o → IsNotedAs s x.names.questions q o → Contains x.names.questions.noted q
  noted_question q None h g = absurd h
  noted_question q (Some y) h g = noted_over q y y.role h.1 (g h.0)

  abbrev ps : List Node
  ps = nodes_of promise_node x.names.promises.noted

  abbrev os : List Node
  os = nodes_of field_node x.names.outcomes.noted

  abbrev es : List Node
  es = nodes_of import_node x.names.imports.noted

  abbrev qs : List Node
  qs = nodes_of pipe_node x.names.questions.noted

  module _ (more : List Node) where
    pub how_many_noted : (test : Node → Bool) → how_many test (ps ++ ((os ++ (es ++ qs)) ++ more)) ≡ how_many test ps + (how_many test os + (how_many test es + how_many test qs)) + how_many test more
    how_many_noted test =
        let a = how_many_append test ps ((os ++ (es ++ qs)) ++ more) in
        let b = how_many_append test (os ++ (es ++ qs)) more in
        let c = how_many_append test os (es ++ qs) in
        let d = how_many_append test es qs in
        omega (arith, a, b, c, d)

    pub covers_noted : Covers s (ps ++ ((os ++ (es ++ qs)) ++ more))
    covers_noted (node.Object o) h = absurd h
    covers_noted (node.Promise p) h =
        let k = promise_from s s refl refl true p (map.get s.promises p) h in
        let one = among promise_node (is_promise p) x.names.promises.noted p (itself p) (covered.promises p k.0 (here.promises p ∙ k.1)) in
        let all = how_many_noted (is_promise p) in
        omega (arith, one, all)
    covers_noted (node.Field o path) h =
        let k = outcome_from s s refl refl true o (map.get s.outcomes o) h in
        let one = among field_node (is_field o) x.names.outcomes.noted o (itself o) (covered.outcomes o k.0 (here.outcomes o ∙ k.1)) in
        let all = how_many_noted (is_field o) in
        omega (arith, one, all)
    covers_noted (node.Import e) h =
        let k = import_from s s refl refl true e.0 (map.get s.imports e.0) h in
        let one = among import_node (is_import e.0) x.names.imports.noted e.0 (itself e.0) (covered.imports e.0 k.0 (here.imports e.0 ∙ k.1)) in
        let all = how_many_noted (is_import e.0) in
        omega (arith, one, all)
    covers_noted (node.Pipe q path) h =
        let one = among pipe_node (is_pipe q.0) x.names.questions.noted q.0 (itself q.0) (noted_question q.0 (map.get s.questions q.0) h (covered.questions q.0)) in
        let all = how_many_noted (is_pipe q.0) in
        omega (arith, one, all)
    covers_noted (node.Broken reason) h = absurd h

    pub thought_begins : (y : Thought) → y.gone.items ≡ [] → y.last ≡ None → y.marks ≡ no_names → y.over.items ≡ [] → y.less ≡ no_names → IsThought s y (ps ++ ((os ++ (es ++ qs)) ++ more))
    thought_begins y gone last marks over less =
        let all : gone_of y ≡ [] = ap (λ (o : Option Node). all_gone o (reverse y.gone.items)) last ∙ ap (λ (ns : List Node). reverse ns) gone in record {
          went = [];
          is_left = subst (λ (g : List Node). IsLeft s (left s g) g [] (reverse y.over.items)) (sym all) (subst (λ (ids : List QuestionId). IsLeft s s [] [] (reverse ids)) (sym over) (begins s));
          less = subst (λ (c : Names). Counts c []) (sym less) counts_none;
          marks = subst (λ (c : Names). Counts c (reverse y.gone.items)) (sym marks) (subst (λ (ns : List Node). Counts no_names (reverse ns)) (sym gone) counts_none);
          covers = subst (λ (g : List Node). Covers (left s g) (ps ++ ((os ++ (es ++ qs)) ++ more))) (sym all) covers_noted;
        }

-- What is tight and has no question to finish.
pub quiet_by : (s : State) → IsTight s → ((q : ℕ) → ¬ (IsToFinish s q (map.get s.questions q))) → IsQuiet s
quiet_by s tight none (node.Object o) = λ h. h
quiet_by s tight none (node.Promise p) = tight.promises p
quiet_by s tight none (node.Field o path) = tight.outcomes o
quiet_by s tight none (node.Import e) = tight.imports e.0
quiet_by s tight none (node.Pipe q path) = none q.0
quiet_by s tight none (node.Broken reason) = λ h. h

-- ---- The end

-- Nothing is loose.
pub quiet : (t : State) → Covers t [] → IsQuiet t
quiet t h n = λ loose. let a = h n loose in absurd (omega (arith, a))

tight_by : (t : State) → IsQuiet t → IsTight t
tight_by t h = record {
  promises = λ p. h (node.Promise p);
  outcomes = λ o. h (node.Field o []);
  imports = λ e. h (node.Import (record { 0 = e }));
}

ended : (t : State) → IsQuiet t → (e : Progress) → e.state ≡ t → Withers e map.empty
ended t h e at = Over (subst (λ (y : State). IsTight y) (sym at) (tight_by t h)) (subst (λ (y : State). (q : ℕ) → ¬ (IsToFinish y q (map.get y.questions q))) (sym at) (λ q. h (node.Pipe (record { 0 = q }) [])))

-- No question is over then.
pub none_over : (s : State) → IsQuiet s → (ids : List QuestionId) → ids ≡ [] → AreOver s ids
none_over s h ids none = subst (λ (qs : List QuestionId). AreOver s qs) (sym none) (record {
  over = map.empty;
  withers = λ d at. ended s h d at;
  entries = entries_standing s map.empty [] tt (λ k. map.get-empty nat_cmp k);
  rising = tt;
})

-- ---- In order

ones : (test : QuestionId → Bool) (qs : List QuestionId) → sum_by (λ q. cond (test q) 1 0) qs ≡ how_many test qs
ones test [] = refl
ones test (q ∷ qs) = sum_by-cons (λ q. cond (test q) 1 0) q qs ∙ by (test q) (ones test qs)
  where
    by : (b : Bool) → sum_by (λ q. cond (test q) 1 0) qs ≡ how_many test qs → cond b 1 0 + sum_by (λ q. cond (test q) 1 0) qs ≡ cond b (suc (how_many test qs)) (how_many test qs)
    by true e = omega (arith, e)
    by false e = omega (arith, e)

many_moved : (test : QuestionId → Bool) (xs ys : List QuestionId) → IsPermutation xs ys → how_many test ys ≡ how_many test xs
many_moved test xs ys moved = sym (ones test ys) ∙ sum_by-IsPermutation (λ q. cond (test q) 1 0) xs ys moved ∙ ones test xs

abbrev IsUp : List QuestionId → Type 0
IsUp qs = (k : ℕ) (d : QuestionId) → suc k < length qs → is_lt (nat_cmp (get_or qs (suc k) d).0 (get_or qs k d).0) ≡ false

not_less : (j k : ℕ) → is_lt (nat_cmp k j) ≡ false → j ≤ k
not_less j k h = grind (arith, h)

-- Two that are one.
two : (j k n : ℕ) → j ≡ k → cond (nat_eq j j) (suc (cond (nat_eq k j) (suc n) n)) (cond (nat_eq k j) (suc n) n) ≤ 1 → ⊥
two j k n same h =
    let a : nat_eq j j ≡ true = itself j in
    let b : nat_eq k j ≡ true = ap (λ i. nat_eq i j) (sym same) ∙ itself j in
    let g : suc (suc n) ≤ 1 = subst (λ c. suc (cond c (suc n) n) ≤ 1) b (subst (λ c. cond c (suc (cond (nat_eq k j) (suc n) n)) (cond (nat_eq k j) (suc n) n) ≤ 1) a h) in
    absurd (omega (arith, g))

once_tail : (k : ℕ) (q : QuestionId) (qs : List QuestionId) → how_many (is_id k) (q ∷ qs) ≤ 1 → how_many (is_id k) qs ≤ 1
once_tail k q qs h = by (nat_eq q.0 k) h
  where
    by : (b : Bool) → cond b (suc (how_many (is_id k) qs)) (how_many (is_id k) qs) ≤ 1 → how_many (is_id k) qs ≤ 1
    by true g = omega (arith, g)
    by false g = g

above_first : (q : QuestionId) (qs : List QuestionId) → IsUp (q ∷ qs) → ((k : ℕ) → how_many (is_id k) (q ∷ qs) ≤ 1) → IsAboveAll q.0 qs
above_first q [] up once = tt
above_first q (r ∷ rs) up once =
    let a = not_less q.0 r.0 (up 0 q (omega arith)) in
    let b : q.0 ≢ r.0 = λ e. two q.0 r.0 (how_many (is_id q.0) rs) e (once q.0) in
    (omega (arith, a, b), above_first r rs (λ k d below. up (suc k) d (omega (arith, below))) (λ k. once_tail k q (r ∷ rs) (once k)))

rising : (qs : List QuestionId) → IsUp qs → ((k : ℕ) → how_many (is_id k) qs ≤ 1) → AreRising qs
rising [] up once = tt
rising (q ∷ qs) up once = above_first q qs up once

-- These are over, where what is left is quiet.
pub over_by : (s t : State) (gone went : List Node) (asked qs : List QuestionId) → IsLeft s t gone went asked → Covers t [] → ((k : ℕ) → how_many (is_id k) qs ≡ how_many (is_id k) asked) → IsSortedBy (λ (a b : QuestionId). is_lt (nat_cmp a.0 b.0)) qs → AreOver s qs
over_by s t gone went asked qs h covers same sorted =
    let up : IsUp qs = λ k d below. subst (λ j. is_lt (nat_cmp (get_or qs j d).0 (get_or qs k d).0) ≡ false) (let e : k + 1 ≡ suc k = omega arith in e) (sorted k d (omega arith) (omega (arith, below))) in
    let once : (k : ℕ) → how_many (is_id k) qs ≤ 1 = λ k. let a = same k in let b = h.ids k in let c = h.once k in omega (arith, a, b, c) in
    let start : Progress = begin s in
    let end : (d : Progress) → d.state ≡ s → WithersBy s asked d map.empty = λ d is. h.withers d map.empty is (ended t (quiet t covers)) in
    let w = end start refl in
    let order = rising qs up once in
    let are : (d : Progress) (is : d.state ≡ s) (k : ℕ) → map.get (end d is).over k ≡ picked (how_many (is_id k) qs) (map.get s.questions k) None = λ d is k.
    (end d is).are k ∙ ap (λ (o : Option Question). picked (how_many (is_id k) asked) (map.get s.questions k) o) (map.get-empty nat_cmp k) ∙ ap (λ n. picked n (map.get s.questions k) None) (sym (same k)) in record {
      over = w.over;
      withers = λ d is. subst (λ (m : Map Question). Withers d m)
          (alike (end d is).over w.over (λ k. are d is k ∙ sym (are start refl k))) (end d is).withers;
      entries = entries_standing s w.over qs order (are start refl);
      rising = order;
    }

pub is_over : (s : State) (x : Thought) (qs : List QuestionId) → IsThought s x [] → IsPermutation x.over.items qs → IsSortedBy (λ (a b : QuestionId). is_lt (nat_cmp a.0 b.0)) qs → AreOver s qs
is_over s x qs h moved sorted =
    over_by s (left s (gone_of x)) (gone_of x) h.went (reverse x.over.items) qs h.is_left h.covers
    (λ k. many_moved (is_id k) x.over.items qs moved ∙ sym (many_moved (is_id k) x.over.items (reverse x.over.items) (IsPermutation-reverse x.over.items))) sorted

-- A step that does not take the vat down stays up.
pub stays : (e : Effects) → e.down ≡ None → e ≡ staying_up e
stays e up = ap (λ (d : Option ℕ). record e { down = d }) up
