-- What a flag gives back leaves each import that is still named where it is.
use Rattle.std.proofs.Common.{◌≡◌, ◌⊎◌, inl, inr, ℕ, zero, suc, ◌+◌, ◌-◌, ◌<◌, ◌≤◌, Bool, true, false, not, ◌&&◌, ◌||◌, cond, nat_eq, nat_lt, nat_le, List, [], ◌∷◌, ◌++◌, Option, None, Some, refl, sym, ap, subst, ◌∙◌, arith}
use Rattle.std.specs.List.{list_all}
use Rattle.std.specs.FinMap as map
use Rattle.laws_acts.specs.rpc_msg.specs.declared.ids.ExportId.{ExportId}
use Rattle.finite_maps.specs.Tally.{Map, tally, tally_of}
use Rattle.finite_maps.proofs.Tallies.{tally-split, tally-insert}
use Rattle.laws_acts.specs.rpc_machine.specs.declared.node.Node.{Node}
use Rattle.laws_acts.specs.rpc_machine.specs.declared.node.Node.TheVariants as node
use Rattle.laws_acts.specs.rpc_machine.specs.declared.command.Level.{Level}
use Rattle.laws_acts.specs.rpc_machine.specs.declared.command.Level.TheVariants.{Zero, One}
use Rattle.laws_acts.specs.rpc_machine.specs.declared.entries.Finishing.TheVariants as finishing
use Rattle.laws_acts.specs.rpc_machine.specs.declared.entries.Returned.{Returned}
use Rattle.laws_acts.specs.rpc_machine.specs.declared.entries.Question.{Question}
use Rattle.laws_acts.specs.rpc_machine.specs.declared.entries.AnswerEntry.{AnswerEntry}
use Rattle.laws_acts.specs.rpc_machine.specs.declared.entries.Import.{Import}
use Rattle.laws_acts.specs.rpc_machine.specs.State.{State}
use Rattle.laws_acts.specs.rpc_machine.specs.Lists.{how_many, is_empty, from_each, of_map}
use Rattle.laws_acts.specs.rpc_machine.specs.Nodes.{is_import}
use Rattle.laws_acts.specs.rpc_machine.specs.Places.{imports_of, named_by_returned, named_by_question, named_by_import, named_by_export, named_by_answer, places, names}
use Rattle.laws_acts.specs.rpc_machine.specs.Progress.{numbers, export_ids}
use Rattle.laws_acts.specs.rpc_machine.specs.Flags.{may_lose, is_spared, flag_at, flag_for, give_one, give_each, give_if}
use Rattle.laws_acts.specs.rpc_machine.specs.Settling.{returned_map}
use Rattle.laws_acts.specs.rpc_machine.specs.Sweeping.{closed_map, closed}
use Rattle.laws_steps.specs.Settled.{IsAmong}
use Rattle.finite_maps.proofs.Gets.{get-insert_same}
use Rattle.finite_maps.proofs.Tested.{sides, equal, itself, get_other, get_left}
use Rattle.laws_steps.proofs.Among.{none_among, upto_outcomes, upto_questions, upto_imports, upto_exports}
use Rattle.laws_steps.proofs.NamedNodes.{Present, Asked, Here, EachIn, at_cut, each_put, each_cut, each_at, Counted, positive_put, HereIn, Sound, NoneAtZero, renamed_places}

-- ---- How often places name a node

module _ (test : Node → Bool) where
  how_many_append : (xs ys : List Node) → how_many test (xs ++ ys) ≡ how_many test xs + how_many test ys
  how_many_append [] ys = omega arith
  how_many_append (x ∷ xs) ys = by (test x) (how_many_append xs ys)
    where
      by : (b : Bool) → how_many test (xs ++ ys) ≡ how_many test xs + how_many test ys → cond b (suc (how_many test (xs ++ ys))) (how_many test (xs ++ ys)) ≡ cond b (suc (how_many test xs)) (how_many test xs) + how_many test ys
      by true e = omega (arith, e)
      by false e = e

  -- What entries name that do not name by their keys.
  module _ {X : Type 0} (f : ℕ → X → List Node) (by_value : (k : ℕ) (x : X) → f k x ≡ f 0 x) where
    abbrev each : X → ℕ
    each x = how_many test (f 0 x)

    as_tally : (es : List (ℕ × X)) → how_many test (from_each f es) ≡ tally_of each es
    as_tally [] = refl
    as_tally (e ∷ es) = how_many_append (f e.0 e.1) (from_each f es) ∙ ap (λ n. n + how_many test (from_each f es)) (ap (how_many test) (by_value e.0 e.1)) ∙ ap (λ n. each e.1 + n) (as_tally es)

    counted : (m : Map X) (k : ℕ) (x : X) → map.get m k ≡ Some x → how_many test (of_map f m) ≡ how_many test (f k x) + how_many test (of_map f (map.remove m k))
    counted m k x e =
        as_tally (map.entries m) ∙ tally-split each m k x e ∙ ap (λ n. n + tally each (map.remove m k)) (ap (how_many test) (sym (by_value k x)))
        ∙ ap (λ n. how_many test (f k x) + n) (sym (as_tally (map.entries (map.remove m k))))

    counted_put : (m : Map X) (k : ℕ) (x : X) → how_many test (of_map f (map.insert m k x)) ≡ how_many test (f k x) + how_many test (of_map f (map.remove m k))
    counted_put m k x =
        as_tally (map.entries (map.insert m k x)) ∙ tally-insert each m k x ∙ ap (λ n. n + tally each (map.remove m k)) (ap (how_many test) (sym (by_value k x)))
        ∙ ap (λ n. how_many test (f k x) + n) (sym (as_tally (map.entries (map.remove m k))))

  -- The answer of which the Return is sent named what it took.
  pub of_returned : (s : State) (q : ℕ) (a : AnswerEntry) (f : Bool) (ids : List ℕ) → map.get s.answers q ≡ Some a → names s test ≡ how_many test (named_by_answer q a) + names (record s { answers = returned_map s.answers q a f ids }) test
  of_returned s q a f ids e =
      let t : State = record s { answers = returned_map s.answers q a f ids } in
      let one = how_many_append (upto_exports s) (of_map named_by_answer s.answers) in
      let two = how_many_append (upto_exports s) (of_map named_by_answer t.answers) in
      let three = counted named_by_answer (λ k x. refl) s.answers q a e in
      let four : how_many test (of_map named_by_answer (returned_map s.answers q a f ids)) ≡ how_many test (of_map named_by_answer (map.remove s.answers q)) = left f in
      omega (arith, one, two, three, four)
    where
      left : (b : Bool) → how_many test (of_map named_by_answer (returned_map s.answers q a b ids)) ≡ how_many test (of_map named_by_answer (map.remove s.answers q))
      left true = refl
      left false = let k = counted_put named_by_answer (λ k x. refl) s.answers q (record a { returned = Some (export_ids ids) }) in omega (arith, k)

  -- The question that is closed named what its Return brought.
  pub of_closed : (s : State) (q : ℕ) (x : Question) → map.get s.questions q ≡ Some x → names s test ≡ how_many test (named_by_question q x) + names (closed s q x) test
  of_closed s q x e =
      let t : State = closed s q x in
      let a1 = how_many_append (upto_exports s) (of_map named_by_answer s.answers) in
      let a2 = how_many_append (upto_imports s) (of_map named_by_export s.exports) in
      let a3 = how_many_append (upto_questions s) (of_map named_by_import s.imports) in
      let a4 = how_many_append (upto_outcomes s) (of_map named_by_question s.questions) in
      let b1 = how_many_append (upto_exports t) (of_map named_by_answer s.answers) in
      let b2 = how_many_append (upto_imports t) (of_map named_by_export s.exports) in
      let b3 = how_many_append (upto_questions t) (of_map named_by_import s.imports) in
      let b4 = how_many_append (upto_outcomes s) (of_map named_by_question t.questions) in
      let three = counted named_by_question (λ k y. refl) s.questions q x e in
      let four : how_many test (of_map named_by_question t.questions) ≡ how_many test (of_map named_by_question (map.remove s.questions q)) = left x.returned refl in
      omega (arith, a1, a2, a3, a4, b1, b2, b3, b4, three, four)
    where
      left : (o : Option Returned) → x.returned ≡ o → how_many test (of_map named_by_question (closed_map s.questions q x o)) ≡ how_many test (of_map named_by_question (map.remove s.questions q))
      left (Some said) f = refl
      left None f =
          let k = counted_put named_by_question (λ k y. refl) s.questions q (record x { finish = finishing.Sent }) in
          let none : how_many test (named_by_returned x.returned) ≡ 0 = ap (λ (o : Option Returned). how_many test (named_by_returned o)) f in
          omega (arith, k, none)

-- ---- The import that is given back

pub of_taken : (e : ℕ) (ids : List ExportId) → how_many (is_import e) (imports_of ids) ≡ how_many (nat_eq e) (numbers ids)
of_taken e [] = refl
of_taken e (i ∷ ids) = by (nat_eq e i.0) (sides e i.0) (of_taken e ids)
  where
    by : (b : Bool) → nat_eq e i.0 ≡ nat_eq i.0 e → how_many (is_import e) (imports_of ids) ≡ how_many (nat_eq e) (numbers ids) → how_many (is_import e) (imports_of (i ∷ ids)) ≡ how_many (nat_eq e) (numbers (i ∷ ids))
    by b f g = rw (sym f) (rw g refl)

all_pass : (test : ℕ → Bool) (e k : ℕ) (ids : List ℕ) → list_all test ids ≡ true → how_many (nat_eq e) ids ≡ suc k → test e ≡ true
all_pass test e k [] h g = absurd (omega (arith, g))
all_pass test e k (i ∷ ids) h g = by (all_pass test e k ids) (test i) refl h (nat_eq e i) refl g
  where
    by : (list_all test ids ≡ true → how_many (nat_eq e) ids ≡ suc k → test e ≡ true) → (b : Bool) → test i ≡ b → b && list_all test ids ≡ true → (c : Bool) → nat_eq e i ≡ c → cond c (suc (how_many (nat_eq e) ids)) (how_many (nat_eq e) ids) ≡ suc k → test e ≡ true
    by rest false f h c d g = cc
    by rest true f h true d g = ap test (equal e i d) ∙ f
    by rest true f h false d g = rest h g

pub given_elsewhere : (m : Map Import) (e i : ℕ) (o : Option Import) → nat_eq e i ≡ false → map.get (give_one m i o) e ≡ map.get m e
given_elsewhere m e i None d = refl
given_elsewhere m e i (Some x) d = by (nat_le x.count 1)
  where
    by : (b : Bool) → map.get (cond b (map.remove m i) (map.insert m i (record x { count = x.count - 1 }))) e ≡ map.get m e
    by true = get_left m i e d
    by false = get_other m i (record x { count = x.count - 1 }) e d

-- Fewer are given back than were received, or none.
left_there : (e : ℕ) (ids : List ℕ) (m : Map Import) (x : Import) → map.get m e ≡ Some x → (how_many (nat_eq e) ids ≡ 0) ⊎ (how_many (nat_eq e) ids < x.count) → Present (map.get (give_each m ids) e)
left_there e [] m x f h = subst (λ (o : Option Import). Present o) (sym f) tt
left_there e (i ∷ ids) m x f h = by (left_there e ids) (nat_eq e i) refl h
  where
    by : ((m : Map Import) (x : Import) → map.get m e ≡ Some x → (how_many (nat_eq e) ids ≡ 0) ⊎ (how_many (nat_eq e) ids < x.count) → Present (map.get (give_each m ids) e)) → (b : Bool) → nat_eq e i ≡ b → (cond b (suc (how_many (nat_eq e) ids)) (how_many (nat_eq e) ids) ≡ 0) ⊎ (cond b (suc (how_many (nat_eq e) ids)) (how_many (nat_eq e) ids) < x.count) → Present (map.get (give_each m (i ∷ ids)) e)
    by rest false d k = rest (give_one m i (map.get m i)) x (given_elsewhere m e i (map.get m i) d ∙ f) k
    by rest true d (inl k) = absurd (omega (arith, k))
    by rest true d (inr k) =
        let j : e ≡ i = equal e i d in
        let there : map.get m i ≡ Some x = ap (map.get m) (sym j) ∙ f in
        subst (λ (o : Option Import). Present (map.get (give_each (give_one m i o) ids) e)) (sym there) (at (nat_le x.count 1) refl)
      where
        at : (c : Bool) → nat_le x.count 1 ≡ c → Present (map.get (give_each (cond c (map.remove m i) (map.insert m i (record x { count = x.count - 1 }))) ids) e)
        at true u = absurd (grind (arith, u, k))
        at false u =
            let y : Import = record x { count = x.count - 1 } in
            rest (map.insert m i y) y (subst (λ (n : ℕ). map.get (map.insert m i y) n ≡ Some y) (sym (equal e i d)) (get-insert_same m i y)) (inr (omega (arith, k)))

-- It is left there, or no other place names it.
left_or_last : (s : State) (ids : List ℕ) (e : ℕ) (x : Import) → flag_at One s ids ≡ true → map.get s.imports e ≡ Some x → Present (map.get (give_each s.imports ids) e) ⊎ (names s (is_import e) ≡ how_many (nat_eq e) ids)
left_or_last s ids e x h f = by (how_many (nat_eq e) ids) refl
  where
    behind : (b : Bool) → not b && list_all (is_spared s ids) ids ≡ true → list_all (is_spared s ids) ids ≡ true
    behind true g = cc
    behind false g = g

    decide : (c : Bool) → nat_lt (how_many (nat_eq e) ids) x.count ≡ c → c || nat_eq (names s (is_import e)) (how_many (nat_eq e) ids) ≡ true → Present (map.get (give_each s.imports ids) e) ⊎ (names s (is_import e) ≡ how_many (nat_eq e) ids)
    decide true u g = inl (left_there e ids s.imports x f (inr (grind (arith, u))))
    decide false u g = inr (equal (names s (is_import e)) (how_many (nat_eq e) ids) g)

    by : (n : ℕ) → how_many (nat_eq e) ids ≡ n → Present (map.get (give_each s.imports ids) e) ⊎ (names s (is_import e) ≡ how_many (nat_eq e) ids)
    by zero g = inl (left_there e ids s.imports x f (inl g))
    by (suc k) g =
        let spared : is_spared s ids e ≡ true = all_pass (is_spared s ids) e k ids (behind (is_empty ids) h) g in
        decide (nat_lt (how_many (nat_eq e) ids) x.count) refl (subst (λ (o : Option Import). may_lose s e (how_many (nat_eq e) ids) o ≡ true) f spared)

none_given : (m : Map Import) (ids : List ℕ) → ((e : ℕ) → map.get m e ≡ None) → give_each m ids ≡ m
none_given m [] h = refl
none_given m (i ∷ ids) h = subst (λ (o : Option Import). give_each (give_one m i o) ids ≡ m) (sym (h i)) (none_given m ids h)

-- ---- What is named afterwards is there

abbrev pub given_if : Map Import → Bool → List ℕ → Map Import
given_if m false ids = m
given_if m true ids = give_each m ids

module _ (w : Asked) (s t : State) (ids : List ℕ) (none : NoneAtZero s.level s.imports) (few : s.level ≡ One → (e : ℕ) → how_many (nat_eq e) ids + names t (is_import e) ≤ names s (is_import e)) where
  kept_import : (e : ℕ) (x : Import) → flag_for s ids ≡ true → map.get s.imports e ≡ Some x → IsAmong (node.Import (record { 0 = e })) (places t) → Present (map.get (give_each s.imports ids) e)
  kept_import e x h f i = by s.level refl h
    where
      last : s.level ≡ One → Present (map.get (give_each s.imports ids) e) ⊎ (names s (is_import e) ≡ how_many (nat_eq e) ids) → Present (map.get (give_each s.imports ids) e)
      last l (inl p) = p
      last l (inr g) =
          let u = few l e in
          let zero : names t (is_import e) ≡ 0 = omega (arith, u, g) in
          let no : nat_eq e e ≡ false = none_among (is_import e) (places t) zero (node.Import (record { 0 = e })) i in
          absurd (let bad : true ≡ false = sym (itself e) ∙ no in cc)

      by : (l : Level) → s.level ≡ l → flag_at l s ids ≡ true → Present (map.get (give_each s.imports ids) e)
      by Zero l g = absurd (let bad : Some x ≡ None = sym f ∙ none l e in cc)
      by One l g = last l (left_or_last s ids e x g f)

  pub still_here : (b : Bool) → flag_for s ids ≡ b → (n : Node) → IsAmong n (places t) → HereIn w s n → Here w s.promises s.outcomes (given_if s.imports b ids) n
  still_here false f n i h = h
  still_here true f (node.Object o) i h = tt
  still_here true f (node.Promise p) i h = h
  still_here true f (node.Field o path) i h = h
  still_here true f (node.Import e) i h = by (map.get s.imports e.0) refl h
    where
      by : (o : Option Import) → map.get s.imports e.0 ≡ o → Present o → Present (map.get (give_each s.imports ids) e.0)
      by None g k = absurd k
      by (Some x) g k = kept_import e.0 x f g i
  still_here true f (node.Pipe q path) i h = h
  still_here true f (node.Broken reason) i h = h

-- ---- The state afterwards

given_one : (P : Node → Type 0) (m : Map Import) (e : ℕ) (o : Option Import) → map.get m e ≡ o → EachIn P named_by_import m → EachIn P named_by_import (give_one m e o)
given_one P m e None f h = h
given_one P m e (Some x) f h = by (nat_le x.count 1)
  where
    by : (b : Bool) → EachIn P named_by_import (cond b (map.remove m e) (map.insert m e (record x { count = x.count - 1 })))
    by true = each_cut P named_by_import m e h
    by false = each_put P named_by_import m e (record x { count = x.count - 1 }) (each_at P named_by_import m e x h f) h

given_each : (P : Node → Type 0) (m : Map Import) (es : List ℕ) → EachIn P named_by_import m → EachIn P named_by_import (give_each m es)
given_each P m [] h = h
given_each P m (e ∷ es) h = given_each P (give_one m e (map.get m e)) es (given_one P m e (map.get m e) refl h)

one_counted : (m : Map Import) (e : ℕ) (o : Option Import) → ((k : ℕ) → Counted (map.get m k)) → (k : ℕ) → Counted (map.get (give_one m e o) k)
one_counted m e None h = h
one_counted m e (Some x) h = by (nat_le x.count 1) refl
  where
    by : (b : Bool) → nat_le x.count 1 ≡ b → (k : ℕ) → Counted (map.get (cond b (map.remove m e) (map.insert m e (record x { count = x.count - 1 }))) k)
    by true f = at_cut (λ k o. Counted o) m e tt h
    by false f = positive_put m e (record x { count = x.count - 1 }) (grind (arith, f)) h

given_counted : (m : Map Import) (es : List ℕ) → ((k : ℕ) → Counted (map.get m k)) → (k : ℕ) → Counted (map.get (give_each m es) k)
given_counted m [] h = h
given_counted m (e ∷ es) h = given_counted (give_one m e (map.get m e)) es (one_counted m e (map.get m e) h)

pub gives : {w : Asked} {T : Map Question → Type 0} (s : State) (b : Bool) (ids : List ℕ) → Sound w T s → ((n : Node) → IsAmong n (places s) → HereIn w s n → Here w s.promises s.outcomes (given_if s.imports b ids) n) → Sound w T (give_if s b ids)
gives s false ids h g = h
gives {w} s true ids h g =
    let m = give_each s.imports ids in
    let Q = Here w s.promises s.outcomes m in
    let n = renamed_places (HereIn w s) Q s g h.names in
    record { names = (n.0, n.1, n.2, n.3, n.4, given_each Q s.imports ids n.5, n.6, n.7); pending = h.pending; answers = h.answers; calls = h.calls; level = λ l e. ap (λ (o : Map Import). map.get o e) (none_given s.imports ids (h.level l)) ∙ h.level l e; brought = h.brought; counted = given_counted s.imports ids h.counted; asked = h.asked }
