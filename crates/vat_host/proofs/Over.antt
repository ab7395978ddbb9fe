-- The calls that are over, and a search among them for one that is cancelled.
use Rattle.std.proofs.Common.{◌≡◌, ◌≢◌, ◌⊎◌, inl, inr, ℕ, Bool, true, false, List, [], ◌∷◌, Option, Some, None, IfSome, IfNone, IsSome, MatchBool, is_some, refl, sym, ap, subst, ◌∙◌}
use Rattle.std.specs.Cmp.{nat_cmp_total}
use Rattle.std.specs.Ordering.{nat_cmp}
use Rattle.std.specs.FinMap as map
use Rattle.std.specs.FinMap.Entries.{find}
use Rattle.finite_maps.specs.Tally.{Map}
use Rattle.finite_maps.proofs.Gets.{at_each, tied_other}
use Rattle.finite_maps.proofs.Sorted.{first_entry, later_entry}
use Rattle.rpc_msg.specs.declared.ids.TaskId.{TaskId}
use Rattle.rpc_machine.specs.State.{State}
use Rattle.rpc_uses.specs.Results.{cancelled}
use Rattle.vat_host.specs.Unanswered.{IsCancelledAt, NoneIsCancelledOf, Unanswered}

-- The same tasks, and the same that are over.
pub alike : (ts us : Map (Option TaskId)) (os ps : Map (Unit {0})) → ts ≡ us → os ≡ ps → ◌≡◌ {A = Unanswered} (record { tasks = ts; over = os }) (record { tasks = us; over = ps })
alike ts us os ps t o = ap (λ (x : Map (Option TaskId)). let u : Unanswered = record { tasks = x; over = os } in u) t ∙ ap (λ (x : Map (Unit {0})). let u : Unanswered = record { tasks = us; over = x } in u) o

abbrev pub Entries : Type 0
Entries = List (ℕ × Unit {0})

abbrev pub IsKeyIn : ℕ → Entries → Type 0
IsKeyIn k [] = ⊥
IsKeyIn k (e ∷ es) = (e.0 ≡ k) ⊎ IsKeyIn k es

some_of : {X : Type 0} (x y : Option X) → x ≡ y → IsSome x → IsSome y
some_of {X} x y e h = subst (λ (o : Option X). IsSome o) e h

found_in : (es : Entries) (k : ℕ) → IsSome (find nat_cmp k es) → IsKeyIn k es
found_in [] k h = absurd cc
found_in (e ∷ es) k h =
    at_each (λ q. IsSome (find nat_cmp q (e ∷ es)) → IsKeyIn q (e ∷ es)) e.0 (λ _. inl refl)
    (λ q apart there. inr (found_in es q (some_of (find nat_cmp q (e ∷ es)) (find nat_cmp q es) (later_entry e es q (tied_other q e.0 apart)) there)))
    k h

not_first : (e : ℕ × Unit {0}) (es : Entries) (q : ℕ) → q ≢ e.0 → IsKeyIn q (e ∷ es) → IsKeyIn q es
not_first e es q apart (inl same) = absurd (apart (sym same))
not_first e es q apart (inr i) = i

in_found : (es : Entries) (k : ℕ) → IsKeyIn k es → IsSome (find nat_cmp k es)
in_found [] k i = absurd i
in_found (e ∷ es) k i =
    at_each (λ q. IsKeyIn q (e ∷ es) → IsSome (find nat_cmp q (e ∷ es))) e.0
    (λ _. some_of (Some e.1) (find nat_cmp e.0 (e ∷ es)) (sym (first_entry e es)) refl)
    (λ q apart there. some_of (find nat_cmp q es) (find nat_cmp q (e ∷ es)) (sym (later_entry e es q (tied_other q e.0 apart))) (in_found es q (not_first e es q apart there)))
    k i

-- The call of that question is not cancelled.
abbrev pub IsWantedAt : State → Unanswered → ℕ → Type 0
IsWantedAt s u q = (t : TaskId) → map.get u.tasks q ≡ Some (Some t) → cancelled s t ≡ false

-- Those that were looked at are not cancelled, and these are still to be looked at.
pub record IsLeft (s : State) (u : Unanswered) (rest : Entries) : Type 0 where
  pub there : (q : ℕ) → IsKeyIn q rest → IsSome (map.get u.over q)
  pub others : (q : ℕ) → IsSome (map.get u.over q) → IsWantedAt s u q ⊎ IsKeyIn q rest

pub all_left : (s : State) (u : Unanswered) (es rest : Entries) → map.from_entries es ≡ u.over → rest ≡ es → IsLeft s u rest
all_left s u es rest seen same =
    subst (λ (l : Entries). IsLeft s u l) (sym same)
    (record {
      there = λ q i. some_of (find nat_cmp q es) (map.get u.over q) (sym (got q)) (in_found es q i);
      others = λ q h. inr (found_in es q (some_of (map.get u.over q) (find nat_cmp q es) (got q) h));
    })
  where
    got : (q : ℕ) → map.get u.over q ≡ find nat_cmp q es
    got q = ap (λ (m : Map (Unit {0})). map.get m q) (sym seen) ∙ map.get-from_entries nat_cmp_total es q

module _ (s : State) (u : Unanswered) where
  -- The next one is not cancelled.
  pub one_less : (e : ℕ × Unit {0}) (rest all : Entries) → all ≡ e ∷ rest → IsLeft s u all → IsWantedAt s u e.0 → IsLeft s u rest
  one_less e rest all is before wanted =
      let l : IsLeft s u (e ∷ rest) = subst (λ (k : Entries). IsLeft s u k) is before in
      record { there = λ q i. l.there q (inr i); others = λ q h. by q (l.others q h) }
    where
      by : (q : ℕ) → IsWantedAt s u q ⊎ IsKeyIn q (e ∷ rest) → IsWantedAt s u q ⊎ IsKeyIn q rest
      by q (inl w) = inl w
      by q (inr (inl same)) = inl (subst (λ (k : ℕ). IsWantedAt s u k) same wanted)
      by q (inr (inr i)) = inr i

  pub none_left : (rest : Entries) → rest ≡ [] → IsLeft s u rest → NoneIsCancelledOf s u
  none_left rest none before q t over task = by ((subst (λ (k : Entries). IsLeft s u k) none before).others q over)
    where
      by : IsWantedAt s u q ⊎ IsKeyIn q [] → cancelled s t ≡ false
      by (inl w) = w t task
      by (inr i) = absurd i

  pub this_one : (e : ℕ × Unit {0}) (rest all : Entries) (t : TaskId) → all ≡ e ∷ rest → IsLeft s u all → map.get u.tasks e.0 ≡ Some (Some t) → cancelled s t ≡ true → IsCancelledAt s u e.0 t
  this_one e rest all t is before task unwanted =
      let l : IsLeft s u (e ∷ rest) = subst (λ (k : Entries). IsLeft s u k) is before in
      record { over = l.there e.0 (inl refl); task = task; cancelled = unwanted }

apart : (b : Bool) → b ≡ true → b ≡ false → ⊥
apart b t f = let e : ◌≡◌ {A = Bool} true false = sym t ∙ f in absurd cc

pub is_up : (d : Option ℕ) → is_some d ≡ false → d ≡ None
is_up None e = refl
is_up (Some n) e = absurd (let f : ◌≡◌ {A = Bool} true false = e in cc)

-- A vat is up, and that is the first of its calls that is cancelled, if there is one.
pub has_some : (s : State) (u : Unanswered) (o : Option (ℕ × TaskId)) (b : Bool) → b ≡ is_some o → s.down ≡ None
    → IfSome o (λ x. IsCancelledAt s u x.0 x.1) → IfNone o (NoneIsCancelledOf s u)
    → MatchBool b ((s.down ≡ None) × ((q : ℕ) × ((t : TaskId) × IsCancelledAt s u q t))) (¬ ((s.down ≡ None) × ((q : ℕ) × ((t : TaskId) × IsCancelledAt s u q t))))
has_some s u (Some x) true e up found none = (up, (x.0, (x.1, found)))
has_some s u (Some x) false e up found none = absurd (let f : ◌≡◌ {A = Bool} false true = e in cc)
has_some s u None true e up found none = absurd (let f : ◌≡◌ {A = Bool} true false = e in cc)
has_some s u None false e up found none = λ h. apart (cancelled s h.1.1.0) h.1.1.1.cancelled (none h.1.0 h.1.1.0 h.1.1.1.over h.1.1.1.task)
