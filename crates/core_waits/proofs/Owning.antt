-- Each list stands in one place, whatever is put, taken out or routed.
use Rattle.std.proofs.Common.{◌≡◌, ◌≢◌, ◌⊎◌, inl, inr, ℕ, ◌+◌, Bool, true, false, List, [], ◌∷◌, ◌++◌, length, Option, None, Some, unwrap_or, refl, sym, ap, subst, ◌∙◌, arith}
use Rattle.std.specs.FinMap as map
use Rattle.finite_maps.specs.Tally.{Map, tally}
use Rattle.finite_maps.proofs.Gets.{at_each, get-insert_same, get-insert_other, get-remove_same, get-remove_other}
use Rattle.finite_maps.proofs.Tallies.{tally-new, tally-split, tally-insert}
use Rattle.std.proofs.lemmas.List.{length-append}
use Rattle.rpc_machine.specs.declared.calls.HeldCall.{HeldCall}
use Rattle.vat_tables.specs.declared.held_pool.ListKey.{ListKey}
use Rattle.vat_tables.specs.Pool.{PopsFirst}
use Rattle.core_waits.specs.declared.entries.PromiseEntry.{PromiseEntry}
use Rattle.core_waits.specs.declared.entries.OutcomeEntry.{OutcomeEntry}
use Rattle.core_waits.specs.declared.entries.EmbargoEntry.{EmbargoEntry}
use Rattle.core_waits.specs.Waiting.{Lists, calls_at, promise_list, outcome_list, embargo_list}
use Rattle.core_waits.specs.Owned.{Owner, InPromise, InOutcome, InEmbargo, Taken, key_of, list_in, list_at, HasCalls, IsOwned, IsPlace}

pub none_some : (k : ℕ) → ¬ (◌≡◌ {A = Option ℕ} None (Some k))
none_some k e = cc

pub some_same : (x y : ℕ) → ◌≡◌ {A = Option ℕ} (Some x) (Some y) → x ≡ y
some_same x y e = cc

-- Every place but this one keeps its list.
abbrev pub Others : (Owner → Option ℕ) → (Owner → Option ℕ) → Owner → Type 0
Others at new w = (v : Owner) → (v ≡ w) ⊎ (new v ≡ at v)

module _ (ps : Map PromiseEntry) (os : Map OutcomeEntry) (es : Map EmbargoEntry) (taken : Option ListKey) where
  pub promise_set : (k : ℕ) (e : PromiseEntry) → Others (list_at ps os es taken) (list_at (map.insert ps k e) os es taken) (InPromise k)
  promise_set k e (InPromise q) = at_each (λ q. (InPromise q ≡ InPromise k) ⊎ (list_in promise_list (map.get (map.insert ps k e) q) ≡ list_in promise_list (map.get ps q))) k (inl refl) (λ q far. inr (ap (list_in promise_list) (get-insert_other ps k e q far))) q
  promise_set k e (InOutcome q) = inr refl
  promise_set k e (InEmbargo q) = inr refl
  promise_set k e Taken = inr refl

  pub promise_gone : (k : ℕ) → Others (list_at ps os es taken) (list_at (map.remove ps k) os es taken) (InPromise k)
  promise_gone k (InPromise q) = at_each (λ q. (InPromise q ≡ InPromise k) ⊎ (list_in promise_list (map.get (map.remove ps k) q) ≡ list_in promise_list (map.get ps q))) k (inl refl) (λ q far. inr (ap (list_in promise_list) (get-remove_other ps k q far))) q
  promise_gone k (InOutcome q) = inr refl
  promise_gone k (InEmbargo q) = inr refl
  promise_gone k Taken = inr refl

  pub outcome_set : (k : ℕ) (e : OutcomeEntry) → Others (list_at ps os es taken) (list_at ps (map.insert os k e) es taken) (InOutcome k)
  outcome_set k e (InOutcome q) = at_each (λ q. (InOutcome q ≡ InOutcome k) ⊎ (list_in outcome_list (map.get (map.insert os k e) q) ≡ list_in outcome_list (map.get os q))) k (inl refl) (λ q far. inr (ap (list_in outcome_list) (get-insert_other os k e q far))) q
  outcome_set k e (InPromise q) = inr refl
  outcome_set k e (InEmbargo q) = inr refl
  outcome_set k e Taken = inr refl

  pub outcome_gone : (k : ℕ) → Others (list_at ps os es taken) (list_at ps (map.remove os k) es taken) (InOutcome k)
  outcome_gone k (InOutcome q) = at_each (λ q. (InOutcome q ≡ InOutcome k) ⊎ (list_in outcome_list (map.get (map.remove os k) q) ≡ list_in outcome_list (map.get os q))) k (inl refl) (λ q far. inr (ap (list_in outcome_list) (get-remove_other os k q far))) q
  outcome_gone k (InPromise q) = inr refl
  outcome_gone k (InEmbargo q) = inr refl
  outcome_gone k Taken = inr refl

  pub embargo_set : (k : ℕ) (e : EmbargoEntry) → Others (list_at ps os es taken) (list_at ps os (map.insert es k e) taken) (InEmbargo k)
  embargo_set k e (InEmbargo q) = at_each (λ q. (InEmbargo q ≡ InEmbargo k) ⊎ (list_in embargo_list (map.get (map.insert es k e) q) ≡ list_in embargo_list (map.get es q))) k (inl refl) (λ q far. inr (ap (list_in embargo_list) (get-insert_other es k e q far))) q
  embargo_set k e (InPromise q) = inr refl
  embargo_set k e (InOutcome q) = inr refl
  embargo_set k e Taken = inr refl

  pub embargo_gone : (k : ℕ) → Others (list_at ps os es taken) (list_at ps os (map.remove es k) taken) (InEmbargo k)
  embargo_gone k (InEmbargo q) = at_each (λ q. (InEmbargo q ≡ InEmbargo k) ⊎ (list_in embargo_list (map.get (map.remove es k) q) ≡ list_in embargo_list (map.get es q))) k (inl refl) (λ q far. inr (ap (list_in embargo_list) (get-remove_other es k q far))) q
  embargo_gone k (InPromise q) = inr refl
  embargo_gone k (InOutcome q) = inr refl
  embargo_gone k Taken = inr refl

-- ---- A call is put

-- The list that a call is put in is that of no other place.
pub place_owned : (at : Owner → Option ℕ) (lists : Lists) (w : Owner) (list : Option ListKey) (l : ℕ) → IsOwned at lists → at w ≡ key_of list → IsPlace lists list l → (v : Owner) → at v ≡ Some l → v ≡ w
place_owned at lists w None l h is place v e = absurd (subst (λ (o : Option (List HeldCall)). HasCalls o) place (h.there v l e))
place_owned at lists w (Some j) l h is place v e = h.owned v w l e (is ∙ ap Some place)

-- The lists of other places stay.
pub lists_stay : (at : Owner → Option ℕ) (lists : Lists) (w : Owner) (l : ℕ) (calls : List HeldCall) → ((v : Owner) → at v ≡ Some l → v ≡ w) → (v : Owner) (j : ℕ) → v ≢ w → at v ≡ Some j → map.get (map.insert lists l calls) j ≡ map.get lists j
lists_stay at lists w l calls mine v j far e = get-insert_other lists l calls j (λ same. far (mine v (e ∙ ap Some same)))

pub owned_put : (at new : Owner → Option ℕ) (lists : Lists) (w : Owner) (l : ℕ) (calls : List HeldCall) → IsOwned at lists → Others at new w → new w ≡ Some l → ((v : Owner) → at v ≡ Some l → v ≡ w) → HasCalls (Some calls) → IsOwned new (map.insert lists l calls)
owned_put at new lists w l calls h others here mine some = record {
  owned = λ v u j a b. owned v u j (others v) (others u) a b;
  there = λ v j a. at_each (λ j. new v ≡ Some j → HasCalls (map.get (map.insert lists l calls) j)) l
      (λ e. subst (λ (o : Option (List HeldCall)). HasCalls o) (sym (get-insert_same lists l calls)) some)
      (λ j far e. subst (λ (o : Option (List HeldCall)). HasCalls o) (sym (get-insert_other lists l calls j far)) (there v j far (others v) e))
      j a;
}
  where
    owned : (v u : Owner) (j : ℕ) → (v ≡ w) ⊎ (new v ≡ at v) → (u ≡ w) ⊎ (new u ≡ at u) → new v ≡ Some j → new u ≡ Some j → v ≡ u
    owned v u j (inl e) (inl f) a b = e ∙ sym f
    owned v u j (inl e) (inr f) a b = e ∙ sym (mine u (sym f ∙ b ∙ sym a ∙ ap new e ∙ here))
    owned v u j (inr e) (inl f) a b = mine v (sym e ∙ a ∙ sym b ∙ ap new f ∙ here) ∙ sym f
    owned v u j (inr e) (inr f) a b = h.owned v u j (sym e ∙ a) (sym f ∙ b)

    there : (v : Owner) (j : ℕ) → j ≢ l → (v ≡ w) ⊎ (new v ≡ at v) → new v ≡ Some j → HasCalls (map.get lists j)
    there v j far (inl e) a = absurd (far (some_same j l (sym a ∙ ap new e ∙ here)))
    there v j far (inr e) a = h.there v j (sym e ∙ a)

pub some_calls : (xs : List HeldCall) (x : HeldCall) → HasCalls (Some (xs ++ x ∷ []))
some_calls [] x = tt
some_calls (y ∷ ys) x = tt

tally_put_by : (lists : Lists) (l : ℕ) (call : HeldCall) (o : Option (List HeldCall)) → map.get lists l ≡ o → tally length (map.insert lists l (unwrap_or o [] ++ call ∷ [])) ≡ tally length lists + 1
tally_put_by lists l call None free = let h = tally-new length lists l (call ∷ []) free in omega (arith, h)
tally_put_by lists l call (Some xs) there =
    let h = tally-insert length lists l (xs ++ call ∷ []) in let g = tally-split length lists l xs there in let a = length-append xs (call ∷ []) in
    omega (arith, h, g, a)

pub tally_put : (lists : Lists) (list : Option ListKey) (l : ℕ) (call : HeldCall) → IsPlace lists list l → tally length (map.insert lists l (calls_at lists list ++ call ∷ [])) ≡ tally length lists + 1
tally_put lists None l call place = tally_put_by lists l call None place
tally_put lists (Some j) l call place = ap (λ (i : ℕ). tally length (map.insert lists l (unwrap_or (map.get lists i) [] ++ call ∷ []))) place ∙ tally_put_by lists l call (map.get lists l) refl

-- ---- A place loses its list, or never had one

pub owned_fewer : (at new : Owner → Option ℕ) (lists : Lists) (w : Owner) → IsOwned at lists → Others at new w → new w ≡ None → IsOwned new lists
owned_fewer at new lists w h others here = record {
  owned = λ v u j a b. h.owned v u j (back v j (others v) a) (back u j (others u) b);
  there = λ v j a. h.there v j (back v j (others v) a);
}
  where
    back : (v : Owner) (j : ℕ) → (v ≡ w) ⊎ (new v ≡ at v) → new v ≡ Some j → at v ≡ Some j
    back v j (inl e) a = absurd (none_some j (sym here ∙ sym (ap new e) ∙ a))
    back v j (inr e) a = sym e ∙ a

-- The same lists stand in the same places.
pub owned_same : (at new : Owner → Option ℕ) (lists : Lists) (w : Owner) → IsOwned at lists → Others at new w → new w ≡ at w → IsOwned new lists
owned_same at new lists w h others here = record {
  owned = λ v u j a b. h.owned v u j (back v (others v) ∙ a) (back u (others u) ∙ b);
  there = λ v j a. h.there v j (back v (others v) ∙ a);
}
  where
    back : (v : Owner) → (v ≡ w) ⊎ (new v ≡ at v) → at v ≡ new v
    back v (inl e) = ap at e ∙ sym here ∙ sym (ap new e)
    back v (inr e) = sym e

-- ---- A list is taken out

-- Every place but these two keeps its list.
abbrev pub Moves : (Owner → Option ℕ) → (Owner → Option ℕ) → Owner → Type 0
Moves at new w = (v : Owner) → (v ≡ Taken) ⊎ ((v ≡ w) ⊎ (new v ≡ at v))

pub owned_taken : (at new : Owner → Option ℕ) (lists : Lists) (w : Owner) → IsOwned at lists → Moves at new w → at Taken ≡ None → new Taken ≡ at w → new w ≡ None → IsOwned new lists
owned_taken at new lists w h moves none out here = record {
  owned = λ v u j a b. owned v u j (moves v) (moves u) a b;
  there = λ v j a. there v j (moves v) a;
}
  where
    at_taken : (v : Owner) (j : ℕ) → v ≡ Taken → new v ≡ Some j → at w ≡ Some j
    at_taken v j e a = sym out ∙ sym (ap new e) ∙ a

    not_here : (v : Owner) (j : ℕ) → v ≡ w → ¬ (new v ≡ Some j)
    not_here v j e a = none_some j (sym here ∙ sym (ap new e) ∙ a)

    apart : (u : Owner) (j : ℕ) → at w ≡ Some j → new u ≡ at u → ¬ (new u ≡ Some j)
    apart u j a f b = not_here u j (h.owned u w j (sym f ∙ b) a) b

    owned : (v u : Owner) (j : ℕ) → (v ≡ Taken) ⊎ ((v ≡ w) ⊎ (new v ≡ at v)) → (u ≡ Taken) ⊎ ((u ≡ w) ⊎ (new u ≡ at u)) → new v ≡ Some j → new u ≡ Some j → v ≡ u
    owned v u j (inl e) (inl f) a b = e ∙ sym f
    owned v u j (inl e) (inr (inl f)) a b = absurd (not_here u j f b)
    owned v u j (inl e) (inr (inr f)) a b = absurd (apart u j (at_taken v j e a) f b)
    owned v u j (inr (inl e)) g a b = absurd (not_here v j e a)
    owned v u j (inr (inr e)) (inl f) a b = absurd (apart v j (at_taken u j f b) e a)
    owned v u j (inr (inr e)) (inr (inl f)) a b = absurd (not_here u j f b)
    owned v u j (inr (inr e)) (inr (inr f)) a b = h.owned v u j (sym e ∙ a) (sym f ∙ b)

    there : (v : Owner) (j : ℕ) → (v ≡ Taken) ⊎ ((v ≡ w) ⊎ (new v ≡ at v)) → new v ≡ Some j → HasCalls (map.get lists j)
    there v j (inl e) a = h.there w j (at_taken v j e a)
    there v j (inr (inl e)) a = absurd (not_here v j e a)
    there v j (inr (inr e)) a = h.there v j (sym e ∙ a)

-- With the taken list beside.
pub moves_with : (ps new_ps : Map PromiseEntry) (os new_os : Map OutcomeEntry) (es new_es : Map EmbargoEntry) (taken list : Option ListKey) (w : Owner)
    → Others (list_at ps os es taken) (list_at new_ps new_os new_es taken) w → Moves (list_at ps os es taken) (list_at new_ps new_os new_es list) w
moves_with ps new_ps os new_os es new_es taken list w others (InPromise q) = inr (others (InPromise q))
moves_with ps new_ps os new_os es new_es taken list w others (InOutcome q) = inr (others (InOutcome q))
moves_with ps new_ps os new_os es new_es taken list w others (InEmbargo q) = inr (others (InEmbargo q))
moves_with ps new_ps os new_os es new_es taken list w others Taken = inl refl

-- ---- The first call of the list that was taken out goes

abbrev pub KeyAfter : ListKey → Bool → Option ListKey
KeyAfter l true = Some l
KeyAfter l false = None

-- What a pop does to the list, and to no other.
pub record Popped (lists more : Lists) (l : ℕ) (call : HeldCall) (goes_on : Bool) : Type 0 where
  pub others : (j : ℕ) → j ≢ l → map.get more j ≡ map.get lists j
  pub first : unwrap_or (map.get lists l) [] ≡ call ∷ unwrap_or (map.get more l) []
  pub ends : goes_on ≡ false → map.get more l ≡ None
  pub stays : goes_on ≡ true → HasCalls (map.get more l)
  pub less : tally length lists ≡ tally length more + 1

pair_same : (x y : HeldCall) (a b : Bool) → ◌≡◌ {A = Option (HeldCall × Bool)} (Some (x, a)) (Some (y, b)) → (x ≡ y) × (a ≡ b)
pair_same x y a b e = let p : ◌≡◌ {A = HeldCall × Bool} (x, a) (y, b) = cc in (ap (λ (q : HeldCall × Bool). q.0) p, ap (λ (q : HeldCall × Bool). q.1) p)

pub popped : (lists more : Lists) (l : ℕ) (call : HeldCall) (goes_on : Bool) (o : Option (List HeldCall)) → map.get lists l ≡ o → PopsFirst lists l o (Some (call, goes_on)) more → Popped lists more l call goes_on
popped lists more l call goes_on None is h = absurd (let e : ◌≡◌ {A = Option (HeldCall × Bool)} (Some (call, goes_on)) None = h.0 in cc)
popped lists more l call goes_on (Some []) is h = absurd h
popped lists more l call goes_on (Some (x ∷ [])) is h =
    let same = pair_same call x goes_on false h.0 in
    let now : map.get more l ≡ None = ap (λ (m : Lists). map.get m l) h.1 ∙ get-remove_same lists l in
    let all = tally-split length lists l (x ∷ []) is in
    let left = ap (tally length) h.1 in
    record {
      others = λ j far. ap (λ (m : Lists). map.get m j) h.1 ∙ get-remove_other lists l j far;
      first = ap (λ (o : Option (List HeldCall)). unwrap_or o []) is ∙ ap (λ (y : HeldCall). y ∷ []) (sym same.0) ∙ ap (λ (o : Option (List HeldCall)). call ∷ unwrap_or o []) (sym now);
      ends = λ e. now;
      stays = λ e. absurd (let f : ◌≡◌ {A = Bool} true false = sym e ∙ same.1 in cc);
      less = omega (arith, all, left);
    }
popped lists more l call goes_on (Some (x ∷ y ∷ rest)) is h =
    let same = pair_same call x goes_on true h.0 in
    let now : map.get more l ≡ Some (y ∷ rest) = ap (λ (m : Lists). map.get m l) h.1 ∙ get-insert_same lists l (y ∷ rest) in
    let all = tally-split length lists l (x ∷ y ∷ rest) is in
    let left = ap (tally length) h.1 ∙ tally-insert length lists l (y ∷ rest) in
    record {
      others = λ j far. ap (λ (m : Lists). map.get m j) h.1 ∙ get-insert_other lists l (y ∷ rest) j far;
      first = ap (λ (o : Option (List HeldCall)). unwrap_or o []) is ∙ ap (λ (z : HeldCall). z ∷ y ∷ rest) (sym same.0) ∙ ap (λ (o : Option (List HeldCall)). call ∷ unwrap_or o []) (sym now);
      ends = λ e. absurd (let f : ◌≡◌ {A = Bool} true false = sym same.1 ∙ e in cc);
      stays = λ e. subst (λ (o : Option (List HeldCall)). HasCalls o) (sym now) tt;
      less = omega (arith, all, left);
    }

-- The lists of places that are not the one popped stay.
pub pop_stays : (at : Owner → Option ℕ) (lists more : Lists) (l : ℕ) (call : HeldCall) (goes_on : Bool) → IsOwned at lists → at Taken ≡ Some l → Popped lists more l call goes_on → (v : Owner) (j : ℕ) → v ≢ Taken → at v ≡ Some j → map.get more j ≡ map.get lists j
pop_stays at lists more l call goes_on h is p v j far e = p.others j (λ same. far (h.owned v Taken l (e ∙ ap Some same) is))

owned_popped : (ps : Map PromiseEntry) (os : Map OutcomeEntry) (es : Map EmbargoEntry) (l : ListKey) (lists more : Lists) (call : HeldCall) (goes_on : Bool)
    → IsOwned (list_at ps os es (Some l)) lists → Popped lists more l.0 call goes_on → IsOwned (list_at ps os es (KeyAfter l goes_on)) more
owned_popped ps os es l lists more call goes_on h p = record {
  owned = λ v u j a b. h.owned v u j (back goes_on v j a) (back goes_on u j b);
  there = λ v j a. there goes_on refl v j a;
}
  where
    back : (b : Bool) (v : Owner) (j : ℕ) → list_at ps os es (KeyAfter l b) v ≡ Some j → list_at ps os es (Some l) v ≡ Some j
    back b (InPromise q) j a = a
    back b (InOutcome q) j a = a
    back b (InEmbargo q) j a = a
    back true Taken j a = a
    back false Taken j a = absurd (none_some j a)

    other : (v : Owner) (j : ℕ) → v ≢ Taken → list_at ps os es (Some l) v ≡ Some j → HasCalls (map.get more j)
    other v j far e = subst (λ (o : Option (List HeldCall)). HasCalls o) (sym (pop_stays (list_at ps os es (Some l)) lists more l.0 call goes_on h refl p v j far e)) (h.there v j e)

    there : (b : Bool) → goes_on ≡ b → (v : Owner) (j : ℕ) → list_at ps os es (KeyAfter l b) v ≡ Some j → HasCalls (map.get more j)
    there b e (InPromise q) j a = other (InPromise q) j (λ same. cc) a
    there b e (InOutcome q) j a = other (InOutcome q) j (λ same. cc) a
    there b e (InEmbargo q) j a = other (InEmbargo q) j (λ same. cc) a
    there true e Taken j a = subst (λ (i : ℕ). HasCalls (map.get more i)) (some_same l.0 j a) (p.stays e)
    there false e Taken j a = absurd (none_some j a)

-- For the fields as they are.
pub owned_next : (ps : Map PromiseEntry) (os : Map OutcomeEntry) (es : Map EmbargoEntry) (taken next : Option ListKey) (l : ListKey) (lists more : Lists) (call : HeldCall) (goes_on b : Bool)
    → taken ≡ Some l → goes_on ≡ b → next ≡ KeyAfter l b → PopsFirst lists l.0 (map.get lists l.0) (Some (call, goes_on)) more → IsOwned (list_at ps os es taken) lists → IsOwned (list_at ps os es next) more
owned_next ps os es taken next l lists more call goes_on b is e f p h =
    subst (λ (o : Option ListKey). IsOwned (list_at ps os es o) more) (ap (KeyAfter l) e ∙ sym f)
    (owned_popped ps os es l lists more call goes_on (subst (λ (o : Option ListKey). IsOwned (list_at ps os es o) lists) is h) (popped lists more l.0 call goes_on (map.get lists l.0) refl p))
