-- Walks from the capabilities of an outcome: what they come to, and what is kept of it.
use Rattle.std.proofs.lemmas.List.{drop_all, drop_more, drop-set, get_or-set_same, get_or-set_other}
use Rattle.std.proofs.Common.{◌≡◌, ◌<◌, ◌≤◌, ◌++◌, ◌⊎◌, inl, inr, ℕ, zero, suc, Bool, true, false, cond, nat_eq, List, [], ◌∷◌, Option, None, Some, unwrap_or, get_or, drop, set, length, ◌+◌, refl, sym, ap, subst, ◌∙◌, arith}
use Rattle.std.specs.FinMap as map
use Rattle.finite_maps.specs.Tally.{Map}
use Rattle.finite_maps.proofs.Gets.{get-insert_same, get-insert_other}
use Rattle.finite_maps.proofs.Tested.{equal, apart, itself, get_put}
use Rattle.rpc_msg.specs.Op.{Op}
use Rattle.rpc_msg.specs.CapAt.{CapAt}
use Rattle.rpc_msg.specs.CapAt.TheVariants.{Cap, Null, NotCap}
use Rattle.rpc_msg.specs.Payloads.{Contents as Payload}
use Rattle.rpc_machine.specs.Payloads.{cap_at}
use Rattle.rpc_machine.specs.declared.node.Node.{Node}
use Rattle.rpc_machine.specs.declared.node.Node.TheVariants as node
use Rattle.rpc_machine.specs.declared.node.Reason.{Reason}
use Rattle.rpc_machine.specs.declared.node.Reason.TheVariants.{NotACapability, NullCapability}
use Rattle.rpc_machine.specs.declared.calls.Caller.{Caller}
use Rattle.rpc_machine.specs.declared.calls.HeldCall.{HeldCall}
use Rattle.rpc_machine.specs.declared.calls.KeptOutcome.{KeptOutcome}
use Rattle.rpc_machine.specs.declared.calls.Promise.{Promise}
use Rattle.rpc_machine.specs.declared.calls.Promise.TheVariants as promise
use Rattle.rpc_machine.specs.declared.calls.Value.{Value}
use Rattle.rpc_machine.specs.declared.calls.Value.TheVariants as value
use Rattle.rpc_machine.specs.State.{State}
use Rattle.rpc_machine.specs.Nodes.{link, next, follow, node_of_cap, field_of, field_link, promise_link, value_of}
use Rattle.rpc_machine.specs.Settling.{known, TurnsBack, absent, behind}
use Rattle.core_waits.specs.Links as ways
use Rattle.core_step_settles.specs.Circles.{Turns, NeverTurns, cap_of, with_promise}
use Rattle.core_step_settles.specs.Ends.{standing, LeadsIn, Leads, IsBefore, EndsAt, is_at, end_at, Falls, KnowsEnds, IsKept, KeepsEnds, ComesTo, FindsEnd, Walked, WalksTo, path_in, is_in}

-- ---- A walk

abbrev path_of : Node → List Op
path_of (node.Object x) = []
path_of (node.Promise p) = []
path_of (node.Field k path) = path
path_of (node.Import e) = []
path_of (node.Pipe q path) = []
path_of (node.Broken reason) = []

abbrev index_of : CapAt → ℕ
index_of (Cap j) = j
index_of Null = 0
index_of NotCap = 0

module _ (t : State) (o : ℕ) (payload : Payload) where
  before : (j : ℕ) (n : Node) → TurnsBack t o payload j (next t n) → TurnsBack t o payload j n
  before j n h = (suc h.0, h.1, h.2, h.3)

  via : (j k : ℕ) (n m : Node) → follow t k n ≡ m → TurnsBack t o payload j m → TurnsBack t o payload j n
  via j zero n m e h = subst (λ (x : Node). TurnsBack t o payload j x) (sym e) h
  via j (suc k) n m e h = before j n (via j k (next t n) m e h)

  stuck : (k : ℕ) (n : Node) → next t n ≡ n → follow t k n ≡ n
  stuck zero n e = refl
  stuck (suc k) n e = ap (follow t k) e ∙ stuck k n e

  never_broken : (j : ℕ) (r : Reason) → ¬ (TurnsBack t o payload j (node.Broken r))
  never_broken j r = λ h. let e : node.Broken r ≡ node.Field o h.1 = sym (stuck h.0 (node.Broken r) refl) ∙ h.2 in cc

  abbrev TurnsFrom : ℕ → Option Node → Type 0
  TurnsFrom j None = ⊥
  TurnsFrom j (Some n) = TurnsBack t o payload j n

  walks_on : (j k : ℕ) (n : Node) (l : Option Node) → link t n ≡ l → (path : List Op) → follow t k n ≡ node.Field o path → cap_at payload path ≡ Cap j → is_in o n ≡ false → TurnsFrom j l
  walks_on j zero n l e path f c off = absurd (let h : true ≡ false = sym (itself o) ∙ ap (is_in o) (sym f) ∙ off in cc)
  walks_on j (suc k) n None e path f c off =
      let stay : next t n ≡ n = ap (λ (l : Option Node). unwrap_or l n) e in
      walks_on j k n None e path (ap (follow t k) (sym stay) ∙ f) c off
  walks_on j (suc k) n (Some m) e path f c off =
      let then : next t n ≡ m = ap (λ (l : Option Node). unwrap_or l n) e in
      (k, path, ap (follow t k) (sym then) ∙ f, c)

  turns_on : (j : ℕ) (n : Node) (l : Option Node) → link t n ≡ l → is_in o n ≡ false → TurnsBack t o payload j n → TurnsFrom j l
  turns_on j n l e off h = walks_on j h.0 n l e h.1 h.2 h.3 off

  turns_from : (j : ℕ) (n m : Node) → link t n ≡ Some m → TurnsBack t o payload j m → TurnsBack t o payload j n
  turns_from j n m e h =
      let then : next t n ≡ m = ap (λ (l : Option Node). unwrap_or l n) e in
      before j n (subst (λ (x : Node). TurnsBack t o payload j x) (sym then) h)

-- ---- By the fields of one outcome

module _ (t : State) (o : ℕ) (payload : Payload) (i : ℕ) (c : ℕ → Node) (leads : (path : List Op) (j : ℕ) → cap_at payload path ≡ Cap j → next t (node.Field o path) ≡ c j) where
  goes_on : (j l : ℕ) (n : Node) → TurnsBack t o payload j n → TurnsBack t o payload l (c j) → TurnsBack t o payload l n
  goes_on j l n h g =
      via t o payload l h.0 n (node.Field o h.1) h.2
      (before t o payload l (node.Field o h.1) (subst (λ (x : Node). TurnsBack t o payload l x) (sym (leads h.1 j h.3)) g))

  from_field : (l j k : ℕ) (path p : List Op) → cap_at payload path ≡ Cap j → follow t k (node.Field o path) ≡ node.Field o p → cap_at payload p ≡ Cap l → (l ≡ j) ⊎ TurnsBack t o payload l (c j)
  from_field l j zero path p e f g = inl (ap index_of (sym g ∙ ap (cap_at payload) (sym (ap path_of f)) ∙ e))
  from_field l j (suc k) path p e f g = inr (subst (λ (x : Node). TurnsBack t o payload l x) (leads path j e) (k, p, f, g))

  module _ (gone : (j : ℕ) → j < i → c j ≡ node.Broken NotACapability) where
    both : (l j m k : ℕ) (n : Node) (path p : List Op) → l < i → follow t m n ≡ node.Field o p → cap_at payload p ≡ Cap l → follow t k n ≡ node.Field o path → cap_at payload path ≡ Cap j → (l ≡ j) ⊎ TurnsBack t o payload l (c j)
    both l j m zero n path p h f e g d = from_field l j m path p d (subst (λ (x : Node). follow t m x ≡ node.Field o p) g f) e
    both l j zero (suc k) n path p h f e g d =
        let stops : next t n ≡ node.Broken NotACapability = ap (next t) f ∙ leads p l e ∙ gone l h in
        absurd (never_broken t o payload j NotACapability (subst (λ (x : Node). TurnsBack t o payload j x) stops (k, path, g, d)))
    both l j (suc m) (suc k) n path p h f e g d = both l j m k (next t n) path p h f e g d

    through : (l j : ℕ) (n : Node) → l < i → i ≤ j → TurnsBack t o payload j n → TurnsBack t o payload l n → TurnsBack t o payload l (c j)
    through l j n h far to a = on (both l j a.0 to.0 n to.1 a.1 h a.2 a.3 to.2 to.3)
      where
        on : (l ≡ j) ⊎ TurnsBack t o payload l (c j) → TurnsBack t o payload l (c j)
        on (inl e) = absurd (omega (arith, h, far, e))
        on (inr g) = g

    only_one : (l j : ℕ) (n : Node) → l < i → j < i → TurnsBack t o payload l n → TurnsBack t o payload j n → l ≡ j
    only_one l j n h g a b = on (both l j a.0 b.0 n b.1 a.1 h a.2 a.3 b.2 b.3)
      where
        on : (l ≡ j) ⊎ TurnsBack t o payload l (c j) → l ≡ j
        on (inl e) = e
        on (inr x) = absurd (never_broken t o payload l NotACapability (subst (λ (m : Node). TurnsBack t o payload l m) (gone j g) x))

    -- What the walk from there comes to, that from here does.
    joined : (m : Node) (j : ℕ) (end : Option ℕ) → i ≤ j → TurnsBack t o payload j m → LeadsIn t o payload i (c j) end → LeadsIn t o payload i m end
    joined m j None far to h = λ l b a. h l b (through l j m b far to a)
    joined m j (Some l) far to h = goes_on j l m to h

-- ---- The links of an outcome that is known

own_next : (s : State) (o : ℕ) (who : Caller) (w : List HeldCall) (v : Value) (path : List Op) → next (known s o who w v) (node.Field o path) ≡ field_of v path
own_next s o who w v path =
    ap (λ (x : Option KeptOutcome). unwrap_or (field_link path (value_of x)) (node.Field o path)) (get-insert_same s.outcomes o (record { caller = who; value = Some v; waiting = w }))

other_link : (s : State) (o : ℕ) (who : Caller) (w : List HeldCall) (v : Value) (k : ℕ) (path : List Op) → ¬ (k ≡ o) → link (known s o who w v) (node.Field k path) ≡ link s (node.Field k path)
other_link s o who w v k path e = ap (λ (x : Option KeptOutcome). field_link path (value_of x)) (get-insert_other s.outcomes o (record { caller = who; value = Some v; waiting = w }) k e)

link_same : (s : State) (o : ℕ) (who : Caller) (w : List HeldCall) (v : Value) (n : Node) → is_in o n ≡ false → link (known s o who w v) n ≡ link s n
link_same s o who w v (node.Object x) e = refl
link_same s o who w v (node.Promise p) e = refl
link_same s o who w v (node.Field k path) e = other_link s o who w v k path (apart k o e)
link_same s o who w v (node.Import x) e = refl
link_same s o who w v (node.Pipe q path) e = refl
link_same s o who w v (node.Broken reason) e = refl

absent_at : (i : ℕ) (rest : List Node) (j : ℕ) → j < i → cap_of (absent i ++ rest) j ≡ node.Broken NotACapability
absent_at zero rest j h = absurd (omega (arith, h))
absent_at (suc i) rest zero h = refl
absent_at (suc i) rest (suc j) h = absent_at i rest j (omega (arith, h))

module _ (s : State) (o : ℕ) (payload : Payload) (i : ℕ) (rest : List Node) (who : Caller) (w : List HeldCall) where
  field_leads : (path : List Op) (j : ℕ) → cap_at payload path ≡ Cap j → next (standing s o who w payload i rest) (node.Field o path) ≡ cap_of (absent i ++ rest) j
  field_leads path j e = own_next s o who w (value.Results payload (absent i ++ rest)) path ∙ ap (node_of_cap (absent i ++ rest)) e

  end_joined : (m : Node) (j : ℕ) (end : Option ℕ) → i ≤ j → TurnsBack (standing s o who w payload i rest) o payload j m → LeadsIn (standing s o who w payload i rest) o payload i (cap_of (absent i ++ rest) j) end
      → LeadsIn (standing s o who w payload i rest) o payload i m end
  end_joined m j end = joined (standing s o who w payload i rest) o payload i (cap_of (absent i ++ rest)) field_leads (absent_at i rest) m j end

  comes_one : (l j : ℕ) (n : Node) → l < i → j < i → TurnsBack (standing s o who w payload i rest) o payload l n → TurnsBack (standing s o who w payload i rest) o payload j n → l ≡ j
  comes_one l j n = only_one (standing s o who w payload i rest) o payload i (cap_of (absent i ++ rest)) field_leads (absent_at i rest) l j n

-- ---- One capability more stands

abbrev IsField : ℕ → Payload → ℕ → Node → Type 0
IsField o payload i n = (path : List Op) × (n ≡ node.Field o path) × (cap_at payload path ≡ Cap i)

module _ (t u : State) (o : ℕ) (payload : Payload) (i : ℕ) (alike : (n : Node) → (next t n ≡ next u n) ⊎ IsField o payload i n) where
  came_on : (l : ℕ) (n : Node) → (TurnsBack t o payload l (next u n) ⊎ TurnsBack t o payload i (next u n)) → ((next t n ≡ next u n) ⊎ IsField o payload i n) → (TurnsBack t o payload l n ⊎ TurnsBack t o payload i n)
  came_on l n (inl a) (inl same) = inl (before t o payload l n (subst (λ (x : Node). TurnsBack t o payload l x) (sym same) a))
  came_on l n (inr a) (inl same) = inr (before t o payload i n (subst (λ (x : Node). TurnsBack t o payload i x) (sym same) a))
  came_on l n a (inr is) = inr (0, is.0, is.1, is.2)

  came : (l k : ℕ) (n : Node) (path : List Op) → follow u k n ≡ node.Field o path → cap_at payload path ≡ Cap l → (TurnsBack t o payload l n ⊎ TurnsBack t o payload i n)
  came l zero n path f e = inl (0, path, f, e)
  came l (suc k) n path f e = came_on l n (came l k (next u n) path f e) (alike n)

  module _ (gone : (n : Node) → IsField o payload i n → next t n ≡ node.Broken NotACapability) where
    comes_on : (l k : ℕ) (n : Node) (path : List Op) → follow t k (next t n) ≡ node.Field o path → cap_at payload path ≡ Cap l → ((m : Node) → follow t k m ≡ node.Field o path → TurnsBack u o payload l m)
        → ((next t n ≡ next u n) ⊎ IsField o payload i n) → TurnsBack u o payload l n
    comes_on l k n path f e again (inl same) = before u o payload l n (subst (λ (x : Node). TurnsBack u o payload l x) same (again (next t n) f))
    comes_on l k n path f e again (inr is) =
        absurd (never_broken t o payload l NotACapability (subst (λ (x : Node). TurnsBack t o payload l x) (gone n is) (k, path, f, e)))

    comes : (l k : ℕ) (n : Node) (path : List Op) → follow t k n ≡ node.Field o path → cap_at payload path ≡ Cap l → TurnsBack u o payload l n
    comes l zero n path f e = (0, path, f, e)
    comes l (suc k) n path f e = comes_on l k n path f e (λ (m : Node) g. comes l k m path g e) (alike n)

    leads_still : (n : Node) (end : Option ℕ) → LeadsIn t o payload (suc i) n end → LeadsIn u o payload i n end
    leads_still n None h = λ j b a. never j b (came j a.0 n a.1 a.2 a.3)
      where
        never : (j : ℕ) → j < i → (TurnsBack t o payload j n ⊎ TurnsBack t o payload i n) → ⊥
        never j b (inl x) = h j (omega (arith, b)) x
        never j b (inr x) = h i (omega arith) x
    leads_still n (Some j) h = comes j h.0 n h.1 h.2 h.3

put_same : (i : ℕ) (n : Node) (rest : List Node) → cap_of (absent i ++ n ∷ rest) i ≡ n
put_same zero n rest = refl
put_same (suc i) n rest = put_same i n rest

put_other : (i j : ℕ) (n : Node) (rest : List Node) → ¬ (j ≡ i) → cap_of (absent (suc i) ++ rest) j ≡ cap_of (absent i ++ n ∷ rest) j
put_other zero zero n rest other = absurd (other refl)
put_other zero (suc j) n rest other = refl
put_other (suc i) zero n rest other = refl
put_other (suc i) (suc j) n rest other = put_other i j n rest (λ e. other (ap suc e))

beyond : (i j : ℕ) → i ≤ j → nat_eq j i ≡ false → suc i ≤ j
beyond i j h e = grind (arith)

module _ (s z : State) (o : ℕ) (payload : Payload) (i : ℕ) (rest : List Node) (n : Node) (promises : (p : ℕ) → promise_link (map.get s.promises p) ≡ promise_link (map.get z.promises p)) (outcomes : s.outcomes ≡ z.outcomes) where
  abbrev IsAlike : Caller → List HeldCall → Node → Type 0
  IsAlike who w m = (next (standing s o who w payload (suc i) rest) m ≡ next (standing z o who w payload i (n ∷ rest)) m) ⊎ IsField o payload i m

  at_cap : (path : List Op) (a : CapAt) → cap_at payload path ≡ a → ((node_of_cap (absent (suc i) ++ rest) a ≡ node_of_cap (absent i ++ n ∷ rest) a) ⊎ IsField o payload i (node.Field o path))
  at_cap path Null e = inl refl
  at_cap path NotCap e = inl refl
  at_cap path (Cap j) e = by (nat_eq j i) refl
    where
      by : (b : Bool) → nat_eq j i ≡ b → ((cap_of (absent (suc i) ++ rest) j ≡ cap_of (absent i ++ n ∷ rest) j) ⊎ IsField o payload i (node.Field o path))
      by true same = inr (path, refl, e ∙ ap Cap (equal j i same))
      by false other = inl (put_other i j n rest (apart j i other))

  in_own : (who : Caller) (w : List HeldCall) (path : List Op) → ((node_of_cap (absent (suc i) ++ rest) (cap_at payload path) ≡ node_of_cap (absent i ++ n ∷ rest) (cap_at payload path)) ⊎ IsField o payload i (node.Field o path))
      → IsAlike who w (node.Field o path)
  in_own who w path (inl e) =
      inl (own_next s o who w (value.Results payload (absent (suc i) ++ rest)) path ∙ e ∙ sym (own_next z o who w (value.Results payload (absent i ++ n ∷ rest)) path))
  in_own who w path (inr is) = inr is

  in_fields : (who : Caller) (w : List HeldCall) (k : ℕ) (path : List Op) (b : Bool) → nat_eq k o ≡ b → IsAlike who w (node.Field k path)
  in_fields who w k path true e = subst (λ (j : ℕ). IsAlike who w (node.Field j path)) (sym (equal k o e)) (in_own who w path (at_cap path (cap_at payload path) refl))
  in_fields who w k path false e =
      inl (ap (λ (l : Option Node). unwrap_or l (node.Field k path))
      (other_link s o who w (value.Results payload (absent (suc i) ++ rest)) k path (apart k o e)
      ∙ ap (λ (m : Map KeptOutcome). field_link path (value_of (map.get m k))) outcomes
      ∙ sym (other_link z o who w (value.Results payload (absent i ++ n ∷ rest)) k path (apart k o e))))

  alike_but : (who : Caller) (w : List HeldCall) (m : Node) → IsAlike who w m
  alike_but who w (node.Object x) = inl refl
  alike_but who w (node.Promise p) = inl (ap (λ (l : Option Node). unwrap_or l (node.Promise p)) (promises p))
  alike_but who w (node.Field k path) = in_fields who w k path (nat_eq k o) refl
  alike_but who w (node.Import e) = inl refl
  alike_but who w (node.Pipe q path) = inl refl
  alike_but who w (node.Broken reason) = inl refl

  field_gone : (who : Caller) (w : List HeldCall) (m : Node) → IsField o payload i m → next (standing s o who w payload (suc i) rest) m ≡ node.Broken NotACapability
  field_gone who w m is =
      ap (next (standing s o who w payload (suc i) rest)) is.1 ∙ field_leads s o payload (suc i) rest who w is.0 i is.2 ∙ absent_at (suc i) rest i (omega arith)

  still : (m : Node) (end : Option ℕ) → Leads s o payload (suc i) rest m end → Leads z o payload i (n ∷ rest) m end
  still m end h = λ who w.
      leads_still (standing s o who w payload (suc i) rest) (standing z o who w payload i (n ∷ rest)) o payload i (alike_but who w) (field_gone who w) m end (h who w)

  knows_more : (end : Option ℕ) (ends new : List (Option ℕ)) → KnowsEnds s o payload (suc i) rest ends → Leads z o payload i (n ∷ rest) n end → IsKept i end ends new → KnowsEnds z o payload i (n ∷ rest) new
  knows_more end ends new knows here kept j far =
      subst (λ (e : Option ℕ). Leads z o payload i (n ∷ rest) (cap_of (absent i ++ n ∷ rest) j) e) (sym (kept j)) (by (nat_eq j i) refl)
    where
      by : (b : Bool) → nat_eq j i ≡ b → Leads z o payload i (n ∷ rest) (cap_of (absent i ++ n ∷ rest) j) (cond b end (end_at ends j))
      by true e =
          subst (λ (m : Node). Leads z o payload i (n ∷ rest) m end) (sym (ap (cap_of (absent i ++ n ∷ rest)) (equal j i e) ∙ put_same i n rest)) here
      by false e =
          subst (λ (m : Node). Leads z o payload i (n ∷ rest) m (end_at ends j)) (put_other i j n rest (apart j i e))
          (still (cap_of (absent (suc i) ++ rest) j) (end_at ends j) (knows j (beyond i j far e)))

-- ---- The capability that is put in place

module _ (s : State) (o : ℕ) (payload : Payload) (i : ℕ) (rest : List Node) (n : Node) where
  pub turns_at : (end : Option ℕ) → EndsAt s o payload (suc i) rest n end → is_at i end ≡ true → Turns s o payload i rest n
  turns_at None h e = absurd (let f : false ≡ true = e in cc)
  turns_at (Some j) h e = λ who w. subst (λ (l : ℕ). TurnsBack (behind s o who w payload i rest) o payload l n) (equal j i e) (h.1 who w)

  pub not_at : (end : Option ℕ) → EndsAt s o payload (suc i) rest n end → is_at i end ≡ false → NeverTurns s o payload i rest n
  not_at None h e = λ who w a. h.1 who w i (omega arith) a
  not_at (Some j) h e = λ who w a. apart j i e (comes_one s o payload (suc i) rest who w j i n h.0 (omega arith) (h.1 who w) a)

  -- It stays.
  pub knows_left : (end : Option ℕ) (ends new : List (Option ℕ)) → KnowsEnds s o payload (suc i) rest ends → EndsAt s o payload (suc i) rest n end → IsKept i end ends new → KnowsEnds s o payload i (n ∷ rest) new
  knows_left end ends new knows h kept =
      knows_more s s o payload i rest n (λ p. refl) refl end ends new knows (still s s o payload i rest n (λ p. refl) refl n end h.1) kept

  pub before_left : (end : Option ℕ) → EndsAt s o payload (suc i) rest n end → is_at i end ≡ false → IsBefore i end
  before_left None h e = tt
  before_left (Some j) h e = beyond_not j i h.0 e
    where
      beyond_not : (j i : ℕ) → j < suc i → nat_eq j i ≡ false → j < i
      beyond_not j i h e = grind (arith)

same_links : (m : Map Promise) (p : ℕ) → map.get m p ≡ None → (q : ℕ) → promise_link (map.get m q) ≡ promise_link (map.get (map.insert m p (promise.Open [])) q)
same_links m p free q = by (nat_eq q p) refl ∙ sym (ap promise_link (get_put m p (promise.Open []) q))
  where
    by : (b : Bool) → nat_eq q p ≡ b → promise_link (map.get m q) ≡ promise_link (cond b (Some (promise.Open [])) (map.get m q))
    by true e = ap promise_link (ap (map.get m) (equal q p e) ∙ free)
    by false e = refl

module _ (s : State) (o : ℕ) (payload : Payload) (i : ℕ) (rest : List Node) (p : ℕ) (free : map.get s.promises p ≡ None) where
  open_ends : Leads (with_promise s p) o payload i (node.Promise p ∷ rest) (node.Promise p) None
  open_ends = λ who w j b a.
      let t : State = standing (with_promise s p) o who w payload i (node.Promise p ∷ rest) in
      let stays : next t (node.Promise p) ≡ node.Promise p = ap (λ (x : Option Promise). unwrap_or (promise_link x) (node.Promise p)) (get-insert_same s.promises p (promise.Open [])) in
      let e : node.Promise p ≡ node.Field o a.1 = sym (stuck t o payload a.0 (node.Promise p) stays) ∙ a.2 in
      cc

  -- An open promise takes its place.
  pub knows_turned : (ends new : List (Option ℕ)) → KnowsEnds s o payload (suc i) rest ends → IsKept i None ends new → KnowsEnds (with_promise s p) o payload i (node.Promise p ∷ rest) new
  knows_turned ends new knows kept =
      knows_more s (with_promise s p) o payload i rest (node.Promise p) (same_links s.promises p free) refl None ends new knows open_ends kept

-- ---- What is kept

none_stands : (i j : ℕ) → cap_of (absent i ++ []) j ≡ node.Broken NotACapability
none_stands zero j = refl
none_stands (suc i) zero = refl
none_stands (suc i) (suc j) = none_stands i j

knows_none : (s : State) (o : ℕ) (payload : Payload) (i : ℕ) → KnowsEnds s o payload i [] []
knows_none s o payload i j far = λ who w.
    by who w (end_at [] j) (past j)
  where
    past : (j : ℕ) → end_at [] j ≡ None
    past j = refl

    by : (who : Caller) (w : List HeldCall) (end : Option ℕ) → end ≡ None → LeadsIn (standing s o who w payload i []) o payload i (cap_of (absent i ++ []) j) end
    by who w None e = λ l b a.
        never_broken (standing s o who w payload i []) o payload l NotACapability
        (subst (λ (m : Node). TurnsBack (standing s o who w payload i []) o payload l m) (none_stands i j) a)
    by who w (Some l) e = absurd (let f : Some l ≡ None = e in cc)

-- Before any stands.
pub knows_first : (s : State) (o : ℕ) (payload : Payload) (now : List Node) (n : ℕ) (ends : List (Option ℕ)) → n ≡ length now → ends ≡ [] → KnowsEnds s o payload n (drop n now) ends
knows_first s o payload now n ends e is =
    subst (λ (r : List Node). KnowsEnds s o payload n r ends) (sym (drop_all n now (omega (arith, e))))
    (subst (λ (xs : List (Option ℕ)). KnowsEnds s o payload n [] xs) (sym is) (knows_none s o payload n))

pub falls_first : (ends : List (Option ℕ)) → ends ≡ [] → Falls ends
falls_first ends is = subst Falls (sym is) (λ j. tt)

lower : (i j : ℕ) (end : Option ℕ) → i ≤ j → IsBefore i end → IsBefore j end
lower i j None h b = tt
lower i j (Some l) h b = omega (arith, h, b)

pub falls_kept : (i : ℕ) (end : Option ℕ) (ends new : List (Option ℕ)) → Falls ends → IsBefore i end → IsKept i end ends new → Falls new
falls_kept i end ends new falls b kept j = subst (λ (e : Option ℕ). IsBefore j e) (sym (kept j)) (by (nat_eq j i) refl)
  where
    by : (c : Bool) → nat_eq j i ≡ c → IsBefore j (cond c end (end_at ends j))
    by true e = subst (λ (l : ℕ). IsBefore l end) (sym (equal j i e)) b
    by false e = falls j

module _ (at index further : ℕ) (ends new : List (Option ℕ)) (falls : Falls ends) (leads : end_at ends index ≡ Some further) (kept : IsKept index (end_at ends further) ends new) where
  pub falls_short : Falls new
  falls_short =
      let b : further < index = subst (λ (e : Option ℕ). IsBefore index e) leads (falls index) in
      falls_kept index (end_at ends further) ends new falls (lower further index (end_at ends further) (omega (arith, b)) (falls further)) kept

  pub keeps_short : at < index → at < further → KeepsEnds (suc at) ends new
  keeps_short far further_far = λ s o payload rest knows j beyond_at.
      subst (λ (e : Option ℕ). Leads s o payload (suc at) rest (cap_of (absent (suc at) ++ rest) j) e) (sym (kept j)) (by s o payload rest knows j beyond_at (nat_eq j index) refl)
    where
      by : (s : State) (o : ℕ) (payload : Payload) (rest : List Node) → KnowsEnds s o payload (suc at) rest ends → (j : ℕ) → suc at ≤ j → (b : Bool) → nat_eq j index ≡ b → Leads s o payload (suc at) rest (cap_of (absent (suc at) ++ rest) j) (cond b (end_at ends further) (end_at ends j))
      by s o payload rest knows j beyond_at true e = λ who w.
          end_joined s o payload (suc at) rest who w (cap_of (absent (suc at) ++ rest) j) further (end_at ends further) (omega (arith, further_far))
          (subst (λ (x : Option ℕ). LeadsIn (standing s o who w payload (suc at) rest) o payload (suc at) (cap_of (absent (suc at) ++ rest) j) x) (ap (end_at ends) (equal j index e) ∙ leads) (knows j beyond_at who w))
          (knows further (omega (arith, further_far)) who w)
      by s o payload rest knows j beyond_at false e = knows j beyond_at

-- ---- From the end to the front

one_more : (j : ℕ) → j + 1 ≡ suc j
one_more j = omega arith

module _ (t : State) (o : ℕ) (payload : Payload) (now : List Node) (j : ℕ) (within : j < length now) (ends new : List (Option ℕ)) (knows : KnowsEnds t o payload (suc j) (drop (suc j) now) ends) where
  pub knows_next : (n : Node) (end : Option ℕ) → get_or now j n ≡ n → EndsAt t o payload (suc j) (drop (suc j) now) n end → IsKept j end ends new → KnowsEnds t o payload j (drop j now) new
  knows_next n end g h kept =
      let split : drop j now ≡ n ∷ drop (suc j) now = drop_more now j n within ∙ ap (λ (m : Node). m ∷ drop (j + 1) now) g ∙ ap (λ (k : ℕ). n ∷ drop k now) (one_more j) in
      subst (λ (xs : List Node). KnowsEnds t o payload j xs new) (sym split) (knows_left t o payload j (drop (suc j) now) n end ends new knows h kept)

  pub knows_next_turned : (p : ℕ) (u : State) → map.get t.promises p ≡ None → u ≡ with_promise t p → IsKept j None ends new → KnowsEnds u o payload j (drop j (set now j (node.Promise p))) new
  knows_next_turned p u free made kept =
      subst (λ (v : State). KnowsEnds v o payload j (drop j (set now j (node.Promise p))) new) (sym made)
      (subst (λ (xs : List Node). KnowsEnds (with_promise t p) o payload j xs new) (sym (drop-set now j (node.Promise p) within ∙ ap (λ (k : ℕ). node.Promise p ∷ drop k now) (one_more j)))
      (knows_turned t o payload j (drop (suc j) now) p free ends new knows kept))

-- ---- An end that is looked for

pub comes_first : (i : ℕ) (ends : List (Option ℕ)) (index : ℕ) → ComesTo i ends index index
comes_first i ends index = λ s o payload rest path knows e who w. (0, path, refl, e)

pub keeps_on : (i : ℕ) (a b c : List (Option ℕ)) → KeepsEnds i a b → KeepsEnds i b c → KeepsEnds i a c
keeps_on i a b c f g = λ s o payload rest knows. g s o payload rest (f s o payload rest knows)

module _ (i : ℕ) (ends now : List (Option ℕ)) (index found : ℕ) (comes_to : ComesTo i ends index found) where
  joins : (end : Option ℕ) → KeepsEnds i ends now → i ≤ found → end_at now found ≡ end → (s : State) (o : ℕ) (payload : Payload) (rest : List Node) (path : List Op) → KnowsEnds s o payload i rest ends → cap_at payload path ≡ Cap index → Leads s o payload i rest (node.Field o path) end
  joins end keeps far is s o payload rest path knows e = λ who w.
      end_joined s o payload i rest who w (node.Field o path) found end far (comes_to s o payload rest path knows e who w)
      (subst (λ (x : Option ℕ). LeadsIn (standing s o who w payload i rest) o payload i (cap_of (absent i ++ rest) found) x) is (keeps s o payload rest knows found far who w))

  pub comes_further : (further : ℕ) → KeepsEnds i ends now → i ≤ found → end_at now found ≡ Some further → ComesTo i ends index further
  comes_further further keeps far is = joins (Some further) keeps far is

  pub finds_none : KeepsEnds i ends now → i ≤ found → end_at now found ≡ None → FindsEnd i ends index None
  finds_none keeps far is = λ s o payload rest path knows e. (tt, joins None keeps far is s o payload rest path knows e)

  pub finds_there : found < i → FindsEnd i ends index (Some found)
  finds_there b = λ s o payload rest path knows e. (b, comes_to s o payload rest path knows e)

-- ---- A walk by links elsewhere

module _ (s : State) (o : ℕ) (n : Node) where
  pub not_gone : Walked s o n n
  not_gone = λ who w v payload j. (λ h. h, λ h. h)

  pub goes_further : (m l : Node) → Walked s o n m → is_in o m ≡ false → Some l ≡ link s m → Walked s o n l
  goes_further m l walked off leads = λ who w v payload j.
      let t : State = known s o who w v in
      let e : link t m ≡ Some l = link_same s o who w v m off ∙ sym leads in
      let k = walked who w v payload j in (λ h. k.0 (turns_from t o payload j m l e h), λ h. turns_on t o payload j m (Some l) e off (k.1 h))

  -- A node that leads on is not in the outcome, which is not known.
  leads_off : value_of (map.get s.outcomes o) ≡ None → (m l : Node) → link s m ≡ Some l → is_in o m ≡ false
  leads_off unknown (node.Object x) l e = refl
  leads_off unknown (node.Promise p) l e = refl
  leads_off unknown (node.Field k path) l e = by (nat_eq k o) refl
    where
      by : (b : Bool) → nat_eq k o ≡ b → b ≡ false
      by false is = refl
      by true is =
          let none : field_link path (value_of (map.get s.outcomes k)) ≡ None = ap (λ (j : ℕ). field_link path (value_of (map.get s.outcomes j))) (equal k o is) ∙ ap (field_link path) unknown in
          absurd (let f : ◌≡◌ {A = Option Node} None (Some l) = sym none ∙ e in cc)
  leads_off unknown (node.Import x) l e = refl
  leads_off unknown (node.Pipe q path) l e = refl
  leads_off unknown (node.Broken reason) l e = refl

  -- Many links at once.
  pub goes_far : value_of (map.get s.outcomes o) ≡ None → (k : ℕ) (m l : Node) → Walked s o n m → ways.Leads (link s) k m l → Walked s o n l
  goes_far unknown zero m l walked way = subst (λ (x : Node). Walked s o n x) way walked
  goes_far unknown (suc k) m l walked way = goes_far unknown k way.0 l (goes_further m way.0 walked (leads_off unknown m way.0 way.1) (sym way.1)) way.2

  pub walk_ends : (m : Node) → Walked s o n m → is_in o m ≡ false → None ≡ link s m → WalksTo s o n None
  walk_ends m walked off ends = λ who w v payload j h.
      let t : State = known s o who w v in
      let e : link t m ≡ None = link_same s o who w v m off ∙ sym ends in
      let k = walked who w v payload j in turns_on t o payload j m None e off (k.1 h)

  pub walk_stops : (m : Node) (path : Option (List Op)) → Walked s o n m → is_in o m ≡ false → (path ≡ None) × (link s m ≡ None) → WalksTo s o n path
  walk_stops m path walked off h = subst (λ (x : Option (List Op)). WalksTo s o n x) (sym h.0) (walk_ends m walked off (sym h.1))

  pub walk_comes : (m : Node) (path : Option (List Op)) → Walked s o n m → is_in o m ≡ true → path ≡ path_in o m → WalksTo s o n path
  walk_comes (node.Object x) path walked is e = absurd (let f : false ≡ true = is in cc)
  walk_comes (node.Promise p) path walked is e = absurd (let f : false ≡ true = is in cc)
  walk_comes (node.Field k q) path walked is e =
      subst (λ (x : Option (List Op)). WalksTo s o n x) (sym (e ∙ ap (λ (b : Bool). cond b (Some q) None) is))
      (subst (λ (j : ℕ). Walked s o n (node.Field j q)) (equal k o is) walked)
  walk_comes (node.Import x) path walked is e = absurd (let f : false ≡ true = is in cc)
  walk_comes (node.Pipe q x) path walked is e = absurd (let f : false ≡ true = is in cc)
  walk_comes (node.Broken reason) path walked is e = absurd (let f : false ≡ true = is in cc)

  module _ (payload : Payload) (i : ℕ) (rest : List Node) where
    pub ends_off : WalksTo s o n None → EndsAt s o payload i rest n None
    ends_off h = (tt, λ who w j b a. h who w (value.Results payload (absent i ++ rest)) payload j a)

    pub ends_along : (path : List Op) (end : Option ℕ) → WalksTo s o n (Some path) → EndsAt s o payload i rest (node.Field o path) end → EndsAt s o payload i rest n end
    ends_along path end walked h = (h.0, λ who w. along end who w (h.1 who w))
      where
        along : (end : Option ℕ) (who : Caller) (w : List HeldCall) → LeadsIn (standing s o who w payload i rest) o payload i (node.Field o path) end → LeadsIn (standing s o who w payload i rest) o payload i n end
        along None who w g = λ j b a. g j b ((walked who w (value.Results payload (absent i ++ rest)) payload j).1 a)
        along (Some l) who w g = (walked who w (value.Results payload (absent i ++ rest)) payload l).0 g

    no_cap : (r : Reason) (path : List Op) (who : Caller) (w : List HeldCall) → next (standing s o who w payload i rest) (node.Field o path) ≡ node.Broken r → ((j : ℕ) → ¬ (cap_at payload path ≡ Cap j))
        → (j k : ℕ) (p : List Op) → follow (standing s o who w payload i rest) k (node.Field o path) ≡ node.Field o p → cap_at payload p ≡ Cap j → ⊥
    no_cap r path who w to never j zero p f e = never j (ap (cap_at payload) (ap path_of f) ∙ e)
    no_cap r path who w to never j (suc k) p f e =
        never_broken (standing s o who w payload i rest) o payload j r (subst (λ (x : Node). TurnsBack (standing s o who w payload i rest) o payload j x) to (k, p, f, e))

    pub ends_at_null : (path : List Op) → WalksTo s o n (Some path) → cap_at payload path ≡ Null → EndsAt s o payload i rest n None
    ends_at_null path walked is =
        ends_along path None walked (
          tt,
          λ who w j b a. no_cap NullCapability path who w
              (own_next s o who w (value.Results payload (absent i ++ rest)) path ∙ ap (node_of_cap (absent i ++ rest)) is) (λ l e. let f : Null ≡ Cap l = sym is ∙ e in cc) j a.0 a.1 a.2 a.3,
        )

    pub ends_at_other : (path : List Op) → WalksTo s o n (Some path) → cap_at payload path ≡ NotCap → EndsAt s o payload i rest n None
    ends_at_other path walked is =
        ends_along path None walked (
          tt,
          λ who w j b a. no_cap NotACapability path who w
              (own_next s o who w (value.Results payload (absent i ++ rest)) path ∙ ap (node_of_cap (absent i ++ rest)) is) (λ l e. let f : NotCap ≡ Cap l = sym is ∙ e in cc) j a.0 a.1 a.2 a.3,
        )

-- ---- A list that grows

pub grown : (ends new : List (Option ℕ)) (j : ℕ) → new ≡ ends ++ None ∷ [] → end_at new j ≡ end_at ends j
grown ends new j e = ap (λ (xs : List (Option ℕ)). end_at xs j) e ∙ by ends j
  where
    by : (xs : List (Option ℕ)) (k : ℕ) → end_at (xs ++ None ∷ []) k ≡ end_at xs k
    by [] zero = refl
    by [] (suc k) = refl
    by (x ∷ xs) zero = refl
    by (x ∷ xs) (suc k) = by xs k

pub put_in : (ends new : List (Option ℕ)) (i : ℕ) (end : Option ℕ) → i < length ends → new ≡ set ends i end → IsKept i end ends new
put_in ends new i end h e j = ap (λ (xs : List (Option ℕ)). end_at xs j) e ∙ by (nat_eq j i) refl
  where
    by : (b : Bool) → nat_eq j i ≡ b → end_at (set ends i end) j ≡ cond b end (end_at ends j)
    by true same = ap (end_at (set ends i end)) (equal j i same) ∙ get_or-set_same ends i end None h
    by false other = get_or-set_other ends i j end None (apart j i other)

-- What is past the end is none.
past : (ends : List (Option ℕ)) (i : ℕ) → length ends ≤ i → end_at ends i ≡ None
past [] i h = none i
  where
    none : (i : ℕ) → end_at [] i ≡ None
    none zero = refl
    none (suc i) = refl
past (x ∷ ends) zero h = absurd (omega (arith, h))
past (x ∷ ends) (suc i) h = past ends i (omega (arith, h))

pub kept_past : (ends : List (Option ℕ)) (i : ℕ) (end : Option ℕ) → length ends ≤ i → end ≡ None → IsKept i end ends ends
kept_past ends i end h e j = by (nat_eq j i) refl
  where
    by : (b : Bool) → nat_eq j i ≡ b → end_at ends j ≡ cond b end (end_at ends j)
    by true same = ap (end_at ends) (equal j i same) ∙ past ends i h ∙ sym e
    by false other = refl

pub kept_same : (ends mid new : List (Option ℕ)) (i : ℕ) (end : Option ℕ) → ((j : ℕ) → end_at mid j ≡ end_at ends j) → IsKept i end mid new → IsKept i end ends new
kept_same ends mid new i end same kept j = kept j ∙ ap (λ (e : Option ℕ). cond (nat_eq j i) end e) (same j)
