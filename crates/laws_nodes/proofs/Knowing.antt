-- An outcome becomes known: with the value that fits, no node leads back to itself.
use Rattle.std.proofs.Common.{◌≡◌, ◌⊎◌, inl, inr, ℕ, zero, suc, ◌+◌, Bool, true, false, ◌&&◌, nat_eq, List, [], ◌∷◌, ◌++◌, None, Some, refl, sym, ap, subst, ◌∙◌, arith}
use Rattle.std.specs.FinMap as map
use Rattle.finite_maps.proofs.Gets.{get-insert_same}
use Rattle.rpc_msg.specs.Op.{Op}
use Rattle.rpc_msg.specs.CapAt.{CapAt}
use Rattle.rpc_msg.specs.CapAt.TheVariants.{Cap, Null, NotCap}
use Rattle.rpc_msg.specs.Payloads.{Contents as Payload}
use Rattle.rpc_machine.specs.Payloads.{cap_at}
use Rattle.rpc_machine.specs.declared.node.Node.{Node}
use Rattle.rpc_machine.specs.declared.node.Node.TheVariants as node
use Rattle.rpc_machine.specs.declared.node.Reason.{Reason}
use Rattle.rpc_machine.specs.declared.node.Reason.TheVariants.{NotACapability}
use Rattle.rpc_machine.specs.declared.calls.HeldCall.{HeldCall}
use Rattle.rpc_machine.specs.declared.calls.Promise.TheVariants as promise
use Rattle.rpc_machine.specs.declared.calls.Value.{Value}
use Rattle.rpc_machine.specs.declared.calls.Value.TheVariants as value
use Rattle.rpc_machine.specs.declared.calls.Caller.{Caller}
use Rattle.rpc_machine.specs.State.{State}
use Rattle.rpc_machine.specs.Laws.{Stops}
use Rattle.rpc_machine.specs.Nodes.{node_of_cap, field_of, promise_link, value_of, field_link, link, follow, settle, is_field}
use Rattle.rpc_machine.specs.Settling.{known, TurnsBack, absent, PutsIn, Untangles, Fits}
use Rattle.laws_nodes.specs.Settling.{AllStop, SameLinks, StaysUnknown}
use Rattle.laws_nodes.proofs.Stopping.{ends, on, redirect, avoids, grown, unmoved, opens}
use Rattle.finite_maps.proofs.Tested.{equal, apart, get_other}

module _ (o : ℕ) (who : Caller) (w : List HeldCall) where
  -- ---- The outcome with some value

  -- A field of it.
  pub field_link_is : (s : State) (v : Value) (path : List Op) → link (known s o who w v) (node.Field o path) ≡ Some (field_of v path)
  field_link_is s v path = ap (λ x. field_link path (value_of x)) (get-insert_same s.outcomes o (record { caller = who; value = Some v; waiting = w }))

  -- Every other node.
  pub other_link : (s : State) (v : Value) (n : Node) → is_field o n ≡ false → link (known s o who w v) n ≡ link s n
  other_link s v (node.Object k) h = refl
  other_link s v (node.Promise q) h = refl
  other_link s v (node.Field j path) h = ap (λ x. field_link path (value_of x)) (get_other s.outcomes o (record { caller = who; value = Some v; waiting = w }) j h)
  other_link s v (node.Import e) h = refl
  other_link s v (node.Pipe q path) h = refl
  other_link s v (node.Broken reason) h = refl

  pub is_a_field : (n : Node) → is_field o n ≡ true → (path : List Op) × (n ≡ node.Field o path)
  is_a_field (node.Object k) h = absurd (let f : false ≡ true = h in cc)
  is_a_field (node.Promise q) h = absurd (let f : false ≡ true = h in cc)
  is_a_field (node.Field j path) h = (path, ap (λ (k : ℕ). node.Field k path) (equal j o h))
  is_a_field (node.Import e) h = absurd (let f : false ≡ true = h in cc)
  is_a_field (node.Pipe q path) h = absurd (let f : false ≡ true = h in cc)
  is_a_field (node.Broken reason) h = absurd (let f : false ≡ true = h in cc)

  -- A step from one state to the next: other nodes have their links, or stop; fields too.
  changes : (s t : State) (v u : Value) → SameLinks s t → ((path : List Op) → (field_of u path ≡ field_of v path) ⊎ ((d : ℕ) × Stops (known t o who w u) d (field_of u path))) → AllStop (known s o who w v) → AllStop (known t o who w u)
  changes s t v u f g a = redirect (known s o who w v) (known t o who w u) (λ n. by n (is_field o n) refl) a
    where
      of_field : (n : Node) (path : List Op) → n ≡ node.Field o path → (field_of u path ≡ field_of v path) ⊎ ((d : ℕ) × Stops (known t o who w u) d (field_of u path)) → (link (known t o who w u) n ≡ link (known s o who w v) n) ⊎ ((d : ℕ) × Stops (known t o who w u) d n)
      of_field n path e (inl h) = inl (ap (link (known t o who w u)) e ∙ field_link_is t u path ∙ ap Some h ∙ sym (ap (link (known s o who w v)) e ∙ field_link_is s v path))
      of_field n path e (inr h) = inr (suc h.0, (field_of u path, ap (link (known t o who w u)) e ∙ field_link_is t u path, h.1))

      by : (n : Node) (b : Bool) → is_field o n ≡ b → (link (known t o who w u) n ≡ link (known s o who w v) n) ⊎ ((d : ℕ) × Stops (known t o who w u) d n)
      by n false e = inl (other_link t u n e ∙ f n ∙ sym (other_link s v n e))
      by n true e = let k = is_a_field n e in of_field n k.0 k.1 (g k.0)

  broken_stops : (s : State) (n : Node) (r : Reason) → n ≡ node.Broken r → (d : ℕ) × Stops s d n
  broken_stops s n r e = (0, ap (link s) e)

  -- Where all its fields are broken.
  all_broken : (s : State) (v : Value) → ((path : List Op) → (r : Reason) × (field_of v path ≡ node.Broken r)) → AllStop s → AllStop (known s o who w v)
  all_broken s v g a = redirect s (known s o who w v) (λ n. by n (is_field o n) refl) a
    where
      by : (n : Node) (b : Bool) → is_field o n ≡ b → (link (known s o who w v) n ≡ link s n) ⊎ ((d : ℕ) × Stops (known s o who w v) d n)
      by n false e = inl (other_link s v n e)
      by n true e =
          let k = is_a_field n e in
          let h = g k.0 in
          inr (1, (field_of v k.0, ap (link (known s o who w v)) k.1 ∙ field_link_is s v k.0, ap (link (known s o who w v)) h.1))

  -- ---- Its capabilities, one after the other

  absent_broken : (i : ℕ) (c : CapAt) → (r : Reason) × (node_of_cap (absent i ++ []) c ≡ node.Broken r)
  absent_broken i Null = (_, refl)
  absent_broken i NotCap = (_, refl)
  absent_broken i (Cap j) = at i j
    where
      at : (i j : ℕ) → (r : Reason) × (node_of_cap (absent i ++ []) (Cap j) ≡ node.Broken r)
      at zero j = (NotACapability, refl)
      at (suc i) zero = (NotACapability, refl)
      at (suc i) (suc j) = at i j

  abbrev is_cap : ℕ → CapAt → Bool
  is_cap i (Cap j) = nat_eq j i
  is_cap i Null = false
  is_cap i NotCap = false

  cap_here : (i : ℕ) (n : Node) (rest : List Node) (c : CapAt) → is_cap i c ≡ true → (c ≡ Cap i) × (node_of_cap (absent i ++ n ∷ rest) c ≡ n)
  cap_here i n rest Null h = absurd (let f : false ≡ true = h in cc)
  cap_here i n rest NotCap h = absurd (let f : false ≡ true = h in cc)
  cap_here i n rest (Cap j) h = let e = equal j i h in (ap Cap e, subst (λ (k : ℕ). node_of_cap (absent i ++ n ∷ rest) (Cap k) ≡ n) (sym e) (at i))
    where
      at : (i : ℕ) → node_of_cap (absent i ++ n ∷ rest) (Cap i) ≡ n
      at zero = refl
      at (suc i) = at i

  cap_other : (i : ℕ) (n : Node) (rest : List Node) (c : CapAt) → is_cap i c ≡ false → node_of_cap (absent i ++ n ∷ rest) c ≡ node_of_cap (absent (suc i) ++ rest) c
  cap_other i n rest Null h = refl
  cap_other i n rest NotCap h = refl
  cap_other i n rest (Cap j) h = at i j (apart j i h)
    where
      at : (i j : ℕ) → (j ≡ i → ⊥) → node_of_cap (absent i ++ n ∷ rest) (Cap j) ≡ node_of_cap (absent (suc i) ++ rest) (Cap j)
      at zero zero h = absurd (h refl)
      at zero (suc j) h = refl
      at (suc i) zero h = refl
      at (suc i) (suc j) h = at i j (λ e. h (ap suc e))

  module _ (payload : Payload) where
    abbrev from : State → ℕ → List Node → State
    from s i xs = known s o who w (value.Results payload (absent i ++ xs))

    -- A field that leads to the capability i.
    abbrev changed : ℕ → Node → Bool
    changed i (node.Object k) = false
    changed i (node.Promise q) = false
    changed i (node.Field j path) = nat_eq j o && is_cap i (cap_at payload path)
    changed i (node.Import e) = false
    changed i (node.Pipe q path) = false
    changed i (node.Broken reason) = false

    both_true : (b c : Bool) → b && c ≡ true → (b ≡ true) × (c ≡ true)
    both_true true c h = (refl, h)
    both_true false c h = absurd (let f : false ≡ true = h in cc)

    comes_back : (s : State) (i k : ℕ) (n m : Node) (rest : List Node) → follow (from s (suc i) rest) k n ≡ m → changed i m ≡ true → TurnsBack (from s (suc i) rest) o payload i n
    comes_back s i k n (node.Object j) rest e h = absurd (let f : false ≡ true = h in cc)
    comes_back s i k n (node.Promise q) rest e h = absurd (let f : false ≡ true = h in cc)
    comes_back s i k n (node.Field j path) rest e h =
        let b = both_true (nat_eq j o) (is_cap i (cap_at payload path)) h in
        (k, path, e ∙ ap (λ (l : ℕ). node.Field l path) (equal j o b.0), (cap_here i n rest (cap_at payload path) b.1).0)
    comes_back s i k n (node.Import j) rest e h = absurd (let f : false ≡ true = h in cc)
    comes_back s i k n (node.Pipe q path) rest e h = absurd (let f : false ≡ true = h in cc)
    comes_back s i k n (node.Broken reason) rest e h = absurd (let f : false ≡ true = h in cc)

    -- Nodes that are not changed have their links.
    as_before : (s : State) (i : ℕ) (n m : Node) (rest : List Node) → changed i m ≡ false → link (from s i (n ∷ rest)) m ≡ link (from s (suc i) rest) m
    as_before s i n (node.Object j) rest h = refl
    as_before s i n (node.Promise q) rest h = refl
    as_before s i n (node.Field j path) rest h = by (nat_eq j o) refl h
      where
        by : (b : Bool) → nat_eq j o ≡ b → b && is_cap i (cap_at payload path) ≡ false → link (from s i (n ∷ rest)) (node.Field j path) ≡ link (from s (suc i) rest) (node.Field j path)
        by false e g = other_link s _ (node.Field j path) e ∙ sym (other_link s _ (node.Field j path) e)
        by true e g =
            subst (λ (l : ℕ). link (from s i (n ∷ rest)) (node.Field l path) ≡ link (from s (suc i) rest) (node.Field l path)) (sym (equal j o e))
            (field_link_is s _ path ∙ ap Some (cap_other i n rest (cap_at payload path) g) ∙ sym (field_link_is s _ path))
    as_before s i n (node.Import j) rest h = refl
    as_before s i n (node.Pipe q path) rest h = refl
    as_before s i n (node.Broken reason) rest h = refl

    not_true : (b : Bool) → (b ≡ true → ⊥) → b ≡ false
    not_true true h = absurd (h refl)
    not_true false h = refl

    -- A capability that does not lead back is put in.
    puts : (s : State) (i : ℕ) (n : Node) (rest : List Node) → ¬ (TurnsBack (from s (suc i) rest) o payload i n) → AllStop (from s (suc i) rest) → AllStop (from s i (n ∷ rest))
    puts s i n rest never a = changes s s (value.Results payload (absent (suc i) ++ rest)) (value.Results payload (absent i ++ n ∷ rest)) (λ m. refl) (λ path. by path (is_cap i (cap_at payload path)) refl) a
      where
        stops : Stops (from s i (n ∷ rest)) (a n).0 n
        stops = avoids (from s (suc i) rest) (from s i (n ∷ rest)) (changed i) (λ m h. as_before s i n m rest h) (a n).0 n (a n).1 (λ k. not_true _ (λ e. never (comes_back s i k n _ rest refl e)))

        by : (path : List Op) (b : Bool) → is_cap i (cap_at payload path) ≡ b → (node_of_cap (absent i ++ n ∷ rest) (cap_at payload path) ≡ node_of_cap (absent (suc i) ++ rest) (cap_at payload path)) ⊎ ((d : ℕ) × Stops (from s i (n ∷ rest)) d (node_of_cap (absent i ++ n ∷ rest) (cap_at payload path)))
        by path false e = inl (cap_other i n rest (cap_at payload path) e)
        by path true e = inr ((a n).0, subst (Stops (from s i (n ∷ rest)) (a n).0) (sym (cap_here i n rest (cap_at payload path) e).1) stops)

    -- A new open promise is put in.
    puts_new : (s : State) (i p : ℕ) (rest : List Node) → map.get s.promises p ≡ None → AllStop (from s (suc i) rest) → AllStop (from (record s { promises = map.insert s.promises p (promise.Open []) }) i (node.Promise p ∷ rest))
    puts_new s i p rest free a =
        changes s t (value.Results payload (absent (suc i) ++ rest)) (value.Results payload (absent i ++ node.Promise p ∷ rest)) (opens s p [] (ap promise_link free)) (λ path. by path (is_cap i (cap_at payload path)) refl) a
      where
        t : State
        t = record s { promises = map.insert s.promises p (promise.Open []) }

        no_link : link (from t i (node.Promise p ∷ rest)) (node.Promise p) ≡ None
        no_link = ap promise_link (get-insert_same s.promises p (promise.Open []))

        by : (path : List Op) (b : Bool) → is_cap i (cap_at payload path) ≡ b → (node_of_cap (absent i ++ node.Promise p ∷ rest) (cap_at payload path) ≡ node_of_cap (absent (suc i) ++ rest) (cap_at payload path)) ⊎ ((d : ℕ) × Stops (from t i (node.Promise p ∷ rest)) d (node_of_cap (absent i ++ node.Promise p ∷ rest) (cap_at payload path)))
        by path false e = inl (cap_other i (node.Promise p) rest (cap_at payload path) e)
        by path true e = inr (0, ap (link (from t i (node.Promise p ∷ rest))) (cap_here i (node.Promise p) rest (cap_at payload path) e).1 ∙ no_link)

    put : (s : State) (i : ℕ) (n : Node) (rest out : List Node) (new : State) → PutsIn s o who w payload i n rest out new → AllStop (from s (suc i) rest) → AllStop (from new i out)
    put s i n rest out new (inl h) a = rw (h.1, h.2) (puts s i n rest h.0 a)
    put s i n rest out new (inr h) a = let g = h.1 in rw (g.2, g.3) (puts_new s i g.0 rest g.1 a)

    pub untangled : (s : State) (i : ℕ) (ns out : List Node) (new : State) → Untangles s o who w payload i ns out new → AllStop s → AllStop (from new i out)
    untangled s i [] out new h a = rw (h.0, h.1) (all_broken s (value.Results payload (absent i ++ [])) (λ path. absent_broken i (cap_at payload path)) a)
    untangled s i (n ∷ ns) out new h a =
        let one : i + 1 ≡ suc i = omega arith in
        put h.1 i n h.0 out new h.3 (subst (λ (k : ℕ). AllStop (from h.1 k h.0)) one (untangled s (i + 1) ns h.0 h.1 h.2 a))

    put_links : (s : State) (i : ℕ) (n : Node) (rest out : List Node) (new : State) → PutsIn s o who w payload i n rest out new → SameLinks s new
    put_links s i n rest out new (inl h) m = rw h.2 refl
    put_links s i n rest out new (inr h) m = let g = h.1 in rw g.3 (opens s g.0 [] (ap promise_link g.1) m)

    pub untangled_links : (s : State) (i : ℕ) (ns out : List Node) (new : State) → Untangles s o who w payload i ns out new → SameLinks s new
    untangled_links s i [] out new h m = rw h.1 refl
    untangled_links s i (n ∷ ns) out new h m = put_links h.1 i n h.0 out new h.3 m ∙ untangled_links s (i + 1) ns h.0 h.1 h.2 m

  -- ---- The whole

  pub fits_links : (s : State) (v fit : Value) (mid : State) → Fits s o who w v fit mid → SameLinks s mid
  fits_links s (value.Exception x) fit mid h m = rw h.1 refl
  fits_links s (value.Results payload ns) fit mid h m = untangled_links payload s 0 ns h.0 mid h.2 m

  pub known_stops : (s : State) (v fit : Value) (mid : State) → Fits s o who w v fit mid → AllStop s → AllStop (known mid o who w fit)
  known_stops s (value.Exception x) fit mid h a = rw (h.0, h.1) (all_broken s (value.Exception x) (λ path. (_, refl)) a)
  known_stops s (value.Results payload ns) fit mid h a = rw h.1 (untangled payload s 0 ns h.0 mid h.2 a)

  module _ (s : State) (v fit : Value) (mid : State) (unknown : StaysUnknown (map.get s.outcomes o)) (h : Fits s o who w v fit mid) (a : AllStop s) where
    abbrev t : State
    t = known mid o who w fit

    b : AllStop t
    b = known_stops s v fit mid h a

    grows : (n m : Node) → link s n ≡ Some m → link t n ≡ Some m
    grows n m e = by (is_field o n) refl
      where
        by : (c : Bool) → is_field o n ≡ c → link t n ≡ Some m
        by false f = other_link mid fit n f ∙ fits_links s v fit mid h n ∙ e
        by true f = let k = is_a_field n f in absurd (let bad : Some m ≡ None = sym e ∙ ap (link s) k.1 ∙ ap (field_link k.0) unknown in cc)

    pub known_others : (n : Node) → is_field o (settle s n) ≡ false → settle t n ≡ settle s n
    known_others n f = unmoved s t a b grows n (other_link mid fit (settle s n) f ∙ fits_links s v fit mid h (settle s n) ∙ ends s a n)

    pub known_fields : (n : Node) (path : List Op) → settle s n ≡ node.Field o path → settle t n ≡ settle t (field_of fit path)
    known_fields n path f = grown s t a b grows n ∙ ap (settle t) f ∙ on t b (node.Field o path) (field_of fit path) (field_link_is mid fit path)
