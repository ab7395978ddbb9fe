-- An outcome becomes known: each of its fields goes where its node settles.
use Rattle.std.specs.FinMap as map
use Rattle.std.proofs.Common.{◌≡◌, ◌⊎◌, inl, inr, ℕ, zero, suc, Bool, nat_eq, true, false, List, Option, None, Some, IsSome, refl, sym, ap, subst, ◌∙◌, arith}
use Rattle.rpc_msg.specs.Op.{Op}
use Rattle.finite_maps.proofs.Gets.{get-insert_same}
use Rattle.finite_maps.proofs.Tested.{apart, get_other}
use Rattle.rpc_msg.specs.declared.ids.Vat.{Vat}
use Rattle.rpc_machine.specs.declared.node.Node.{Node}
use Rattle.rpc_machine.specs.declared.node.Node.TheVariants as node
use Rattle.rpc_machine.specs.declared.calls.KeptOutcome.{KeptOutcome}
use Rattle.rpc_machine.specs.declared.calls.Value.{Value}
use Rattle.rpc_machine.specs.State.{State}
use Rattle.rpc_machine.specs.Nodes.{link, settle, is_wire, field_link, field_of, value_of}
use Rattle.rpc_machine.specs.Laws as machine
use Rattle.rpc_machine.specs.Settling.{known}
use Rattle.laws_steps.specs.Settled.{IsThere}
use Rattle.laws_order.specs.Machine.{Kind, Net}
use Rattle.laws_order.specs.Machine as routing
use Rattle.laws_order.specs.Events.{Fate, Merges, place_of, kind_of, new_stop, new_kind, settled}
use Rattle.laws_order.proofs.Choices.{by_choice}
use Rattle.laws_routes.specs.Points.{Point, AnObject, APromise, AField, Group, OfOutcome, group_of, routes}
use Rattle.laws_routes.specs.Ghosts.{Ghost, point, far}
use Rattle.laws_routes.specs.Sides.{Side, Stops, IsFinal, IsLinked, LinkedTo, SameEnd, EndsAs, own_kind}
use Rattle.laws_routes.specs.Premises.{LinksRest}
use Rattle.laws_routes.specs.Laws.{fate_as, fate_of_field}
use Rattle.laws_routes.proofs.Differing.{not_apart, not_outcome, outcome_id}
use Rattle.laws_routes.proofs.WhereNodesEnd.{ends_same, settles_here}
use Rattle.laws_routes.proofs.CallsRouted.{law}
use Rattle.laws_routes.proofs.GroupSettles.{linked_after, linked_to_after}

-- Two points that end as one node end at one stop, or at two that do the same for good.
both_end : (v : Vat) (g : Ghost) (n : Net routes) (x y : Point) (z : Node) → EndsAs v g n x z → EndsAs v g n y z → SameEnd n x y
both_end v g n x y (node.Object o) h k = inl (h.0 ∙ sym k.0)
both_end v g n x y (node.Promise p) h k = inl (h.0 ∙ sym k.0)
both_end v g n x y (node.Field o path) h k = inl (h.0 ∙ sym k.0)
both_end v g n x y (node.Import e) h k = inr (h ∙ sym k, subst IsFinal (sym k) tt)
both_end v g n x y (node.Pipe q path) h k = inr (h ∙ sym k, subst IsFinal (sym k) tt)
both_end v g n x y (node.Broken reason) h k = inr (h ∙ sym k, subst IsFinal (sym k) tt)

module _ (v : Vat) (s : State) (g : Ghost) (next : ℕ) (m : routing.State routes) (o : ℕ) (x : KeptOutcome) (fit : Value) (h : Side v s g next m) (e : map.get s.outcomes o ≡ Some x) (unknown : x.value ≡ None) (rest : LinksRest (known s o x.caller x.waiting fit)) where
  abbrev t : State
  t = known s o x.caller x.waiting fit

  abbrev id : ℕ
  id = g.outcome o

  abbrev group : Group
  group = OfOutcome v id

  abbrev fate : Point → Fate routes
  fate = fate_of_field v g t o

  abbrev after : Net routes
  after = settled m.net group fate

  there : IsSome (map.get s.outcomes o)
  there = subst (λ (z : Option KeptOutcome). IsSome z) (sym e) refl

  differ : (q : ℕ) → IsSome (map.get s.outcomes q) → nat_eq q o ≡ false → OfOutcome v (g.outcome q) ≡ group → ⊥
  differ q i n f = let ids = h.ids in apart q o n (ids.outcomes_differ q o i there (outcome_id v v (g.outcome q) id f))

  known_link : (path : List Op) → link t (node.Field o path) ≡ Some (field_of fit path)
  known_link path = ap (λ z. field_link path (value_of z)) (get-insert_same s.outcomes o (record { caller = x.caller; value = Some fit; waiting = x.waiting }))

  was_open : (path : List Op) → (m.net.stop (AField v id path) ≡ AField v id path) × (m.net.kind (AField v id path) ≡ routing.Open)
  was_open path = subst (λ z. IsLinked v g m.net (node.Field o path) (field_link path z)) (ap value_of e ∙ unknown) (h.stops (node.Field o path) refl there)

  placed : (path : List Op) (f : Fate routes) → fate (AField v id path) ≡ f → after.stop (AField v id path) ≡ place_of (AField v id path) f
  placed path f k =
      ap (λ z. new_stop group fate z (m.net.kind z)) ((was_open path).0)
      ∙ (ap (new_stop group fate (AField v id path)) ((was_open path).1)
      ∙ (by_choice (λ z. z ≡ place_of (AField v id path) (fate (AField v id path))) (routes.same_group group group) (place_of (AField v id path) (fate (AField v id path))) (AField v id path) (λ f. refl) (λ f. absurd (f refl))
      ∙ ap (place_of (AField v id path)) k))

  becomes : (path : List Op) (f : Fate routes) → fate (AField v id path) ≡ f → after.kind (AField v id path) ≡ kind_of f
  becomes path f k =
      ap (new_kind group fate (AField v id path)) ((was_open path).1)
      ∙ (by_choice (λ z. z ≡ kind_of (fate (AField v id path))) (routes.same_group group group) (kind_of (fate (AField v id path))) routing.Open (λ f. refl) (λ f. absurd (f refl))
      ∙ ap kind_of k)

  -- ---- Other nodes

  not_group : (k : Node) → is_wire k ≡ false → IsThere t k → ((path : List Op) → k ≡ node.Field o path → ⊥) → group_of (point v g k) ≡ group → ⊥
  not_group (node.Object j) w i n f = not_apart (OfOutcome v id) tt f
  not_group (node.Promise p) w i n f = not_outcome v v (g.promise p) id f
  not_group (node.Field q path) w i n f = by (nat_eq q o) refl
    where
      by : (b : Bool) → nat_eq q o ≡ b → ⊥
      by true c = n path (ap (λ z. node.Field z path) (let a : q ≡ o = grind (arith, c) in a))
      by false c = differ q (subst (λ (z : Option KeptOutcome). IsSome z) (get_other s.outcomes o (record { caller = x.caller; value = Some fit; waiting = x.waiting }) q c) i) c f
  not_group (node.Import j) w i n f = cc
  not_group (node.Pipe q path) w i n f = cc
  not_group (node.Broken reason) w i n f = not_apart (OfOutcome v id) tt f

  old_linked : (k : Node) → is_wire k ≡ false → IsThere t k → ((path : List Op) → k ≡ node.Field o path → ⊥) → IsLinked v g m.net k (link t k)
  old_linked (node.Object j) w i n = h.stops (node.Object j) w i
  old_linked (node.Promise p) w i n = h.stops (node.Promise p) w i
  old_linked (node.Field q path) w i n = by (nat_eq q o) refl
    where
      entry : KeptOutcome
      entry = record { caller = x.caller; value = Some fit; waiting = x.waiting }

      by : (b : Bool) → nat_eq q o ≡ b → IsLinked v g m.net (node.Field q path) (link t (node.Field q path))
      by true c = absurd (n path (ap (λ z. node.Field z path) (let a : q ≡ o = grind (arith, c) in a)))
      by false c =
          let same = get_other s.outcomes o entry q c in
          subst (λ z. IsLinked v g m.net (node.Field q path) (field_link path (value_of z))) (sym same)
          (h.stops (node.Field q path) w (subst (λ (z : Option KeptOutcome). IsSome z) same i))
  old_linked (node.Import j) w i n = cc
  old_linked (node.Pipe q path) w i n = cc
  old_linked (node.Broken reason) w i n = h.stops (node.Broken reason) w i

  -- A field that is not the outcome's, or is.
  is_its : (k : Node) → ((path : List Op) × (k ≡ node.Field o path)) ⊎ ((path : List Op) → k ≡ node.Field o path → ⊥)
  is_its (node.Object j) = inr (λ path f. cc)
  is_its (node.Promise p) = inr (λ path f. cc)
  is_its (node.Field q path) = by (nat_eq q o) refl
    where
      by : (b : Bool) → nat_eq q o ≡ b → ((z : List Op) × (node.Field q path ≡ node.Field o z)) ⊎ ((z : List Op) → node.Field q path ≡ node.Field o z → ⊥)
      by true c = inl (path, ap (λ z. node.Field z path) (let a : q ≡ o = grind (arith, c) in a))
      by false c = inr (λ z f. apart q o c (let a : q ≡ o = cc in a))
  is_its (node.Import j) = inr (λ path f. cc)
  is_its (node.Pipe q path) = inr (λ path f. cc)
  is_its (node.Broken reason) = inr (λ path f. cc)

  -- ---- Where points end

  -- A node that stops is its own stop of its own kind.
  own_stop : (k : Node) → is_wire k ≡ false → IsThere t k → link t k ≡ None → (after.stop (point v g k) ≡ point v g k) × (after.kind (point v g k) ≡ own_kind k)
  own_stop k w i f = by (is_its k)
    where
      by : ((path : List Op) × (k ≡ node.Field o path)) ⊎ ((path : List Op) → k ≡ node.Field o path → ⊥) → (after.stop (point v g k) ≡ point v g k) × (after.kind (point v g k) ≡ own_kind k)
      by (inl a) = absurd (let b : Some (field_of fit a.0) ≡ None = sym (known_link a.0) ∙ (ap (link t) (sym a.1) ∙ f) in cc)
      by (inr n) = linked_after m.net group fate v g k None (not_group k w i n) (subst (IsLinked v g m.net k) f (old_linked k w i n))

  field_ends : (path : List Op) (z : Node) → settle t (node.Field o path) ≡ z → (is_wire z ≡ false → IsThere t z × (link t z ≡ None)) → EndsAs v g after (AField v id path) z
  field_ends path (node.Object j) f a =
      let b = a refl in
      let c = own_stop (node.Object j) refl b.0 b.1 in
      let p = placed path (Merges (AnObject v j.0)) (ap (fate_as v g) f) in
      (p, ap after.kind p ∙ c.1)
  field_ends path (node.Promise k) f a =
      let b = a refl in
      let c = own_stop (node.Promise k) refl b.0 b.1 in
      let p = placed path (Merges (APromise v (g.promise k))) (ap (fate_as v g) f) in
      (p, ap after.kind p ∙ c.1)
  field_ends path (node.Field q other) f a =
      let b = a refl in
      let c = own_stop (node.Field q other) refl b.0 b.1 in
      let p = placed path (Merges (AField v (g.outcome q) other)) (ap (fate_as v g) f) in
      (p, ap after.kind p ∙ c.1)
  field_ends path (node.Import j) f a = let l = ap (fate_as v g) f in ap after.kind (placed path _ l) ∙ becomes path _ l
  field_ends path (node.Pipe q other) f a = let l = ap (fate_as v g) f in ap after.kind (placed path _ l) ∙ becomes path _ l
  field_ends path (node.Broken reason) f a = let l = ap (fate_as v g) f in ap after.kind (placed path _ l) ∙ becomes path _ l

  -- Where a node settles is there, and stops.
  end_there : (d : ℕ) (k : Node) → IsThere t k → machine.Stops t d k → IsThere t (settle t k) × (link t (settle t k) ≡ None)
  end_there zero k i a = let f = settles_here t k a in (subst (IsThere t) (sym f) i, ap (link t) f ∙ a)
  end_there (suc d) k i a =
      let f = law.follows t d k a.0 a.1 a.2 in
      let b = end_there d a.0 (rest.lead k a.0 i a.1) a.2 in
      (subst (IsThere t) (sym f) b.0, ap (link t) f ∙ b.1)

  here : (k : Node) → is_wire k ≡ false → (after.stop (point v g k) ≡ point v g k) × (after.kind (point v g k) ≡ own_kind k) → EndsAs v g after (point v g k) k
  here (node.Object j) w a = (a.0, ap after.kind a.0 ∙ a.1)
  here (node.Promise p) w a = (a.0, ap after.kind a.0 ∙ a.1)
  here (node.Field q path) w a = (a.0, ap after.kind a.0 ∙ a.1)
  here (node.Import j) w a = cc
  here (node.Pipe q path) w a = cc
  here (node.Broken reason) w a = ap after.kind a.0 ∙ a.1

  ends_now : (d : ℕ) (k : Node) → is_wire k ≡ false → IsThere t k → machine.Stops t d k → EndsAs v g after (point v g k) (settle t k)
  ends_now zero k w i a = subst (EndsAs v g after (point v g k)) (sym (settles_here t k a)) (here k w (own_stop k w i a))
  ends_now (suc d) k w i a = by (λ j f n b. ends_now d j f n b) (is_its k)
    where
      wire : (j : Node) → link t j ≡ None → EndsAs v g after (point v g k) j → EndsAs v g after (point v g k) (settle t j)
      wire j f b = subst (EndsAs v g after (point v g k)) (sym (settles_here t j f)) b

      over : (j : Node) → LinkedTo after (point v g k) (point v g j) (far v g j) → (is_wire j ≡ false → EndsAs v g after (point v g j) (settle t j)) → EndsAs v g after (point v g k) (settle t j)
      over (node.Object y) b f = ends_same v g after _ _ (settle t (node.Object y)) b (f refl)
      over (node.Promise p) b f = ends_same v g after _ _ (settle t (node.Promise p)) b (f refl)
      over (node.Field q path) b f = ends_same v g after _ _ (settle t (node.Field q path)) b (f refl)
      over (node.Import y) b f = wire (node.Import y) refl b
      over (node.Pipe q path) b f = wire (node.Pipe q path) refl b
      over (node.Broken reason) b f = ends_same v g after _ _ (settle t (node.Broken reason)) b (f refl)

      by : ((j : Node) → is_wire j ≡ false → IsThere t j → machine.Stops t d j → EndsAs v g after (point v g j) (settle t j)) → ((path : List Op) × (k ≡ node.Field o path)) ⊎ ((path : List Op) → k ≡ node.Field o path → ⊥) → EndsAs v g after (point v g k) (settle t k)
      by further (inl f) = subst (λ z. EndsAs v g after (point v g z) (settle t z)) (sym f.1) (field_ends f.0 (settle t (node.Field o f.0)) refl (λ n. end_there (suc d) (node.Field o f.0) (subst (IsThere t) f.1 i) (subst (machine.Stops t (suc d)) f.1 a)))
      by further (inr n) =
          subst (EndsAs v g after (point v g k)) (sym (law.follows t d k a.0 a.1 a.2))
          (over a.0 (linked_to_after m.net group fate (point v g k) (point v g a.0) (far v g a.0) (subst (IsLinked v g m.net k) a.1 (old_linked k w i n))) (λ f. further a.0 f (rest.lead k a.0 i a.1) a.2))

  -- ---- All

  led : (path : List Op) (c : Node) → link t (node.Field o path) ≡ Some c → IsThere t (node.Field o path) → LinkedTo after (AField v id path) (point v g c) (far v g c)
  led path c f i = by c (rest.lead (node.Field o path) c i f) f
    where
      stop : (d : ℕ) × machine.Stops t d (node.Field o path)
      stop = rest.stop (node.Field o path) i

      ends : EndsAs v g after (AField v id path) (settle t (node.Field o path))
      ends = ends_now stop.0 (node.Field o path) refl i stop.1

      own : (c : Node) → IsThere t c → link t (node.Field o path) ≡ Some c → is_wire c ≡ false → SameEnd after (AField v id path) (point v g c)
      own c j f w =
          let d = rest.stop c j in
          both_end v g after (AField v id path) (point v g c) (settle t c) (subst (EndsAs v g after (AField v id path)) (law.follows t d.0 (node.Field o path) c f d.1) ends) (ends_now d.0 c w j d.1)

      wire : (c : Node) → link t (node.Field o path) ≡ Some c → link t c ≡ None → EndsAs v g after (AField v id path) c
      wire c f none = subst (EndsAs v g after (AField v id path)) (law.follows t 0 (node.Field o path) c f none ∙ settles_here t c none) ends

      by : (c : Node) → IsThere t c → link t (node.Field o path) ≡ Some c → LinkedTo after (AField v id path) (point v g c) (far v g c)
      by (node.Object y) j f = own (node.Object y) j f refl
      by (node.Promise p) j f = own (node.Promise p) j f refl
      by (node.Field q other) j f = own (node.Field q other) j f refl
      by (node.Import y) j f = wire (node.Import y) f refl
      by (node.Pipe q other) j f = wire (node.Pipe q other) f refl
      by (node.Broken reason) j f = own (node.Broken reason) j f refl

  pub known_stops : Stops v t g after
  known_stops k w i = by (is_its k)
    where
      by : ((path : List Op) × (k ≡ node.Field o path)) ⊎ ((path : List Op) → k ≡ node.Field o path → ⊥) → IsLinked v g after k (link t k)
      by (inl f) =
          subst (λ z. IsLinked v g after z (link t z)) (sym f.1)
          (subst (IsLinked v g after (node.Field o f.0)) (sym (known_link f.0)) (led f.0 (field_of fit f.0) (known_link f.0) (subst (IsThere t) f.1 i)))
      by (inr n) = linked_after m.net group fate v g k (link t k) (not_group k w i n) (old_linked k w i n)
