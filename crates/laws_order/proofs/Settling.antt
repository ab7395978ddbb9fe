-- A group of open stops settles: routes grow at their ends, and what was under way stays where it was.
use Rattle.std.proofs.Common.{◌≡◌, ◌+◌, ◌++◌, ◌∙◌, [], Bool, List, ap, append-nil, append_assoc, ap₂, arith, refl, subst, suc, sym, zero, ℕ}
use Rattle.std.specs.List.{AllByRecursion}
use Rattle.laws_order.proofs.Queues.{Alike, NotAt, pick_alike, pick_none}
use Rattle.laws_order.specs.Events.{Breaks, Fate, Leaves, Merges, kind_of, new_kind, new_stop, place_of, settled}
use Rattle.laws_order.specs.Machine.{Broken, Call, Content, Disembargo, Echo, Exit, Kind, Message, Names, Net, Object, Open, Reference, choose}
use Rattle.laws_order.specs.Order.{EndsAt, IsCall, indexes}
use Rattle.laws_order.specs.Invariant.{Everywhere, GoesTo, InPlace, InvariantOf, IsMark, Item, MarkBy, OnWay, WaitsIn, at, count, flow, marks_of, owed, pick, tail}
use Rattle.laws_order.specs.Routes.{Good, IsEnd, IsExit, Path, Reach, next}
use Rattle.laws_order.proofs.Choices.{choose_no}
use Rattle.laws_order.proofs.Lists.{all_map}
use Rattle.laws_order.proofs.Marks.{count_calls}
use Rattle.laws_order.proofs.Paths.{end_not_exit, good_up, kind_exit, next_is, path_append, path_rest, path_same, positions}
use Rattle.laws_order.proofs.Flow.{flow_none}
use Rattle.laws_order.proofs.Standing.{not_open}
use Rattle.laws_order.proofs.Routing.{sum_same, tail_none}

-- The stop that a stop becomes.
abbrev pub moved : {W : Names} → Net W → W.Group → (W.Node → Fate W) → W.Node → W.Node
moved n g fate e = new_stop g fate e (n.kind e)

module _ {W : Names} (n : Net W) (g : W.Group) (fate : W.Node → Fate W) where
  -- The net once the group settled.
  abbrev n' : Net W
  n' = settled n g fate

  -- What each stop became.
  abbrev became : W.Node → W.Node
  became e = moved n g fate e

  -- An exit stays where it is.
  exit_stays : (e to : W.Node) → n.kind e ≡ Exit to → became e ≡ e
  exit_stays e to h = ap (new_stop g fate e) h

  -- An exit leads where it led.
  exit_kind : (e to : W.Node) → n.kind e ≡ Exit to → n'.kind (became e) ≡ Exit to
  exit_kind e to h = ap n'.kind (exit_stays e to h) ∙ ap (new_kind g fate e) h

  -- An object stays where it is.
  object_stays : (e : W.Node) → n.kind e ≡ Object → became e ≡ e
  object_stays e h = ap (new_stop g fate e) h

  -- An object stays one.
  object_kind : (e : W.Node) → n.kind e ≡ Object → n'.kind (became e) ≡ Object
  object_kind e h = ap n'.kind (object_stays e h) ∙ ap (new_kind g fate e) h

  -- An exit stays one, and behind it comes what the stop behind it became.
  exit_next : (e : W.Node) → IsExit (n.kind e) → IsExit (n'.kind (became e)) × (next n' (became e) ≡ became (next n e))
  exit_next e x = go (n.kind e) refl x
    where
      go : (K : Kind W) → n.kind e ≡ K → IsExit K → IsExit (n'.kind (became e)) × (next n' (became e) ≡ became (next n e))
      go Object h y = absurd y
      go Open h y = absurd y
      go (Exit to) h y = (kind_exit (n'.kind (became e)) to (exit_kind e to h), next_is n' (became e) to (exit_kind e to h) ∙ ap became (sym (next_is n e to h)))
      go Broken h y = absurd y

  -- A path leads, over what its stops became, to what its last stop became.
  forward : (j : ℕ) (e p : W.Node) → Path n j e p → Path n' j (became e) (became p)
  forward zero e p b = ap became b
  forward (suc j) e p b =
      let x = exit_next e b.0 in
      (x.0, subst (λ z. Path n' j z (became p)) (sym x.1) (forward j (next n e) p b.1))

  -- If a path from what a stop became leads to an end, the route from that stop was good.
  good_back : (k : ℕ) (e o : W.Node) → Path n' k (became e) o → IsEnd (n'.kind o) → Good n e
  good_back zero e o b h = go (n.kind e) refl
    where
      go : (K : Kind W) → n.kind e ≡ K → Good n e
      go Object c = (0, e, refl, subst IsEnd (sym c) tt)
      go Open c = (0, e, refl, subst IsEnd (sym c) tt)
      go (Exit to) c = absurd (subst IsEnd (ap n'.kind (sym b) ∙ exit_kind e to c) h)
      go Broken c = absurd (subst IsEnd (ap n'.kind (sym b ∙ ap (new_stop g fate e) c) ∙ ap (new_kind g fate e) c) h)
  good_back (suc k) e o b h = go (n.kind e) refl (λ y c. good_back k y o c h)
    where
      go : (K : Kind W) → n.kind e ≡ K → ((y : W.Node) → Path n' k (became y) o → Good n y) → Good n e
      go Object c ih = (0, e, refl, subst IsEnd (sym c) tt)
      go Open c ih = (0, e, refl, subst IsEnd (sym c) tt)
      go (Exit to) c ih = good_up n e to c (ih (n.stop to) (subst (λ z. Path n' k z o) (next_is n' (became e) to (exit_kind e to c)) b.1))
      go Broken c ih = absurd (subst IsExit (ap n'.kind (ap (new_stop g fate e) c) ∙ ap (new_kind g fate e) c) b.0)

  -- A route that is good now was good before.
  good_was : (e : W.Node) → Good n' (became e) → Good n e
  good_was e z = good_back z.0 e z.1 z.2 z.3

  -- If what each stop of a route became has the same items, and nothing is where the route has grown, the route has the same items.
  flow_grown : (at at' : W.Node → List Item) (k k' : ℕ) (e o o' : W.Node) → Path n k e o → Path n' k' (became e) o' → IsEnd (n'.kind o')
      → ((j : ℕ) (q : W.Node) → Path n j e q → at' (became q) ≡ at q) → ((j : ℕ) (q : W.Node) → Path n' (suc j) (became o) q → at' q ≡ [])
      → flow n' at' k' (became e) ≡ flow n at k e
  flow_grown at at' zero zero e o o' a b h f f' = f zero e refl
  flow_grown at at' zero (suc k') e o o' a b h f f' =
      ap₂ (λ y z. y ++ z) (flow_none n' at' k' (next n' (became e)) o' b.1 (λ j q c. f' j q (subst (λ z. Path n' (suc j) (became z) q) a (b.0, c)))) (f zero e refl)
  flow_grown at at' (suc k) zero e o o' a b h f f' = absurd (end_not_exit (n'.kind (became e)) (subst (λ z. IsEnd (n'.kind z)) (sym b) h) (exit_next e a.0).0)
  flow_grown at at' (suc k) (suc k') e o o' a b h f f' =
      let x = (exit_next e a.0).1 in
      ap₂ (λ y z. y ++ z)
      (ap (λ z. flow n' at' k' z) x ∙ flow_grown at at' k k' (next n e) o o' a.1 (subst (λ z. Path n' k' z o') x b.1) h (λ j q c. f (suc j) q (a.0, c)) f')
      (f zero e refl)

  -- A message of r whose route is good stands at what its stop became, and no other does.
  alike : (r : W.Ref) (known : Bool) (a q : W.Node) (j : ℕ) (m : Message W) → Good n' (became a) → Path n j a q → OnWay n a r known m
      → Alike n.stop q n'.stop (became q) r m
  alike r known a q j m z b w h =
      let u : Reach n a (n.stop m.target) = (w h).2 (good_was a z) in (
        (λ y. ap became y),
        (λ y.
            let i : u.0 ≡ j = positions n' u.0 j z.0 (became a) (became q) z.1 (subst (λ v. Path n' u.0 (became a) v) y (forward u.0 a (n.stop m.target) u.1)) (forward j a q b) z.2 z.3 in
            path_same n j a (n.stop m.target) q (subst (λ v. Path n v a (n.stop m.target)) i u.1) b),
      )

  -- No message of r is where the route has grown.
  not_beyond : (r : W.Ref) (known : Bool) (a o q : W.Node) (k j : ℕ) (m : Message W) → Good n' (became a) → Path n k a o → IsEnd (n.kind o)
      → Path n' (suc j) (became o) q → OnWay n a r known m → NotAt n'.stop r q m
  not_beyond r known a o q k j m z b h c w mr y =
      let u : Reach n a (n.stop m.target) = (w mr).2 (good_was a z) in
      let d : (d : ℕ) × (k ≡ u.0 + d) × Path n d (n.stop m.target) o = path_rest n u.0 k a (n.stop m.target) o u.1 b h in
      let l : (l : ℕ) × (l ≡ k + suc j) × Path n' l (became a) q = path_append n' k (suc j) (became a) (became o) q (forward k a o b) c in
      let i : u.0 ≡ l.0 = positions n' u.0 l.0 z.0 (became a) q z.1 (subst (λ v. Path n' u.0 (became a) v) y (forward u.0 a (n.stop m.target) u.1)) l.2 z.2 z.3 in
      let e1 : k ≡ u.0 + d.0 = d.1 in
      let e2 : l.0 ≡ k + suc j = l.1 in
      omega arith

  -- The list of a group has no call that waits at a stop of another group.
  wrong_group : (r : W.Ref) (q : W.Node) (h : W.Group) → InPlace n → (h ≡ W.group q → ⊥) → pick n.stop r q (n.waiting h) ≡ []
  wrong_group r q h s f =
      pick_none n.stop r q (n.waiting h)
      (all_map (WaitsIn n h) (NotAt n.stop r q) (n.waiting h)
      (λ m c y z. f (sym c.1 ∙ ap W.group z)) (s.waiting h))

  -- What waits at what a stop became, then what waited in the group, is at that stop what waited there.
  waits : (r : W.Ref) (q : W.Node) → InPlace n
      → pick n.stop r q (n'.waiting (W.group (became q))) ++ pick n.stop r q (n.waiting g) ≡ pick n.stop r q (n.waiting (W.group q))
  waits r q s = go (n.kind q) refl
    where
      shut : (n.kind q ≡ Open → ⊥) → (h : W.Group)
          → pick n.stop r q (n'.waiting h) ++ pick n.stop r q (n.waiting g) ≡ pick n.stop r q (n.waiting (W.group q))
      shut f h = ap₂ (λ y z. y ++ z) (by (W.same_group h g)) (not_open n r q g s f) ∙ sym (not_open n r q (W.group q) s f)
        where
          by : (d : Dec (h ≡ g)) → pick n.stop r q (choose d [] (n.waiting h)) ≡ []
          by (yes _) = refl
          by (no _) = not_open n r q h s f

      inside : W.group q ≡ g → (h : W.Group) → (d : Dec (h ≡ g))
          → pick n.stop r q (choose d [] (n.waiting h)) ++ pick n.stop r q (n.waiting g) ≡ pick n.stop r q (n.waiting (W.group q))
      inside e h (yes _) = ap (λ z. pick n.stop r q (n.waiting z)) (sym e)
      inside e h (no f) = ap₂ (λ y z. y ++ pick n.stop r q (n.waiting z)) (wrong_group r q h s (λ z. f (z ∙ e))) (sym e)

      outside : (W.group q ≡ g → ⊥) → (d : Dec (W.group q ≡ g))
          → pick n.stop r q (choose d [] (n.waiting (W.group q))) ++ pick n.stop r q (n.waiting g) ≡ pick n.stop r q (n.waiting (W.group q))
      outside f (yes e) = absurd (f e)
      outside f (no _) = ap (λ z. pick n.stop r q (n.waiting (W.group q)) ++ z) (wrong_group r q g s (λ z. f (sym z))) ∙ append-nil (pick n.stop r q (n.waiting (W.group q)))

      by_group : n.kind q ≡ Open → (d : Dec (W.group q ≡ g))
          → pick n.stop r q (n'.waiting (W.group (choose d (place_of q (fate q)) q))) ++ pick n.stop r q (n.waiting g) ≡ pick n.stop r q (n.waiting (W.group q))
      by_group c (yes e) = inside e (W.group (place_of q (fate q))) (W.same_group (W.group (place_of q (fate q))) g)
      by_group c (no f) = outside f (W.same_group (W.group q) g)

      go : (K : Kind W) → n.kind q ≡ K
          → pick n.stop r q (n'.waiting (W.group (new_stop g fate q K))) ++ pick n.stop r q (n.waiting g) ≡ pick n.stop r q (n.waiting (W.group q))
      go Object c = shut (λ y. cc) (W.group q)
      go Open c = by_group c (W.same_group (W.group q) g)
      go (Exit to) c = shut (λ y. cc) (W.group q)
      go Broken c = shut (λ y. cc) (W.group q)

  -- What is true of each waiting message is so after the list of the group was emptied.
  all_emptied : (P : Message W → Type 0) → ((h : W.Group) → AllByRecursion P (n.waiting h)) → (h : W.Group) → AllByRecursion P (n'.waiting h)
  all_emptied P f h = by (W.same_group h g)
    where
      by : (d : Dec (h ≡ g)) → AllByRecursion P (choose d [] (n.waiting h))
      by (yes _) = tt
      by (no _) = f h

  -- If P is true of each message everywhere and gives Q, then Q is true everywhere after the group settled.
  everywhere_settled : (P Q : Message W → Type 0) → ((m : Message W) → P m → Q m) → Everywhere n [] P → Everywhere n' (n.waiting g) Q
  everywhere_settled P Q f h = (
    all_emptied Q (λ w. all_map P Q (n.waiting w) f (h.0 w)),
    (λ v. all_map P Q (n.links v) f (h.1 v)),
    all_map P Q (n.waiting g) f (h.0 g),
  )

  -- A mark belongs to the same embargo after the group settled.
  mark_settled : (x : Reference W) (t : W.Node) (c : Content) → MarkBy n x t c → MarkBy n' x t c
  mark_settled x t (Call i) h = tt
  mark_settled x t Disembargo h = h
  mark_settled x t Echo h = (h.0, h.1, ap became h.2)

  module _ (al : (e into : W.Node) → n.kind e ≡ Open → W.group e ≡ g → fate e ≡ Merges into → W.home into ≡ W.home e) where
    -- A stop becomes a stop of the same vat.
    home_moved : (e : W.Node) → W.home (became e) ≡ W.home e
    home_moved e = go (n.kind e) refl
      where
        by_fate : n.kind e ≡ Open → W.group e ≡ g → (f : Fate W) → fate e ≡ f → W.home (place_of e f) ≡ W.home e
        by_fate c y (Leaves to) z = refl
        by_fate c y (Merges into) z = al e into c y z
        by_fate c y Breaks z = refl

        by_group : n.kind e ≡ Open → (d : Dec (W.group e ≡ g)) → W.home (choose d (place_of e (fate e)) e) ≡ W.home e
        by_group c (yes y) = by_fate c y (fate e) refl
        by_group c (no _) = refl

        go : (K : Kind W) → n.kind e ≡ K → W.home (new_stop g fate e K) ≡ W.home e
        go Object c = refl
        go Open c = by_group c (W.same_group (W.group e) g)
        go (Exit to) c = refl
        go Broken c = refl

    -- Nodes and messages are where they belong after the group settled.
    pub in_place_settled : InPlace n → InPlace n'
    in_place_settled s = record {
      homes = λ y. home_moved (n.stop y) ∙ s.homes y;
      waiting = λ h. by h (W.same_group h g);
      links = λ v. all_map (GoesTo n v) (GoesTo n' v) (n.links v) (λ y c. home_moved (n.stop y.target) ∙ c) (s.links v);
    }
      where
        open_stays : (e : W.Node) (h : W.Group) → n.kind e ≡ Open → W.group e ≡ h → (h ≡ g → ⊥) → (became e ≡ e) × (n'.kind e ≡ Open)
        open_stays e h c y f = (
          ap (new_stop g fate e) c ∙ choose_no (W.same_group (W.group e) g) (place_of e (fate e)) e (λ z. f (sym y ∙ z)),
          ap (new_kind g fate e) c ∙ choose_no (W.same_group (W.group e) g) (kind_of (fate e)) Open (λ z. f (sym y ∙ z)),
        )

        by : (h : W.Group) (d : Dec (h ≡ g)) → AllByRecursion (WaitsIn n' h) (choose d [] (n.waiting h))
        by h (yes _) = tt
        by h (no f) =
            all_map (WaitsIn n h) (WaitsIn n' h) (n.waiting h)
            (λ y c. let o = open_stays (n.stop y.target) h c.0 c.1 f in (ap n'.kind o.0 ∙ o.1, ap W.group o.0 ∙ c.1, c.2))
            (s.waiting h)

    -- At what a stop of the route became stands what stood at it, with the calls of the group that are to be routed.
    at_moved : (r : W.Ref) (x : Reference W) (q : W.Node) (j : ℕ) → InPlace n → InvariantOf n r x [] → Good n' (became (n.stop (tail x)))
        → Path n j (n.stop (tail x)) q → at n' r (n.waiting g) (became q) ≡ at n r [] q
    at_moved r x q j s v z b =
        let a : W.Node = n.stop (tail x) in
        let A : List Item = pick n.stop r q (n'.waiting (W.group (became q))) in
        let B : List Item = pick n.stop r q (n.waiting g) in
        let C : List Item = pick n.stop r q (n.links (W.home q)) in
        let like : (ms : List (Message W)) → AllByRecursion (OnWay n a r x.known) ms → pick n'.stop r (became q) ms ≡ pick n.stop r q ms =
        λ ms h. pick_alike n.stop q n'.stop (became q) r ms (all_map (OnWay n a r x.known) (Alike n.stop q n'.stop (became q) r) ms (λ m w. alike r x.known a q j m z b w) h) in
        let e1 : pick n'.stop r (became q) (n'.waiting (W.group (became q))) ≡ A = like (n'.waiting (W.group (became q))) (all_emptied (OnWay n a r x.known) v.on_the_way.0 (W.group (became q))) in
        let e2 : pick n'.stop r (became q) (n.waiting g) ≡ B = like (n.waiting g) (v.on_the_way.0 g) in
        let e3 : pick n'.stop r (became q) (n.links (W.home (became q))) ≡ C = ap (λ y. pick n'.stop r (became q) (n.links y)) (home_moved q) ∙ like (n.links (W.home q)) (v.on_the_way.1 (W.home q)) in
        ap₂ (λ y u. y ++ u) e1 (ap₂ (λ y u. y ++ u) e2 e3) ∙ (sym (append_assoc A B C) ∙ ap (λ y. y ++ C) (waits r q s))

    -- Nothing stands where the route has grown.
    nothing_beyond : (r : W.Ref) (x : Reference W) (o q : W.Node) (k j : ℕ) → InvariantOf n r x [] → Good n' (became (n.stop (tail x)))
        → Path n k (n.stop (tail x)) o → IsEnd (n.kind o) → Path n' (suc j) (became o) q → at n' r (n.waiting g) q ≡ []
    nothing_beyond r x o q k j v z b h c =
        let a : W.Node = n.stop (tail x) in
        let none : (ms : List (Message W)) → AllByRecursion (OnWay n a r x.known) ms → pick n'.stop r q ms ≡ [] =
        λ ms y. pick_none n'.stop r q ms (all_map (OnWay n a r x.known) (NotAt n'.stop r q) ms (λ m w. not_beyond r x.known a o q k j m z b h c w) y) in
        ap₂ (λ y u. y ++ u) (none (n'.waiting (W.group q)) (all_emptied (OnWay n a r x.known) v.on_the_way.0 (W.group q)))
        (ap₂ (λ y u. y ++ u) (none (n.waiting g) (v.on_the_way.0 g)) (none (n.links (W.home q)) (v.on_the_way.1 (W.home q))))

    -- A message on the way is on the way after the group settled.
    on_way_moved : (a : W.Node) (r : W.Ref) (known : Bool) (m : Message W) → OnWay n a r known m → OnWay n' (became a) r known m
    on_way_moved a r known m w h =
        let z = w h in (
          z.0,
          (λ y.
              let u : Reach n a (n.stop m.target) = z.2 (z.1 (good_was (n.stop m.target) y)) in
              let l : (l : ℕ) × (l ≡ u.0 + y.0) × Path n' l (became a) y.1 = path_append n' u.0 y.0 (became a) (became (n.stop m.target)) y.1 (forward u.0 a (n.stop m.target) u.1) y.2 in
              (l.0, y.1, l.2, y.3)),
          (λ y. let u = z.2 (good_was a y) in (u.0, forward u.0 a (n.stop m.target) u.1)),
        )

    -- The group settled, and its calls are to be routed.
    pub settled_keeps : (r : W.Ref) (x : Reference W) → InPlace n → InvariantOf n r x [] → InvariantOf n' r x (n.waiting g)
    settled_keeps r x s v =
        let a : W.Node = n.stop (tail x) in
        record {
          sum = λ z.
              let o : Good n a = good_was a z in
              sum_same (indexes x.delivered) x.made x.embargo (flow n (at n r []) o.0 a) (flow n' (at n' r (n.waiting g)) z.0 (became a))
              (sym (flow_grown (at n r []) (at n' r (n.waiting g)) o.0 z.0 a o.1 z.1 o.2 z.2 z.3
              (λ j q b. at_moved r x q j s v z b) (λ j q c. nothing_beyond r x o.1 q o.0 j v z o.2 o.3 c)))
              (v.sum o);
          on_the_way = everywhere_settled (OnWay n a r x.known) (OnWay n' (became a) r x.known) (λ m w. on_way_moved a r x.known m w) v.on_the_way;
          own_head_clear = λ z none h.
              pick_alike n.stop (n.stop x.head) n'.stop (became (n.stop x.head)) r (n.links (W.home x.head))
              (all_map (OnWay n a r x.known) (Alike n.stop (n.stop x.head) n'.stop (became (n.stop x.head)) r) (n.links (W.home x.head))
              (λ m w. alike r x.known a (n.stop x.head) 0 m z (ap n.stop (tail_none x none)) w) (v.on_the_way.1 (W.home x.head)))
              ∙ v.own_head_clear (good_was a z) none h;
          turned = λ b h. let z = v.turned b h in (z.0, exit_kind (n.stop b.old_head) z.0 z.1, ap became z.2);
          marks = everywhere_settled (IsMark n r x) (IsMark n' r x) (λ m h z. mark_settled x m.target m.what (h z)) v.marks;
          one_mark =
              let e : marks_of r n [] ≡ owed x.embargo = v.one_mark in
              let z : count r (n.waiting g) ≡ 0 =
              count_calls r (n.waiting g) (all_map (WaitsIn n g) (λ m. IsCall m.what) (n.waiting g) (λ m c. c.2) (s.waiting g)) in
              omega arith;
          dead = λ d z. v.dead d (good_was a z);
          delivered = all_map (EndsAt n a) (EndsAt n' (became a)) x.delivered
              (λ d y. (y.0, subst (λ u. Path n' y.0 (became a) u) (object_stays d.object y.2) (forward y.0 a d.object y.1), ap n'.kind (sym (object_stays d.object y.2)) ∙ object_kind d.object y.2))
              v.delivered;
        }
