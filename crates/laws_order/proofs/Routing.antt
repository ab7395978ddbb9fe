-- A call that is routed keeps the invariant.
use Rattle.std.proofs.Common.{◌≡◌, ◌+◌, ◌∷◌, ◌++◌, ◌∙◌, [], Bool, List, None, Option, Some, ap, append_assoc, ap₂, arith, refl, subst, sym, ℕ}
use Rattle.laws_order.specs.Machine.{Broken, Call, Content, Delivery, Disembargo, Echo, Embargo, Exit, Kind, Message, Names, Net, Object, Open, Reference, State, choose, same_vat}
use Rattle.laws_order.specs.Order.{EndsAt, IsCall, indexes}
use Rattle.laws_order.specs.Routes.{Good, IsEnd, Reach, next}
use Rattle.laws_order.specs.Invariant.{GoesTo, InPlace, InvariantOf, InvariantWith, IsMark, Item, OnWay, Sum, WaitsIn, at, flow, item, items, mark, marks_of, one, owed, pick, tail, tail_by}
use Rattle.laws_order.proofs.Lists.{all_append}
use Rattle.laws_order.proofs.Queues.{all_changed, everywhere_less, everywhere_onto_link, everywhere_onto_list, pick_changed, pick_one_miss}
use Rattle.laws_order.proofs.Standing.{at_first, at_onto_hit, at_onto_miss, at_open, at_rest}
use Rattle.laws_order.proofs.Paths.{broken_bad, end_same, good_at, good_up, kind_exit, next_is, no_loop, no_self, through}
use Rattle.laws_order.proofs.Marks.{count_call, marks_onto, one_call, one_miss, one_onward}
use Rattle.laws_order.proofs.Flow.{flow_move, flow_pop, flow_same}
use Rattle.laws_order.specs.Routing.{onto_link, onto_list, route, route_all, route_as, route_by}

-- The sum is that of any list that is the same.
pub sum_same : {W : Names} (D : List ℕ) (made : ℕ) (b : Option (Embargo W)) (F F' : List Item) → F ≡ F' → Sum D made b F → Sum D made b F'
sum_same D made b F F' e s = subst (λ z. Sum D made b z) e s

-- With no embargo calls set out from the head.
pub tail_none : {W : Names} (x : Reference W) → x.embargo ≡ None → tail x ≡ x.head
tail_none x e = ap (tail_by x.head) e

-- A message of another reference is no longer to be looked at.
pub drop_other : {W : Names} (n : Net W) (r : W.Ref) (x : Reference W) (m : Message W) (later : List (Message W)) → (m.ref ≡ r → ⊥)
    → InvariantOf n r x (m ∷ later) → InvariantOf n r x later
drop_other n r x m later f v =
    let a = n.stop (tail x) in
    record {
      sum = λ g. sum_same (indexes x.delivered) x.made x.embargo (flow n (at n r (m ∷ later)) g.0 a) (flow n (at n r later) g.0 a)
          (sym (flow_same n (at n r (m ∷ later)) (at n r later) g.0 a g.1 g.2 (λ j p b. sym (at_rest n r m later p (λ y z. f y))))) (v.sum g);
      on_the_way = everywhere_less n m later (OnWay n a r x.known) v.on_the_way;
      own_head_clear = v.own_head_clear;
      turned = v.turned;
      marks = everywhere_less n m later (IsMark n r x) v.marks;
      one_mark = let e : marks_of r n (m ∷ later) ≡ owed x.embargo = v.one_mark in let z : one r m ≡ 0 = one_miss r m f in omega arith;
      dead = v.dead;
      delivered = v.delivered;
    }

-- A call that comes to an open stop waits behind those that wait there.
pub open_keeps : {W : Names} (n : Net W) (r : W.Ref) (x : Reference W) (m : Message W) (later : List (Message W)) → IsCall m.what
    → InvariantOf n r x (m ∷ later) → InvariantOf (onto_list n m) r x later
open_keeps {W} n r x m later c v =
    let a = n.stop (tail x) in
    record {
      sum = λ g. sum_same (indexes x.delivered) x.made x.embargo (flow n (at n r (m ∷ later)) g.0 a) (flow n (at (onto_list n m) r later) g.0 a)
          (sym (flow_same n (at n r (m ∷ later)) (at (onto_list n m) r later) g.0 a g.1 g.2 (λ j p b. at_open n r m later p))) (v.sum g);
      on_the_way = everywhere_onto_list n m later (OnWay n a r x.known) v.on_the_way;
      own_head_clear = v.own_head_clear;
      turned = v.turned;
      marks = everywhere_onto_list n m later (IsMark n r x) v.marks;
      one_mark = let e : marks_of r n (m ∷ later) ≡ owed x.embargo = v.one_mark in let z : one r m ≡ 0 = count_call r m c in omega arith;
      dead = v.dead;
      delivered = v.delivered;
    }

-- A message that goes on over an exit stays on the way.
pub on_way_through : {W : Names} (n : Net W) (a : W.Node) (r : W.Ref) (known : Bool) (m m' : Message W) → m'.ref ≡ m.ref
    → n.kind (n.stop m.target) ≡ Exit m'.target → OnWay n a r known m → OnWay n a r known m'
on_way_through n a r known m m' q e w h =
    let z = w (sym q ∙ h) in
    (z.0, (λ g. z.1 (good_up n (n.stop m.target) m'.target e g)), (λ g. through n a (n.stop m.target) m'.target e (z.2 g)))

-- The items along the route are the same when one message of some reference goes on over an exit.
pub exit_flow : {W : Names} (n : Net W) (r : W.Ref) (a : W.Node) (m m' : Message W) (later : List (Message W)) → InPlace n → m'.ref ≡ m.ref
    → item m'.what ≡ item m.what → n.kind (n.stop m.target) ≡ Exit m'.target → Dec (m.ref ≡ r)
    → (m.ref ≡ r → Good n a → Reach n a (n.stop m.target)) → (g : Good n a)
    → flow n (at (onto_link n m') r later) g.0 a ≡ flow n (at n r (m ∷ later)) g.0 a
exit_flow n r a m m' later s q i e (no f) w g =
    flow_same n (at n r (m ∷ later)) (at (onto_link n m') r later) g.0 a g.1 g.2
    (λ j p b. at_onto_miss n r m' later p s (λ u v. f (sym q ∙ u)) ∙ sym (at_rest n r m later p (λ u v. f u)))
exit_flow {W} n r a m m' later s q i e (yes h) w g =
    let p : W.Node = n.stop m.target in
    let u : Reach n a p = w h g in
    let nx : next n p ≡ n.stop m'.target = next_is n p m'.target e in
    let self : n.stop m'.target ≡ p → ⊥ = no_self n p m'.target (good_at n a p g u) e in
    let here : at (onto_link n m') r later p ≡ at n r later p = at_onto_miss n r m' later p s (λ y z. self z) in
    let open_not : n.kind p ≡ Open → ⊥ = λ y. cc in
    flow_move n (at n r (m ∷ later)) (at (onto_link n m') r later) (item m.what) u.0 g.0 a p g.1 u.1 (kind_exit (n.kind p) m'.target e) g.2 g.3
    (at_first n r m later s open_not h ∙ ap (λ z. item m.what ∷ z) (sym here))
    (subst (λ y. at (onto_link n m') r later y ≡ at n r (m ∷ later) y ++ item m.what ∷ []) (sym nx)
    (at_onto_hit n r m' later (n.stop m'.target) s (q ∙ h) refl
    ∙ ap₂ (λ y z. y ++ z ∷ []) (sym (at_rest n r m later (n.stop m'.target) (λ y z. self (sym z)))) i))
    (λ y ne ne'. at_onto_miss n r m' later y s (λ b c. ne' (sym c ∙ sym nx)) ∙ sym (at_rest n r m later y (λ b c. ne (sym c))))

-- An own head stays clear when a message goes onto a link but not to it.
pub own_head_clear_onto : {W : Names} (n : Net W) (r : W.Ref) (x : Reference W) (m : Message W) → InPlace n
    → (m.ref ≡ r → n.stop m.target ≡ n.stop x.head → ⊥) → pick n.stop r (n.stop x.head) (n.links (W.home x.head)) ≡ []
    → pick n.stop r (n.stop x.head) ((onto_link n m).links (W.home x.head)) ≡ []
own_head_clear_onto {W} n r x m s f e =
    pick_changed same_vat n.links (W.home m.target) m n.stop r (n.stop x.head) (W.home x.head) (λ a b. sym (s.homes x.head) ∙ (ap W.home (sym b) ∙ s.homes m.target))
    ∙ (ap (λ z. z ++ pick n.stop r (n.stop x.head) (m ∷ [])) e ∙ pick_one_miss n r (n.stop x.head) m f)

-- A message goes on over an exit: a call, or a disembargo, in whose place its echo goes on.
pub exit_keeps : {W : Names} (n : Net W) (r : W.Ref) (x : Reference W) (m m' : Message W) (later : List (Message W)) → InPlace n
    → m'.ref ≡ m.ref → item m'.what ≡ item m.what → n.kind (n.stop m.target) ≡ Exit m'.target → IsMark n r x m'
    → InvariantOf n r x (m ∷ later) → InvariantOf (onto_link n m') r x later
exit_keeps {W} n r x m m' later s q c e k v =
    let n' : Net W = onto_link n m' in
    let a : W.Node = n.stop (tail x) in
    let way : OnWay n a r x.known m = v.on_the_way.2.0 in
    record {
      sum = λ g. sum_same (indexes x.delivered) x.made x.embargo (flow n (at n r (m ∷ later)) g.0 a) (flow n (at n' r later) g.0 a)
          (sym (exit_flow n r a m m' later s q c e (W.same_ref m.ref r) (λ h. (way h).2) g)) (v.sum g);
      on_the_way = everywhere_onto_link n m' later (OnWay n a r x.known) (on_way_through n a r x.known m m' q e way) (everywhere_less n m later (OnWay n a r x.known) v.on_the_way);
      own_head_clear = λ g none h. own_head_clear_onto n r x m' s
          (λ y z. no_loop n a (n.stop m.target) m'.target g e ((way (sym q ∙ y)).2 g) (z ∙ ap n.stop (sym (tail_none x none)))) (v.own_head_clear g none h);
      turned = v.turned;
      marks = everywhere_onto_link n m' later (IsMark n r x) k (everywhere_less n m later (IsMark n r x) v.marks);
      one_mark =
          let e : marks_of r n (m ∷ later) ≡ owed x.embargo = v.one_mark in
          let y : marks_of r n' later ≡ marks_of r n later + one r m' = marks_onto r n m' later in
          let z : one r m' ≡ one r m = one_onward r m m' q c in
          omega arith;
      dead = v.dead;
      delivered = v.delivered;
    }

-- A call that comes to a broken stop ends: the route of its reference is not good.
pub broken_keeps : {W : Names} (n : Net W) (r : W.Ref) (x : Reference W) (m : Message W) (later : List (Message W)) → IsCall m.what
    → n.kind (n.stop m.target) ≡ Broken → InvariantOf n r x (m ∷ later) → InvariantOf n r x later
broken_keeps {W} n r x m later c e v = go (W.same_ref m.ref r)
  where
    go : Dec (m.ref ≡ r) → InvariantOf n r x later
    go (no f) = drop_other n r x m later f v
    go (yes h) =
        let a = n.stop (tail x) in
        let bad : Good n a → ⊥ = λ g. broken_bad n (n.stop m.target) e (good_at n a (n.stop m.target) g ((v.on_the_way.2.0 h).2 g)) in
        record {
          sum = λ g. absurd (bad g);
          on_the_way = everywhere_less n m later (OnWay n a r x.known) v.on_the_way;
          own_head_clear = v.own_head_clear;
          turned = v.turned;
          marks = everywhere_less n m later (IsMark n r x) v.marks;
          one_mark = let e : marks_of r n (m ∷ later) ≡ owed x.embargo = v.one_mark in let z : one r m ≡ 0 = count_call r m c in omega arith;
          dead = v.dead;
          delivered = v.delivered;
        }

-- The numbers delivered, with one delivery more.
pub indexes_append : {W : Names} (ds : List (Delivery W)) (d : Delivery W) → indexes (ds ++ d ∷ []) ≡ indexes ds ++ d.index ∷ []
indexes_append [] d = refl
indexes_append (x ∷ ds) d = ap (λ z. x.index ∷ z) (indexes_append ds d)

-- The items of two lists of calls, one after the other.
pub items_append : (xs ys : List ℕ) → items (xs ++ ys) ≡ items xs ++ items ys
items_append [] ys = refl
items_append (x ∷ xs) ys = ap (λ z. Some x ∷ z) (items_append xs ys)

-- The items of a list of calls with one more, before others.
pub items_more : (xs : List ℕ) (i : ℕ) (F : List Item) → items (xs ++ i ∷ []) ++ F ≡ items xs ++ Some i ∷ F
items_more xs i F = ap (λ z. z ++ F) (items_append xs (i ∷ [])) ∙ append_assoc (items xs) (Some i ∷ []) F

-- The first call under way becomes the last call delivered: the sum is the same.
pub sum_delivered : {W : Names} (D : List ℕ) (made i : ℕ) (b : Option (Embargo W)) (F : List Item) → Sum D made b (Some i ∷ F)
    → Sum (D ++ i ∷ []) made b F
sum_delivered D made i None F s = items_more D i F ∙ s
sum_delivered D made i (Some b) F s = (s.0, items_more D i F ∙ s.1, s.2)

-- A call that comes to an object is delivered: it is the first of what is under way.
pub object_keeps : {W : Names} (n : Net W) (r : W.Ref) (x : Reference W) (m : Message W) (i : ℕ) (later : List (Message W)) → InPlace n
    → m.what ≡ Call i → n.kind (n.stop m.target) ≡ Object → m.ref ≡ r → InvariantOf n r x (m ∷ later)
    → InvariantOf n r (record x { delivered = x.delivered ++ record { index = i; object = n.stop m.target } ∷ [] }) later
object_keeps {W} n r x m i later s c e h v =
    let a : W.Node = n.stop (tail x) in
    let p : W.Node = n.stop m.target in
    let end : IsEnd (n.kind p) = subst IsEnd (sym e) tt in
    let d : Delivery W = record { index = i; object = p } in
    let w = v.on_the_way.2.0 h in
    let here : Good n p = (0, p, refl, end) in
    let u : Reach n a p = w.2 (w.1 here) in
    let open_not : n.kind p ≡ Open → ⊥ = λ y. cc in
    record {
      sum = λ g.
          let o : g.1 ≡ p = (end_same n g.0 u.0 a g.1 p g.2 g.3 u.1 end).1 in
          let pop : flow n (at n r (m ∷ later)) g.0 a ≡ item m.what ∷ flow n (at n r later) g.0 a =
          flow_pop n (at n r (m ∷ later)) (at n r later) (item m.what) g.0 a g.1 g.2 g.3
          (subst (λ y. at n r (m ∷ later) y ≡ item m.what ∷ at n r later y) (sym o) (at_first n r m later s open_not h))
          (λ q ne. sym (at_rest n r m later q (λ y z. ne (sym z ∙ sym o)))) in
          subst (λ z. Sum z x.made x.embargo (flow n (at n r later) g.0 a)) (sym (indexes_append x.delivered d))
          (sum_delivered (indexes x.delivered) x.made i x.embargo (flow n (at n r later) g.0 a)
          (sum_same (indexes x.delivered) x.made x.embargo (flow n (at n r (m ∷ later)) g.0 a) (Some i ∷ flow n (at n r later) g.0 a)
          (pop ∙ ap (λ z. item z ∷ flow n (at n r later) g.0 a) c) (v.sum g)));
      on_the_way = everywhere_less n m later (OnWay n a r x.known) v.on_the_way;
      own_head_clear = v.own_head_clear;
      turned = v.turned;
      marks = everywhere_less n m later (IsMark n r x) v.marks;
      one_mark = let e : marks_of r n (m ∷ later) ≡ owed x.embargo = v.one_mark in let z : one r m ≡ 0 = one_call r m (ap mark c) in omega arith;
      dead = v.dead;
      delivered = all_append (EndsAt n a) x.delivered (d ∷ []) v.delivered ((u.0, u.1, e), tt);
    }

-- Nodes and messages are where they belong after a message went onto the link to its vat.
pub in_place_link : {W : Names} (n : Net W) (m : Message W) → InPlace n → InPlace (onto_link n m)
in_place_link {W} n m s = record {
  homes = s.homes;
  waiting = s.waiting;
  links = all_changed same_vat n.links (W.home m.target) m (GoesTo n) s.links (s.homes m.target);
}

-- Nodes and messages are where they belong after a call went to the list of its open stop.
pub in_place_list : {W : Names} (n : Net W) (m : Message W) → n.kind (n.stop m.target) ≡ Open → IsCall m.what → InPlace n → InPlace (onto_list n m)
in_place_list {W} n m e c s = record {
  homes = s.homes;
  links = s.links;
  waiting = all_changed W.same_group n.waiting (W.group (n.stop m.target)) m (WaitsIn n) s.waiting (e, refl, c);
}

-- The reference with one more delivery.
abbrev with_delivery : {W : Names} → Reference W → ℕ → W.Node → Reference W
with_delivery x i o = record x { delivered = x.delivered ++ record { index = i; object = o } ∷ [] }

-- One call is routed.
pub route_holds : {W : Names} (s : State W) (m : Message W) (later : List (Message W)) → InvariantWith s (m ∷ later) → InvariantWith (route s m) later
route_holds {W} s m later f = by_what m.what refl f.only_calls.0
  where
    delivers : (i : ℕ) → m.what ≡ Call i → s.net.kind (s.net.stop m.target) ≡ Object → (r : W.Ref) → (d : Dec (r ≡ m.ref))
        → InvariantOf s.net r (choose d (with_delivery (s.refs m.ref) i (s.net.stop m.target)) (s.refs r)) later
    delivers i c e r (yes h) =
        subst (λ z. InvariantOf s.net r (with_delivery (s.refs z) i (s.net.stop m.target)) later) h
        (object_keeps s.net r (s.refs r) m i later f.in_place c e (sym h) (f.of_each r))
    delivers i c e r (no h) = drop_other s.net r (s.refs r) m later (λ z. h (sym z)) (f.of_each r)

    by_kind : (i : ℕ) → m.what ≡ Call i → (K : Kind W) → s.net.kind (s.net.stop m.target) ≡ K → InvariantWith (route_by s m i K) later
    by_kind i c Object e = record { in_place = f.in_place; only_calls = f.only_calls.1; of_each = λ r. delivers i c e r (W.same_ref r m.ref) }
    by_kind i c Open e = record { in_place = in_place_list s.net m e f.only_calls.0 f.in_place; only_calls = f.only_calls.1; of_each = λ r. open_keeps s.net r (s.refs r) m later f.only_calls.0 (f.of_each r) }
    by_kind i c (Exit to) e =
        let m' : Message W = record { target = to; ref = m.ref; what = Call i } in
        record { in_place = in_place_link s.net m' f.in_place; only_calls = f.only_calls.1; of_each = λ r. exit_keeps s.net r (s.refs r) m m' later f.in_place refl (ap item (sym c)) e (λ h. tt) (f.of_each r) }
    by_kind i c Broken e = record { in_place = f.in_place; only_calls = f.only_calls.1; of_each = λ r. broken_keeps s.net r (s.refs r) m later f.only_calls.0 e (f.of_each r) }

    by_what : (c : Content) → m.what ≡ c → IsCall c → InvariantWith (route_as s m c) later
    by_what (Call i) c h = by_kind i c (s.net.kind (s.net.stop m.target)) refl
    by_what Disembargo c h = absurd h
    by_what Echo c h = absurd h

-- Several calls are routed, the first one first.
pub route_all_holds : {W : Names} (s : State W) (later : List (Message W)) → InvariantWith s later → InvariantWith (route_all s later) []
route_all_holds s [] f = f
route_all_holds s (m ∷ later) f = route_all_holds (route s m) later (route_holds s m later f)
