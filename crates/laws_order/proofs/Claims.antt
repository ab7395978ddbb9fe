-- What the invariant says of the calls of each reference.
use Rattle.std.proofs.Common.{◌≡◌, ◌∷◌, ◌++◌, ◌∙◌, [], List, None, Option, Some, ap, append-nil, append_assoc, ap₂, refl, subst, suc, sym, zero, ℕ}
use Rattle.std.specs.List.{AllByRecursion}
use Rattle.laws_order.specs.Laws.{AlwaysInOrder}
use Rattle.laws_order.specs.Order.{AtOne, EndsAt, InOrder, IsAt, IsBeginningOf, IsCall, NoCallOf, NonePending, below, indexes, kept_calls}
use Rattle.laws_order.specs.Machine.{Call, Content, Delivery, Disembargo, Echo, Embargo, Message, Names, Net, Reference, State, choose, start}
use Rattle.laws_order.specs.Routes.{Good, IsEnd, next}
use Rattle.laws_order.specs.Invariant.{Invariant, InvariantOf, Item, Sum, Turned, at, flow, item, items, pick, tail, tail_by}
use Rattle.laws_order.proofs.Lists.{all_map}
use Rattle.laws_order.proofs.Paths.{end_same, ends_down, good_up}
use Rattle.laws_order.specs.Events.{run}
use Rattle.laws_order.proofs.Events.{run_keeps, start_holds}

-- The numbers of the calls among these items.
nums : List Item → List ℕ
nums [] = []
nums (Some i ∷ F) = i ∷ nums F
nums (None ∷ F) = nums F

-- The numbers of two lists of items, one after the other.
nums_append : (F G : List Item) → nums (F ++ G) ≡ nums F ++ nums G
unfolding nums
nums_append [] G = refl
nums_append (Some i ∷ F) G = ap (λ z. i ∷ z) (nums_append F G)
nums_append (None ∷ F) G = nums_append F G

-- The numbers of a list of calls are that list.
nums_items : (U : List ℕ) → nums (items U) ≡ U
unfolding nums
nums_items [] = refl
nums_items (i ∷ U) = ap (λ z. i ∷ z) (nums_items U)

-- A mark has no number.
nums_mark : nums (None ∷ []) ≡ []
unfolding nums
nums_mark = refl

-- What the sum says of the numbers: those delivered, then those under way, then those that an embargo keeps, are those made.
nums_sum : {W : Names} (D : List ℕ) (made : ℕ) (b : Option (Embargo W)) (F : List Item) → Sum D made b F → D ++ (nums F ++ kept_calls b) ≡ below made
nums_sum D made None F s =
    ap (λ z. D ++ z) (append-nil (nums F)) ∙ (ap (λ z. z ++ nums F) (sym (nums_items D)) ∙ (sym (nums_append (items D) F) ∙ (ap nums s ∙ nums_items (below made))))
nums_sum D made (Some b) F s =
    let u : D ++ nums F ≡ below s.0 =
    ap (λ z. z ++ nums F) (sym (nums_items D)) ∙ (sym (nums_append (items D) F) ∙ (ap nums s.1 ∙ (nums_append (items (below s.0)) (None ∷ []) ∙ (ap₂ (λ y z. y ++ z) (nums_items (below s.0)) nums_mark ∙ append-nil (below s.0))))) in
    sym (append_assoc D (nums F) b.calls) ∙ (ap (λ z. z ++ b.calls) u ∙ s.2)

-- A content that is no call adds no number.
nums_item : (c : Content) (F : List Item) → (IsCall c → ⊥) → nums (item c ∷ F) ≡ nums F
unfolding nums
nums_item (Call i) F f = absurd (f tt)
nums_item Disembargo F f = refl
nums_item Echo F f = refl

-- Where no message is a call of r, there is no number at any stop.
nums_pick : {W : Names} (n : Net W) (r : W.Ref) (q : W.Node) (ms : List (Message W)) → AllByRecursion (NoCallOf r) ms → nums (pick n.stop r q ms) ≡ []
nums_pick n r q [] h = nums_items []
nums_pick {W} n r q (m ∷ ms) h = go (W.same_ref m.ref r) (W.same_node (n.stop m.target) q) (nums_pick n r q ms h.1)
  where
    go : (c : Dec (m.ref ≡ r)) (d : Dec (n.stop m.target ≡ q)) → nums (pick n.stop r q ms) ≡ []
        → nums (choose c (choose d (item m.what ∷ pick n.stop r q ms) (pick n.stop r q ms)) (pick n.stop r q ms)) ≡ []
    go (yes a) (yes b) e = nums_item m.what (pick n.stop r q ms) (h.0 a) ∙ e
    go (yes a) (no b) e = e
    go (no a) d e = e

-- Where no stop has a number, the route has none.
nums_flow : {W : Names} (n : Net W) (at : W.Node → List Item) (k : ℕ) (e : W.Node) → ((q : W.Node) → nums (at q) ≡ []) → nums (flow n at k e) ≡ []
nums_flow n at zero e f = f e
nums_flow n at (suc k) e f = nums_append (flow n at k (next n e)) (at e) ∙ ap₂ (λ y z. y ++ z) (nums_flow n at k (next n e) f) (f e)

-- Where no call of r is pending, no stop has a number.
nums_at : {W : Names} (s : State W) (r : W.Ref) (q : W.Node) → NonePending s r → nums (at s.net r [] q) ≡ []
nums_at {W} s r q p =
    nums_append (pick s.net.stop r q (s.net.waiting (W.group q))) (pick s.net.stop r q (s.net.links (W.home q)))
    ∙ ap₂ (λ y z. y ++ z) (nums_pick s.net r q (s.net.waiting (W.group q)) (p.waiting (W.group q))) (nums_pick s.net r q (s.net.links (W.home q)) (p.links (W.home q)))

-- The route that ends at the object of a delivery is good.
delivered_good : {W : Names} (n : Net W) (a : W.Node) (d : Delivery W) → EndsAt n a d → Good n a
delivered_good n a d z = (z.0, d.object, z.1, subst IsEnd (sym z.2) tt)

-- All deliveries at an end of one route are at one object, since a route has one end.
at_one : {W : Names} (n : Net W) (a : W.Node) (ds : List (Delivery W)) → AllByRecursion (EndsAt n a) ds → AtOne ds
at_one n a [] h = tt
at_one n a (d ∷ ds) h =
    all_map (EndsAt n a) (IsAt d.object) ds
    (λ c z. (end_same n z.0 h.0.0 a c.object d.object z.1 (subst IsEnd (sym z.2) tt) h.0.1 (subst IsEnd (sym h.0.2) tt)).1) h.1

-- The calls delivered are a beginning of the calls made: where there is one, the route is good, and the sum says so.
in_beginning : {W : Names} (n : Net W) (r : W.Ref) (x : Reference W) → InvariantOf n r x [] → (ds : List (Delivery W)) → x.delivered ≡ ds
    → IsBeginningOf (indexes ds) (below x.made)
in_beginning n r x c [] e = (below x.made, refl)
in_beginning n r x c (d ∷ ds) e =
    let a = n.stop (tail x) in
    let h = subst (λ z. AllByRecursion (EndsAt n a) z) e c.delivered in
    let g : Good n a = delivered_good n a d h.0 in (
      nums (flow n (at n r []) g.0 a) ++ kept_calls x.embargo,
      ap (λ z. indexes z ++ (nums (flow n (at n r []) g.0 a) ++ kept_calls x.embargo)) (sym e) ∙ nums_sum (indexes x.delivered) x.made x.embargo (flow n (at n r []) g.0 a) (c.sum g),
    )

-- Where the route from the head is good, so is the route from which the calls under way set out.
tail_good : {W : Names} (n : Net W) (x : Reference W) (o : Option (Embargo W)) → x.embargo ≡ o
    → ((b : Embargo W) → x.embargo ≡ Some b → Turned n x b) → Good n (n.stop x.head) → Good n (n.stop (tail_by x.head o))
tail_good n x None e f g = g
tail_good n x (Some b) e f g =
    let u = f b e in
    good_up n (n.stop b.old_head) u.0 u.1 (subst (λ z. Good n z) (sym u.2) g)

-- What was delivered at the end of that route was delivered at the end of the route from the head.
head_ends : {W : Names} (n : Net W) (x : Reference W) (o : Option (Embargo W)) → x.embargo ≡ o
    → ((b : Embargo W) → x.embargo ≡ Some b → Turned n x b) → AllByRecursion (EndsAt n (n.stop (tail_by x.head o))) x.delivered
    → AllByRecursion (EndsAt n (n.stop x.head)) x.delivered
head_ends n x None e f h = h
head_ends n x (Some b) e f h =
    let u = f b e in
    subst (λ z. AllByRecursion (EndsAt n z) x.delivered) u.2 (ends_down n (n.stop b.old_head) u.0 x.delivered u.1 h)

-- The invariant gives the promise.
pub gives_order : {W : Names} (s : State W) → Invariant s → (r : W.Ref) → InOrder s r
gives_order {W} s f r =
    let x = s.refs r in
    let n = s.net in
    let c = f.of_each r in
    let a = n.stop (tail x) in
    record {
      beginning = in_beginning n r x c x.delivered refl;
      one_object = at_one n a x.delivered c.delivered;
      at_end = head_ends n x x.embargo refl c.turned c.delivered;
      all = λ e p.
          let g : Good n a = tail_good n x x.embargo refl c.turned e in
          sym (append-nil (indexes x.delivered))
          ∙ (ap₂ (λ y z. indexes x.delivered ++ (y ++ z)) (sym (nums_flow n (at n r []) g.0 a (λ q. nums_at s r q p))) (sym p.embargo)
          ∙ nums_sum (indexes x.delivered) x.made x.embargo (flow n (at n r []) g.0 a) (c.sum g));
    }

-- So the promise is kept after every list of allowed events.
pub always_in_order : (W : Names) → AlwaysInOrder W
always_in_order W kind heads events al r = gives_order (run (start kind heads) events) (run_keeps (start kind heads) events (start_holds kind heads) al) r
