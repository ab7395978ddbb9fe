-- A head moves: it is renamed, its path is shortened with no embargo, it turns back under one, or it is found broken.
use Rattle.std.proofs.Common.{◌≡◌, ◌+◌, ◌∷◌, ◌++◌, ◌∙◌, [], Bool, List, None, Option, Some, ap, append-nil, append_assoc, ap₂, arith, refl, subst, sym, true, ℕ}
use Rattle.std.specs.List.{AllByRecursion}
use Rattle.laws_order.specs.Machine.{Broken, Call, Content, Disembargo, Echo, Embargo, Exit, Message, Names, Net, Open, Reference, same_vat}
use Rattle.laws_order.specs.Order.{EndsAt, below, indexes}
use Rattle.laws_order.specs.Invariant.{Everywhere, GoesTo, InPlace, InvariantOf, IsMark, Item, MarkBy, OnWay, WaitsIn, at, flow, items, marks_of, one, pick}
use Rattle.laws_order.specs.Routes.{Good, Path}
use Rattle.laws_order.proofs.Queues.{NotAt, everywhere_map, everywhere_onto_link, none_there}
use Rattle.laws_order.proofs.Lists.{all_map, all_map2, all_under, none_not_some, some_same}
use Rattle.laws_order.proofs.Standing.{at_onto_hit, at_onto_miss, not_open}
use Rattle.laws_order.proofs.Paths.{broken_bad, ends_down, good_at, good_down, good_up, reach_down}
use Rattle.laws_order.proofs.Flow.{flow_down, flow_push}
use Rattle.laws_order.proofs.Marks.{mark_none, marks_onto, one_hit}
use Rattle.laws_order.specs.Routing.{onto_link}

-- No call waits at an exit.
pub clear_waiting : {W : Names} (n : Net W) (r : W.Ref) (a to : W.Node) → InPlace n → n.kind a ≡ Exit to → (g : W.Group)
    → AllByRecursion (NotAt n.stop r a) (n.waiting g)
clear_waiting {W} n r a to s e g =
    all_map (WaitsIn n g) (NotAt n.stop r a) (n.waiting g)
    (λ m c y z. let u : Open ≡ Exit to = sym c.0 ∙ (ap n.kind z ∙ e) in cc) (s.waiting g)

-- If the link to the vat of a stop has no message of r for it, neither link has one.
pub clear_links : {W : Names} (n : Net W) (r : W.Ref) (a : W.Node) → InPlace n → pick n.stop r a (n.links (W.home a)) ≡ [] → (v : Bool)
    → AllByRecursion (NotAt n.stop r a) (n.links v)
clear_links {W} n r a s e v = go (same_vat v (W.home a))
  where
    go : Dec (v ≡ W.home a) → AllByRecursion (NotAt n.stop r a) (n.links v)
    go (yes z) = subst (λ y. AllByRecursion (NotAt n.stop r a) (n.links y)) (sym z) (none_there n.stop r a (n.links (W.home a)) e)
    go (no z) =
        all_map (GoesTo n v) (NotAt n.stop r a) (n.links v)
        (λ m c y u. z (sym c ∙ ap W.home u)) (s.links v)

-- If the link has no message of r for an own head that stops at an exit, nothing of r stands there.
pub own_clear : {W : Names} (n : Net W) (r : W.Ref) (x : Reference W) (to : W.Node) → InPlace n → n.kind (n.stop x.head) ≡ Exit to
    → pick n.stop r (n.stop x.head) (n.links (W.home x.head)) ≡ [] → at n r [] (n.stop x.head) ≡ []
own_clear {W} n r x to s e h =
    let a : W.Node = n.stop x.head in
    let c : n.kind a ≡ Open → ⊥ = λ y. cc in
    ap₂ (λ y z. y ++ z) (not_open n r a (W.group a) s c) (ap (λ y. pick n.stop r a (n.links y)) (s.homes x.head) ∙ h)

-- If no message of r is at an exit, messages on the way from it are on the way from where it leads.
pub step_down : {W : Names} (n : Net W) (r : W.Ref) (known : Bool) (a to : W.Node) (ms : List (Message W)) → n.kind a ≡ Exit to
    → (Good n a → AllByRecursion (NotAt n.stop r a) ms) → AllByRecursion (OnWay n a r known) ms
    → AllByRecursion (OnWay n (n.stop to) r known) ms
step_down n r known a to ms e f h =
    all_map2 (λ m. Good n a → NotAt n.stop r a m) (OnWay n a r known) (OnWay n (n.stop to) r known) ms
    (λ m c w u. let z = w u in (z.0, (λ g. good_down n a to e (z.1 g)), (λ g. let g' = good_up n a to e g in reach_down n a to (n.stop m.target) e (c g' u) (z.2 g'))))
    (all_under (Good n a) (NotAt n.stop r a) ms f) h

-- What the invariant says of a reference with no embargo by the stop of its head alone.
record Led {W : Names} (n : Net W) (r : W.Ref) (x : Reference W) (a : W.Node) : Type 0 where
  sum : (g : Good n a) → items (indexes x.delivered) ++ flow n (at n r []) g.0 a ≡ items (below x.made)
  on_the_way : Everywhere n [] (OnWay n a r x.known)
  dead : x.dead ≡ true → Good n a → ⊥
  delivered : AllByRecursion (EndsAt n a) x.delivered

-- A mark belongs to the same embargo when the head is renamed.
rename_marks : {W : Names} (n : Net W) (r : W.Ref) (x : Reference W) (y : W.Node) (o : Option (Embargo W)) → n.stop y ≡ n.stop x.head
    → Everywhere n [] (IsMark n r (record x { embargo = o })) → Everywhere n [] (IsMark n r (record x { head = y; embargo = o }))
rename_marks {W} n r x y o e h = everywhere_map n [] (IsMark n r (record x { embargo = o })) (IsMark n r (record x { head = y; embargo = o })) (λ m k z. go m.target m.what (k z)) h
  where
    go : (t : W.Node) (c : Content) → MarkBy n (record x { embargo = o }) t c → MarkBy n (record x { head = y; embargo = o }) t c
    go t (Call i) k = tt
    go t Disembargo k = k
    go t Echo k = (k.0, k.1, k.2 ∙ sym e)

-- A head becomes another node with the same stop.
pub rename_keeps : {W : Names} (n : Net W) (r : W.Ref) (x : Reference W) (y : W.Node) (o : Option (Embargo W)) → n.stop y ≡ n.stop x.head
    → W.home y ≡ W.home x.head → InvariantOf n r (record x { embargo = o }) [] → InvariantOf n r (record x { head = y; embargo = o }) []
rename_keeps {W} n r x y None e h v =
    let d : Led n r x (n.stop y) = subst (λ z. Led n r x z) (sym e) (record { sum = v.sum; on_the_way = v.on_the_way; dead = v.dead; delivered = v.delivered }) in
    record {
      sum = d.sum;
      on_the_way = d.on_the_way;
      own_head_clear = λ g z u. ap₂ (λ p q. pick n.stop r p (n.links q)) e h ∙ v.own_head_clear (subst (λ p. Good n p) e g) refl (sym h ∙ u);
      turned = λ b z. absurd (none_not_some b z);
      marks = rename_marks n r x y None e v.marks;
      one_mark = v.one_mark;
      dead = d.dead;
      delivered = d.delivered;
    }
rename_keeps {W} n r x y (Some b) e h v = record {
  sum = v.sum;
  on_the_way = v.on_the_way;
  own_head_clear = λ g z u. absurd (none_not_some b (sym z));
  turned = λ c z. let u = v.turned c z in (u.0, u.1, u.2 ∙ sym e);
  marks = rename_marks n r x y (Some b) e v.marks;
  one_mark = v.one_mark;
  dead = v.dead;
  delivered = v.delivered;
}

-- An own head whose stop is an exit becomes what that leads to: nothing of r stands before the exit, so none is overtaken.
pub shorten_keeps : {W : Names} (n : Net W) (r : W.Ref) (x : Reference W) (t : W.Node) → InPlace n → W.home x.head ≡ W.vat r
    → (W.home t ≡ W.vat r → ⊥) → n.kind (n.stop x.head) ≡ Exit t → InvariantOf n r (record x { embargo = None }) []
    → InvariantOf n r (record x { head = t; embargo = None }) []
shorten_keeps {W} n r x t s h f e v =
    let a : W.Node = n.stop x.head in
    let clear : Good n a → pick n.stop r a (n.links (W.home x.head)) ≡ [] = λ g. v.own_head_clear g refl h in
    record {
      sum = λ g.
          let u = good_up n a t e g in
          ap (λ z. items (indexes x.delivered) ++ z) (sym (flow_down n (at n r []) g.0 a t e (own_clear n r x t s e (clear u)))) ∙ v.sum u;
      on_the_way = (
        (λ g. step_down n r x.known a t (n.waiting g) e (λ y. clear_waiting n r a t s e g) (v.on_the_way.0 g)),
        (λ w. step_down n r x.known a t (n.links w) e (λ y. clear_links n r a s (ap (λ z. pick n.stop r a (n.links z)) (s.homes x.head) ∙ clear y) w) (v.on_the_way.1 w)),
        tt,
      );
      own_head_clear = λ g z y. absurd (f y);
      turned = λ b z. absurd (none_not_some b z);
      marks = everywhere_map n [] (IsMark n r (record x { embargo = None })) (IsMark n r (record x { head = t; embargo = None }))
          (λ m k z. mark_none n (record x { embargo = None }) (record x { head = t; embargo = None }) refl m.target m.what (k z)) v.marks;
      one_mark = v.one_mark;
      dead = λ d g. v.dead d (good_up n a t e g);
      delivered = ends_down n a t x.delivered e v.delivered;
    }

-- A head at the other vat turns back: the disembargo goes behind all calls that were sent to the old head.
pub turn_keeps : {W : Names} (n : Net W) (r : W.Ref) (x : Reference W) (y : W.Node) → InPlace n → x.known ≡ true
    → n.kind (n.stop x.head) ≡ Exit y → InvariantOf n r (record x { embargo = None }) []
    → InvariantOf (onto_link n (record { target = x.head; ref = r; what = Disembargo })) r (record x { head = y; embargo = Some (record { old_head = x.head; calls = [] }) }) []
turn_keeps {W} n r x y s kn e v =
    let t : W.Node = x.head in
    let m : Message W = record { target = t; ref = r; what = Disembargo } in
    let a : W.Node = n.stop t in
    let n' : Net W = onto_link n m in
    let b : Embargo W = record { old_head = t; calls = [] } in
    let x0 : Reference W = record x { embargo = None } in
    let x' : Reference W = record x { head = y; embargo = Some (record { old_head = t; calls = [] }) } in
    let D : List Item = items (indexes x.delivered) in
    record {
      sum = λ g.
          let u : flow n (at n' r []) g.0 a ≡ flow n (at n r []) g.0 a ++ None ∷ [] =
          flow_push n (at n r []) (at n' r []) (None ∷ []) g.0 a g.1 g.2 g.3 (at_onto_hit n r m [] a s refl refl)
          (λ j q b ne. at_onto_miss n r m [] q s (λ b' c. ne (sym c))) in
          (x.made, ap (λ z. D ++ z) u ∙ (sym (append_assoc D (flow n (at n r []) g.0 a) (None ∷ [])) ∙ ap (λ z. z ++ None ∷ []) (v.sum g)), append-nil (below x.made));
      on_the_way = everywhere_onto_link n m [] (OnWay n a r x.known) (λ z. (kn, (λ g. g), (λ g. (0, refl)))) v.on_the_way;
      own_head_clear = λ g h z. absurd (none_not_some b (sym h));
      turned = λ c h. let p : t ≡ c.old_head = ap (λ z. z.old_head) (some_same b c h) in
          (y, subst (λ z. n.kind (n.stop z) ≡ Exit y) p e, refl);
      marks = everywhere_onto_link n m [] (IsMark n r x') (λ z. (b, refl, refl))
          (everywhere_map n [] (IsMark n r x0) (IsMark n r x') (λ q k z. mark_none n x0 x' refl q.target q.what (k z)) v.marks);
      one_mark =
          let u : marks_of r n' [] ≡ marks_of r n [] + one r m = marks_onto r n m [] in
          let z : one r m ≡ 1 = one_hit r m refl in
          let w : marks_of r n [] ≡ 0 = v.one_mark in
          omega arith;
      dead = v.dead;
      delivered = v.delivered;
    }

-- A head is found to lead to a broken stop: its route is not good.
pub break_keeps : {W : Names} (n : Net W) (r : W.Ref) (x : Reference W) (b : W.Node) (k : ℕ) → Path n k (n.stop x.head) b
    → n.kind b ≡ Broken → InvariantOf n r (record x { embargo = None }) [] → InvariantOf n r (record x { dead = true; embargo = None }) []
break_keeps n r x b k p e v = record {
  sum = v.sum;
  on_the_way = v.on_the_way;
  own_head_clear = v.own_head_clear;
  turned = v.turned;
  marks = everywhere_map n [] (IsMark n r (record x { embargo = None })) (IsMark n r (record x { dead = true; embargo = None }))
      (λ m h z. mark_none n (record x { embargo = None }) (record x { dead = true; embargo = None }) refl m.target m.what (h z)) v.marks;
  one_mark = v.one_mark;
  dead = λ d g. broken_bad n b e (good_at n (n.stop x.head) b g (k, p));
  delivered = v.delivered;
}
