-- A reference is made, and calls are made through it.
use Rattle.std.proofs.Common.{◌≡◌, ◌+◌, ◌∷◌, ◌++◌, ◌∙◌, [], Bool, List, None, Some, ap, append-nil, append_assoc, ap₂, arith, false, refl, subst, suc, sym, true, ℕ}
use Rattle.std.specs.List.{AllByRecursion}
use Rattle.laws_order.specs.Machine.{Call, Content, Disembargo, Echo, Embargo, Message, Names, Net, Reference, new_reference}
use Rattle.laws_order.specs.Invariant.{Everywhere, InPlace, InvariantOf, IsMark, Item, MarkBy, OnWay, Turned, at, count, flow, items, marks_of, one, pick, tail}
use Rattle.laws_order.proofs.Queues.{NotAt, everywhere_map, everywhere_more, everywhere_onto_link, pick_none, pick_one_hit}
use Rattle.laws_order.proofs.Lists.{all_map, none_not_some, some_same}
use Rattle.laws_order.proofs.Standing.{at_onto_hit, at_onto_miss, at_rest}
use Rattle.laws_order.specs.Order.{below, indexes}
use Rattle.laws_order.proofs.Marks.{count_none, mark_none, marks_onto, one_call}
use Rattle.laws_order.proofs.Flow.{flow_none, flow_push}
use Rattle.laws_order.proofs.Routing.{items_append}
use Rattle.laws_order.specs.Routing.{onto_link}

-- If the sum is the calls made, it is so with one call more at its end.
pub sum_more : (D : List ℕ) (made : ℕ) (F : List Item) → items D ++ F ≡ items (below made)
    → items D ++ (F ++ Some made ∷ []) ≡ items (below (suc made))
sum_more D made F e =
    sym (append_assoc (items D) F (Some made ∷ [])) ∙ (ap (λ z. z ++ Some made ∷ []) e ∙ sym (items_append (below made) (made ∷ [])))

-- An embargo keeps the call, behind those that it has.
pub held_keeps : {W : Names} (n : Net W) (r : W.Ref) (x : Reference W) (b : Embargo W) → InvariantOf n r (record x { embargo = Some b }) []
    → InvariantOf n r (record x { made = suc x.made; embargo = Some (record b { calls = b.calls ++ x.made ∷ [] }) }) []
held_keeps {W} n r x b v =
    let b' : Embargo W = record b { calls = b.calls ++ x.made ∷ [] } in
    record {
      sum = λ g. let s = v.sum g in (s.0, s.1, sym (append_assoc (below s.0) b.calls (x.made ∷ [])) ∙ ap (λ z. z ++ x.made ∷ []) s.2);
      on_the_way = v.on_the_way;
      own_head_clear = λ g h z. absurd (none_not_some b' (sym h));
      turned = λ c h. subst (λ z. Turned n x z) (some_same b' c h) (v.turned b refl);
      marks = everywhere_map n [] (IsMark n r (record x { embargo = Some b })) (IsMark n r (record x { made = suc x.made; embargo = Some b' })) (λ m k z. go m.target m.what (k z)) v.marks;
      one_mark = v.one_mark;
      dead = v.dead;
      delivered = v.delivered;
    }
  where
    go : (t : W.Node) (c : Content) → MarkBy n (record x { embargo = Some b }) t c
        → MarkBy n (record x { made = suc x.made; embargo = Some (record b { calls = b.calls ++ x.made ∷ [] }) }) t c
    go t (Call i) h = tt
    go t Disembargo h = (record b { calls = b.calls ++ x.made ∷ [] }, refl, h.2 ∙ ap (λ z. z.old_head) (sym (some_same b h.0 h.1)))
    go t Echo h = (record b { calls = b.calls ++ x.made ∷ [] }, refl, h.2)

-- What is said of the marks of a reference with no embargo holds once a call was made.
made_marks : {W : Names} (n : Net W) (r : W.Ref) (x x' : Reference W) → x.embargo ≡ None → Everywhere n [] (IsMark n r x)
    → Everywhere n [] (IsMark n r x')
made_marks n r x x' e h = everywhere_map n [] (IsMark n r x) (IsMark n r x') (λ m k z. mark_none n x x' e m.target m.what (k z)) h

-- Through a dead reference the call ends at once: its route is not good.
pub dead_keeps : {W : Names} (n : Net W) (r : W.Ref) (x : Reference W) → InvariantOf n r (record x { embargo = None; dead = true }) []
    → InvariantOf n r (record x { made = suc x.made; embargo = None; dead = true }) []
dead_keeps n r x v = record {
  sum = λ g. absurd (v.dead refl g);
  on_the_way = v.on_the_way;
  own_head_clear = v.own_head_clear;
  turned = v.turned;
  marks = made_marks n r (record x { embargo = None; dead = true }) (record x { made = suc x.made; embargo = None; dead = true }) refl v.marks;
  one_mark = v.one_mark;
  dead = v.dead;
  delivered = v.delivered;
}

-- The next call through a reference.
abbrev pub call_of : {W : Names} → W.Ref → Reference W → Message W
call_of r x = record { target = x.head; ref = r; what = Call x.made }

-- A call is to be routed at the own vat: no other is under way to its head, so it is the last of the sum.
pub here_keeps : {W : Names} (n : Net W) (r : W.Ref) (x : Reference W) → InPlace n → x.known ≡ true → W.home x.head ≡ W.vat r
    → InvariantOf n r (record x { embargo = None }) [] → InvariantOf n r (record x { made = suc x.made; embargo = None }) (call_of r x ∷ [])
here_keeps {W} n r x s kn hv v =
    let h : W.Node = n.stop x.head in
    let m : Message W = call_of r x in
    let x0 : Reference W = record x { embargo = None } in
    let x' : Reference W = record x { made = suc x.made; embargo = None } in
    let L : List Item = pick n.stop r h (n.waiting (W.group h)) in
    let R : List Item = pick n.stop r h (n.links (W.home h)) in
    record {
      sum = λ g.
          let Rn : R ≡ [] = ap (λ y. pick n.stop r h (n.links y)) (s.homes x.head) ∙ v.own_head_clear g refl hv in
          let e1 : at n r (m ∷ []) h ≡ L ++ Some x.made ∷ [] = ap₂ (λ y z. L ++ (y ++ z)) (pick_one_hit n r h m refl refl) Rn in
          let e0 : at n r [] h ≡ L = ap (λ z. L ++ z) Rn ∙ append-nil L in
          let u : flow n (at n r (m ∷ [])) g.0 h ≡ flow n (at n r []) g.0 h ++ Some x.made ∷ [] =
          flow_push n (at n r []) (at n r (m ∷ [])) (Some x.made ∷ []) g.0 h g.1 g.2 g.3 (e1 ∙ ap (λ z. z ++ Some x.made ∷ []) (sym e0))
          (λ j q b ne. at_rest n r m [] q (λ y z. ne (sym z))) in
          ap (λ z. items (indexes x.delivered) ++ z) u ∙ sum_more (indexes x.delivered) x.made (flow n (at n r []) g.0 h) (v.sum g);
      on_the_way = everywhere_more n m [] (OnWay n h r x.known) (λ z. (kn, (λ g. g), (λ g. (0, refl)))) v.on_the_way;
      own_head_clear = v.own_head_clear;
      turned = v.turned;
      marks = everywhere_more n m [] (IsMark n r x') (λ z. tt) (made_marks n r x0 x' refl v.marks);
      one_mark = let e : marks_of r n [] ≡ 0 = v.one_mark in let z : one r m ≡ 0 = one_call r m refl in omega arith;
      dead = v.dead;
      delivered = v.delivered;
    }

-- A call goes to the other vat, behind all that were sent to the head.
pub there_keeps : {W : Names} (n : Net W) (r : W.Ref) (x : Reference W) → InPlace n → x.known ≡ true → (W.home x.head ≡ W.vat r → ⊥)
    → InvariantOf n r (record x { embargo = None }) []
    → InvariantOf (onto_link n (call_of r x)) r (record x { made = suc x.made; embargo = None }) []
there_keeps {W} n r x s kn hv v =
    let h : W.Node = n.stop x.head in
    let m : Message W = call_of r x in
    let x0 : Reference W = record x { embargo = None } in
    let x' : Reference W = record x { made = suc x.made; embargo = None } in
    record {
      sum = λ g.
          let u : flow n (at (onto_link n m) r []) g.0 h ≡ flow n (at n r []) g.0 h ++ Some x.made ∷ [] =
          flow_push n (at n r []) (at (onto_link n m) r []) (Some x.made ∷ []) g.0 h g.1 g.2 g.3 (at_onto_hit n r m [] h s refl refl)
          (λ j q b ne. at_onto_miss n r m [] q s (λ y z. ne (sym z))) in
          ap (λ z. items (indexes x.delivered) ++ z) u ∙ sum_more (indexes x.delivered) x.made (flow n (at n r []) g.0 h) (v.sum g);
      on_the_way = everywhere_onto_link n m [] (OnWay n h r x.known) (λ z. (kn, (λ g. g), (λ g. (0, refl)))) v.on_the_way;
      own_head_clear = λ g y z. absurd (hv z);
      turned = v.turned;
      marks = everywhere_onto_link n m [] (IsMark n r x') (λ z. tt) (made_marks n r x0 x' refl v.marks);
      one_mark =
          let e : marks_of r n [] ≡ 0 = v.one_mark in
          let y : marks_of r (onto_link n m) [] ≡ marks_of r n [] + one r m = marks_onto r n m [] in
          let z : one r m ≡ 0 = one_call r m refl in
          omega arith;
      dead = v.dead;
      delivered = v.delivered;
    }

-- Of a reference that was not made there is no message on a way.
pub unknown_none : {W : Names} (n : Net W) (a : W.Node) (r : W.Ref) (known : Bool) (ms : List (Message W)) → known ≡ false
    → AllByRecursion (OnWay n a r known) ms → AllByRecursion (λ m. m.ref ≡ r → ⊥) ms
unknown_none n a r known ms e h = all_map (OnWay n a r known) (λ m. m.ref ≡ r → ⊥) ms (λ m w u. let z : true ≡ false = sym (w u).0 ∙ e in cc) h

-- Where no message is of r, each message of r is on any way.
pub none_on_way : {W : Names} (n : Net W) (a : W.Node) (r : W.Ref) (known : Bool) (ms : List (Message W))
    → AllByRecursion (λ m. m.ref ≡ r → ⊥) ms → AllByRecursion (OnWay n a r known) ms
none_on_way n a r known ms h = all_map (λ m. m.ref ≡ r → ⊥) (OnWay n a r known) ms (λ m w u. absurd (w u)) h

-- Where no message is of r, nothing of r is at any stop.
pub none_at : {W : Names} (n : Net W) (r : W.Ref) (q : W.Node) (ms : List (Message W)) → AllByRecursion (λ m. m.ref ≡ r → ⊥) ms
    → pick n.stop r q ms ≡ []
none_at n r q ms h = pick_none n.stop r q ms (all_map (λ m. m.ref ≡ r → ⊥) (NotAt n.stop r q) ms (λ m w u z. w u) h)

-- No message of r is anywhere.
pub record Nowhere {W : Names} (n : Net W) (r : W.Ref) : Type 0 where
  pub waiting : (g : W.Group) → AllByRecursion (λ m. m.ref ≡ r → ⊥) (n.waiting g)
  pub links : (v : Bool) → AllByRecursion (λ m. m.ref ≡ r → ⊥) (n.links v)

-- Of a reference that was not made no message is anywhere.
pub nowhere : {W : Names} (n : Net W) (r : W.Ref) (x : Reference W) → x.known ≡ false → InvariantOf n r x [] → Nowhere n r
nowhere n r x e v = record {
  waiting = λ g. unknown_none n (n.stop (tail x)) r x.known (n.waiting g) e (v.on_the_way.0 g);
  links = λ w. unknown_none n (n.stop (tail x)) r x.known (n.links w) e (v.on_the_way.1 w);
}

-- Where no message of r is anywhere, the invariant holds of r as it is made, and as it is yet to be made.
pub begin_keeps : {W : Names} (n : Net W) (r : W.Ref) (known : Bool) (h : W.Node) → Nowhere n r → InvariantOf n r (new_reference known h) []
begin_keeps {W} n r known h v = record {
  sum = λ g. flow_none n (at n r []) g.0 (n.stop h) g.1 g.2 (λ j q b. ap₂ (λ y z. y ++ z) (none_at n r q (n.waiting (W.group q)) (v.waiting (W.group q))) (none_at n r q (n.links (W.home q)) (v.links (W.home q))));
  on_the_way = (
    (λ g. none_on_way n (n.stop h) r known (n.waiting g) (v.waiting g)),
    (λ w. none_on_way n (n.stop h) r known (n.links w) (v.links w)),
    tt,
  );
  own_head_clear = λ g y z. none_at n r (n.stop h) (n.links (W.home h)) (v.links (W.home h));
  turned = λ b z. absurd (none_not_some b z);
  marks = ((λ g. unmarked (n.waiting g) (v.waiting g)), (λ w. unmarked (n.links w) (v.links w)), tt);
  one_mark = let a : count r (n.links true) ≡ 0 = count_none r (n.links true) (v.links true) in let b : count r (n.links false) ≡ 0 = count_none r (n.links false) (v.links false) in omega arith;
  dead = λ d. absurd (let z : false ≡ true = d in cc);
  delivered = tt;
}
  where
    unmarked : (ms : List (Message W)) → AllByRecursion (λ m. m.ref ≡ r → ⊥) ms → AllByRecursion (IsMark n r (new_reference known h)) ms
    unmarked ms u = all_map (λ m. m.ref ≡ r → ⊥) (IsMark n r (new_reference known h)) ms (λ m y z. absurd (y z)) u
