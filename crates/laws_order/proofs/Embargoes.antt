-- An echo comes back and its embargo is lifted.
use Rattle.std.proofs.Common.{◌≡◌, ◌∷◌, ◌++◌, ◌∙◌, [], Bool, List, None, Some, ap, append-nil, append_assoc, ap₂, arith, false, refl, subst, suc, sym, true, ℕ}
use Rattle.std.specs.List.{AllByRecursion}
use Rattle.laws_order.specs.Machine.{Call, Echo, Embargo, Exit, Message, Names, Net, Reference}
use Rattle.laws_order.specs.Order.{EndsAt, IsCall, below, indexes}
use Rattle.laws_order.specs.Routes.{Good, Path, next}
use Rattle.laws_order.specs.Invariant.{InPlace, InvariantOf, IsMark, Item, OnWay, WaitsIn, at, count, flow, item, items, mark, marks_of, one, pick}
use Rattle.laws_order.proofs.Flow.{ahead, ahead_same, flow_ahead}
use Rattle.laws_order.proofs.Lists.{all_map, left_nil, none_not_some, right_nil}
use Rattle.laws_order.proofs.Standing.{at_rest}
use Rattle.laws_order.specs.Routing.{calls_to}
use Rattle.laws_order.proofs.Heads.{clear_links, clear_waiting, step_down}
use Rattle.laws_order.proofs.Marks.{count_calls, count_zero, mark_call, mark_zero, one_hit}
use Rattle.laws_order.proofs.Paths.{ends_down, good_down, good_up, kind_exit, next_is, no_self}
use Rattle.laws_order.proofs.Routing.{items_append}
use Rattle.laws_order.proofs.Queues.{pick_hit, pick_miss, pick_one_hit, pick_one_miss}

-- If items with a mark among them are calls and then one mark, those before the mark are these calls, and none is behind it.
pub last_mark : (A B : List Item) (U : List ℕ) → A ++ None ∷ B ≡ items U ++ None ∷ [] → (A ≡ items U) × (B ≡ [])
last_mark [] B [] e = (refl, cc)
last_mark [] B (u ∷ us) e = absurd (cc)
last_mark (x ∷ A) B [] e = absurd (go A (cc))
  where
    go : (A : List Item) → A ++ None ∷ B ≡ [] → ⊥
    go [] h = cc
    go (y ∷ ys) h = cc
last_mark (x ∷ A) B (u ∷ us) e =
    let h : x ≡ Some u = cc in
    let t : A ++ None ∷ B ≡ items us ++ None ∷ [] = cc in
    let r = last_mark A B us t in
    (ap₂ (λ y z. y ∷ z) h r.0, r.1)

-- Calls that are to be routed to h stand where h stops.
pub pick_calls_hit : (W : Names) (stop : W.Node → W.Node) (r : W.Ref) (q h : W.Node) (cs : List ℕ) → stop h ≡ q
    → pick {W = W} stop r q (calls_to h r cs) ≡ items cs
pick_calls_hit W stop r q h [] e = refl
pick_calls_hit W stop r q h (i ∷ cs) e = pick_hit {W = W} stop r q (record { target = h; ref = r; what = Call i }) (calls_to h r cs) refl e ∙ ap (λ z. Some i ∷ z) (pick_calls_hit W stop r q h cs e)

-- They stand nowhere else.
pub pick_calls_miss : (W : Names) (stop : W.Node → W.Node) (r : W.Ref) (q h : W.Node) (cs : List ℕ) → (stop h ≡ q → ⊥)
    → pick {W = W} stop r q (calls_to h r cs) ≡ []
pick_calls_miss W stop r q h [] f = refl
pick_calls_miss W stop r q h (i ∷ cs) f = pick_miss {W = W} stop r q (record { target = h; ref = r; what = Call i }) (calls_to h r cs) (λ a b. f b) ∙ pick_calls_miss W stop r q h cs f

-- The sum, as it has the echo in the middle, grouped round the echo.
regroup : (D A L : List Item) (N : Item) (R B : List Item) → D ++ ((A ++ (L ++ N ∷ R)) ++ B) ≡ (D ++ (A ++ L)) ++ N ∷ (R ++ B)
regroup D A L N R B = simp append_assoc

-- The echo is the mark at the end of the sum. So nothing of r is left before the old head's exit, nothing is behind the echo
-- on its link, and the calls that were kept take the mark's place.
pub lift_sum : {W : Names} (n : Net W) (r : W.Ref) (x : Reference W) (b : Embargo W) (m : Message W) (to : W.Node) → InPlace n → m.ref ≡ r
    → m.what ≡ Echo → n.kind (n.stop b.old_head) ≡ Exit to → n.stop to ≡ n.stop x.head → n.stop m.target ≡ n.stop x.head
    → InvariantOf n r (record x { embargo = Some b }) (m ∷ []) → (g : Good n (n.stop x.head))
    → (at n r [] (n.stop b.old_head) ≡ []) × (pick n.stop r (n.stop x.head) (n.links (W.home (n.stop x.head))) ≡ []) × (items (indexes x.delivered) ++ flow n (at n r (calls_to x.head r b.calls)) g.0 (n.stop x.head) ≡ items (below x.made))
lift_sum {W} n r x b m to s mr mw e eh et v g =
    let a : W.Node = n.stop b.old_head in
    let h : W.Node = n.stop x.head in
    let k : ℕ = g.0 in
    let at1 : W.Node → List Item = at n r (m ∷ []) in
    let at2 : W.Node → List Item = at n r (calls_to x.head r b.calls) in
    let D : List Item = items (indexes x.delivered) in
    let L : List Item = pick n.stop r h (n.waiting (W.group h)) in
    let R : List Item = pick n.stop r h (n.links (W.home h)) in
    let S : List Item = items b.calls in
    let ga : Good n a = good_up n a to e (subst (λ z. Good n z) (sym eh) g) in
    let apart : h ≡ a → ⊥ = λ z. no_self n a to ga e (eh ∙ z) in
    let nx : next n a ≡ h = next_is n a to e ∙ eh in
    let gu : Good n a = (suc k, g.1, (kind_exit (n.kind a) to e, subst (λ z. Path n k z g.1) (sym nx) g.2), g.3) in
    let sm = v.sum gu in
    let A : List Item = ahead n at1 k h in
    let at1h : at1 h ≡ L ++ None ∷ R = ap (λ z. L ++ (z ++ R)) (pick_one_hit n r h m mr et ∙ ap (λ z. item z ∷ []) mw) in
    let f1 : flow n at1 k (next n a) ≡ A ++ (L ++ None ∷ R) = ap (λ z. flow n at1 k z) nx ∙ (flow_ahead n at1 k h ∙ ap (λ z. A ++ z) at1h) in
    let at1a : at1 a ≡ at n r [] a = at_rest n r m [] a (λ y z. apart (sym et ∙ z)) in
    let q : (D ++ (A ++ L)) ++ None ∷ (R ++ at n r [] a) ≡ items (below sm.0) ++ None ∷ [] =
    sym (regroup D A L None R (at n r [] a)) ∙ (sym (ap₂ (λ y z. D ++ (y ++ z)) f1 at1a) ∙ sm.1) in
    let w = last_mark (D ++ (A ++ L)) (R ++ at n r [] a) (below sm.0) q in
    let Rn : R ≡ [] = left_nil R (at n r [] a) w.1 in
    let at2h : at2 h ≡ L ++ S = ap₂ (λ y z. L ++ (y ++ z)) (pick_calls_hit W n.stop r h x.head b.calls refl) Rn ∙ ap (λ z. L ++ z) (append-nil S) in
    let A2 : ahead n at2 k h ≡ A =
    ahead_same n at1 at2 k h g.1 g.2 g.3
    (λ j p c ne. ap (λ z. pick n.stop r p (n.waiting (W.group p)) ++ (z ++ pick n.stop r p (n.links (W.home p))))
    (pick_calls_miss W n.stop r p x.head b.calls (λ z. ne (sym z)) ∙ sym (pick_one_miss n r p m (λ y z. ne (sym z ∙ et))))) in
    let f2 : flow n at2 k h ≡ A ++ (L ++ S) = flow_ahead n at2 k h ∙ ap₂ (λ y z. y ++ z) A2 at2h in
    let end : D ++ (A ++ (L ++ S)) ≡ items (below x.made) =
    ap (λ z. D ++ z) (sym (append_assoc A L S)) ∙ (sym (append_assoc D (A ++ L) S) ∙ (ap (λ z. z ++ S) w.0 ∙ (sym (items_append (below sm.0) b.calls) ∙ ap items sm.2))) in
    (right_nil R (at n r [] a) w.1, Rn, ap (λ z. D ++ z) f2 ∙ end)

-- Calls to the head are on the way from it.
pub on_way_calls : {W : Names} (n : Net W) (r : W.Ref) (known : Bool) (h : W.Node) (cs : List ℕ) → known ≡ true
    → AllByRecursion (OnWay n (n.stop h) r known) (calls_to h r cs)
on_way_calls n r known h [] e = tt
on_way_calls n r known h (i ∷ cs) e = ((λ z. (e, (λ g. g), (λ g. (0, refl)))), on_way_calls n r known h cs e)

-- The messages made of call numbers are calls.
pub all_calls : (W : Names) (h : W.Node) (r : W.Ref) (cs : List ℕ) → AllByRecursion (λ m. IsCall m.what) (calls_to {W = W} h r cs)
all_calls W h r [] = tt
all_calls W h r (i ∷ cs) = (tt, all_calls W h r cs)

-- Once the echo was taken, no mark is left.
no_mark_left : {W : Names} (n : Net W) (r : W.Ref) (x : Reference W) (b : Embargo W) (m : Message W) → m.ref ≡ r → m.what ≡ Echo
    → marks_of r n (m ∷ []) ≡ 1 → marks_of r n [] ≡ 0
no_mark_left n r x b m mr mw e = let o : one r m ≡ 1 = one_hit r m mr ∙ ap mark mw in omega arith

-- The echo came: the embargo is lifted, and the calls that it kept are to be routed.
pub lift_keeps : {W : Names} (n : Net W) (r : W.Ref) (x : Reference W) (b : Embargo W) (m : Message W) → InPlace n → m.ref ≡ r
    → m.what ≡ Echo → n.stop m.target ≡ n.stop x.head → InvariantOf n r (record x { embargo = Some b }) (m ∷ [])
    → InvariantOf n r (record x { embargo = None }) (calls_to x.head r b.calls)
lift_keeps {W} n r x b m s mr mw et v =
    let tu = v.turned b refl in
    let a : W.Node = n.stop b.old_head in
    let h : W.Node = n.stop x.head in
    let to : W.Node = tu.0 in
    let e : n.kind a ≡ Exit to = tu.1 in
    let eh : n.stop to ≡ h = tu.2 in
    let x' : Reference W = record x { embargo = None } in
    let cs : List (Message W) = calls_to x.head r b.calls in
    let ls = λ (g : Good n h). lift_sum n r x b m to s mr mw e eh et v g in
    let none : marks_of r n [] ≡ 0 = no_mark_left n r x b m mr mw v.one_mark in
    let zero_of : (w : Bool) → count r (n.links w) ≡ 0 = elim [ false ↦ omega arith | true ↦ omega arith ] in
    record {
      sum = λ g. (ls g).2;
      on_the_way = (
        (λ g. subst (λ z. AllByRecursion (OnWay n z r x.known) (n.waiting g)) eh (step_down n r x.known a to (n.waiting g) e (λ y. clear_waiting n r a to s e g) (v.on_the_way.0 g))),
        (λ w. subst (λ z. AllByRecursion (OnWay n z r x.known) (n.links w)) eh
            (step_down n r x.known a to (n.links w) e
            (λ y. clear_links n r a s (right_nil (pick n.stop r a (n.waiting (W.group a))) (pick n.stop r a (n.links (W.home a))) (ls (subst (λ z. Good n z) eh (good_down n a to e y))).0) w)
            (v.on_the_way.1 w))),
        on_way_calls n r x.known x.head b.calls (v.on_the_way.2.0 mr).0,
      );
      own_head_clear = λ g y z. ap (λ w. pick n.stop r h (n.links w)) (sym (s.homes x.head)) ∙ (ls g).1;
      turned = λ c z. absurd (none_not_some c z);
      marks = (
        (λ g. all_map (WaitsIn n g) (IsMark n r x') (n.waiting g) (λ q c z. mark_call n x' q.target q.what c.2) (s.waiting g)),
        (λ w. all_map (λ q. q.ref ≡ r → mark q.what ≡ 0) (IsMark n r x') (n.links w) (λ q f z. mark_zero n x' q.target q.what (f z)) (count_zero r (n.links w) (zero_of w))),
        all_map (λ q. IsCall q.what) (IsMark n r x') cs (λ q c z. mark_call n x' q.target q.what c) (all_calls W x.head r b.calls),
      );
      one_mark = let z : count r cs ≡ 0 = count_calls r cs (all_calls W x.head r b.calls) in omega arith;
      dead = λ d g. v.dead d (good_up n a to e (subst (λ z. Good n z) (sym eh) g));
      delivered = subst (λ z. AllByRecursion (EndsAt n z) x.delivered) eh (ends_down n a to x.delivered e v.delivered);
    }
