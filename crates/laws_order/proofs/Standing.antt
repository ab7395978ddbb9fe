-- What stands at a stop, as messages are routed and go onto links.
use Rattle.std.proofs.Common.{◌≡◌, ◌∷◌, ◌++◌, ◌∙◌, [], List, ap, append-nil, append_assoc, ap₂, refl, sym}
use Rattle.laws_order.specs.Invariant.{InPlace, WaitsIn, at, item, pick}
use Rattle.laws_order.specs.Machine.{Message, Names, Net, Open, same_vat}
use Rattle.laws_order.proofs.Queues.{NotAt, pick_append, pick_changed, pick_hit, pick_miss, pick_none, pick_one_hit, pick_one_miss}
use Rattle.laws_order.proofs.Lists.{all_map}
use Rattle.laws_order.specs.Routing.{onto_link, onto_list}

-- No call waits at a stop that is not open.
pub not_open : {W : Names} (n : Net W) (r : W.Ref) (q : W.Node) (h : W.Group) → InPlace n → (n.kind q ≡ Open → ⊥) → pick n.stop r q (n.waiting h) ≡ []
not_open {W} n r q h s f =
    pick_none n.stop r q (n.waiting h)
    (all_map (WaitsIn n h) (NotAt n.stop r q) (n.waiting h)
    (λ m c a b. f (ap n.kind (sym b) ∙ c.0)) (s.waiting h))

-- What the link has for a stop after a message went onto it.
pub at_link : {W : Names} (n : Net W) (r : W.Ref) (m : Message W) (later : List (Message W)) (q : W.Node) → InPlace n
    → pick n.stop r q ((onto_link n m).links (W.home q)) ≡ pick n.stop r q (n.links (W.home q)) ++ pick n.stop r q (m ∷ [])
at_link {W} n r m later q s =
    pick_changed same_vat n.links (W.home m.target) m n.stop r q (W.home q) (λ a b. ap W.home (sym b) ∙ s.homes m.target)

-- What stands at a stop after a message went onto a link: its item joins the end where it stops there.
pub at_onto : {W : Names} (n : Net W) (r : W.Ref) (m : Message W) (later : List (Message W)) (q : W.Node) → InPlace n
    → at (onto_link n m) r later q ≡ at n r later q ++ pick n.stop r q (m ∷ [])
at_onto {W} n r m later q s =
    let A = pick n.stop r q (n.waiting (W.group q)) in
    let M = pick n.stop r q (m ∷ []) in
    let B = pick n.stop r q later in
    let C = pick n.stop r q (n.links (W.home q)) in
    ap (λ z. A ++ (B ++ z)) (at_link n r m later q s) ∙ sym (append_assoc A (B ++ C) M ∙ ap (λ z. A ++ z) (append_assoc B C M))

-- A message that goes onto a link to elsewhere changes nothing at a stop.
pub at_onto_miss : {W : Names} (n : Net W) (r : W.Ref) (m : Message W) (later : List (Message W)) (q : W.Node) → InPlace n
    → (m.ref ≡ r → n.stop m.target ≡ q → ⊥) → at (onto_link n m) r later q ≡ at n r later q
at_onto_miss n r m later q s f = at_onto n r m later q s ∙ (ap (λ z. at n r later q ++ z) (pick_one_miss n r q m f) ∙ append-nil (at n r later q))

-- A message of r that goes onto a link to a stop joins the end there.
pub at_onto_hit : {W : Names} (n : Net W) (r : W.Ref) (m : Message W) (later : List (Message W)) (q : W.Node) → InPlace n → m.ref ≡ r
    → n.stop m.target ≡ q → at (onto_link n m) r later q ≡ at n r later q ++ item m.what ∷ []
at_onto_hit n r m later q s a b = at_onto n r m later q s ∙ ap (λ z. at n r later q ++ z) (pick_one_hit n r q m a b)

-- The first message that is to be routed is the first at its stop, if that is not open.
pub at_first : {W : Names} (n : Net W) (r : W.Ref) (m : Message W) (later : List (Message W)) → InPlace n
    → (n.kind (n.stop m.target) ≡ Open → ⊥) → m.ref ≡ r
    → at n r (m ∷ later) (n.stop m.target) ≡ item m.what ∷ at n r later (n.stop m.target)
at_first {W} n r m later s f a =
    let q = n.stop m.target in
    let A = pick n.stop r q (n.waiting (W.group q)) in
    let C = pick n.stop r q (n.links (W.home q)) in
    let none : A ≡ [] = not_open n r q (W.group q) s f in
    let e1 : pick n.stop r q (m ∷ later) ≡ item m.what ∷ pick n.stop r q later = pick_hit n.stop r q m later a refl in
    ap₂ (λ y z. y ++ (z ++ C)) none e1 ∙ ap (λ y. item m.what ∷ (y ++ (pick n.stop r q later ++ C))) (sym none)

-- A message that is to be routed stands at no other stop.
pub at_rest : {W : Names} (n : Net W) (r : W.Ref) (m : Message W) (later : List (Message W)) (q : W.Node)
    → (m.ref ≡ r → n.stop m.target ≡ q → ⊥) → at n r (m ∷ later) q ≡ at n r later q
at_rest {W} n r m later q f = ap (λ z. pick n.stop r q (n.waiting (W.group q)) ++ (z ++ pick n.stop r q (n.links (W.home q)))) (pick_miss n.stop r q m later f)

-- A call that goes from those to be routed to where it waits keeps its place.
pub at_open : {W : Names} (n : Net W) (r : W.Ref) (m : Message W) (later : List (Message W)) (q : W.Node)
    → at (onto_list n m) r later q ≡ at n r (m ∷ later) q
at_open {W} n r m later q =
    let A = pick n.stop r q (n.waiting (W.group q)) in
    let M = pick n.stop r q (m ∷ []) in
    let B = pick n.stop r q later in
    let C = pick n.stop r q (n.links (W.home q)) in
    let e1 = pick_changed W.same_group n.waiting (W.group (n.stop m.target)) m n.stop r q (W.group q) (λ a b. ap W.group (sym b)) in
    let e2 = pick_append n.stop r q (m ∷ []) later in
    ap (λ z. z ++ (B ++ C)) e1 ∙ (append_assoc A M (B ++ C) ∙ ap (λ z. A ++ z) (sym (append_assoc M B C) ∙ ap (λ z. z ++ C) (sym e2)))
