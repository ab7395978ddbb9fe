-- The messages of one reference at one stop, as they join queues and are taken from them. A queue is the list of a
-- group or a link; both change in the same way.
use Rattle.std.proofs.Common.{◌≡◌, ◌∷◌, ◌++◌, ◌∙◌, [], Bool, List, ap, append-nil, refl, subst, sym}
use Rattle.std.specs.List.{AllByRecursion}
use Rattle.laws_order.specs.Invariant.{Everywhere, item, pick}
use Rattle.laws_order.specs.Machine.{Message, Names, Net, changed, choose, same_vat}
use Rattle.laws_order.proofs.Choices.{choose_yes}
use Rattle.laws_order.proofs.Lists.{all_append, all_map}
use Rattle.laws_order.specs.Routing.{onto_link, onto_list}

-- A message of r whose target stops at q adds its item.
pub pick_hit : {W : Names} (stop : W.Node → W.Node) (r : W.Ref) (q : W.Node) (m : Message W) (ms : List (Message W)) → m.ref ≡ r
    → stop m.target ≡ q → pick stop r q (m ∷ ms) ≡ item m.what ∷ pick stop r q ms
pick_hit {W} stop r q m ms a b =
    choose_yes (W.same_ref m.ref r) (choose (W.same_node (stop m.target) q) (item m.what ∷ pick stop r q ms) (pick stop r q ms)) (pick stop r q ms) a
    ∙ choose_yes (W.same_node (stop m.target) q) (item m.what ∷ pick stop r q ms) (pick stop r q ms) b

-- A message of another reference or for another stop adds nothing.
pub pick_miss : {W : Names} (stop : W.Node → W.Node) (r : W.Ref) (q : W.Node) (m : Message W) (ms : List (Message W))
    → (m.ref ≡ r → stop m.target ≡ q → ⊥) → pick stop r q (m ∷ ms) ≡ pick stop r q ms
pick_miss {W} stop r q m ms f = go (W.same_ref m.ref r) (W.same_node (stop m.target) q) f
  where
    go : (c : Dec (m.ref ≡ r)) (d : Dec (stop m.target ≡ q)) → (m.ref ≡ r → stop m.target ≡ q → ⊥)
        → choose c (choose d (item m.what ∷ pick stop r q ms) (pick stop r q ms)) (pick stop r q ms) ≡ pick stop r q ms
    go (yes a) (yes b) h = absurd (h a b)
    go (yes a) (no b) h = refl
    go (no a) d h = refl

-- The items of two lists of messages, one after the other.
pub pick_append : {W : Names} (stop : W.Node → W.Node) (r : W.Ref) (q : W.Node) (xs ys : List (Message W))
    → pick stop r q (xs ++ ys) ≡ pick stop r q xs ++ pick stop r q ys
pick_append stop r q [] ys = refl
pick_append {W} stop r q (m ∷ ms) ys = go (W.same_ref m.ref r) (W.same_node (stop m.target) q) (pick_append stop r q ms ys)
  where
    go : (c : Dec (m.ref ≡ r)) (d : Dec (stop m.target ≡ q)) → pick stop r q (ms ++ ys) ≡ pick stop r q ms ++ pick stop r q ys
        → choose c (choose d (item m.what ∷ pick stop r q (ms ++ ys)) (pick stop r q (ms ++ ys))) (pick stop r q (ms ++ ys)) ≡ choose c (choose d (item m.what ∷ pick stop r q ms) (pick stop r q ms)) (pick stop r q ms) ++ pick stop r q ys
    go (yes a) (yes b) h = ap (λ z. item m.what ∷ z) h
    go (yes a) (no b) h = h
    go (no a) d h = h

-- This message is not of r, or its target does not stop at q.
abbrev pub NotAt : {W : Names} → (W.Node → W.Node) → W.Ref → W.Node → Message W → Type 0
NotAt stop r q m = m.ref ≡ r → stop m.target ≡ q → ⊥

-- If no message of r is at q, there are no items.
pub pick_none : {W : Names} (stop : W.Node → W.Node) (r : W.Ref) (q : W.Node) (xs : List (Message W)) → AllByRecursion (NotAt stop r q) xs
    → pick stop r q xs ≡ []
pick_none stop r q [] h = refl
pick_none stop r q (m ∷ ms) h = pick_miss stop r q m ms h.0 ∙ pick_none stop r q ms h.1

-- If there are no items, no message of r is at q.
pub none_there : {W : Names} (stop : W.Node → W.Node) (r : W.Ref) (q : W.Node) (xs : List (Message W)) → pick stop r q xs ≡ []
    → AllByRecursion (NotAt stop r q) xs
none_there stop r q [] h = tt
none_there {W} stop r q (m ∷ ms) h = go (W.same_ref m.ref r) (W.same_node (stop m.target) q) (none_there stop r q ms)
  where
    go : Dec (m.ref ≡ r) → Dec (stop m.target ≡ q) → (pick stop r q ms ≡ [] → AllByRecursion (NotAt stop r q) ms)
        → NotAt stop r q m × AllByRecursion (NotAt stop r q) ms
    go (yes a) (yes b) ih = let e : item m.what ∷ pick stop r q ms ≡ [] = sym (pick_hit stop r q m ms a b) ∙ h in absurd (cc)
    go (yes a) (no b) ih = ((λ u v. b v), ih (sym (pick_miss stop r q m ms (λ u v. b v)) ∙ h))
    go (no a) d ih = ((λ u v. a u), ih (sym (pick_miss stop r q m ms (λ u v. a u)) ∙ h))

-- The item of one message of r at q.
pub pick_one_hit : {W : Names} (n : Net W) (r : W.Ref) (q : W.Node) (m : Message W) → m.ref ≡ r → n.stop m.target ≡ q
    → pick n.stop r q (m ∷ []) ≡ item m.what ∷ []
pick_one_hit n r q m a b = pick_hit n.stop r q m [] a b

-- One message that is not of r at q has no item.
pub pick_one_miss : {W : Names} (n : Net W) (r : W.Ref) (q : W.Node) (m : Message W) → (m.ref ≡ r → n.stop m.target ≡ q → ⊥)
    → pick n.stop r q (m ∷ []) ≡ []
pick_one_miss n r q m f = pick_miss n.stop r q m [] f

-- This message of r is at q' by stop' just where it is at q by stop.
abbrev pub Alike : {W : Names} → (W.Node → W.Node) → W.Node → (W.Node → W.Node) → W.Node → W.Ref → Message W → Type 0
Alike stop q stop' q' r m = m.ref ≡ r → ((stop m.target ≡ q → stop' m.target ≡ q') × (stop' m.target ≡ q' → stop m.target ≡ q))

-- If all messages of r are alike at two stops, the items there are the same.
pub pick_alike : {W : Names} (stop : W.Node → W.Node) (q : W.Node) (stop' : W.Node → W.Node) (q' : W.Node) (r : W.Ref) (xs : List (Message W))
    → AllByRecursion (Alike stop q stop' q' r) xs → pick stop' r q' xs ≡ pick stop r q xs
pick_alike stop q stop' q' r [] h = refl
pick_alike {W} stop q stop' q' r (m ∷ ms) h = go (W.same_ref m.ref r) (W.same_node (stop m.target) q) (pick_alike stop q stop' q' r ms h.1)
  where
    go : Dec (m.ref ≡ r) → Dec (stop m.target ≡ q) → pick stop' r q' ms ≡ pick stop r q ms → pick stop' r q' (m ∷ ms) ≡ pick stop r q (m ∷ ms)
    go (yes a) (yes b) e = pick_hit stop' r q' m ms a ((h.0 a).0 b) ∙ (ap (λ z. item m.what ∷ z) e ∙ sym (pick_hit stop r q m ms a b))
    go (yes a) (no b) e = pick_miss stop' r q' m ms (λ u v. b ((h.0 a).1 v)) ∙ (e ∙ sym (pick_miss stop r q m ms (λ u v. b v)))
    go (no a) d e = pick_miss stop' r q' m ms (λ u v. a u) ∙ (e ∙ sym (pick_miss stop r q m ms (λ u v. a u)))

-- A message that joins the end of one of several queues adds its item at the end.
pub pick_changed : {W : Names} {K : Type 0} (same : (x y : K) → Dec (x ≡ y)) (f : K → List (Message W)) (k : K) (m : Message W) (stop : W.Node → W.Node) (r : W.Ref) (q : W.Node) (j : K)
    → (m.ref ≡ r → stop m.target ≡ q → j ≡ k)
    → pick stop r q (changed same f k (f k ++ m ∷ []) j) ≡ pick stop r q (f j) ++ pick stop r q (m ∷ [])
pick_changed same f k m stop r q j h = go (same j k)
  where
    go : (d : Dec (j ≡ k)) → pick stop r q (choose d (f k ++ m ∷ []) (f j)) ≡ pick stop r q (f j) ++ pick stop r q (m ∷ [])
    go (yes e) = pick_append stop r q (f k) (m ∷ []) ∙ ap (λ z. pick stop r q (f z) ++ pick stop r q (m ∷ [])) (sym e)
    go (no e) = sym (ap (λ z. pick stop r q (f j) ++ z) (pick_miss stop r q m [] (λ a b. e (h a b))) ∙ append-nil (pick stop r q (f j)))

-- If P is true of a message that joins a queue and of each message before, it is true of each message after.
pub all_changed : {W : Names} {K : Type 0} (same : (x y : K) → Dec (x ≡ y)) (f : K → List (Message W)) (k : K) (m : Message W) (P : K → Message W → Type 0)
    → ((j : K) → AllByRecursion (P j) (f j)) → P k m → (j : K) → AllByRecursion (P j) (changed same f k (f k ++ m ∷ []) j)
all_changed same f k m P h p j = go (same j k)
  where
    go : (d : Dec (j ≡ k)) → AllByRecursion (P j) (choose d (f k ++ m ∷ []) (f j))
    go (yes e) = subst (λ z. AllByRecursion (P z) (f k ++ m ∷ [])) (sym e) (all_append (P k) (f k) (m ∷ []) (h k) (p, tt))
    go (no e) = h j

-- The item of the first message of a queue, then the items once that was taken, are the items before.
pub pick_taken : {W : Names} {K : Type 0} (same : (x y : K) → Dec (x ≡ y)) (f : K → List (Message W)) (k : K) (m : Message W) (ms : List (Message W)) (stop : W.Node → W.Node) (r : W.Ref) (q : W.Node) (j : K)
    → f k ≡ m ∷ ms → (m.ref ≡ r → stop m.target ≡ q → j ≡ k)
    → pick stop r q (f j) ≡ pick stop r q (m ∷ []) ++ pick stop r q (changed same f k ms j)
pick_taken same f k m ms stop r q j e h = go (same j k)
  where
    go : (d : Dec (j ≡ k)) → pick stop r q (f j) ≡ pick stop r q (m ∷ []) ++ pick stop r q (choose d ms (f j))
    go (yes z) = ap (pick stop r q) (ap f z ∙ e) ∙ pick_append stop r q (m ∷ []) ms
    go (no z) = ap (λ y. y ++ pick stop r q (f j)) (sym (pick_miss stop r q m [] (λ a b. z (h a b))))

-- What is true of each message is true of each that is left once one was taken.
pub all_taken : {W : Names} {K : Type 0} (same : (x y : K) → Dec (x ≡ y)) (f : K → List (Message W)) (k : K) (m : Message W) (ms : List (Message W)) (P : K → Message W → Type 0)
    → f k ≡ m ∷ ms → ((j : K) → AllByRecursion (P j) (f j)) → (j : K) → AllByRecursion (P j) (changed same f k ms j)
all_taken same f k m ms P e h j = go (same j k)
  where
    go : (d : Dec (j ≡ k)) → AllByRecursion (P j) (choose d ms (f j))
    go (yes z) = subst (λ y. AllByRecursion (P y) ms) (sym z) (let u = subst (λ y. AllByRecursion (P k) y) e (h k) in u.1)
    go (no z) = h j

-- What is true of each message of a queue is true of its first.
pub first_taken : {W : Names} (xs : List (Message W)) (m : Message W) (ms : List (Message W)) (P : Message W → Type 0) → xs ≡ m ∷ ms
    → AllByRecursion P xs → P m
first_taken xs m ms P e h = let u = subst (λ y. AllByRecursion P y) e h in u.0

-- The net once the first message of the link to v was taken.
abbrev pub taken : {W : Names} → Net W → Bool → List (Message W) → Net W
taken n v ms = record n { links = changed same_vat n.links v ms }

-- If P is true of each message everywhere and gives Q, then Q is.
pub everywhere_map : {W : Names} (n : Net W) (later : List (Message W)) (P Q : Message W → Type 0) → ((m : Message W) → P m → Q m)
    → Everywhere n later P → Everywhere n later Q
everywhere_map {W} n later P Q f h = (
  (λ g. all_map P Q (n.waiting g) f (h.0 g)),
  (λ v. all_map P Q (n.links v) f (h.1 v)),
  all_map P Q later f h.2,
)

-- What is true everywhere is so with one message less to be routed.
pub everywhere_less : {W : Names} (n : Net W) (m : Message W) (later : List (Message W)) (P : Message W → Type 0)
    → Everywhere n (m ∷ later) P → Everywhere n later P
everywhere_less n m later P h = (h.0, h.1, h.2.1)

-- What is true everywhere and of one message more to be routed is true everywhere with it.
pub everywhere_more : {W : Names} (n : Net W) (m : Message W) (later : List (Message W)) (P : Message W → Type 0) → P m
    → Everywhere n later P → Everywhere n (m ∷ later) P
everywhere_more n m later P p h = (h.0, h.1, (p, h.2))

-- What is true everywhere and of a message that goes onto a link is true everywhere after.
pub everywhere_onto_link : {W : Names} (n : Net W) (m : Message W) (later : List (Message W)) (P : Message W → Type 0) → P m
    → Everywhere n later P → Everywhere (onto_link n m) later P
everywhere_onto_link {W} n m later P p h = (h.0, all_changed same_vat n.links (W.home m.target) m (λ g. P) h.1 p, h.2)

-- What is true everywhere is so after the first call that is to be routed goes to where it waits.
pub everywhere_onto_list : {W : Names} (n : Net W) (m : Message W) (later : List (Message W)) (P : Message W → Type 0)
    → Everywhere n (m ∷ later) P → Everywhere (onto_list n m) later P
everywhere_onto_list {W} n m later P h = (all_changed W.same_group n.waiting (W.group (n.stop m.target)) m (λ g. P) h.0 h.2.0, h.1, h.2.1)

-- What is true everywhere is so after a message was taken from a link and is to be looked at.
pub everywhere_taken : {W : Names} (n : Net W) (v : Bool) (m : Message W) (ms : List (Message W)) (P : Message W → Type 0)
    → n.links v ≡ m ∷ ms → Everywhere n [] P → Everywhere (taken n v ms) (m ∷ []) P
everywhere_taken n v m ms P e h = (h.0, all_taken same_vat n.links v m ms (λ g. P) e h.1, (first_taken (n.links v) m ms P e (h.1 v), tt))
