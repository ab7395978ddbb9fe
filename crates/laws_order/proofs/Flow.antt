-- What is along a route, as the items at its stops change.
use Rattle.std.proofs.Common.{◌≡◌, ◌∷◌, ◌++◌, ◌∙◌, [], List, ap, append-nil, append_assoc, ap₂, refl, subst, suc, sym, zero, ℕ}
use Rattle.laws_order.specs.Machine.{Exit, Names, Net}
use Rattle.laws_order.specs.Routes.{IsEnd, IsExit, Path, next}
use Rattle.laws_order.specs.Invariant.{Item, at, flow}
use Rattle.laws_order.proofs.Paths.{acyclic, end_not_exit, next_is, path_snoc}

-- What is along the route ahead of its first stop.
abbrev pub ahead : {W : Names} → Net W → (W.Node → List Item) → ℕ → W.Node → List Item
ahead n at zero e = []
ahead n at (suc k) e = flow n at k (next n e)

-- What is along the route is what is ahead of its first stop, then what is at it.
pub flow_ahead : {W : Names} (n : Net W) (at : W.Node → List Item) (k : ℕ) (e : W.Node) → flow n at k e ≡ ahead n at k e ++ at e
flow_ahead n at zero e = refl
flow_ahead n at (suc k) e = refl

-- If each stop of the route has the same items at two moments, so has the route.
pub flow_same : {W : Names} (n : Net W) (at at' : W.Node → List Item) (k : ℕ) (e o : W.Node) → Path n k e o
    → ((j : ℕ) (p : W.Node) → Path n j e p → at' p ≡ at p) → flow n at' k e ≡ flow n at k e
flow_same n at at' zero e o a h = h zero e refl
flow_same n at at' (suc k) e o a h =
    ap₂ (λ x y. x ++ y) (flow_same n at at' k (next n e) o a.1 (λ j p b. h (suc j) p (a.0, b))) (h zero e refl)

-- If each stop but the first has the same items, what is ahead of the first is the same.
pub ahead_same : {W : Names} (n : Net W) (at at' : W.Node → List Item) (k : ℕ) (e o : W.Node) → Path n k e o → IsEnd (n.kind o)
    → ((j : ℕ) (p : W.Node) → Path n j e p → (p ≡ e → ⊥) → at' p ≡ at p) → ahead n at' k e ≡ ahead n at k e
ahead_same n at at' zero e o a f h = refl
ahead_same n at at' (suc k) e o a f h =
    flow_same n at at' k (next n e) o a.1
    (λ j p b. h (suc j) p (a.0, b) (λ c. acyclic n j (suc k) e o (a.0, subst (λ y. Path n j (next n e) y) c b) a f))

-- What joins the end of the first stop joins the end of the route.
pub flow_push : {W : Names} (n : Net W) (at at' : W.Node → List Item) (xs : List Item) (k : ℕ) (e o : W.Node) → Path n k e o
    → IsEnd (n.kind o) → at' e ≡ at e ++ xs → ((j : ℕ) (p : W.Node) → Path n j e p → (p ≡ e → ⊥) → at' p ≡ at p)
    → flow n at' k e ≡ flow n at k e ++ xs
flow_push n at at' xs k e o a f g h =
    flow_ahead n at' k e ∙ (ap₂ (λ x y. x ++ y) (ahead_same n at at' k e o a f h) g
    ∙ (sym (append_assoc (ahead n at k e) (at e) xs) ∙ ap (λ z. z ++ xs) (sym (flow_ahead n at k e))))

-- An item that goes over an exit, from the front of one stop to the end of the next, keeps its place in the route.
pub flow_move : {W : Names} (n : Net W) (at at' : W.Node → List Item) (x : Item) (j k : ℕ) (e p o : W.Node) → Path n j e p
    → IsExit (n.kind p) → Path n k e o → IsEnd (n.kind o) → at p ≡ x ∷ at' p → at' (next n p) ≡ at (next n p) ++ x ∷ []
    → ((q : W.Node) → (q ≡ p → ⊥) → (q ≡ next n p → ⊥) → at' q ≡ at q) → flow n at' k e ≡ flow n at k e
flow_move n at at' x zero zero e p o a ex b f g g' h = absurd (end_not_exit (n.kind p) (subst (λ y. IsEnd (n.kind y)) (sym b ∙ a) f) ex)
flow_move {W} n at at' x zero (suc k) e p o a ex b f g g' h =
    let ge : at e ≡ x ∷ at' e = subst (λ y. at y ≡ x ∷ at' y) (sym a) g in
    let ge' : at' (next n e) ≡ at (next n e) ++ x ∷ [] = subst (λ y. at' (next n y) ≡ at (next n y) ++ x ∷ []) (sym a) g' in
    let u : flow n at' k (next n e) ≡ flow n at k (next n e) ++ x ∷ [] =
    flow_push n at at' (x ∷ []) k (next n e) o b.1 f ge'
    (λ j q c ne. h q
    (λ d. acyclic n j (suc k) e o (b.0, subst (λ y. Path n j (next n e) y) (d ∙ sym a) c) b f)
    (λ d. ne (d ∙ ap (next n) (sym a)))) in
    ap (λ z. z ++ at' e) u ∙ (append_assoc (flow n at k (next n e)) (x ∷ []) (at' e) ∙ ap (λ z. flow n at k (next n e) ++ z) (sym ge))
flow_move n at at' x (suc j) zero e p o a ex b f g g' h = absurd (end_not_exit (n.kind e) (subst (λ y. IsEnd (n.kind y)) (sym b) f) a.0)
flow_move n at at' x (suc j) (suc k) e p o a ex b f g g' h =
    ap₂ (λ y z. y ++ z) (flow_move n at at' x j k (next n e) p o a.1 ex b.1 f g g' h)
    (h e
    (λ d. acyclic n j (suc k) e o (subst (λ y. Path n (suc j) e y) (sym d) a) b f)
    (λ d. acyclic n (suc j) (suc k) e o (subst (λ y. Path n (suc (suc j)) e y) (sym d) (path_snoc n (suc j) e p a ex)) b f))

-- What leaves the front of the last stop leaves the front of the route.
pub flow_pop : {W : Names} (n : Net W) (at at' : W.Node → List Item) (x : Item) (k : ℕ) (e o : W.Node) → Path n k e o → IsEnd (n.kind o)
    → at o ≡ x ∷ at' o → ((q : W.Node) → (q ≡ o → ⊥) → at' q ≡ at q) → flow n at k e ≡ x ∷ flow n at' k e
flow_pop n at at' x zero e o b f g h = subst (λ y. at y ≡ x ∷ at' y) (sym b) g
flow_pop n at at' x (suc k) e o b f g h =
    ap₂ (λ y z. y ++ z) (flow_pop n at at' x k (next n e) o b.1 f g h)
    (sym (h e (λ d. end_not_exit (n.kind o) f (subst (λ y. IsExit (n.kind y)) d b.0))))

-- If each stop has nothing, the route has nothing.
pub flow_none : {W : Names} (n : Net W) (at : W.Node → List Item) (k : ℕ) (e o : W.Node) → Path n k e o
    → ((j : ℕ) (q : W.Node) → Path n j e q → at q ≡ []) → flow n at k e ≡ []
flow_none n at zero e o p f = f zero e refl
flow_none n at (suc k) e o p f = ap₂ (λ y z. y ++ z) (flow_none n at k (next n e) o p.1 (λ j q b. f (suc j) q (p.0, b))) (f zero e refl)

-- If the first stop has nothing, the route from the second one has the same items.
pub flow_down : {W : Names} (n : Net W) (at : W.Node → List Item) (k : ℕ) (a to : W.Node) → n.kind a ≡ Exit to → at a ≡ []
    → flow n at (suc k) a ≡ flow n at k (n.stop to)
flow_down n at k a to e z = ap₂ (λ y u. flow n at k y ++ u) (next_is n a to e) z ∙ append-nil (flow n at k (n.stop to))
