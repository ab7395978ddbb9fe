-- Routes as paths over exits, and good routes.
use Rattle.std.proofs.Common.{◌≡◌, ◌+◌, ◌∙◌, List, ap, arith, refl, subst, suc, sym, zero, ℕ}
use Rattle.std.specs.List.{AllByRecursion}
use Rattle.laws_order.specs.Machine.{Broken, Delivery, Exit, Kind, Names, Net, Object, Open}
use Rattle.laws_order.specs.Order.{EndsAt}
use Rattle.laws_order.specs.Routes.{Good, IsEnd, IsExit, Path, Reach, beyond, next}
use Rattle.laws_order.proofs.Lists.{all_map}

-- Where a route may end there is no exit.
pub end_not_exit : {W : Names} (K : Kind W) → IsEnd K → IsExit K → ⊥
end_not_exit Object e x = x
end_not_exit Open e x = x
end_not_exit (Exit to) e x = e
end_not_exit Broken e x = x

-- If a path leads to an end, and so many exits of it to a stop p, then the other exits lead from p to that end.
pub path_rest : {W : Names} (n : Net W) (j k : ℕ) (e p o : W.Node) → Path n j e p → Path n k e o → IsEnd (n.kind o)
    → (d : ℕ) × (k ≡ j + d) × Path n d p o
path_rest n zero k e p o a b h = (k, omega arith, subst (λ x. Path n k x o) a b)
path_rest n (suc j) zero e p o a b h = absurd (end_not_exit (n.kind e) (subst (λ x. IsEnd (n.kind x)) (sym b) h) a.0)
path_rest n (suc j) (suc k) e p o a b h =
    let r : (d : ℕ) × (k ≡ j + d) × Path n d p o = path_rest n j k (next n e) p o a.1 b.1 h in
    let q : k ≡ j + r.0 = r.1 in
    (r.0, omega arith, r.2)

-- Two paths from one stop to an end have one length and one end.
pub end_same : {W : Names} (n : Net W) (k j : ℕ) (e o p : W.Node) → Path n k e o → IsEnd (n.kind o) → Path n j e p → IsEnd (n.kind p)
    → (k ≡ j) × (o ≡ p)
end_same n zero zero e o p a ha b hb = (refl, sym a ∙ b)
end_same n zero (suc j) e o p a ha b hb = absurd (end_not_exit (n.kind e) (subst (λ x. IsEnd (n.kind x)) (sym a) ha) b.0)
end_same n (suc k) zero e o p a ha b hb = absurd (end_not_exit (n.kind e) (subst (λ x. IsEnd (n.kind x)) (sym b) hb) a.0)
end_same n (suc k) (suc j) e o p a ha b hb =
    let r = end_same n k j (next n e) o p a.1 ha b.1 hb in
    (ap suc r.0, r.1)

-- If a path leads to an end, its first stop does not lead back to itself.
pub acyclic : {W : Names} (n : Net W) (j k : ℕ) (e o : W.Node) → Path n (suc j) e e → Path n k e o → IsEnd (n.kind o) → ⊥
acyclic n j k e o c b h =
    let r : (d : ℕ) × (k ≡ suc j + d) × Path n d e o = path_rest n (suc j) k e e o c b h in
    let q : k ≡ suc j + r.0 = r.1 in
    let s : k ≡ r.0 = (end_same n k r.0 e o o b h r.2 h).0 in
    omega arith

-- If a path leads to an end, a stop is at one place of it.
pub positions : {W : Names} (n : Net W) (i j k : ℕ) (a x o : W.Node) → Path n i a x → Path n j a x → Path n k a o → IsEnd (n.kind o) → i ≡ j
positions n i j k a x o pi pj pk h =
    let r : (d : ℕ) × (k ≡ i + d) × Path n d x o = path_rest n i k a x o pi pk h in
    let s : (d : ℕ) × (k ≡ j + d) × Path n d x o = path_rest n j k a x o pj pk h in
    let u : k ≡ i + r.0 = r.1 in
    let v : k ≡ j + s.0 = s.1 in
    let w : r.0 ≡ s.0 = (end_same n r.0 s.0 x o o r.2 h s.2 h).0 in
    omega arith

-- So many exits from one stop lead to one stop.
pub path_same : {W : Names} (n : Net W) (j : ℕ) (e p q : W.Node) → Path n j e p → Path n j e q → p ≡ q
path_same n zero e p q a b = sym a ∙ b
path_same n (suc j) e p q a b = path_same n j (next n e) p q a.1 b.1

-- A path is continued over the exit at its last stop.
pub path_snoc : {W : Names} (n : Net W) (j : ℕ) (e p : W.Node) → Path n j e p → IsExit (n.kind p) → Path n (suc j) e (next n p)
path_snoc n zero e p a x = (subst (λ y. IsExit (n.kind y)) (sym a) x, ap (next n) a)
path_snoc n (suc j) e p a x = (a.0, path_snoc n j (next n e) p a.1 x)

-- A path is continued by a path.
pub path_append : {W : Names} (n : Net W) (i j : ℕ) (e p q : W.Node) → Path n i e p → Path n j p q → (d : ℕ) × (d ≡ i + j) × Path n d e q
path_append n zero j e p q a b = (j, omega arith, subst (λ x. Path n j x q) (sym a) b)
path_append n (suc i) j e p q a b =
    let r : (d : ℕ) × (d ≡ i + j) × Path n d (next n e) q = path_append n i j (next n e) p q a.1 b in
    let u : r.0 ≡ i + j = r.1 in
    (suc r.0, omega arith, (a.0, r.2))

-- A stop whose kind is an exit to a node is an exit.
pub kind_exit : {W : Names} (K : Kind W) (to : W.Node) → K ≡ Exit to → IsExit K
kind_exit K to e = subst IsExit (sym e) tt

-- Behind an exit to a node comes the stop of that node.
pub next_is : {W : Names} (n : Net W) (e to : W.Node) → n.kind e ≡ Exit to → next n e ≡ n.stop to
next_is n e to h = ap (beyond n e) h

-- If an exit leads to a good route, the route from the exit is good.
abbrev pub good_up : {W : Names} (n : Net W) (a to : W.Node) → n.kind a ≡ Exit to → Good n (n.stop to) → Good n a
good_up n a to e g = (suc g.0, g.1, (kind_exit (n.kind a) to e, subst (λ y. Path n g.0 y g.1) (sym (next_is n a to e)) g.2), g.3)

-- If the route from an exit is good, so is the route from where it leads.
pub good_down : {W : Names} (n : Net W) (a to : W.Node) → n.kind a ≡ Exit to → Good n a → Good n (n.stop to)
good_down {W} n a to e g = go g.0 g.2
  where
    go : (k : ℕ) → Path n k a g.1 → Good n (n.stop to)
    go zero b = absurd (end_not_exit (n.kind a) (subst (λ y. IsEnd (n.kind y)) (sym b) g.3) (kind_exit (n.kind a) to e))
    go (suc k) b = (k, g.1, subst (λ y. Path n k y g.1) (next_is n a to e) b.1, g.3)

-- What is on the route from an exit, but is not the exit, is on the route from where it leads.
pub reach_down : {W : Names} (n : Net W) (a to p : W.Node) → n.kind a ≡ Exit to → (p ≡ a → ⊥) → Reach n a p → Reach n (n.stop to) p
reach_down {W} n a to p e f r = go r.0 r.1
  where
    go : (k : ℕ) → Path n k a p → Reach n (n.stop to) p
    go zero b = absurd (f (sym b))
    go (suc k) b = (k, subst (λ y. Path n k y p) (next_is n a to e) b.1)

-- Deliveries at the end of the route from an exit are at the end of the route from where it leads.
pub ends_down : {W : Names} (n : Net W) (a to : W.Node) (ds : List (Delivery W)) → n.kind a ≡ Exit to → AllByRecursion (EndsAt n a) ds
    → AllByRecursion (EndsAt n (n.stop to)) ds
ends_down {W} n a to ds e h = all_map (EndsAt n a) (EndsAt n (n.stop to)) ds go h
  where
    go : (d : Delivery W) → EndsAt n a d → EndsAt n (n.stop to) d
    go d z =
        let u = reach_down n a to d.object e (λ y. let c : Exit to ≡ Object = sym e ∙ (ap n.kind (sym y) ∙ z.2) in cc) (z.0, z.1) in
        (u.0, u.1, z.2)

-- From each stop of a good route the route is good.
pub good_at : {W : Names} (n : Net W) (a p : W.Node) → Good n a → Reach n a p → Good n p
good_at n a p g r =
    let d : (d : ℕ) × (g.0 ≡ r.0 + d) × Path n d p g.1 = path_rest n r.0 g.0 a p g.1 r.1 g.2 g.3 in
    (d.0, g.1, d.2, g.3)

-- If an exit is on a route, so is where it leads.
pub through : {W : Names} (n : Net W) (a p to : W.Node) → n.kind p ≡ Exit to → Reach n a p → Reach n a (n.stop to)
through n a p to e r = (suc r.0, subst (λ y. Path n (suc r.0) a y) (next_is n p to e) (path_snoc n r.0 a p r.1 (kind_exit (n.kind p) to e)))

-- No exit on a good route leads back to the first stop.
pub no_loop : {W : Names} (n : Net W) (a p to : W.Node) → Good n a → n.kind p ≡ Exit to → Reach n a p → n.stop to ≡ a → ⊥
no_loop n a p to g e r h =
    let t = through n a p to e r in
    acyclic n r.0 g.0 a g.1 (subst (λ y. Path n (suc r.0) a y) (next_is n p to e ∙ h) (path_snoc n r.0 a p r.1 (kind_exit (n.kind p) to e))) g.2 g.3

-- No exit with a good route leads to itself.
pub no_self : {W : Names} (n : Net W) (p to : W.Node) → Good n p → n.kind p ≡ Exit to → n.stop to ≡ p → ⊥
no_self n p to g e h = no_loop n p p to g e (0, refl) h

-- The route from a broken stop is not good.
pub broken_bad : {W : Names} (n : Net W) (p : W.Node) → n.kind p ≡ Broken → Good n p → ⊥
broken_bad {W} n p e g = go g.0 g.2
  where
    go : (k : ℕ) → Path n k p g.1 → ⊥
    go zero b = subst IsEnd (ap n.kind b ∙ e') (subst (λ y. IsEnd (n.kind y)) (sym b) g.3)
      where
        e' : n.kind g.1 ≡ Broken
        e' = ap n.kind (sym b) ∙ e
    go (suc k) b = subst IsExit e b.0
