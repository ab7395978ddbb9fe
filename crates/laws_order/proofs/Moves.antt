-- Each small step keeps the invariant.
use Rattle.std.proofs.Common.{◌≡◌, ◌∷◌, [], Bool, List, None, Some, false, refl, subst, suc, sym, true, ℕ}
use Rattle.std.specs.List.{AllByRecursion}
use Rattle.laws_order.specs.Machine.{Call, Echo, Embargo, Message, Names, Net, Reference, State, new_reference, put_ref}
use Rattle.laws_order.specs.Routing.{calls_to}
use Rattle.laws_order.specs.Events.{Allowed, Fate, Settle, one_more, settled}
use Rattle.laws_order.specs.Invariant.{Invariant, InvariantOf, InvariantWith, MarkBy, WaitsIn, tail}
use Rattle.laws_order.specs.Order.{IsCall}
use Rattle.laws_order.specs.Moves.{Begins, Comes, Done, Happens, Leaves, Lifts, Move, Moves, Next, Routes, Settles, with_link}
use Rattle.laws_order.proofs.Embargoes.{all_calls, lift_keeps}
use Rattle.laws_order.proofs.Events.{event_keeps, free, oldest_mark, put_holds}
use Rattle.laws_order.proofs.Lists.{all_map}
use Rattle.laws_order.proofs.Making.{begin_keeps, call_of, here_keeps, nowhere, unknown_none}
use Rattle.laws_order.proofs.Receiving.{add_calls_other, add_other, in_place_taken, taken_keeps}
use Rattle.laws_order.proofs.Routing.{drop_other, route_holds}
use Rattle.laws_order.proofs.Settling.{in_place_settled, settled_keeps}

drop_all : {W : Names} (n : Net W) (r : W.Ref) (x : Reference W) (u : List (Message W)) → AllByRecursion (λ m. m.ref ≡ r → ⊥) u → InvariantOf n r x u → InvariantOf n r x []
drop_all n r x [] h v = v
drop_all n r x (m ∷ ms) h v = drop_all n r x ms h.1 (drop_other n r x m ms h.0 v)

add_all : {W : Names} (n : Net W) (r : W.Ref) (x : Reference W) (u : List (Message W)) → AllByRecursion (λ m. m.ref ≡ r → ⊥) u → InvariantOf n r x [] → InvariantOf n r x u
add_all n r x [] h v = v
add_all n r x (m ∷ ms) h v = add_other n r x m ms h.0 (add_all n r x ms h.1 v)

begins : {W : Names} (s : State W) (r : W.Ref) (h : W.Node) (u : List (Message W)) → (s.refs r).known ≡ false → InvariantWith s u → InvariantWith (put_ref s r (new_reference true h)) u
begins {W} s r h u e f =
    let v = f.of_each r in
    let none = unknown_none s.net (s.net.stop (tail (s.refs r))) r (s.refs r).known u e (v.on_the_way.2) in
    put_holds s s.net r (new_reference true h) u f.in_place f.only_calls
    (add_all s.net r (new_reference true h) u none (begin_keeps s.net r true h (nowhere s.net r (s.refs r) e (drop_all s.net r (s.refs r) u none v))))
    (λ q z. f.of_each q)

leaves : {W : Names} (s : State W) (r : W.Ref) → Invariant s → (s.refs r).known ≡ true → (s.refs r).embargo ≡ None → W.home (s.refs r).head ≡ W.vat r
    → InvariantWith (put_ref s r (one_more (s.refs r))) (call_of r (s.refs r) ∷ [])
leaves s r f kn e h =
    let x = s.refs r in
    let m = call_of r x in
    put_holds s s.net r (one_more x) (m ∷ []) f.in_place (tt, tt)
    (subst (λ o. InvariantOf s.net r (record x { made = suc x.made; embargo = o }) (m ∷ [])) (sym e)
    (here_keeps s.net r x f.in_place kn h (free s.net r x [] e (f.of_each r))))
    (λ q z. add_other s.net q (s.refs q) m [] z (f.of_each q))

settles : {W : Names} (s : State W) (g : W.Group) (fate : W.Node → Fate W) → Invariant s → Allowed s (Settle g fate) → InvariantWith (record s { net = settled s.net g fate }) (s.net.waiting g)
settles s g fate f al = record {
  in_place = in_place_settled s.net g fate al f.in_place;
  only_calls = all_map (WaitsIn s.net g) (λ m. IsCall m.what) (s.net.waiting g) (λ m c. c.2) ((f.in_place).waiting g);
  of_each = λ r. settled_keeps s.net g fate al r (s.refs r) f.in_place (f.of_each r);
}

comes : {W : Names} (s : State W) (v : Bool) (m : Message W) (ms : List (Message W)) (i : ℕ) → Invariant s → s.net.links v ≡ m ∷ ms → m.what ≡ Call i → InvariantWith (with_link s v ms) (m ∷ [])
comes s v m ms i f e c = record {
  in_place = in_place_taken s.net v m ms e f.in_place;
  only_calls = (subst IsCall (sym c) tt, tt);
  of_each = λ r. taken_keeps s.net r (s.refs r) v m ms f.in_place e (f.of_each r);
}

lifts : {W : Names} (s : State W) (v : Bool) (m : Message W) (ms : List (Message W)) (b : Embargo W) → Invariant s → s.net.links v ≡ m ∷ ms → m.what ≡ Echo → (s.refs m.ref).embargo ≡ Some b
    → InvariantWith (put_ref (with_link s v ms) m.ref (record (s.refs m.ref) { embargo = None })) (calls_to (s.refs m.ref).head m.ref b.calls)
lifts {W} s v m ms b f e c y =
    let q = m.ref in
    let x = s.refs q in
    let n : Net W = (with_link s v ms).net in
    let place = in_place_taken s.net v m ms e f.in_place in
    let each : (r : W.Ref) → InvariantOf n r (s.refs r) (m ∷ []) = λ r. taken_keeps s.net r (s.refs r) v m ms f.in_place e (f.of_each r) in
    let h : MarkBy s.net x m.target Echo = oldest_mark s v m ms Echo f e c in
    put_holds s n q (record x { embargo = None }) (calls_to x.head q b.calls) place (all_calls W x.head q b.calls)
    (lift_keeps n q x b m place refl c h.2 (subst (λ o. InvariantOf n q (record x { embargo = o }) (m ∷ [])) y (each q)))
    (λ r z. add_calls_other n r (s.refs r) x.head q b.calls z (drop_other n r (s.refs r) m [] z (each r)))

move_keeps : {W : Names} (s t : State W) (u w : List (Message W)) → Move s u t w → InvariantWith s u → InvariantWith t w
move_keeps s t u w (Happens ev al a b c) f = rw b (rw c (event_keeps s ev (subst (InvariantWith s) a f) al))
move_keeps s t u w (Begins r h k a b) f = rw a (rw b (begins s r h u k f))
move_keeps s t u w (Leaves r k e h a b c) f = rw b (rw c (leaves s r (subst (InvariantWith s) a f) k e h))
move_keeps s t u w (Routes m a b) f = rw b (route_holds s m w (subst (InvariantWith s) a f))
move_keeps s t u w (Settles g fate al a b c) f = rw b (rw c (settles s g fate (subst (InvariantWith s) a f) al))
move_keeps s t u w (Comes v m ms i e k a b c) f = rw b (rw c (comes s v m ms i (subst (InvariantWith s) a f) e k))
move_keeps s t u w (Lifts v m ms b e k y a d c) f = rw d (rw c (lifts s v m ms b (subst (InvariantWith s) a f) e k y))

pub moves_keep : {W : Names} (t : State W) (w : List (Message W)) (s : State W) (u : List (Message W)) → Moves t w s u → InvariantWith s u → InvariantWith t w
moves_keep t w s u Done f = f
moves_keep t w s u (Next {mid = mid} {unrouted = a} {between = between} m ms) f = moves_keep t w mid between ms (move_keeps s mid u between m f)
