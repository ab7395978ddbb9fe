-- The invariant holds at the start, and each allowed event keeps it.
use Rattle.std.proofs.Common.{◌≡◌, ◌∷◌, ◌++◌, ◌∙◌, [], Bool, List, None, Option, Some, ap, false, refl, subst, suc, sym, true, ℕ}
use Rattle.std.specs.List.{AllByRecursion}
use Rattle.laws_order.specs.Events.{AllAllowed, Allowed, Begin, Break, Event, Fate, Make, Receive, Rename, Settle, Shorten, Turn_back, echo_back, happens, lift, make, one_more, receive, receive_as, run, send, settled}
use Rattle.laws_order.specs.Machine.{Broken, Call, Content, Disembargo, Echo, Embargo, Exit, Kind, Message, Names, Net, Object, Open, Reference, State, changed, choose, new_reference, put_ref, same_vat, start}
use Rattle.laws_order.specs.Invariant.{InPlace, Invariant, InvariantOf, InvariantWith, IsMark, MarkBy, WaitsIn, item}
use Rattle.laws_order.specs.Order.{IsCall}
use Rattle.laws_order.proofs.Receiving.{add_calls_other, add_other, in_place_taken, link_other, taken_keeps}
use Rattle.laws_order.proofs.Embargoes.{all_calls, lift_keeps}
use Rattle.laws_order.proofs.Lists.{all_map, none_not_some}
use Rattle.laws_order.proofs.Making.{begin_keeps, call_of, dead_keeps, held_keeps, here_keeps, nowhere, there_keeps}
use Rattle.laws_order.proofs.Heads.{break_keeps, rename_keeps, shorten_keeps, turn_keeps}
use Rattle.laws_order.specs.Routing.{calls_to, onto_link}
use Rattle.laws_order.proofs.Routing.{drop_other, exit_keeps, in_place_link, route_all_holds, route_holds}
use Rattle.laws_order.proofs.Queues.{first_taken, taken}
use Rattle.laws_order.proofs.Settling.{in_place_settled, settled_keeps}

-- What is true of the changed reference and of each other one is true of all.
by_ref : {W : Names} (P : W.Ref → Reference W → Type 0) (refs : W.Ref → Reference W) (r q : W.Ref) (x : Reference W) (d : Dec (q ≡ r))
    → P r x → ((r ≡ q → ⊥) → P q (refs q)) → P q (choose d x (refs q))
by_ref P refs r q x (yes e) h f = subst (λ z. P z x) (sym e) h
by_ref P refs r q x (no e) h f = f (λ z. e (sym z))

-- A step that changes one reference and the net keeps the invariant if it keeps it of that reference and of each other one.
pub put_holds : {W : Names} (s : State W) (n : Net W) (r : W.Ref) (x : Reference W) (later : List (Message W)) → InPlace n
    → AllByRecursion (λ m. IsCall m.what) later → InvariantOf n r x later → ((q : W.Ref) → (r ≡ q → ⊥) → InvariantOf n q (s.refs q) later)
    → InvariantWith (record { net = n; refs = changed W.same_ref s.refs r x }) later
put_holds {W} s n r x later sn cs c oc = record {
  in_place = sn;
  only_calls = cs;
  of_each = λ q. by_ref (λ y z. InvariantOf n y z later) s.refs r q x (W.same_ref q r) c (oc q);
}

-- A reference with no embargo, written with the field None.
pub free : {W : Names} (n : Net W) (r : W.Ref) (x : Reference W) (later : List (Message W)) → x.embargo ≡ None → InvariantOf n r x later
    → InvariantOf n r (record x { embargo = None }) later
free n r x later e c = subst (λ o. InvariantOf n r (record x { embargo = o }) later) e c

-- A reference is made: of one that was not made there is no message.
begin_holds : {W : Names} (s : State W) (r : W.Ref) (h : W.Node) → Invariant s → Allowed s (Begin r h) → Invariant (happens s (Begin r h))
begin_holds s r h f e =
    put_holds s s.net r (new_reference true h) [] f.in_place tt (begin_keeps s.net r true h (nowhere s.net r (s.refs r) e (f.of_each r))) (λ q z. f.of_each q)

-- A head becomes another node with the same stop.
rename_holds : {W : Names} (s : State W) (r : W.Ref) (y : W.Node) → Invariant s → Allowed s (Rename r y) → Invariant (happens s (Rename r y))
rename_holds s r y f al =
    let x = s.refs r in
    put_holds s s.net r (record x { head = y }) [] f.in_place tt (rename_keeps s.net r x y x.embargo al.0 al.1 (f.of_each r)) (λ q z. f.of_each q)

-- A path is shortened with no embargo.
shorten_holds : {W : Names} (s : State W) (r : W.Ref) (y : W.Node) → Invariant s → Allowed s (Shorten r y) → Invariant (happens s (Shorten r y))
shorten_holds s r y f al =
    let x = s.refs r in
    let e : x.embargo ≡ None = al.0.1 in
    put_holds s s.net r (record x { head = y }) [] f.in_place tt
    (subst (λ o. InvariantOf s.net r (record x { head = y; embargo = o }) []) (sym e)
    (shorten_keeps s.net r x y f.in_place al.1 al.2 al.3 (free s.net r x [] e (f.of_each r))))
    (λ q z. f.of_each q)

-- A head turns back, under an embargo.
turn_holds : {W : Names} (s : State W) (r : W.Ref) (y : W.Node) → Invariant s → Allowed s (Turn_back r y) → Invariant (happens s (Turn_back r y))
turn_holds {W} s r y f al =
    let x = s.refs r in
    let m : Message W = record { target = x.head; ref = r; what = Disembargo } in
    put_holds s (onto_link s.net m) r (record x { head = y; embargo = Some (record { old_head = x.head; calls = [] }) }) [] (in_place_link s.net m f.in_place) tt
    (turn_keeps s.net r x y f.in_place al.0.0 al.2 (free s.net r x [] al.0.1 (f.of_each r)))
    (λ q z. link_other s.net q (s.refs q) m [] f.in_place z (f.of_each q))

-- A head is found to lead to a broken stop.
break_holds : {W : Names} (s : State W) (r : W.Ref) (b : W.Node) (k : ℕ) → Invariant s → Allowed s (Break r b k) → Invariant (happens s (Break r b k))
break_holds s r b k f al =
    let x = s.refs r in
    let e : x.embargo ≡ None = al.0.1 in
    put_holds s s.net r (record x { dead = true }) [] f.in_place tt
    (subst (λ o. InvariantOf s.net r (record x { dead = true; embargo = o }) []) (sym e) (break_keeps s.net r x b k al.1 al.2 (free s.net r x [] e (f.of_each r))))
    (λ q z. f.of_each q)

-- A group settles, and its waiting calls are routed in order.
settle_holds : {W : Names} (s : State W) (g : W.Group) (fate : W.Node → Fate W) → Invariant s → Allowed s (Settle g fate)
    → Invariant (happens s (Settle g fate))
settle_holds {W} s g fate f al =
    route_all_holds (record s { net = settled s.net g fate }) (s.net.waiting g)
    (record {
      in_place = in_place_settled s.net g fate al f.in_place;
      only_calls = all_map (WaitsIn s.net g) (λ m. IsCall m.what) (s.net.waiting g) (λ m c. c.2) ((f.in_place).waiting g);
      of_each = λ r. settled_keeps s.net g fate al r (s.refs r) f.in_place (f.of_each r);
    })

-- A call is made: an embargo keeps it, it ends, it is routed here, or it goes to the other vat.
make_holds : {W : Names} (s : State W) (r : W.Ref) → Invariant s → (s.refs r).known ≡ true → (o : Option (Embargo W)) (d : Bool)
    → (s.refs r).embargo ≡ o → (s.refs r).dead ≡ d → Invariant (make s r (s.refs r) o d)
make_holds s r f kn (Some b) d e e' =
    let x = s.refs r in
    put_holds s s.net r (record x { made = suc x.made; embargo = Some (record b { calls = b.calls ++ x.made ∷ [] }) }) [] f.in_place tt
    (held_keeps s.net r x b (subst (λ o. InvariantOf s.net r (record x { embargo = o }) []) e (f.of_each r)))
    (λ q z. f.of_each q)
make_holds s r f kn None true e e' =
    let x = s.refs r in
    put_holds s s.net r (one_more x) [] f.in_place tt
    (subst (λ o. InvariantOf s.net r (record x { made = suc x.made; embargo = o }) []) (sym e)
    (subst (λ o. InvariantOf s.net r (record x { made = suc x.made; embargo = None; dead = o }) []) (sym e')
    (dead_keeps s.net r x (subst (λ o. InvariantOf s.net r (record x { embargo = None; dead = o }) []) e' (free s.net r x [] e (f.of_each r))))))
    (λ q z. f.of_each q)
make_holds {W} s r f kn None false e e' = go (same_vat (W.home (s.refs r).head) (W.vat r))
  where
    go : (d : Dec (W.home (s.refs r).head ≡ W.vat r)) → Invariant (send (put_ref s r (one_more (s.refs r))) (call_of r (s.refs r)) d)
    go (yes h) =
        let x = s.refs r in
        let m = call_of r x in
        route_holds (put_ref s r (one_more x)) m []
        (put_holds s s.net r (one_more x) (m ∷ []) f.in_place (tt, tt)
        (subst (λ o. InvariantOf s.net r (record x { made = suc x.made; embargo = o }) (m ∷ [])) (sym e)
        (here_keeps s.net r x f.in_place kn h (free s.net r x [] e (f.of_each r))))
        (λ q z. add_other s.net q (s.refs q) m [] z (f.of_each q)))
    go (no h) =
        let x = s.refs r in
        let m = call_of r x in
        put_holds s (onto_link s.net m) r (one_more x) [] (in_place_link s.net m f.in_place) tt
        (subst (λ o. InvariantOf (onto_link s.net m) r (record x { made = suc x.made; embargo = o }) []) (sym e)
        (there_keeps s.net r x f.in_place kn h (free s.net r x [] e (f.of_each r))))
        (λ q z. link_other s.net q (s.refs q) m [] f.in_place z (f.of_each q))

-- What the invariant says of the oldest message of a link, if it is a mark.
pub oldest_mark : {W : Names} (s : State W) (v : Bool) (m : Message W) (ms : List (Message W)) (c : Content) → Invariant s
    → s.net.links v ≡ m ∷ ms → m.what ≡ c → MarkBy s.net (s.refs m.ref) m.target c
oldest_mark s v m ms c f e w =
    subst (λ z. MarkBy s.net (s.refs m.ref) m.target z) w (first_taken (s.net.links v) m ms (IsMark s.net m.ref (s.refs m.ref)) e ((f.of_each m.ref).marks.1 v) refl)

-- A disembargo that is received meets an exit: the old head had one as the embargo began, and an exit stays one.
pub disembargo_meets : {W : Names} (s : State W) (v : Bool) (m : Message W) (ms : List (Message W)) → Invariant s → s.net.links v ≡ m ∷ ms
    → m.what ≡ Disembargo
    → (b : Embargo W) × ((s.refs m.ref).embargo ≡ Some b) × (m.target ≡ b.old_head)
    × (to : W.Node) × (s.net.kind (s.net.stop m.target) ≡ Exit to) × (s.net.stop to ≡ s.net.stop (s.refs m.ref).head)
disembargo_meets s v m ms f e c =
    let h : MarkBy s.net (s.refs m.ref) m.target Disembargo = oldest_mark s v m ms Disembargo f e c in
    let u = (f.of_each m.ref).turned h.0 h.1 in
    (h.0, h.1, h.2, u.0, ap (λ w. s.net.kind (s.net.stop w)) h.2 ∙ u.1, u.2)

-- An echo that is received meets the embargo of its reference, and was sent to where the head stops.
pub echo_meets : {W : Names} (s : State W) (v : Bool) (m : Message W) (ms : List (Message W)) → Invariant s → s.net.links v ≡ m ∷ ms
    → m.what ≡ Echo → (b : Embargo W) × ((s.refs m.ref).embargo ≡ Some b) × (s.net.stop m.target ≡ s.net.stop (s.refs m.ref).head)
echo_meets s v m ms f e c = oldest_mark s v m ms Echo f e c

-- The echo of a disembargo belongs to the embargo of that disembargo.
echo_mark : {W : Names} (s : State W) (m : Message W) (r : W.Ref) (to : W.Node) → Invariant s
    → MarkBy s.net (s.refs m.ref) m.target Disembargo → s.net.kind (s.net.stop m.target) ≡ Exit to → m.ref ≡ r
    → MarkBy s.net (s.refs r) to Echo
echo_mark s m r to f h k q =
    subst (λ z. MarkBy s.net (s.refs z) to Echo) q
    (
    let u = (f.of_each m.ref).turned h.0 h.1 in
    let p : Exit u.0 ≡ Exit to = sym u.1 ∙ (ap (λ w. s.net.kind (s.net.stop w)) (sym h.2) ∙ k) in
    let y : u.0 ≡ to = cc in
    (h.0, h.1, ap s.net.stop (sym y) ∙ u.2)
    )

-- The oldest message of a link is received: a call is routed, a disembargo is echoed, an echo lifts its embargo.
receive_holds : {W : Names} (s : State W) (v : Bool) → Invariant s → (l : List (Message W)) → s.net.links v ≡ l → Invariant (receive s v l)
receive_holds s v f [] e = f
receive_holds {W} s v f (m ∷ ms) e = by_what m.what refl
  where
    in_place0 : InPlace (taken s.net v ms)
    in_place0 = in_place_taken s.net v m ms e f.in_place

    of_each0 : (r : W.Ref) → InvariantOf (taken s.net v ms) r (s.refs r) (m ∷ [])
    of_each0 r = taken_keeps s.net r (s.refs r) v m ms f.in_place e (f.of_each r)

    by_kind : m.what ≡ Disembargo → (to : W.Node) → s.net.kind (s.net.stop m.target) ≡ Exit to → (K : Kind W)
        → s.net.kind (s.net.stop m.target) ≡ K → Invariant (record s { net = echo_back (taken s.net v ms) m.ref K })
    by_kind c to x Object y = absurd (let z : Exit to ≡ Object = sym x ∙ y in cc)
    by_kind c to x Open y = absurd (let z : Exit to ≡ Open = sym x ∙ y in cc)
    by_kind c to x (Exit u) y =
        let m' : Message W = record { target = u; ref = m.ref; what = Echo } in
        record {
          in_place = in_place_link (taken s.net v ms) m' in_place0;
          only_calls = tt;
          of_each = λ r. exit_keeps (taken s.net v ms) r (s.refs r) m m' [] in_place0 refl (ap item (sym c)) y (echo_mark s m r u f (oldest_mark s v m ms Disembargo f e c) y) (of_each0 r);
        }
    by_kind c to x Broken y = absurd (let z : Exit to ≡ Broken = sym x ∙ y in cc)

    by_embargo : m.what ≡ Echo → MarkBy s.net (s.refs m.ref) m.target Echo → (o : Option (Embargo W)) → (s.refs m.ref).embargo ≡ o
        → Invariant (lift (record s { net = taken s.net v ms }) m.ref (s.refs m.ref) o)
    by_embargo c h None y = absurd (none_not_some h.0 (sym y ∙ h.1))
    by_embargo c h (Some b) y =
        let q = m.ref in
        let x = s.refs q in
        let n = taken s.net v ms in
        route_all_holds (put_ref (record s { net = n }) q (record x { embargo = None })) (calls_to x.head q b.calls)
        (put_holds s n q (record x { embargo = None }) (calls_to x.head q b.calls) in_place0 (all_calls W x.head q b.calls)
        (lift_keeps n q x b m in_place0 refl c h.2 (subst (λ o. InvariantOf n q (record x { embargo = o }) (m ∷ [])) y (of_each0 q)))
        (λ r z. add_calls_other n r (s.refs r) x.head q b.calls z (drop_other n r (s.refs r) m [] z (of_each0 r))))

    by_what : (c : Content) → m.what ≡ c → Invariant (receive_as (record s { net = taken s.net v ms }) m c)
    by_what (Call i) c =
        route_holds (record s { net = taken s.net v ms }) m []
        (record { in_place = in_place0; only_calls = (subst IsCall (sym c) tt, tt); of_each = of_each0 })
    by_what Disembargo c = let u = disembargo_meets s v m ms f e c in by_kind c u.3 u.4 (s.net.kind (s.net.stop m.target)) refl
    by_what Echo c = by_embargo c (echo_meets s v m ms f e c) (s.refs m.ref).embargo refl

-- Each allowed event keeps the invariant.
pub event_keeps : {W : Names} (s : State W) (e : Event W) → Invariant s → Allowed s e → Invariant (happens s e)
event_keeps s (Begin r h) f al = begin_holds s r h f al
event_keeps s (Make r) f al = make_holds s r f al (s.refs r).embargo (s.refs r).dead refl refl
event_keeps s (Settle g fate) f al = settle_holds s g fate f al
event_keeps s (Receive v) f al = receive_holds s v f (s.net.links v) refl
event_keeps s (Rename r y) f al = rename_holds s r y f al
event_keeps s (Shorten r y) f al = shorten_holds s r y f al
event_keeps s (Turn_back r y) f al = turn_holds s r y f al
event_keeps s (Break r b k) f al = break_holds s r b k f al

-- So does each list of allowed events.
pub run_keeps : {W : Names} (s : State W) (es : List (Event W)) → Invariant s → AllAllowed s es → Invariant (run s es)
run_keeps s [] f al = f
run_keeps s (e ∷ es) f al = run_keeps (happens s e) es (event_keeps s e f al.0) al.1

-- At the start the invariant holds, since nothing is under way.
pub start_holds : {W : Names} (kind : W.Node → Kind W) (heads : W.Ref → W.Node) → Invariant (start kind heads)
start_holds kind heads = record {
  in_place = record { homes = λ m. refl; waiting = λ g. tt; links = λ v. tt };
  only_calls = tt;
  of_each = λ r. begin_keeps (start kind heads).net r false (heads r) (record { waiting = λ g. tt; links = λ v. tt });
}
