-- Of wires: what is known of a place among capabilities, and when two nodes are one.
use Rattle.std.proofs.Common.{◌≡◌, ℕ, zero, suc, Bool, true, false, ◌&&◌, nat_eq, List, [], ◌∷◌, length, get_or, ◌<◌, ◌≤◌, arith, refl, sym, ap, ◌∙◌, subst}
use Rattle.finite_maps.proofs.Tested.{equal, itself}
use Rattle.rpc_msg.specs.declared.parts.Descriptor.{Descriptor}
use Rattle.rpc_msg.specs.Op.{Op}
use Rattle.rpc_msg.specs.Op.TheVariants as op
use Rattle.rpc_machine.specs.declared.node.Node.{Node}
use Rattle.rpc_machine.specs.declared.node.Node.TheVariants as node
use Rattle.rpc_machine.specs.declared.node.Reason.TheVariants.{BrokenPromise}
use Rattle.vat_tables.specs.Exports.{node_eq}
use Rattle.vat_tables.proofs.NodeKeys.{node_same, node_itself}
use Rattle.rpc_machine.specs.Nodes.{is_wire, is_same_node, same_op, same_path}
use Rattle.rpc_machine.specs.Fullness.{is_exportable}
use Rattle.rpc_machine.specs.Advancing.{known_at, known_by, IsBroken}

pub known_found : (caps : List (Descriptor × Node)) (i : ℕ) (x : Descriptor × Node) → i < length caps → x ≡ get_or caps i x → known_at caps i ≡ known_by x.0 x.1
known_found [] i x below is = absurd (omega (arith, below))
known_found (c ∷ cs) zero x below is = rw (← is) refl
known_found (c ∷ cs) (suc i) x below is = known_found cs i x (omega (arith, below)) is

pub known_nowhere : (caps : List (Descriptor × Node)) (i : ℕ) → length caps ≤ i → known_at caps i ≡ IsBroken BrokenPromise
known_nowhere [] i past = refl
known_nowhere (c ∷ cs) zero past = absurd (omega (arith, past))
known_nowhere (c ∷ cs) (suc i) past = known_nowhere cs i (omega (arith, past))

-- ---- One node

both : (a b : Bool) → (a && b) ≡ true → (a ≡ true) × (b ≡ true)
both true b h = (refl, h)
both false b h = let e : false ≡ true = h in cc

same_ops : (a b : Op) → same_op a b ≡ true → a ≡ b
same_ops op.Noop op.Noop h = refl
same_ops op.Noop (op.Field j) h = cc
same_ops (op.Field i) op.Noop h = cc
same_ops (op.Field i) (op.Field j) h = ap (λ k. op.Field k) (equal i j h)

same_paths : (p q : List Op) → same_path p q ≡ true → p ≡ q
same_paths [] [] h = refl
same_paths [] (b ∷ q) h = cc
same_paths (a ∷ p) [] h = cc
same_paths (a ∷ p) (b ∷ q) h =
    let k = both (same_op a b) (same_path p q) h in
    rw (same_ops a b k.0, same_paths p q k.1) refl

path_itself : (p : List Op) → same_path p p ≡ true
path_itself [] = refl
path_itself (op.Noop ∷ p) = path_itself p
path_itself (op.Field i ∷ p) = rw (itself i, path_itself p) refl

-- Of a node of which an export is made.
pub is_itself : (n : Node) → is_exportable n ≡ true → is_same_node n n ≡ true
is_itself (node.Object o) h = itself o.0
is_itself (node.Promise p) h = itself p
is_itself (node.Field o path) h = rw (itself o, path_itself path) refl
is_itself (node.Import e) h = cc
is_itself (node.Pipe q path) h = cc
is_itself (node.Broken r) h = cc

is_wire_itself : (w : Node) → is_wire w ≡ true → is_same_node w w ≡ true
is_wire_itself (node.Object o) h = cc
is_wire_itself (node.Promise p) h = cc
is_wire_itself (node.Field o path) h = cc
is_wire_itself (node.Import e) h = itself e.0
is_wire_itself (node.Pipe q path) h = rw (itself q.0, path_itself path) refl
is_wire_itself (node.Broken r) h = cc

pub same_node : (n m : Node) → is_same_node n m ≡ true → n ≡ m
same_node (node.Object x) (node.Object y) same = ap (λ (k : ℕ). node.Object (record { 0 = k })) (equal x.0 y.0 same)
same_node (node.Promise x) (node.Promise y) same = ap (λ k. node.Promise k) (equal x y same)
same_node (node.Field o path) (node.Field x y) same =
    let k = both (nat_eq o x) (same_path path y) same in
    ap (λ i. node.Field i path) (equal o x k.0) ∙ ap (λ p. node.Field x p) (same_paths path y k.1)
same_node (node.Import e) (node.Import x) same = ap (λ (k : ℕ). node.Import (record { 0 = k })) (equal e.0 x.0 same)
same_node (node.Pipe q path) (node.Pipe x y) same =
    let k = both (nat_eq q.0 x.0) (same_path path y) same in
    ap (λ (i : ℕ). node.Pipe (record { 0 = i }) path) (equal q.0 x.0 k.0) ∙ ap (λ p. node.Pipe x p) (same_paths path y k.1)
same_node n m same = let e : false ≡ true = same in cc

-- What says whether the two are one is the machine's test.
pub told_same : (b : Bool) (n w : Node) → is_wire w ≡ true → (b ≡ true → n ≡ w) → (n ≡ w → b ≡ true) → b ≡ is_same_node n w
told_same true n w wire so back = let e : n ≡ w = so refl in subst (λ (m : Node). true ≡ is_same_node m w) (sym e) (sym (is_wire_itself w wire))
told_same false n w wire so back = by (is_same_node n w) refl
  where
    by : (c : Bool) → is_same_node n w ≡ c → false ≡ c
    by false h = refl
    by true h = back (same_node n w h)

pub told_by : (b : Bool) (n w : Node) → b ≡ node_eq n w → (b ≡ true → n ≡ w) × (n ≡ w → b ≡ true)
told_by b n w h = ((λ e. node_same n w (sym h ∙ e)), (λ e. h ∙ subst (λ (m : Node). node_eq m w ≡ true) (sym e) (node_itself w)))
