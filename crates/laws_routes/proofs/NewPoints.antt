-- Behind a change of one identity the points of other nodes are as before.
use Rattle.std.proofs.Common.{◌≡◌, ℕ, false, refl, ap}
use Rattle.rpc_msg.specs.declared.ids.Vat.{Vat}
use Rattle.rpc_machine.specs.declared.node.Node.{Node}
use Rattle.rpc_machine.specs.declared.node.Node.TheVariants as node
use Rattle.rpc_machine.specs.Nodes.{is_field, is_import, is_pipe, is_promise, is_wire}
use Rattle.laws_routes.specs.Points.{Point, APromise, AField}
use Rattle.laws_routes.specs.Ghosts.{Ghost, point, asked, holding, importing, keeping}
use Rattle.laws_routes.proofs.Differing.{with_other}

-- ---- A question is asked

pub asked_own : (v : Vat) (g : Ghost) (q i : ℕ) (n : Node) → is_wire n ≡ false → point v (asked g q i) n ≡ point v g n
asked_own v g q i (node.Object o) h = refl
asked_own v g q i (node.Promise p) h = refl
asked_own v g q i (node.Field o path) h = refl
asked_own v g q i (node.Import e) h = refl
asked_own v g q i (node.Pipe k path) h = cc
asked_own v g q i (node.Broken reason) h = refl

pub asked_point : (v : Vat) (g : Ghost) (q i : ℕ) (n : Node) → is_pipe q n ≡ false → point v (asked g q i) n ≡ point v g n
asked_point v g q i (node.Object o) h = refl
asked_point v g q i (node.Promise p) h = refl
asked_point v g q i (node.Field o path) h = refl
asked_point v g q i (node.Import e) h = refl
asked_point v g q i (node.Pipe k path) h = ap (λ (z : ℕ). point v (record g { session = λ j. z }) (node.Pipe k path)) (with_other g.session q i k.0 h)
asked_point v g q i (node.Broken reason) h = refl

-- ---- An outcome is kept, a promise opens

pub keeping_point : (v : Vat) (g : Ghost) (o i : ℕ) (n : Node) → is_field o n ≡ false → point v (keeping g o i) n ≡ point v g n
keeping_point v g o i (node.Object x) h = refl
keeping_point v g o i (node.Promise p) h = refl
keeping_point v g o i (node.Field k path) h = ap (λ (z : ℕ). AField v z path) (with_other g.outcome o i k h)
keeping_point v g o i (node.Import e) h = refl
keeping_point v g o i (node.Pipe q path) h = refl
keeping_point v g o i (node.Broken reason) h = refl

pub holding_point : (v : Vat) (g : Ghost) (p i : ℕ) (n : Node) → is_promise p n ≡ false → point v (holding g p i) n ≡ point v g n
holding_point v g p i (node.Object x) h = refl
holding_point v g p i (node.Promise k) h = ap (λ (z : ℕ). APromise v z) (with_other g.promise p i k h)
holding_point v g p i (node.Field k path) h = refl
holding_point v g p i (node.Import e) h = refl
holding_point v g p i (node.Pipe q path) h = refl
holding_point v g p i (node.Broken reason) h = refl

-- ---- Imports come

-- What an own node stands for does not look at imports and sessions.
pub own_alike : (v : Vat) (g f : Ghost) (n : Node) → f.promise ≡ g.promise → f.outcome ≡ g.outcome → is_wire n ≡ false → point v f n ≡ point v g n
own_alike v g f (node.Object o) a b h = refl
own_alike v g f (node.Promise p) a b h = ap (λ (z : ℕ → ℕ). APromise v (z p)) a
own_alike v g f (node.Field o path) a b h = ap (λ (z : ℕ → ℕ). AField v (z o) path) b
own_alike v g f (node.Import e) a b h = cc
own_alike v g f (node.Pipe q path) a b h = cc
own_alike v g f (node.Broken reason) a b h = refl

module _ (v : Vat) (g : Ghost) (e : ℕ) (x : Point) where
  pub imported_point : (n : Node) → is_import e n ≡ false → point v (importing g e x) n ≡ point v g n
  imported_point (node.Object o) h = refl
  imported_point (node.Promise p) h = refl
  imported_point (node.Field o path) h = refl
  imported_point (node.Import k) h = with_other g.import e x k.0 h
  imported_point (node.Pipe q path) h = refl
  imported_point (node.Broken reason) h = refl

  pub imported_own : (n : Node) → is_wire n ≡ false → point v (importing g e x) n ≡ point v g n
  imported_own (node.Object o) h = refl
  imported_own (node.Promise p) h = refl
  imported_own (node.Field o path) h = refl
  imported_own (node.Import k) h = cc
  imported_own (node.Pipe q path) h = refl
  imported_own (node.Broken reason) h = refl
