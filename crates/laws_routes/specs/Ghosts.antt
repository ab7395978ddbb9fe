-- What a vat's nodes are among the points of the routes. A vat's ids and keys are used again, and a point is not: so what
-- each id and key stands for at present is kept beside the vat, for the proof alone.
use Rattle.std.specs.Prelude.{ℕ, nat_eq, cond, Option, None, Some}
use Rattle.rpc_msg.specs.declared.ids.Vat.{Vat}
use Rattle.rpc_msg.specs.Vats.{other_vat}
use Rattle.rpc_journal.specs.History.{Ref}
use Rattle.rpc_machine.specs.declared.node.Node.{Node}
use Rattle.rpc_machine.specs.declared.node.Node.TheVariants as node
use Rattle.laws_routes.specs.Points.{Point, AnObject, APromise, AField, Nowhere}

-- Of one vat: the identities of its promises and outcomes, by their keys; by question ids, the identity of the outcome that
-- the other vat makes for the question; and by export ids of the other vat, what the import stands for.
pub record Ghost : Type 0 where
  pub promise : ℕ → ℕ
  pub outcome : ℕ → ℕ
  pub session : ℕ → ℕ
  pub import : ℕ → Point

-- The function, but x at k.
abbrev pub with_at : {X : Type 0} → (ℕ → X) → ℕ → X → ℕ → X
with_at f k x j = cond (nat_eq j k) x (f j)

-- The point of a node of the vat v.
abbrev pub point : Vat → Ghost → Node → Point
point v g (node.Object o) = AnObject v o.0
point v g (node.Promise p) = APromise v (g.promise p)
point v g (node.Field o path) = AField v (g.outcome o) path
point v g (node.Import e) = g.import e.0
point v g (node.Pipe q path) = AField (other_vat v) (g.session q.0) path
point v g (node.Broken reason) = Nowhere v

-- The point of a wire; another node has none at the other vat.
abbrev pub far : Vat → Ghost → Node → Option Point
far v g (node.Object o) = None
far v g (node.Promise p) = None
far v g (node.Field o path) = None
far v g (node.Import e) = Some (g.import e.0)
far v g (node.Pipe q path) = Some (AField (other_vat v) (g.session q.0) path)
far v g (node.Broken reason) = None

-- The reference of the vat v with that number.
abbrev pub ref_at : Vat → ℕ → Ref
ref_at v r = record { vat = v; number = r }

-- The outcome o gets the identity i.
abbrev pub keeping : Ghost → ℕ → ℕ → Ghost
keeping g o i = record g { outcome = with_at g.outcome o i }

-- The question q is asked, in the session i.
abbrev pub asked : Ghost → ℕ → ℕ → Ghost
asked g q i = record g { session = with_at g.session q i }

-- The promise p gets the identity i.
abbrev pub holding : Ghost → ℕ → ℕ → Ghost
holding g p i = record g { promise = with_at g.promise p i }

-- The import e comes, and stands for that point.
abbrev pub importing : Ghost → ℕ → Point → Ghost
importing g e x = record g { import = with_at g.import e x }
