-- Laws of where nodes settle, by whole walks: nobody else goes through them link by link.
use Rattle.std.proofs.Common.{◌≡◌, ℕ, zero, suc, Option, None, Some, unwrap_or, refl, ap, ◌∙◌}
use Rattle.rpc_machine.specs.declared.node.Node.{Node}
use Rattle.rpc_machine.specs.State.{State}
use Rattle.rpc_machine.specs.Nodes.{link, next, follow, links, settle}
use Rattle.rpc_machine.specs.Laws.{Stops}

-- What holds of a node and is kept by each link, holds of where it settles.
pub holds_where_it_settles : (P : Node → Type 0) (s : State) → ((n : Node) → P n → P (next s n)) → (n : Node) → P n → P (settle s n)
holds_where_it_settles P s keeps n h = on (links s) n h
  where
    on : (k : ℕ) (m : Node) → P m → P (follow s k m)
    on zero m h = h
    on (suc k) m h = on k (next s m) (keeps m h)

-- In two states with the same links, as many of them, each node settles alike.
pub settles_alike : (s t : State) → ((n : Node) → link t n ≡ link s n) → links t ≡ links s → (n : Node) → settle t n ≡ settle s n
settles_alike s t same count n = ap (λ k. follow t k n) count ∙ alike (links s) n
  where
    alike : (k : ℕ) (m : Node) → follow t k m ≡ follow s k m
    alike zero m = refl
    alike (suc k) m = ap (λ o. follow t k (unwrap_or o m)) (same m) ∙ alike k (next s m)

-- A node that settles where no link leads further stops.
pub stops_where_it_settles : (s : State) (n : Node) → link s (settle s n) ≡ None → (d : ℕ) × Stops s d n
stops_where_it_settles s n h = stops (links s) n h
  where
    stops : (k : ℕ) (m : Node) → link s (follow s k m) ≡ None → (d : ℕ) × Stops s d m
    stops zero m h = (0, h)
    stops (suc k) m h = by (λ o g. stops k o g) (link s m) refl h
      where
        by : ((o : Node) → link s (follow s k o) ≡ None → (d : ℕ) × Stops s d o) → (o : Option Node) → link s m ≡ o → link s (follow s k (unwrap_or o m)) ≡ None → (d : ℕ) × Stops s d m
        by further None e g = (0, e)
        by further (Some o) e g = let r = further o g in (suc r.0, (o, e, r.1))
