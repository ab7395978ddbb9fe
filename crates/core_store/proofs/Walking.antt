-- Links that are followed, one after the other or many at once.
use Rattle.std.proofs.Common.{◌≡◌, ℕ, zero, suc, ◌+◌, ◌-◌, ◌≤◌, ◌<◌, Option, None, Some, unwrap_or, refl, sym, ap, subst, ◌∙◌, arith}
use Rattle.rpc_machine.specs.declared.node.Node.{Node}
use Rattle.rpc_machine.specs.State.{State}
use Rattle.rpc_machine.specs.Nodes.{link, links, follow, settle}
use Rattle.rpc_machine.proofs.Settles.{stays}
use Rattle.core_waits.specs.declared.hops.Hop.{Hop}
use Rattle.core_waits.specs.Links.{Leads, IsHop}

-- A node without a link settles nowhere else.
pub settles_there : (s : State) (n : Node) → link s n ≡ None → n ≡ settle s n
settles_there s n none = sym (stays s (links s) n none)

-- A node whose link leads to one without a link settles there.
pub settles_next : (s : State) (n m : Node) → link s n ≡ Some m → link s m ≡ None → m ≡ settle s n
settles_next s n m next none = sym (by (links s) (omega arith))
  where
    by : (k : ℕ) → 0 < k → follow s k n ≡ m
    by zero below = absurd (omega (arith, below))
    by (suc k) below = ap (λ o. follow s k (unwrap_or o n)) next ∙ stays s k m none

-- ---- A way along links

-- What is beyond it is beyond its end.
pub follows : (s : State) (k j : ℕ) (n z : Node) → Leads (link s) k n z → (l : ℕ) → l ≡ k + j → follow s l n ≡ follow s j z
follows s zero j n z way l e = ap (λ (i : ℕ). follow s i n) (let f : l ≡ j = omega (arith, e) in f) ∙ ap (follow s j) way
follows s (suc k) j n z way zero e = absurd (omega (arith, e))
follows s (suc k) j n z way (suc l) e = ap (λ o. follow s l (unwrap_or o n)) way.1 ∙ follows s k j way.0 z way.2 l (omega (arith, e))

module _ (link : Node → Option Node) where
  -- One way goes on by another.
  pub leads_further : (k j : ℕ) (n m z : Node) → Leads link k n m → Leads link j m z → (l : ℕ) → l ≡ k + j → Leads link l n z
  leads_further zero j n m z first rest l e =
      subst (λ (i : ℕ). Leads link i n z) (let f : j ≡ l = omega (arith, e) in f) (subst (λ (x : Node). Leads link j x z) (sym first) rest)
  leads_further (suc k) j n m z first rest zero e = absurd (omega (arith, e))
  leads_further (suc k) j n m z first rest (suc l) e = (first.0, first.1, leads_further k j first.0 m z first.2 rest l (omega (arith, e)))

  one_end : (o : Option Node) (x y : Node) → o ≡ Some x → o ≡ Some y → x ≡ y
  one_end o x y a b = let e : ◌≡◌ {A = Option Node} (Some x) (Some y) = sym a ∙ b in cc

  -- A longer way goes through a shorter one's end.
  pub leads_rest : (k j : ℕ) (n m z : Node) → Leads link k n m → (l : ℕ) → l ≡ k + j → Leads link l n z → Leads link j m z
  leads_rest zero j n m z first l e whole =
      subst (λ (i : ℕ). Leads link i m z) (let f : l ≡ j = omega (arith, e) in f) (subst (λ (x : Node). Leads link l x z) first whole)
  leads_rest (suc k) j n m z first zero e whole = absurd (omega (arith, e))
  leads_rest (suc k) j n m z first (suc l) e whole =
      leads_rest k j first.0 m z first.2 l (omega (arith, e)) (subst (λ (x : Node). Leads link l x z) (one_end (link n) whole.0 first.0 whole.1 first.1) whole.2)

-- ---- As `hop` says it

-- Where there is none, the node leads no further.
pub stops_there : (s : State) (k : ℕ) (n : Node) (o : Option Hop) → o ≡ None → IsHop (link s) k n o → follow s k n ≡ n
stops_there s k n o is none = by k (subst (λ (x : Option Hop). IsHop (link s) k n x) is none)
  where
    by : (k : ℕ) → (0 < k → link s n ≡ None) → follow s k n ≡ n
    by zero h = refl
    by (suc k) h = stays s (suc k) n (h (omega arith))

-- What is found is a way.
pub found : (s : State) (k : ℕ) (n : Node) (o : Option Hop) (h : Hop) → o ≡ Some h → IsHop (link s) k n o → (0 < h.far) × (h.far ≤ k) × Leads (link s) h.far n h.to
found s k n o h is way = subst (λ (x : Option Hop). IsHop (link s) k n x) is way

pub goes_on : (s : State) (k j : ℕ) (n : Node) (h : Hop) → (0 < h.far) × (h.far ≤ k) × Leads (link s) h.far n h.to → j ≡ k - h.far → follow s j h.to ≡ follow s k n
goes_on s k j n h way e = let within = way.1 in sym (follows s h.far j n h.to way.2 k (omega (arith, e, within)))

-- A node that is led to, and has no link, is where the first one leads.
pub ends_there : (s : State) (k : ℕ) (n : Node) (h : Hop) → (0 < h.far) × (h.far ≤ k) × Leads (link s) h.far n h.to → link s h.to ≡ None → follow s k n ≡ h.to
ends_there s k n h way none = sym (goes_on s k (k - h.far) n h way refl) ∙ stays s (k - h.far) h.to none

-- Where a whole way comes to, and leads no further.
pub settles_at : (s : State) (k j : ℕ) (n z : Node) (o : Option Hop) → Leads (link s) k n z → links s ≡ k + j → o ≡ None → IsHop (link s) j z o → z ≡ settle s n
settles_at s k j n z o way e is none = sym (follows s k j n z way (links s) e ∙ stops_there s j z o is none)

-- What is found at once, and leads no further.
pub settles_found : (s : State) (k : ℕ) (n : Node) (o : Option Hop) (h : Hop) → links s ≡ k → o ≡ Some h → IsHop (link s) k n o → link s h.to ≡ None → h.to ≡ settle s n
settles_found s k n o h all is way none = sym (ap (λ (i : ℕ). follow s i n) all ∙ ends_there s k n h (found s k n o h is way) none)

pub settles_here : (s : State) (k : ℕ) (n : Node) (o : Option Hop) → links s ≡ k → o ≡ None → IsHop (link s) k n o → n ≡ settle s n
settles_here s k n o all is none = sym (ap (λ (i : ℕ). follow s i n) all ∙ stops_there s k n o is none)
