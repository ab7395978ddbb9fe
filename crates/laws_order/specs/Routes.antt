-- The route from a stop: over its exit to the next stop, and so on.
use Rattle.std.specs.Prelude.{◌≡◌, ℕ, zero, suc}
use Rattle.laws_order.specs.Machine.{Names, Kind, Object, Open, Exit, Broken, Net}

abbrev pub IsExit : {W : Names} → Kind W → Type 0
IsExit Object = ⊥
IsExit Open = ⊥
IsExit (Exit to) = Unit {0}
IsExit Broken = ⊥

-- A good route comes to an end at an object or at an open stop.
abbrev pub IsEnd : {W : Names} → Kind W → Type 0
IsEnd Object = Unit {0}
IsEnd Open = Unit {0}
IsEnd (Exit to) = ⊥
IsEnd Broken = ⊥

-- The stop to which a stop of this kind leads.
abbrev pub beyond : {W : Names} → Net W → W.Node → Kind W → W.Node
beyond n e Object = e
beyond n e Open = e
beyond n e (Exit to) = n.stop to
beyond n e Broken = e

abbrev pub next : {W : Names} → Net W → W.Node → W.Node
next n e = beyond n e (n.kind e)

-- Over that many exits the stop e leads to the stop p.
abbrev pub Path : {W : Names} → Net W → ℕ → W.Node → W.Node → Type 0
Path n zero e p = e ≡ p
Path n (suc k) e p = IsExit (n.kind e) × Path n k (next n e) p

-- The stop p is on the route from the stop e.
abbrev pub Reach : {W : Names} → Net W → W.Node → W.Node → Type 0
Reach n e p = (j : ℕ) × Path n j e p

-- The route from the stop e is good: after some exits it ends at an object or an open stop. It is not
-- where it ends at a broken stop or goes round.
abbrev pub Good : {W : Names} → Net W → W.Node → Type 0
Good {W} n e = (k : ℕ) × (o : W.Node) × Path n k e o × IsEnd (n.kind o)
