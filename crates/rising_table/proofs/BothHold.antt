-- Of two tests that hold, each holds.
use Rattle.std.proofs.Common.{Bool, true, false, T, ◌&&◌}

-- both tests hold
pub front : (a b : Bool) → T (a && b) → T a
front true b h = tt
front false b h = h

pub behind : (a b : Bool) → T (a && b) → T b
behind true b h = h
behind false b h = absurd h
