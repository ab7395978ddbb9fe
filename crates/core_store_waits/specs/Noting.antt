-- What is noted besides: an outcome of which no field is named.
use Rattle.std.specs.Prelude.{ℕ, zero, suc}
use Rattle.core_refcounts.specs.Names.{Counted, Names, times, noting}

-- The key is noted where it is counted zero times.
abbrev pub noted_at : Counted → ℕ → ℕ → Counted
noted_at c k zero = noting c k
noted_at c k (suc n) = c

abbrev pub noted_unnamed : Names → ℕ → Names
noted_unnamed c o = record c { outcomes = noted_at c.outcomes o (times c.outcomes.counts o) }
