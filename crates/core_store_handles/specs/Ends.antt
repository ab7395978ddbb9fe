-- What may have to go once the application is not told of a call any more.
use Rattle.std.specs.Prelude.{ℕ, cond, nat_eq}
use Rattle.rpc_machine.specs.declared.calls.OwnCall.{OwnCall}
use Rattle.rpc_machine.specs.declared.calls.OwnCall.TheVariants as own
use Rattle.core_refcounts.specs.Names.{Counted, Names, times, noting}

-- The key is noted where its count is zero.
abbrev pub noted_unnamed : Counted → ℕ → Counted
noted_unnamed c k = cond (nat_eq (times c.counts k) 0) (noting c k) c

-- So is what a call waited for.
abbrev pub noted_for : Names → OwnCall → Names
noted_for c (own.Direct q) = record c { questions = noted_unnamed c.questions q.0 }
noted_for c (own.Kept o) = record c { outcomes = noted_unnamed c.outcomes o }
