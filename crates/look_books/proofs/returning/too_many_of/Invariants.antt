use Rattle.std.proofs.Common.{◌≡◌, ℕ, [], take, drop}
use Rattle.look_books.specs.Ends.{kept_of}
use Rattle.look_books.specs.Checks.{back, gone_in, times_in, too_many_of}
use Rattle.look_books.proofs.Finding.{Leaves}
use Rattle.look_books.proofs.returning.too_many_of.Given as goal

abbrev pub invariant-loop-export : goal.invariant-loop-export
invariant-loop-export l =
    ((k : ℕ) → gone_in l.gone k ≡ times_in k (take l.export-index l.exports))
    × Leaves l.fn.found l.found (back (too_many_of (kept_of l.heard) l.by (take l.export-index l.exports) (drop l.export-index l.exports))) (back (too_many_of (kept_of l.heard) l.by [] l.exports))
