use Rattle.std.proofs.Common.{drop}
use Rattle.look_books.specs.Ends.{kept_of}
use Rattle.look_books.specs.Checks.{named_from}
use Rattle.look_books.proofs.Finding.{Leaves}
use Rattle.look_books.proofs.naming.judge_descriptors.Given as goal

abbrev pub invariant-loop-index : goal.invariant-loop-index
invariant-loop-index l =
    Leaves l.fn.found l.found (named_from (kept_of l.own) (kept_of l.heard) l.index (drop l.index l.descriptors)) (named_from (kept_of l.own) (kept_of l.heard) 0 l.descriptors)
