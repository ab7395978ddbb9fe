use Rattle.std.proofs.Common.{◌≡◌, drop}
use Rattle.look_books.specs.Ends.{kept_of}
use Rattle.look_books.specs.After.{doing, give_back_all}
use Rattle.look_books.proofs.end.End.give_back_all.Given as goal

abbrev pub invariant-loop-export : goal.invariant-loop-export
invariant-loop-export l = doing (give_back_all l.number (drop l.export-index l.exports)) (kept_of l.self) ≡ doing (give_back_all l.number l.exports) (kept_of l.fn.self)
