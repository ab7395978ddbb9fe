use Rattle.std.proofs.Common.{◌≡◌, drop}
use Rattle.look_books.specs.Ends.{kept_of}
use Rattle.look_books.specs.After.{doing, give_from}
use Rattle.look_books.proofs.end.End.give_all.Given as goal

abbrev pub invariant-loop-index : goal.invariant-loop-index
invariant-loop-index l = doing (give_from l.number l.origin l.index (drop l.index l.descriptors)) (kept_of l.self) ≡ doing (give_from l.number l.origin 0 l.descriptors) (kept_of l.fn.self)
