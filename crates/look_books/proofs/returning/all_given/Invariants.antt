use Rattle.std.proofs.Common.{◌≡◌, ◌++◌, drop}
use Rattle.look_books.specs.Checks.{all_given}
use Rattle.look_books.proofs.returning.all_given.Given as goal

abbrev pub invariant-loop-descriptor : goal.invariant-loop-descriptor
invariant-loop-descriptor l = l.given.items ++ all_given (drop l.descriptor-index l.descriptors) ≡ all_given l.descriptors
