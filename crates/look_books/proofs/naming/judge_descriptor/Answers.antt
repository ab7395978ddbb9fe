use Rattle.std.proofs.Common.{ap}
use Rattle.look_books.specs.Checks.{breaks, wonders}
use Rattle.look_books.proofs.Finding.{finds_both_by}
use Rattle.look_books.proofs.naming.judge_descriptor.Goals as goal

pub returns : goal.returns
returns c = finds_both_by (ap breaks c.not_there.ensures) (ap wonders c.odd_descriptor.ensures) c.in_ok-add.ensures c.in_ok-wonder.ensures
