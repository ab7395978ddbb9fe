use Rattle.std.proofs.Common.{refl, ap}
use Rattle.look_books.specs.Checks.{breaks}
use Rattle.look_books.proofs.Finding.{finds_both_by}
use Rattle.look_books.proofs.judge.judge_resolve.Goals as goal

pub returns : goal.returns
returns c = finds_both_by refl (ap breaks c.not_resolvable.ensures) c.in_ok-judge_resolution.ensures c.in_ok-add.ensures
