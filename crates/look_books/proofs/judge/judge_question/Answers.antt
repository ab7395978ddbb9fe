use Rattle.std.proofs.Common.{refl, ap}
use Rattle.look_books.specs.Checks.{breaks, wonders}
use Rattle.look_books.proofs.Finding.{finds_both, finds_both_by}
use Rattle.look_books.proofs.judge.judge_question.Goals as goal

pub returns : goal.returns
returns c =
    finds_both
    (finds_both_by refl (ap wonders c.unknown_kind.ensures) (finds_both_by (ap breaks c.in_use.ensures) (ap breaks c.no_target_of.ensures) c.in_ok-add.ensures c.in_ok-add-2.ensures) c.in_ok-wonder.ensures)
    c.in_ok-judge_descriptors.ensures
