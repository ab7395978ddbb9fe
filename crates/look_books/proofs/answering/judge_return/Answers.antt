use Rattle.look_books.proofs.Finding.{finds_both}
use Rattle.look_books.proofs.answering.judge_return.Goals as goal

pub returns : goal.returns
returns c = finds_both c.in_ok-judge_descriptors.ensures c.in_ok-judge_answer.ensures
