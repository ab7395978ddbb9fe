use Rattle.look_books.proofs.Finding.{judged_so}
use Rattle.look_books.proofs.books.Books.judge.Goals as goal

pub returns : goal.returns
returns c =
    judged_so _ _ _ _ _ _ _ _ c.end-own.ensures c.end-heard.ensures c.other.ensures c.act_of-act.ensures c.behind_abort.ensures c.new-found.ensures c.in_ok-add.ensures c.in_ok-judge_act.ensures
