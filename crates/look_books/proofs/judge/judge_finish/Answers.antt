use Rattle.std.proofs.Common.{ap}
use Rattle.look_books.specs.Ends.{kept_of}
use Rattle.look_books.specs.Checks.{breaks, flag_back}
use Rattle.look_books.proofs.Finding.{finds_both_by}
use Rattle.look_books.proofs.judge.judge_finish.Goals as goal

pub returns : goal.returns
returns c = finds_both_by (ap breaks c.not_finishable.ensures) (ap (flag_back (kept_of c.args.heard.now) c.args.flag) c.gives_of.ensures) c.in_ok-add.ensures c.in_ok-judge_flag.ensures
