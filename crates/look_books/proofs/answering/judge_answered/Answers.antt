use Rattle.std.proofs.Common.{refl, ap}
use Rattle.look_books.specs.Ends.{kept_of}
use Rattle.look_books.specs.Checks.{flag_back}
use Rattle.look_books.proofs.Finding.{finds_both_by}
use Rattle.look_books.proofs.answering.judge_answered.Goals as goal

pub returns : goal.returns
returns c = finds_both_by (ap (flag_back (kept_of c.args.heard.now) c.args.answer.now.flag) c.as_slice.ensures) refl c.in_ok-judge_flag.ensures c.in_ok-judge_outcome.ensures
