use Rattle.std.proofs.Common.{List, [], ap, ◌∙◌}
use Rattle.rpc_msg.specs.declared.ids.ExportId.{ExportId}
use Rattle.look_books.specs.declared.breach.GivenBack.TheVariants as by
use Rattle.look_books.specs.Ends.{kept_of}
use Rattle.look_books.specs.Checks.{breaks, back, too_many_of}
use Rattle.look_books.proofs.Finding.{finds_both_by}
use Rattle.look_books.proofs.judge.judge_back.Goals as goal

pub returns : goal.returns
returns c =
    finds_both_by (ap breaks c.not_back.ensures)
    (ap (λ (xs : List ExportId). back (too_many_of (kept_of c.args.heard.now) by.Itself [] xs)) (c.as_slice.ensures ∙ c.in_ok-given.ensures))
    c.in_ok-add.ensures c.in_ok-too_many_of.ensures
