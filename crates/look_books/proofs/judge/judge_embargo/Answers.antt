use Rattle.std.proofs.Common.{Bool, is_some, ap, ◌∙◌}
use Rattle.look_books.specs.Ends.{kept_of, embargo_at}
use Rattle.look_books.specs.Checks.{breaks, embargo_by, leads_back}
use Rattle.look_books.proofs.Finding.{finds_both_by}
use Rattle.look_books.proofs.judge.judge_embargo.Goals as goal

pub returns : goal.returns
returns c =
    let own = kept_of c.args.own.now in
    let heard = kept_of c.args.heard.now in
    let lost = c.is_some-is_lost.ensures ∙ ap is_some c.no_target-lost.ensures in
    finds_both_by (ap breaks c.no_target-lost.ensures)
    (ap breaks (c.embargo_of.ensures ∙ ap (λ (b : Bool). embargo_by b (leads_back own heard c.args.target.now) c.args.embargo (embargo_at own c.args.embargo)) lost))
    c.in_ok-add.ensures c.in_ok-add-2.ensures
