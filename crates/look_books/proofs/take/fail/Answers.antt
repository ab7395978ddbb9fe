use Rattle.std.proofs.Common.{List, true, ap, ◌∙◌}
use Rattle.std.proofs.lemmas.Result.{on_ok_weaker}
use Rattle.rpc_msg.specs.declared.ids.ExportId.{ExportId}
use Rattle.look_books.specs.declared.question.Results.TheVariants as results
use Rattle.look_books.specs.Ends.{kept_of}
use Rattle.look_books.specs.After.{returned}
use Rattle.look_books.proofs.Keeping.{failed_so}
use Rattle.look_books.proofs.take.fail.Goals as goal

pub returns : goal.returns
returns c =
    on_ok_weaker c.settle.result
    (λ x. failed_so c.args.moment c.args.question (kept_of c.args.heard.now) (kept_of c.take_unanswered.new.self) (kept_of c.give_back_all.new.self) (kept_of c.settle.new.self)
    c.take_unanswered.result c.in-Some.his c.with_return.result c.as_slice.result.now
    c.take_unanswered.ensures.taken c.take_unanswered.ensures.kept c.in-Some.is c.as_slice.ensures c.in_ok-give_back_all.ensures
    (c.with_return.ensures ∙ ap (λ (xs : List ExportId). returned c.in-Some.his (record { number = c.args.moment.number; waived = true; gives = xs; results = results.None })) c.new.ensures) x)
    c.settle.ensures
