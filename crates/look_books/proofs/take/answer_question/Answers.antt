use Rattle.std.proofs.lemmas.Result.{on_ok_weaker}
use Rattle.look_books.specs.Ends.{kept_of}
use Rattle.look_books.proofs.Keeping.{answered_so}
use Rattle.look_books.proofs.take.answer_question.Goals as goal

pub returns-in-Some : goal.returns-in-Some
returns-in-Some c =
    on_ok_weaker c.answer.result
    (λ x. answered_so c.args.moment c.args.said c.args.results (kept_of c.args.own.now) (kept_of c.give_all.new.self) (kept_of c.args.heard.now) (kept_of c.take_unanswered-his.new.self)
    (kept_of c.answer.new.own) (kept_of c.answer.new.heard) c.take_unanswered-his.result c.in-Some.his c.asked_of.result c.descriptors_in.result.now
    c.take_unanswered-his.ensures.taken c.take_unanswered-his.ensures.kept c.in-Some.is c.asked_of.ensures c.descriptors_in.ensures c.in_ok-give_all.ensures x)
    c.answer.ensures
