use Rattle.std.proofs.lemmas.Result.{on_ok_weaker}
use Rattle.look_books.specs.Acts.{does}
use Rattle.look_books.specs.Ends.{kept_of}
use Rattle.look_books.specs.After.{results_in}
use Rattle.look_books.proofs.Keeping.{after_so, after_none}
use Rattle.look_books.proofs.take.take_said.Goals as goal

pub returns-in-Some : goal.returns-in-Some
returns-in-Some c =
    on_ok_weaker c.answer_question.result
    (λ x. after_so c.args.moment (does c.args.envelope c.args.heading) (results_in c.args.envelope) c.results_of.result c.in-Some.said _
    (kept_of c.args.own.now) (kept_of c.take_envelope.new.own) (kept_of c.args.heard.now) (kept_of c.take_envelope.new.heard) (kept_of c.answer_question.new.own) (kept_of c.answer_question.new.heard)
    c.in_ok-said.ensures.said c.in-Some.is c.in_ok-said.ensures.kept c.results_of.ensures x)
    c.answer_question.ensures

pub returns-in-None : goal.returns-in-None
returns-in-None c =
    after_none c.args.moment (does c.args.envelope c.args.heading) (results_in c.args.envelope) _
    (kept_of c.args.own.now) (kept_of c.take_envelope.new.own) (kept_of c.args.heard.now) (kept_of c.take_envelope.new.heard)
    c.in_ok-said.ensures.said c.in-None.is c.in_ok-said.ensures.kept
