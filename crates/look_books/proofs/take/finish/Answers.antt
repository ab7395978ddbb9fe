use Rattle.std.proofs.lemmas.Result.{on_ok_weaker}
use Rattle.look_books.specs.Ends.{kept_of}
use Rattle.look_books.proofs.Keeping.{finished_so}
use Rattle.look_books.proofs.take.finish.Goals as goal

pub returns : goal.returns
returns c =
    on_ok_weaker c.settle.result
    (λ x. finished_so c.args.moment c.args.question c.args.flag (kept_of c.args.own.now) (kept_of c.take_unfinished.new.self) (kept_of c.settle.new.self) (kept_of c.args.heard.now) (kept_of c.give_back_if.new.self)
    c.take_unfinished.result c.in-Some.mine c.with_finish.result c.given_in.result.now
    c.take_unfinished.ensures.taken c.take_unfinished.ensures.kept c.in-Some.is c.given_in.ensures c.in_ok-give_back_if.ensures c.with_finish.ensures x)
    c.settle.ensures
