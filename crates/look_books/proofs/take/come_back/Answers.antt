use Rattle.std.proofs.Common.{◌∙◌}
use Rattle.std.proofs.lemmas.Result.{on_ok_weaker}
use Rattle.look_books.specs.Ends.{kept_of}
use Rattle.look_books.proofs.Keeping.{came_back_so}
use Rattle.look_books.proofs.take.come_back.Goals as goal

pub returns-in-Some : goal.returns-in-Some
returns-in-Some c =
    on_ok_weaker c.fail.result
    (λ x. came_back_so c.args.moment c.args.back.now.kind c.args.back.now.question c.in-Some.question c.args.back.now.descriptors.now c.as_slice.result.now
    (kept_of c.args.heard.now) (kept_of c.discount_message.new.self) (kept_of c.give_back_all.new.self) (kept_of c.fail.new.heard)
    c.in_ok-discount_message.ensures (c.as_slice.ensures ∙ c.in_ok-given.ensures) c.in_ok-give_back_all.ensures c.in-Some.is x)
    c.fail.ensures
