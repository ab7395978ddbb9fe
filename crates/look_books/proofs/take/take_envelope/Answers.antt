use Rattle.look_books.specs.Acts.{seen}
use Rattle.look_books.specs.Ends.{kept_of}
use Rattle.look_books.proofs.Keeping.{counted_so}
use Rattle.look_books.proofs.take.take_envelope.Goals as goal

pub returns-clause-kept : goal.returns-clause-kept
returns-clause-kept c =
    counted_so c.args.moment (seen c.act_of-act.result) _ c.kind.result (kept_of c.args.own.now) (kept_of c.count_message.new.self) (kept_of c.args.heard.now) _ _
    c.act_of-act.ensures c.kind.ensures c.in_ok-count_message.ensures c.in_ok-take_act.ensures
