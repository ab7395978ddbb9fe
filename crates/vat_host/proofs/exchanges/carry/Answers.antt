use Rattle.vat_host.proofs.Going.{one_goes}
use Rattle.vat_host.proofs.exchanges.carry.Goals as goal

pub loop-message-preserved : goal.loop-message-preserved
loop-message-preserved c =
    one_goes c.args.from.now c.args.to.now c.loop-message.from c.loop-message.to c.next_message.new.self c.receive.new.self c.in-Some.message
    c.in-Some.ensures.oldest c.receive.ensures c.loop-message.invariant
