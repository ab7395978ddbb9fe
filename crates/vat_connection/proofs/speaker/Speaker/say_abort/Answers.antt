use Rattle.std.proofs.Common.{subst}
use Rattle.vat_connection.specs.Speaking.{Speaking, Passes}
use Rattle.vat_connection.proofs.Saying.{fewer, none_passes, one_passes}
use Rattle.vat_connection.proofs.speaker.Speaker.say_abort.Goals as goal

pub loop-message-init : goal.loop-message-init
loop-message-init c = λ new p. subst (λ (s : Speaking). Passes s new) c.self.view_is p

pub loop-message-smaller : goal.loop-message-smaller
loop-message-smaller c = fewer c.loop-message.self-inside.host c.next_message.new.self c.in-Some.message c.in-Some.ensures.oldest

pub loop-message-preserved : goal.loop-message-preserved
loop-message-preserved c =
    λ new p. c.loop-message.invariant new
    (one_passes c.loop-message.self-inside.host c.next_message.new.self c.loop-message.self-inside.out c.put_abort.new.out c.loop-message.self-inside.adapter c.loop-message.self-inside.heard c.in-Some.message new
    c.in-Some.ensures.oldest c.put_abort.ensures p)

pub returns : goal.returns
returns c =
    c.loop-message.invariant _
    (none_passes c.loop-message.self-inside.host c.next_message.new.self c.loop-message.self-inside.out c.loop-message.self-inside.adapter c.loop-message.self-inside.heard c.in_default.ensures.none.0 c.in_default.ensures.none.1)
