use Rattle.std.proofs.Common.{subst}
use Rattle.peer_large.specs.Sparing.{goes}
use Rattle.vat_connection.specs.Load.{Intake}
use Rattle.vat_connection.specs.Speaking.{Speaking, Breaks, Says, Turns}
use Rattle.vat_connection.proofs.Saying.{breaks, none_said, one_said, speaking}
use Rattle.vat_connection.proofs.speaker.Speaker.say_all.Goals as goal

pub loop-message-preserved : goal.loop-message-preserved
loop-message-preserved c =
    λ new more. c.loop-message.invariant new
    (subst (λ (s : Speaking). Says s new) c.self.view_is
    (one_said c.self.inside.host c.next_message.new.self c.self.inside.out c.self.inside.adapter c.self.inside.heard c.in-Some.message new c.in-Some.ensures.oldest c.say_one.new.self c.if-not-say_one.ensures.0
    (subst (λ (h : Intake). Turns (speaking c.next_message.new.self c.self.inside.out c.self.inside.adapter h) (goes c.self.inside.adapter c.in-Some.message) c.say_one.new.self) c.say.ensures c.if-not-say_one.ensures.1) more))

pub returns-then-left-eq0 : goal.returns-then-left-eq0
returns-then-left-eq0 c =
    c.loop-message.invariant c.break_off.new.self
    (subst (λ (s : Speaking). Says s c.break_off.new.self) c.self.view_is
    (breaks c.self.inside.host c.next_message.new.self c.self.inside.out c.self.inside.adapter c.self.inside.heard c.in-Some.message c.break_off.new.self c.in-Some.ensures.oldest c.self.inside.adapter
    (subst (λ (h : Intake). Breaks (speaking c.next_message.new.self c.self.inside.out c.self.inside.adapter h) c.break_off.new.self) c.say.ensures c.break_off.ensures)))

pub returns-then-not-say_one : goal.returns-then-not-say_one
returns-then-not-say_one c =
    c.loop-message.invariant c.break_off-then-not-say_one.new.self
    (subst (λ (s : Speaking). Says s c.break_off-then-not-say_one.new.self) c.self.view_is
    (breaks c.self.inside.host c.next_message.new.self c.self.inside.out c.self.inside.adapter c.self.inside.heard c.in-Some.message c.break_off-then-not-say_one.new.self c.in-Some.ensures.oldest c.say_one.new.self.adapter
    (subst (λ (h : Intake). Breaks (speaking c.next_message.new.self c.self.inside.out c.say_one.new.self.adapter h) c.break_off-then-not-say_one.new.self) c.say.ensures
    (subst (λ (s : Speaking). Breaks s c.break_off-then-not-say_one.new.self) c.if-not-say_one.ensures c.break_off-then-not-say_one.ensures))))

pub returns : goal.returns
returns c =
    c.loop-message.invariant _
    (subst (λ (s : Speaking). Says s (speaking c.next_message.new.self c.self.inside.out c.self.inside.adapter c.self.inside.heard)) c.self.view_is
    (none_said c.self.inside.host c.next_message.new.self c.self.inside.out c.self.inside.adapter c.self.inside.heard c.in_default.ensures.none.0 c.in_default.ensures.none.1))
