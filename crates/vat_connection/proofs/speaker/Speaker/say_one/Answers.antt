use Rattle.std.proofs.Common.{subst}
use Rattle.vat_connection.specs.Speaking.{Speaking, Turns}
use Rattle.peer_large.specs.Sparing.{goes}
use Rattle.vat_connection.proofs.Saying.{speaking, turns}
use Rattle.vat_connection.proofs.speaker.Speaker.say_one.Goals as goal

pub returns : goal.returns
returns c = (
  c.in-Ok.ensures.laid,
  subst (λ (s : Speaking). Turns s (goes s.adapter c.args.message) (speaking c.hear_each.new.host c.tell.new.out c.outbound.new.self c.self.inside.heard)) c.self.view_is
      (turns c.self.inside.host c.hear_each.new.host c.self.inside.out c.tell.new.out c.self.inside.adapter c.outbound.new.self c.self.inside.heard c.args.message c.in-Ok.outbound c.in-Ok.ensures.went c.if-not-tell.ensures c.hear_each.ensures),
)
