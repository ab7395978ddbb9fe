use Rattle.std.proofs.Common.{refl, subst}
use Rattle.vat_connection.specs.Speaking.{Speaking, Says}
use Rattle.vat_connection.proofs.Saying.{none_said, none_there}
use Rattle.vat_connection.proofs.speaker.Speaker.say.Goals as goal

pub returns-then-not-has_messages : goal.returns-then-not-has_messages
returns-then-not-has_messages c =
    subst (λ (s : Speaking). Says s s) c.self.view_is
    (none_said c.self.inside.host c.self.inside.host c.self.inside.out c.self.inside.adapter c.self.inside.heard
    (none_there c.self.inside.host.messages c.has_messages.result c.has_messages.ensures c.if-not-has_messages.true) refl)
