use Rattle.std.proofs.Common.{Option, refl, ap, subst, ◌∙◌}
use Rattle.rpc_msg.specs.declared.ids.QuestionId.{QuestionId}
use Rattle.vat_connection.specs.Load.{counted}
use Rattle.vat_connection.specs.Speaking.{Speaking}
use Rattle.vat_connection.specs.Framing.{HearsInbound}
use Rattle.vat_connection.proofs.Saying.{speaking}
use Rattle.vat_connection.proofs.Framed.{inbound_hears, inbound_lacks}
use Rattle.vat_connection.proofs.speaker.Speaker.hear_inbound.Goals as goal

pub returns-in_default : goal.returns-in_default
returns-in_default c =
    subst (λ (s : Speaking). HearsInbound s c.args.words c.args.inbound (speaking c.lack_room.new.host c.self.inside.out c.self.inside.adapter c.add.new.self)) c.self.view_is
    (inbound_lacks c.self.inside.host c.self.inside.out c.self.inside.adapter c.self.inside.heard c.args.words c.args.inbound c.self.inside.out c.add.new.self c.lack_room.new.host refl c.lack_room.ensures)

pub returns-then-not-put_aside : goal.returns-then-not-put_aside
returns-then-not-put_aside c =
    subst (λ (s : Speaking). HearsInbound s c.args.words c.args.inbound (speaking c.lack_room-then-not-put_aside.new.host c.put_aside.new.out c.self.inside.adapter c.add.new.self)) c.self.view_is
    (inbound_lacks c.self.inside.host c.self.inside.out c.self.inside.adapter c.self.inside.heard c.args.words c.args.inbound c.put_aside.new.out c.add.new.self c.lack_room-then-not-put_aside.new.host c.if-not-put_aside.ensures
    c.lack_room-then-not-put_aside.ensures)

pub returns : goal.returns
returns c =
    subst (λ (s : Speaking). HearsInbound s c.args.words c.args.inbound (speaking c.hear_each.new.host c.put_aside.new.out c.self.inside.adapter c.add.new.self)) c.self.view_is
    (inbound_hears c.self.inside.host c.self.inside.out c.self.inside.adapter c.self.inside.heard c.args.words c.args.inbound c.put_aside.new.out c.hear_each.new.host c.add.new.self c.if-not-put_aside.ensures c.hear_each.ensures
    (c.in-Ok.ensures ∙ ap (λ (q : Option QuestionId). counted q c.args.words c.self.inside.heard) c.question_in.ensures))
