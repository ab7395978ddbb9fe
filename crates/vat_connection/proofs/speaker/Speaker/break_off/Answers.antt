use Rattle.std.proofs.Common.{subst}
use Rattle.vat_connection.specs.Speaking.{Speaking, Breaks}
use Rattle.vat_connection.proofs.Saying.{broken_off}
use Rattle.vat_connection.proofs.speaker.Speaker.break_off.Goals as goal

pub returns : goal.returns
returns c =
    subst (λ (s : Speaking). Breaks s c.say_abort.new.self) c.self.view_is
    (broken_off c.self.inside.host c.lack_room.new.host c.self.inside.out c.self.inside.adapter c.self.inside.heard c.say_abort.new.self c.lack_room.ensures c.say_abort.ensures)
