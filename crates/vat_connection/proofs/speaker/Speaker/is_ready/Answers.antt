use Rattle.std.proofs.Common.{sym, ◌∙◌}
use Rattle.vat_connection.proofs.Turns.{ready, ready_down, ready_fell}
use Rattle.vat_connection.proofs.speaker.Speaker.is_ready.Goals as goal

pub returns-then-is_down : goal.returns-then-is_down
returns-then-is_down c = ready_down c.args.limits c.args.self.now (sym c.is_down.ensures ∙ c.if-is_down.true)

pub returns-then-is_down-2 : goal.returns-then-is_down-2
returns-then-is_down-2 c =
    ready_fell c.args.limits c.args.self.now c.say.new.self (sym c.is_down.ensures ∙ c.if-is_down.false) c.say.ensures (sym c.is_down-2.ensures ∙ c.if-is_down-2.true)

pub returns : goal.returns
returns c =
    ready c.args.limits c.args.self.now c.say.new.self c.may_hear.result (sym c.is_down.ensures ∙ c.if-is_down.false) c.say.ensures (sym c.is_down-2.ensures ∙ c.if-is_down-2.false) c.may_hear.ensures
