use Rattle.std.proofs.Common.{Ok, Err, subst}
use Rattle.rpc_machine.specs.State.{State}
use Rattle.peer_large.specs.Opening.{seen}
use Rattle.peer_large.specs.Sparing.{comes}
use Rattle.vat_connection.specs.Speaking.{Speaking, tables_of}
use Rattle.vat_connection.specs.Framing.{HearsOpened, Turned}
use Rattle.vat_connection.proofs.Saying.{speaking}
use Rattle.vat_connection.proofs.Framed.{refused, turned}
use Rattle.vat_connection.proofs.speaker.Speaker.hear_opened.Goals as goal

pub returns-in-Err : goal.returns-in-Err
returns-in-Err c =
    subst (λ (s : Speaking). HearsOpened s c.args.words c.args.came (speaking c.shut.new.self c.self.inside.out c.turn.new.adapter c.self.inside.heard)) c.self.view_is
    (refused c.self.inside.host c.self.inside.out c.self.inside.adapter c.self.inside.heard c.args.words c.args.came c.in-Err.number c.shut.new.self c.turn.new.adapter
    (subst (λ (s : State). Turned (comes (tables_of s) c.self.inside.adapter (seen c.args.came)) (Err c.in-Err.number) c.turn.new.adapter) c.core.ensures c.in-Err.ensures) c.shut.ensures)

pub returns : goal.returns
returns c =
    subst (λ (s : Speaking). HearsOpened s c.args.words c.args.came c.hear_inbound.new.self) c.self.view_is
    (turned c.self.inside.host c.self.inside.out c.self.inside.adapter c.self.inside.heard c.args.words c.args.came c.in-Ok.inbound c.turn.new.adapter c.hear_inbound.new.self
    (subst (λ (s : State). Turned (comes (tables_of s) c.self.inside.adapter (seen c.args.came)) (Ok c.in-Ok.inbound) c.turn.new.adapter) c.core.ensures c.in-Ok.ensures) c.hear_inbound.ensures)
