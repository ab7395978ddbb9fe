use Rattle.std.proofs.Common.{arith}
use Rattle.lovendak_c_desk.proofs.Handing.{event_stays, event_told, none_told}
use Rattle.lovendak_c_desk.proofs.desk.Desk.next_event.Goals as goal

pub returns-in_default : goal.returns-in_default
returns-in_default c = none_told c.args.self.now c.look.new.self (record { notice = c.args.notice.now; bytes = c.args.bytes.now; refs = c.args.refs.now }) c.look.ensures c.in_default.is

pub returns-then-not-hand_over : goal.returns-then-not-hand_over
returns-then-not-hand_over c =
    event_stays c.args.self.now c.look.new.self (record { notice = c.args.notice.now; bytes = c.args.bytes.now; refs = c.args.refs.now }) (record { notice = c.hand_over.new.notice; bytes = c.hand_over.new.bytes; refs = c.hand_over.new.refs }) c.in-Some.event c.hand_over.result
    c.look.ensures c.in-Some.is c.hand_over.ensures (grind arith)

pub returns : goal.returns
returns c =
    event_told c.args.self.now c.look.new.self (record { notice = c.args.notice.now; bytes = c.args.bytes.now; refs = c.args.refs.now }) (record { notice = c.hand_over.new.notice; bytes = c.hand_over.new.bytes; refs = c.hand_over.new.refs }) c.in-Some.event c.hand_over.result tt
    c.look.ensures c.in-Some.is c.hand_over.ensures (grind arith)
