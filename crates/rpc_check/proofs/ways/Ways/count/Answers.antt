use Rattle.std.proofs.Common.{List, subst}
use Rattle.rpc_check.specs.Counts.{Sending}
use Rattle.rpc_check.specs.Kept.{Lists, IsWay}
use Rattle.rpc_check.proofs.Moving.{ways_counted, is_counted}
use Rattle.rpc_check.proofs.ways.Ways.count.Goals as goal

pub returns-clause-same : goal.returns-clause-same
returns-clause-same c = λ h now.
    ways_counted c.args.self.now (record { a = c.count.new.self; b = c.count-2.new.self }) h
    (subst (λ (ls : Lists). (ss : List Sending) → IsWay ls c.args.self.now.a ss → IsWay ls c.count.new.self ss) c.as_slice.ensures.value c.in_ok-count.ensures.way)
    c.count.ensures.said
    (subst (λ (ls : Lists). (ss : List Sending) → IsWay ls c.args.self.now.b ss → IsWay ls c.count-2.new.self ss) c.as_slice-2.ensures.value c.in_ok-count-2.ensures.way)
    c.count-2.ensures.said
    now

pub returns-clause-counted : goal.returns-clause-counted
returns-clause-counted c = is_counted (record { a = c.count.new.self; b = c.count-2.new.self }) c.in_ok-count.ensures.counted c.in_ok-count-2.ensures.counted
