use Rattle.std.proofs.Common.{◌∙◌}
use Rattle.vat_world.specs.Rooms.{stage_of}
use Rattle.vat_world.proofs.Telling.{logs_fall, logs_after, whole}
use Rattle.vat_world.proofs.log.log_step.Goals as goal

pub returns-in-Some-clause-logs : goal.returns-in-Some-clause-logs
returns-in-Some-clause-logs c =
    λ before own j l. logs_fall c.args.vat (stage_of c.args.acting.now c.args.peer.now c.args.journal.now) _ _ _ before own c.log_fall.ensures.stage c.log_fall.ensures.given j

pub returns-in-Ok-clause-logs : goal.returns-in-Ok-clause-logs
returns-in-Ok-clause-logs c =
    λ before own j l. logs_fall c.args.vat (stage_of c.args.acting.now c.args.peer.now c.args.journal.now) _ _ _ before own
    (whole c.args.vat (stage_of c.args.acting.now c.args.peer.now c.args.journal.now) c.args.effects.now _ _ c.in-Ok.ensures.inbox c.in-Ok.ensures.journal) c.in-Ok.ensures.given j

pub returns-clause-logs : goal.returns-clause-logs
returns-clause-logs c =
    λ before own j l. logs_after c.args.vat (stage_of c.args.acting.now c.args.peer.now c.args.journal.now) c.args.effects.now c.log_whole.new.effects _ _ c.log_whole.new.inbox.0 c.log_whole.new.journal.0 before own
    c.in-Err.ensures.same_inbox c.in-Err.ensures.extends c.in-Err.ensures.same (λ b more k n. c.log_overflow.ensures.overflows b more k (l ∙ n)) j
