use Rattle.vat_world.specs.Rooms.{stage_of}
use Rattle.core_telling.proofs.Falling.{receives_fall}
use Rattle.vat_world.proofs.Stepping.{handles_by}
use Rattle.vat_world.proofs.step.handle.Goals as goal

pub log_step-requires-clause-fell : goal.log_step-requires-clause-fell
log_step-requires-clause-fell c =
    receives_fall _ _ _ _ c.requires.up c.receive-effects.ensures.steps

pub returns-clause-handles : goal.returns-clause-handles
returns-clause-handles c =
    handles_by c.args.vat (stage_of c.args.acting.now c.args.peer.now c.args.journal.now) c.args.message _ _ _ _ _ _ _
    c.receive-effects.ensures.steps c.push.ensures.entries c.len-start.ensures c.log_step.ensures.logs
