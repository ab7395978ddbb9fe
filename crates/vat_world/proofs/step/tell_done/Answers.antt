use Rattle.vat_world.specs.Rooms.{stage_of}
use Rattle.vat_world.proofs.Telling.{told_done, told_less}
use Rattle.vat_world.proofs.step.tell_done.Goals as goal

pub returns-in-Ok-clause-tells : goal.returns-in-Ok-clause-tells
returns-in-Ok-clause-tells c =
    told_done c.args.vat (stage_of c.args.acting.now c.args.peer.now c.args.journal.now) _ c.args.note c.in-Ok.note c.args.granted _ _ _ _ c.args.start _
    c.in-Ok.is c.requires.start c.write_note.ensures.entries c.log_step-room.ensures.logs c.left_of.ensures

pub returns-in-Err-clause-tells : goal.returns-in-Err-clause-tells
returns-in-Err-clause-tells c =
    told_less c.args.vat (stage_of c.args.acting.now c.args.peer.now c.args.journal.now) c.args.note _ c.args.granted _ _ _ c.args.start _
    c.in-Err.is c.requires.start c.log_overflow.ensures.overflows c.left_of-in-Err.ensures
