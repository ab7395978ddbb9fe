use Rattle.vat_world.specs.Rooms.{stage_of}
use Rattle.vat_world.proofs.Telling.{told_refused}
use Rattle.vat_world.proofs.step.tell_refused.Goals as goal

pub returns-clause-tells : goal.returns-clause-tells
returns-clause-tells c =
    told_refused c.args.vat (stage_of c.args.acting.now c.args.peer.now c.args.journal.now) _ c.args.refusal _ _ _ c.args.start _
    c.no_effects-quiet.ensures c.requires.start c.write_refused.ensures.entries c.log_step.ensures.logs
