use Rattle.vat_world.specs.Rooms.{stage_of}
use Rattle.vat_world.proofs.Stepping.{done_falls, refused_by, done_by}
use Rattle.vat_world.proofs.step.obey_up.Goals as goal

pub tell_done-requires-clause-fell : goal.tell_done-requires-clause-fell
tell_done-requires-clause-fell c =
    done_falls _ _ _ _ _ _ c.requires.up c.in-Done.is c.command-answer.ensures.answers

pub returns-in-Done-clause-obeys : goal.returns-in-Done-clause-obeys
returns-in-Done-clause-obeys c =
    done_by c.args.vat (stage_of c.args.acting.now c.args.peer.now c.args.journal.now) c.args.command _ _ _ _ _ _ _ _ _
    c.requires.counts c.in-Done.is c.command-answer.ensures.answers c.index_of_call-index.ensures c.note_of-note.ensures.entries c.tell_done.ensures.tells

pub returns-in-Refused-clause-obeys : goal.returns-in-Refused-clause-obeys
returns-in-Refused-clause-obeys c =
    refused_by c.args.vat (stage_of c.args.acting.now c.args.peer.now c.args.journal.now) c.args.command _ _ _ _ _
    c.in-Refused.is c.command-answer.ensures.answers c.tell_refused.ensures.tells
