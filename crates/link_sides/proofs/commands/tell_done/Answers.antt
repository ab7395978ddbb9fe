use Rattle.std.proofs.Common.{Ok, sym, subst}
use Rattle.rpc_machine.specs.State.{State}
use Rattle.rpc_machine.specs.Steps as step
use Rattle.link_sides.proofs.Stepping.{moved}
use Rattle.link_sides.proofs.Answering.{refused_when_shut}
use Rattle.link_sides.proofs.commands.tell_done.Goals as goal

pub tell_all-requires-clause-step : goal.tell_all-requires-clause-step
tell_all-requires-clause-step c = subst (λ (s : State). step.Obeys c.args.before.value c.args.asked.value (Ok c.args.granted) c.args.effects s) (sym c.make_room.ensures.core) c.requires.step

pub tell_shut-note-requires-clause-step : goal.tell_shut-note-requires-clause-step
tell_shut-note-requires-clause-step c = subst (λ (s : State). step.Obeys c.args.before.value c.args.asked.value (Ok c.args.granted) c.args.effects s) (sym c.make_room.ensures.core) c.requires.step

pub returns-in-Ok-clause-obeys : goal.returns-in-Ok-clause-obeys
returns-in-Ok-clause-obeys c =
    moved c.args.before.value _ _ _ _ c.args.asked.value _ _ _ _ c.make_room.ensures.journal c.make_room.ensures.frames c.make_room.ensures.made c.make_room.ensures.heard c.tell_all.ensures.obeys

pub returns-clause-obeys : goal.returns-clause-obeys
returns-clause-obeys c =
    moved c.args.before.value _ _ _ _ c.args.asked.value _ _ _ _ c.make_room.ensures.journal c.make_room.ensures.frames c.make_room.ensures.made c.make_room.ensures.heard c.tell_shut-note.ensures.obeys

pub returns-clause-answers : goal.returns-clause-answers
returns-clause-answers c = refused_when_shut c.args.asked.value c.hand_back-back.result _ c.tell_shut-note.ensures.shut c.hand_back-back.ensures c.requires.other
