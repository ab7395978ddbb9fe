use Rattle.std.proofs.Common.{refl, ap}
use Rattle.rpc_machine.specs.declared.command.Command.TheVariants as command
use Rattle.rpc_machine.specs.declared.command.Granted.TheVariants as granted
use Rattle.core_telling.specs.Notes.{made_of}
use Rattle.vat_world.specs.Rooms.{stage_of}
use Rattle.core_telling.specs.declared.notes.Note.TheVariants.{Made}
use Rattle.core_telling.proofs.Noting.{is_note}
use Rattle.core_telling.proofs.Falling.{obeys_fall}
use Rattle.vat_world.proofs.Stepping.{refused_as, done_as}
use Rattle.vat_world.proofs.calls.obey_call.Goals as goal

pub tell_done-left-requires-clause-fell : goal.tell_done-left-requires-clause-fell
tell_done-left-requires-clause-fell c =
    obeys_fall _ (command.Call c.args.call) _ _ _ c.requires.up c.in-Ok.ensures.done

pub returns-in-Ok-clause-obeys : goal.returns-in-Ok-clause-obeys
returns-in-Ok-clause-obeys c = (
  _,
  refl,
  done_as c.args.vat (stage_of c.args.acting.now c.args.peer.now c.args.journal.now) (command.Call c.args.call) (granted.Call c.in-Ok.id) _ _ _ _ _ _ _
      c.requires.counts c.in-Ok.ensures.done c.calls_before-index.ensures (is_note _ (command.Call c.args.call) _ (Made (made_of c.calls_before-index.result c.args.call)) c.note_call-note.ensures (λ v answer. refl)) c.tell_done-left.ensures.tells,
)

pub returns-in-Err-clause-obeys : goal.returns-in-Err-clause-obeys
returns-in-Err-clause-obeys c = (
  _,
  refl,
  refused_as c.args.vat (stage_of c.args.acting.now c.args.peer.now c.args.journal.now) (command.Call c.args.call) _ _ _ _
      c.in-Err.ensures.refused (ap command.Call c.in-Err.ensures.handed_back) c.in-Err.ensures.unchanged c.tell_refused.ensures.tells,
)
