use Rattle.std.proofs.Common.{refl}
use Rattle.rpc_journal.specs.declared.report.Outcome.TheVariants as outcome
use Rattle.rpc_machine.specs.declared.command.Command.TheVariants as command
use Rattle.rpc_machine.specs.declared.command.Granted.TheVariants as granted
use Rattle.vat_world.specs.Rooms.{stage_of}
use Rattle.core_telling.specs.declared.notes.Note.TheVariants.{Answered}
use Rattle.core_telling.proofs.Noting.{is_note}
use Rattle.core_telling.proofs.Falling.{obeys_fall}
use Rattle.vat_world.proofs.Stepping.{refused_as, done_as}
use Rattle.vat_world.proofs.tasks.obey_answer.Goals as goal

pub tell_done-left-requires-clause-fell : goal.tell_done-left-requires-clause-fell
tell_done-left-requires-clause-fell c =
    obeys_fall _ (command.Answer c.args.task c.args.payload c.args.refs) _ _ _ c.requires.up c.in-Ok.ensures.done

pub returns-in-Ok-clause-obeys : goal.returns-in-Ok-clause-obeys
returns-in-Ok-clause-obeys c = (
  _,
  refl,
  done_as c.args.vat (stage_of c.args.acting.now c.args.peer.now c.args.journal.now) (command.Answer c.args.task c.args.payload c.args.refs) granted.Done _ _ _ 0 _ _ _
      c.requires.counts c.in-Ok.ensures.done refl (is_note 0 (command.Answer c.args.task c.args.payload c.args.refs) _ (Answered c.args.task (outcome.Results c.args.payload) c.args.refs) c.note_answer-note.ensures (λ v answer. refl)) c.tell_done-left.ensures.tells,
)

pub returns-in-Err-clause-obeys : goal.returns-in-Err-clause-obeys
returns-in-Err-clause-obeys c = (
  _,
  refl,
  refused_as c.args.vat (stage_of c.args.acting.now c.args.peer.now c.args.journal.now) (command.Answer c.args.task c.args.payload c.args.refs) _ _ _ _
      c.in-Err.ensures.refused (rw (c.in-Err.ensures.handed_back.0, c.in-Err.ensures.handed_back.1) refl) c.in-Err.ensures.unchanged c.tell_refused.ensures.tells,
)
