use Rattle.std.proofs.Common.{Err, refl, ap, subst, ◌∙◌}
use Rattle.rpc_machine.specs.declared.command.Command.{Command}
use Rattle.rpc_machine.specs.Progress.{quiet}
use Rattle.rpc_machine.specs.Refusals.{is_shut}
use Rattle.link_sides.specs.Sides.{IsToldBy}
use Rattle.link_sides.proofs.Answering.{refused_so, says_at}
use Rattle.link_sides.proofs.Stepping.{answered_done, answered_refused, obeys_at}
use Rattle.link_sides.proofs.commands.obey_other.Goals as goal

pub tell_done-requires-clause-step : goal.tell_done-requires-clause-step
tell_done-requires-clause-step c = obeys_at _ _ _ _ _ _ _ c.of-before.ensures c.of-asked.ensures (answered_done _ _ _ _ _ _ c.in-Done.is c.ask.ensures.answers)

pub tell_refused-note-requires-clause-step : goal.tell_refused-note-requires-clause-step
tell_refused-note-requires-clause-step c = obeys_at _ _ _ _ _ _ _ refl c.of-asked.ensures (answered_refused _ _ _ _ _ _ c.in-Refused.is c.ask.ensures.answers)

pub tell_done-requires-clause-says : goal.tell_done-requires-clause-says
tell_done-requires-clause-says c = says_at _ _ _ _ _ c.in-Done.is c.of-asked.ensures c.ask.ensures.says

pub tell_done-requires-clause-other : goal.tell_done-requires-clause-other
tell_done-requires-clause-other c = ap is_shut c.of-asked.ensures ∙ c.requires.other

pub returns-in-Refused-clause-answers : goal.returns-in-Refused-clause-answers
returns-in-Refused-clause-answers c = refused_so _ _ _ _ _ c.in-Refused.is c.ask.ensures.says c.ask.ensures.answers.handed_back (subst (λ (k : Command). IsToldBy k (Err c.in-Refused.refusal) quiet c.tell_refused-note.result.told) c.of-asked.ensures c.tell_refused-note.ensures.told)
