use Rattle.laws_authority.specs.Runs.RunsTo.{Commanded}
use Rattle.vat_core.specs.Answers.{answer_in, effects_in}
use Rattle.vat_core.proofs.vat.Core.command.Goals as goal

pub returns-clause-authority : goal.returns-clause-authority
returns-clause-authority c = c.authority_is_kept.ensures.kept.commands _ _ _ _ _ c.obey.ensures.obeys

pub returns-clause-given : goal.returns-clause-given
returns-clause-given c = λ log runs. (
  Commanded c.args.command (answer_in c.obey.result) (effects_in c.obey.result) runs c.obey.ensures.obeys,
  c.authority_is_given.ensures.commands _ log runs _ _ _ _ c.obey.ensures.obeys,
)
