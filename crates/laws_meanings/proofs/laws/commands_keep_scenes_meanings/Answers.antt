use Rattle.laws_meanings.proofs.StepsMean.{scenes_commands_keep, last_words_led}
use Rattle.laws_meanings.proofs.laws.commands_keep_scenes_meanings.Goals as goal

pub returns-clause-steps : goal.returns-clause-steps
returns-clause-steps c = scenes_commands_keep c.given_references_are_new.ensures c.commands_are_written.ensures c.nodes_are_there.ensures.there c.outcomes_have_sources.ensures c.questions_end.ensures c.embargoes_pair.ensures.paired

pub returns-clause-last : goal.returns-clause-last
returns-clause-last c = last_words_led
