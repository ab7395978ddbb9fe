use Rattle.laws_sound.proofs.Stepping.{commands_step, messages_step}
use Rattle.laws_sound.proofs.laws.steps_keep_places.Goals as goal

pub returns-clause-commands : goal.returns-clause-commands
returns-clause-commands c =
    commands_step c.steps_send_meanings.ensures c.what_is_asked_is_of_calls.ensures.acts c.what_is_asked_is_of_calls.ensures.commands c.first_acts_of_commands_mean.ensures.plain c.first_acts_of_commands_mean.ensures.openings c.cores_are_fit.ensures c.commands_are_written.ensures c.node_meanings_last.ensures.places
    c.effects_are_meanings.ensures.written c.first_acts_send.ensures

pub returns-clause-messages : goal.returns-clause-messages
returns-clause-messages c =
    messages_step c.steps_send_meanings.ensures c.what_is_asked_is_of_calls.ensures.acts c.what_is_asked_is_of_calls.ensures.messages c.oldest_are_heard.ensures c.first_acts_of_messages_mean.ensures c.cores_are_fit.ensures c.node_meanings_last.ensures.moments c.effects_are_meanings.ensures.written c.first_acts_send.ensures
