use Rattle.laws_sound.proofs.Begins.{beginnings_follow}
use Rattle.laws_sound.proofs.Led.{scenes_led}
use Rattle.laws_sound.proofs.laws.scenes_are_led.Goals as goal

pub returns-clause-led : goal.returns-clause-led
returns-clause-led c = scenes_led c.oldest_are_heard.ensures c.cores_are_fit.ensures c.messages_keep_meanings.ensures c.commands_keep_scenes_meanings.ensures.steps c.commands_keep_scenes_meanings.ensures.last c.scenes_mean.ensures

pub returns-clause-begin : goal.returns-clause-begin
returns-clause-begin c = beginnings_follow c.oldest_are_heard.ensures c.commands_are_written.ensures c.node_meanings_last.ensures.places c.first_acts_follow.ensures c.scenes_mean.ensures
