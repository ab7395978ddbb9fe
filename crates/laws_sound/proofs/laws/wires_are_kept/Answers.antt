use Rattle.laws_sound.proofs.WiresAt.{wires_kept}
use Rattle.laws_sound.proofs.WiresLeaving.{commands_leave, messages_leave}
use Rattle.laws_sound.proofs.laws.wires_are_kept.Goals as goal

pub returns : goal.returns
returns c =
    wires_kept c.vats_are_between_steps.ensures c.cores_are_fit.ensures c.counts_agree_in_scenes.ensures c.wires_are_left.ensures.longer c.wires_are_left.ensures.back c.wires_are_left.ensures.out c.wires_last.ensures.fewer
    (commands_leave c.the_way_back_is_held.ensures.roles c.named_are_kept.ensures.commands c.the_way_back_is_held.ensures.commands c.answers_are_left.ensures.commands c.what_is_sent_is_met.ensures.commands)
    (messages_leave c.the_way_back_is_held.ensures.roles c.named_are_kept.ensures.messages c.the_way_back_is_held.ensures.messages c.answers_are_left.ensures.messages c.what_is_sent_is_met.ensures.messages)
