use Rattle.laws_scenes.proofs.Gathered.{facts_of}
use Rattle.laws_scenes.proofs.Walking.{Laws, between}
use Rattle.laws_scenes.proofs.laws.vats_are_between_steps.Goals as goal

pub returns : goal.returns
returns c = λ a b. (
    let l : Laws = record {
      joins = c.steps_begin_and_end_with_it.ensures.joins;
      splits = c.steps_begin_and_end_with_it.ensures.splits;
      new_vats = c.steps_begin_and_end_with_it.ensures.new_vats;
      commands = c.steps_may_be_done.ensures.commands;
      messages = c.steps_may_be_done.ensures.messages;
      new_right = c.embargoes_are_right.ensures.new;
      commands_right = c.embargoes_are_right.ensures.commands;
      messages_right = c.embargoes_are_right.ensures.messages;
      only = c.embargoes_are_right.ensures.only;
    } in
    between a b l (facts_of c.vats_meet.ensures c.nodes_are_there.ensures.runs c.every_run_is_shown.ensures.reached c.counts_agree_in_scenes.ensures c.oldest_are_met.ensures c.canceled_were_given_up.ensures a b))
