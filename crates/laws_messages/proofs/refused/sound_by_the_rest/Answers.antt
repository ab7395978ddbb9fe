use Rattle.laws_messages.proofs.refused.sound_by_the_rest.Goals as goal

pub returns : goal.returns
returns c = λ rest. c.sound_by_scenes.ensures.runs (λ a b x h. let r = rest a b x h in record {
  in_order = r.in_order;
  in_full = r.in_full;
  counts = λ i j. c.counts_agree_in_scenes.ensures.counts a b x h;
  in_time = r.in_time;
  ends = r.ends;
  oldest = c.no_message_is_refused.ensures.scenes a b x h r.premises;
})
