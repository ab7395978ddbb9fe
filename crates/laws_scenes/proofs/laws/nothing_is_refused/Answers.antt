use Rattle.laws_scenes.proofs.laws.nothing_is_refused.Goals as goal

pub returns-clause-scenes : goal.returns-clause-scenes
returns-clause-scenes c = λ a b x h. c.no_message_is_refused.ensures.scenes a b x h (c.disembargos_turn_back.ensures a b x h)

pub returns-clause-runs : goal.returns-clause-runs
returns-clause-runs c = c.no_message_is_refused.ensures.runs c.disembargos_turn_back.ensures

pub returns-clause-falls : goal.returns-clause-falls
returns-clause-falls c = c.no_message_is_refused.ensures.falls c.disembargos_turn_back.ensures
