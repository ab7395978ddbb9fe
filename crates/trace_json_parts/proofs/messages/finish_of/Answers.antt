use Rattle.std.proofs.Common.{refl}
use Rattle.trace_json_parts.specs.ReadMessages.{finish_at}
use Rattle.trace_json_parts.proofs.messages.finish_of.Goals as goal

pub returns-clause-gives : goal.returns-clause-gives
unfolding finish_at
returns-clause-gives c = rw (c.in_ok-fields.ensures.gives, c.in_ok-question.ensures.gives, ← c.key_of_result_caps.ensures, c.in_ok-release_result_caps.ensures.gives) refl

pub returns-clause-ok : goal.returns-clause-ok
returns-clause-ok c = (rw (c.in_ok-fields.ensures.ok, c.in_ok-question.ensures.ok.0, c.in_ok-release_result_caps.ensures.ok.0, c.key_of_result_caps.ensures) refl, (c.in_ok-question.ensures.ok.1, c.in_ok-release_result_caps.ensures.ok.1))
