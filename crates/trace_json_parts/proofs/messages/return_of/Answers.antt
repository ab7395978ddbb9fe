use Rattle.std.proofs.Common.{refl}
use Rattle.trace_json_parts.specs.ReadMessages.{return_at}
use Rattle.trace_json_parts.proofs.messages.return_of.Goals as goal

pub returns-clause-gives : goal.returns-clause-gives
unfolding return_at
returns-clause-gives c = rw (c.in_ok-fields.ensures.gives, c.in_ok-answer.ensures.gives, c.in_ok-body.ensures.gives, ← c.key_of_param_caps.ensures, c.in_ok-release_param_caps.ensures.gives) refl

pub returns-clause-ok : goal.returns-clause-ok
returns-clause-ok c = (rw (c.in_ok-fields.ensures.ok, c.in_ok-answer.ensures.ok.0, c.in_ok-body.ensures.ok.0, c.in_ok-release_param_caps.ensures.ok.0, c.key_of_param_caps.ensures) refl, record { answer = c.in_ok-answer.ensures.ok.1; body = c.in_ok-body.ensures.ok.1; flag = c.in_ok-release_param_caps.ensures.ok.1 }, c.in_ok-body.ensures.ok.2)
