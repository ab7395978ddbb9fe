use Rattle.std.proofs.Common.{refl}
use Rattle.trace_json_parts.specs.ReadMessages.{call_at}
use Rattle.trace_json_parts.proofs.messages.call_of.Goals as goal

pub returns-clause-gives : goal.returns-clause-gives
unfolding call_at
returns-clause-gives c = rw (c.in_ok-fields.ensures.gives, c.in_ok-descriptors.ensures.gives, c.in_ok-method.ensures.gives, c.in_ok-raw.ensures.gives, c.in_ok-question.ensures.gives, c.in_ok-no_payload.ensures.is) refl

pub returns-clause-ok : goal.returns-clause-ok
returns-clause-ok c = (rw (c.in_ok-fields.ensures.ok, c.in_ok-descriptors.ensures.ok.0, c.in_ok-method.ensures.ok.0, c.in_ok-raw.ensures.ok.0, c.in_ok-question.ensures.ok.0) refl, record { caps = c.in_ok-descriptors.ensures.ok.1; method = c.in_ok-method.ensures.ok.1; payload = c.in_ok-no_payload.ensures.fits; question = c.in_ok-question.ensures.ok.1; target = c.in_ok-question.ensures.ok.2 }, c.in_ok-raw.ensures.ok.1)
