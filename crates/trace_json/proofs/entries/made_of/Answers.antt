use Rattle.std.proofs.Common.{rules, refl}
use Rattle.trace_json.specs.ReadEntries.{made_at}
use Rattle.trace_json.proofs.entries.made_of.Goals as goal

pub returns-clause-gives : goal.returns-clause-gives
unfolding made_at
returns-clause-gives c = rw (c.in_ok-fields.ensures.gives, c.in_ok-call.ensures.gives, c.in_ok-interface.ensures.gives, c.in_ok-word.ensures.gives, c.in_ok-method.ensures.gives, c.in_ok-raw.ensures.gives, c.in_ok-no_payload.ensures.is) refl

pub returns-clause-ok : goal.returns-clause-ok
returns-clause-ok c version = (rw (c.in_ok-fields.ensures.ok, c.in_ok-call.ensures.ok.0, c.in_ok-interface.ensures.ok.0, c.in_ok-word.ensures.ok, c.in_ok-method.ensures.ok.0, c.in_ok-raw.ensures.ok.0) refl, (c.in_ok-method.ensures.ok.1, c.in_ok-no_payload.ensures.fits), c.in_ok-raw.ensures.ok.1)

pub returns-in_err-interface-clause-gives : goal.returns-in_err-interface-clause-gives
unfolding made_at
returns-in_err-interface-clause-gives c = rw (c.in_ok-fields.ensures.gives, c.in_ok-call.ensures.gives) (search rules)

pub returns-in_err-word-clause-gives : goal.returns-in_err-word-clause-gives
unfolding made_at
returns-in_err-word-clause-gives c = rw (c.in_ok-fields.ensures.gives, c.in_ok-call.ensures.gives, c.in_ok-interface.ensures.gives) (search rules)

pub returns-in_err-method-clause-gives : goal.returns-in_err-method-clause-gives
unfolding made_at
returns-in_err-method-clause-gives c = rw (c.in_ok-fields.ensures.gives, c.in_ok-call.ensures.gives, c.in_ok-interface.ensures.gives, c.in_ok-word.ensures.gives) (search rules)

pub returns-in_err-raw-clause-gives : goal.returns-in_err-raw-clause-gives
unfolding made_at
returns-in_err-raw-clause-gives c = rw (c.in_ok-fields.ensures.gives, c.in_ok-call.ensures.gives, c.in_ok-interface.ensures.gives, c.in_ok-word.ensures.gives, c.in_ok-method.ensures.gives) (search rules)
