use Rattle.std.proofs.Common.{rules, refl}
use Rattle.trace_json.specs.ReadEntries.{delivered_at}
use Rattle.trace_json.proofs.entries.delivered_of.Goals as goal

pub returns-clause-gives : goal.returns-clause-gives
unfolding delivered_at
returns-clause-gives c = rw (c.in_ok-fields.ensures.gives, c.in_ok-interface.ensures.gives, c.in_ok-word.ensures.gives, c.in_ok-method.ensures.gives, c.in_ok-raw.ensures.gives, c.in_ok-refs.ensures.gives, c.in_ok-payload.ensures.is) refl

pub returns-clause-ok : goal.returns-clause-ok
returns-clause-ok c version = (rw (c.in_ok-fields.ensures.ok, c.in_ok-interface.ensures.ok.0, c.in_ok-word.ensures.ok, c.in_ok-method.ensures.ok.0, c.in_ok-raw.ensures.ok.0, c.in_ok-refs.ensures.ok) refl, (c.in_ok-method.ensures.ok.1, c.in_ok-payload.ensures.fits), c.in_ok-raw.ensures.ok.1)

pub returns-in_err-method-clause-gives : goal.returns-in_err-method-clause-gives
unfolding delivered_at
returns-in_err-method-clause-gives c = rw (c.in_ok-fields.ensures.gives, c.in_ok-interface.ensures.gives, c.in_ok-word.ensures.gives) (search rules)

pub returns-in_err-raw-clause-gives : goal.returns-in_err-raw-clause-gives
unfolding delivered_at
returns-in_err-raw-clause-gives c = rw (c.in_ok-fields.ensures.gives, c.in_ok-interface.ensures.gives, c.in_ok-word.ensures.gives, c.in_ok-method.ensures.gives) (search rules)

pub returns-in_err-refs-clause-gives : goal.returns-in_err-refs-clause-gives
unfolding delivered_at
returns-in_err-refs-clause-gives c = rw (c.in_ok-fields.ensures.gives, c.in_ok-interface.ensures.gives, c.in_ok-word.ensures.gives, c.in_ok-method.ensures.gives, c.in_ok-raw.ensures.gives) (search rules)
