use Rattle.std.proofs.Common.{refl}
use Rattle.core_step_checks.proofs.Wires.{known_found, known_nowhere}
use Rattle.core_step_checks.proofs.known.of_results.Goals as goal

pub returns-in-Some : goal.returns-in-Some
returns-in-Some c =
    rw (← c.cap_at.ensures, c.in-Cap.is, known_found c.args.caps.now c.in-Cap.index c.in-Some.field-0.now c.in-Some.ensures.lookup.3.0 c.in-Some.ensures.lookup.1) search

pub returns-in-None : goal.returns-in-None
returns-in-None c = rw (← c.cap_at.ensures, c.in-Cap.is, known_nowhere c.args.caps.now c.in-Cap.index c.in-None.ensures.lookup.3) refl
