use Rattle.std.proofs.Common.{◌≡◌, drop}
use Rattle.vat.specs.Explaining.{missing}
use Rattle.vat.proofs.explanation.missing.Given as goal

abbrev pub invariant-loop-reference : goal.invariant-loop-reference
invariant-loop-reference l = missing l.core (drop l.reference-index l.refs) ≡ missing l.core l.refs
