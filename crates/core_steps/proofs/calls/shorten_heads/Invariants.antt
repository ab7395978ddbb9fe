use Rattle.std.proofs.Common.{◌≡◌}
use Rattle.core_steps.proofs.calls.shorten_heads.Given as goal

abbrev pub invariant-loop-reference : goal.invariant-loop-reference
invariant-loop-reference l = l.machine ≡ l.fn.machine
