use Rattle.std.proofs.Common.{◌≡◌, ◌≤◌, length, take}
use Rattle.core_step_collects.proofs.Getting.{got}
use Rattle.core_step_collects.proofs.got.copy_got.Given as goal

abbrev pub invariant-loop-cap : goal.invariant-loop-cap
invariant-loop-cap l = (length l.copied ≡ length l.fn.copied) × (l.len ≤ l.cap-index) × (take l.len l.copied ≡ got (take l.cap-index l.caps))
