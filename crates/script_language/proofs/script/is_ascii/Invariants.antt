use Rattle.std.proofs.Common.{◌≡◌, ◌<◌, true, ℕ, slice_index}
use Rattle.script_language.proofs.script.is_ascii.Given as goal

abbrev pub invariant-loop-byte : goal.invariant-loop-byte
invariant-loop-byte l = l.ascii ≡ true → (i : ℕ) → i < l.byte-index → slice_index l.bytes i < 128
