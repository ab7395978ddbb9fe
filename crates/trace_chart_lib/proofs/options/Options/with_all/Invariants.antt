use Rattle.std.proofs.Common.{◌≡◌, length, map, string_bytes}
use Rattle.std.specs.Slice.Iter.{iter_rest}
use Rattle.trace_chart_lib.specs.Choices.{with_choices}
use Rattle.trace_chart_lib.proofs.options.Options.with_all.Given as goal

-- what is left says of the options so far what all words say of those at the start
abbrev pub invariant-loop-word : goal.invariant-loop-word
invariant-loop-word l = with_choices l.options (map string_bytes (iter_rest l.left)) ≡ with_choices l.fn.self (map string_bytes l.words)

abbrev pub decreases-loop-word : goal.decreases-loop-word
decreases-loop-word l = length (iter_rest l.left)
