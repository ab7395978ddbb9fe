use Rattle.std.proofs.Common.{◌≡◌, ◌==◌, ◌++◌, length, map}
use Rattle.std.specs.List.{slice_split}
use Rattle.script_language.proofs.parts.split_into.Given as goal

-- the parts so far, and those of the rest, are all parts
abbrev pub invariant-loop-part : goal.invariant-loop-part
invariant-loop-part l = map (λ part. part.now) l.parts.items ++ slice_split (λ c. c == l.fn.mark) l.rest ≡ slice_split (λ c. c == l.fn.mark) l.text

abbrev pub decreases-loop-part : goal.decreases-loop-part
decreases-loop-part l = length l.rest
