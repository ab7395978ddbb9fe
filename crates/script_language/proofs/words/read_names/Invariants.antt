use Rattle.std.proofs.Common.{◌≡◌, drop, map}
use Rattle.script_language.specs.Words.{each_of, name_of}
use Rattle.script_language.proofs.Each.{after}
use Rattle.script_language.proofs.words.read_names.Given as goal

-- the names so far, and those of the parts that are left, are all names
abbrev pub invariant-loop-part : goal.invariant-loop-part
invariant-loop-part l = after l.names (each_of name_of (map (λ part. part.now) (drop l.part-index l.parts))) ≡ each_of name_of (map (λ part. part.now) l.parts)
