use Rattle.std.proofs.Common.{◌≡◌, drop, map}
use Rattle.script_language.specs.Words.{each_of, field_number}
use Rattle.script_language.proofs.Each.{after}
use Rattle.script_language.proofs.words.read_fields.Given as goal

-- the fields so far, and those of the parts that are left, are all fields
abbrev pub invariant-loop-part : goal.invariant-loop-part
invariant-loop-part l = after l.path (each_of field_number (map (λ part. part.now) (drop l.part-index l.parts))) ≡ each_of field_number (map (λ part. part.now) l.parts)
