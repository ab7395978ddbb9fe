use Rattle.std.proofs.Common.{rules, ◌==◌, ◌++◌, ◌∷◌, ◌∙◌, [], ap, map, sym}
use Rattle.std.specs.List.{slice_split}
use Rattle.std.proofs.lemmas.List.{map-append, append_assoc}
use Rattle.std.proofs.lemmas.List.Splits.{slice_split_at, slice_split_none}
use Rattle.script_language.proofs.parts.split_into.Goals as goal

pub loop-part-preserved : goal.loop-part-preserved
loop-part-preserved c =
    let split = slice_split (λ x. x == c.args.mark) in
    let said = map (λ part. part.now) c.loop-part.parts.items in
    let part = c.in-Some.part.now in
    let behind = c.in-Some.behind.now in
    let found = c.in-Some.ensures.found in
    ap (λ parts. map (λ part. part.now) parts ++ split behind) c.in_ok-push.ensures.items
    ∙ ap (λ parts. parts ++ split behind) (map-append (λ part. part.now) c.loop-part.parts.items (c.in-Some.part ∷ []))
    ∙ append_assoc said (part ∷ []) (split behind)
    ∙ ap (λ parts. said ++ parts) (sym (ap split found.0 ∙ slice_split_at (λ x. x == c.args.mark) part c.args.mark behind found.1 (search rules)))
    ∙ c.loop-part.invariant

pub returns : goal.returns
returns c =
    let said = map (λ part. part.now) c.loop-part.parts.items in
    ap (map (λ part. part.now)) c.in_ok-push-2.ensures.items
    ∙ map-append (λ part. part.now) c.loop-part.parts.items (c.loop-part.rest ∷ [])
    ∙ ap (λ parts. said ++ parts) (sym (slice_split_none (λ x. x == c.args.mark) c.loop-part.rest.now c.in_default.ensures.none))
    ∙ c.loop-part.invariant
