use Rattle.std.proofs.Common.{◌++◌, ◌∙◌, string_bytes, ap, sym, map-id, append_assoc, append-nil}
use Rattle.std.proofs.lemmas.Grind.{flat_map-append}
use Rattle.std.proofs.lemmas.Iterator.{YieldsList-from_chars}
use Rattle.std.proofs.lemmas.Iterator.Consumers.{YieldsList-end}
use Rattle.chart_parts.specs.Escapes.{escaped, letter_text}
use Rattle.chart_parts.proofs.text.write_escaped.Goals as goal

pub loop-letter-preserved : goal.loop-letter-preserved
loop-letter-preserved c =
    rw (flat_map-append, ← append_assoc, ← c.loop-letter.invariant)
    (c.in_ok-write_letter.ensures ∙ ap (λ t. string_bytes c.loop-letter.svg ++ t) (sym (append-nil (letter_text c.in-Some.letter))))

pub returns : goal.returns
returns c =
    let done = YieldsList-end (YieldsList-from_chars c.args.text.now c.utf8.text cc) c.loop-letter.yielded _ c.loop-letter.yielded_by _ _ c.in-None.is c.next.ensures.steps in
    c.loop-letter.invariant ∙ ap (λ cs. string_bytes c.args.svg.now ++ escaped cs) (sym (map-id c.loop-letter.yielded) ∙ done.0)
