use Rattle.std.proofs.Common.{◌+◌, ◌∷◌, ◌∙◌, [], length, map, refl, ap, sym, subst, arith}
use Rattle.std.proofs.lemmas.List.{length-append, map-append}
use Rattle.script_language.proofs.LineWords.{HasRead, line_read, word_read, text_read}
use Rattle.script_language.proofs.parts.split_words.Goals as goal

pub returns-then-gap-eq10-clause-found : goal.returns-then-gap-eq10-clause-found
returns-then-gap-eq10-clause-found c =
    let found = c.in-Some.ensures.found in
    let pushed = ap (map (λ word. word.now)) c.in_ok-push.ensures.items ∙ map-append (λ word. word.now) c.loop-word.words.items (c.in-Some.word ∷ []) in
    let read = line_read c.args.text.now c.loop-word.read c.loop-word.rest.now c.in-Some.word.now c.in-Some.behind.now _ c.in-Some.gap _ c.loop-word.invariant.read found.0 found.1 c.if-gap-eq10.true refl in
    (read.0, read.1, λ says. pushed ∙ read.2 says)

pub loop-word-preserved : goal.loop-word-preserved
loop-word-preserved c =
    let found = c.in-Some.ensures.found in
    let pushed = ap (map (λ word. word.now)) c.in_ok-push.ensures.items ∙ map-append (λ word. word.now) c.loop-word.words.items (c.in-Some.word ∷ []) in
    let long = ap length found.0 ∙ length-append c.in-Some.word.now (c.in-Some.gap ∷ c.in-Some.behind.now) in
    record {
      read =
          subst (λ words. HasRead c.args.text.now (c.loop-word.read + (length c.in-Some.word.now + 1)) c.in-Some.behind.now words) (sym pushed)
          (word_read c.args.text.now c.loop-word.read c.loop-word.rest.now c.in-Some.word.now c.in-Some.behind.now c.in-Some.gap _ c.loop-word.invariant.read found.0 found.1 found.2 c.if-gap-eq10.false);
      left = omega (arith, long, c.loop-word.invariant.left);
    }

pub returns-clause-last : goal.returns-clause-last
returns-clause-last c =
    let pushed = ap (map (λ word. word.now)) c.in_ok-push-2.ensures.items ∙ map-append (λ word. word.now) c.loop-word.words.items (c.loop-word.rest ∷ []) in
    let read = text_read c.args.text.now c.loop-word.read c.loop-word.rest.now _ c.loop-word.invariant.read c.in_default.ensures.none in
    (read.0, λ says. pushed ∙ read.1 says)
