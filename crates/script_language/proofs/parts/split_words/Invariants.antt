use Rattle.std.proofs.Common.{◌≡◌, ◌+◌, length, map}
use Rattle.script_language.proofs.LineWords.{HasRead}
use Rattle.script_language.proofs.parts.split_words.Given as goal

abbrev pub invariant-loop-word : goal.invariant-loop-word
invariant-loop-word l = record {
  read : HasRead l.text l.read l.rest (map (λ word. word.now) l.words.items);
  left : l.read + length l.rest ≡ length l.text;
}

abbrev pub decreases-loop-word : goal.decreases-loop-word
decreases-loop-word l = length l.rest
