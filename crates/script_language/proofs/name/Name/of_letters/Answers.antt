use Rattle.std.proofs.Common.{◌≡◌, ◌+◌, ◌&&◌, length, take, drop, slice_index_or, slice_set, sym, ap, ◌∙◌, arith}
use Rattle.std.proofs.lemmas.List.{take_more, at_drop_more, length-take-le}
use Rattle.std.specs.List.{list_all}
use Rattle.script_language.specs.Letters.{padded}
use Rattle.script_language.specs.Words.{is_name_letter}
use Rattle.script_language.proofs.NameLetters.{put_next}
use Rattle.script_language.proofs.name.Name.of_letters.Goals as goal

pub loop-i-preserved : goal.loop-i-preserved
loop-i-preserved c =
    let letters = c.args.letters.now in
    let i = c.loop-i.i in
    let letter = slice_index_or letters i 0 in
    let before = take i letters in
    let long : length before ≡ i = length-take-le i letters c.loop-i.auto.i-end in
    record {
      letters =
          ap (λ is. is && list_all is_name_letter (drop (i + 1) letters)) (sym c.if-not-is_name_letter.false ∙ c.is_name_letter.ensures)
          ∙ sym (at_drop_more (list_all is_name_letter) letters i 0 c.loop-i-test.true)
          ∙ c.loop-i.invariant.letters;
      places =
          ap (λ places. slice_set places i letter) c.loop-i.invariant.places
          ∙ ap (λ n. slice_set (padded before) n letter) (sym long)
          ∙ put_next before letter (omega (arith, long, c.loop-i-test.true, c.requires))
          ∙ ap padded (sym (take_more letters i 0 c.loop-i-test.true));
    }
