use Rattle.std.proofs.Common.{◌≡◌, drop, take}
use Rattle.std.specs.List.{list_all}
use Rattle.script_language.specs.Letters.{padded}
use Rattle.script_language.specs.Words.{is_name_letter}
use Rattle.script_language.proofs.name.Name.of_letters.Given as goal

abbrev pub invariant-loop-i : goal.invariant-loop-i
invariant-loop-i l = record {
  letters : list_all is_name_letter (drop l.i l.letters) ≡ list_all is_name_letter l.letters;
  places : l.places ≡ padded (take l.i l.letters);
}
