-- What words say of some options, from what the first two say.
use Rattle.std.proofs.Common.{◌≡◌, List, ◌∷◌, Option, Some, map, String, Global, string_bytes, sym, ◌∙◌, ap}
use Rattle.std.specs.Prelude.{option_and_then}
use Rattle.trace_chart_lib.specs.declared.options.Options.{Options}
use Rattle.trace_chart_lib.specs.Choices.{with_choice, with_choices}

pub two_on : (o p : Options) {left mid rest : List (String Global)} {word value : String Global} {all : Option Options} → left ≡ word ∷ mid → mid ≡ value ∷ rest → Some p ≡ with_choice o (string_bytes word) (string_bytes value) → with_choices o (map string_bytes left) ≡ all → with_choices p (map string_bytes rest) ≡ all
two_on o p {left} {mid} {rest} {word} {value} {all} a b c i =
    ap (option_and_then (λ q. with_choices q (map string_bytes rest))) c
    ∙ sym (ap (λ m. with_choices o (string_bytes word ∷ map string_bytes m)) b)
    ∙ sym (ap (λ m. with_choices o (map string_bytes m)) a)
    ∙ i
