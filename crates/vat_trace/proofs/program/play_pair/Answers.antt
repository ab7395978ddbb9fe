use Rattle.std.proofs.Common.{List, ℕ, inr, refl, string_bytes, subst}
use Rattle.vat_trace.specs.Answers.{PairsTo}
use Rattle.vat_trace.proofs.program.play_pair.Goals as goal

pub returns-in_default-clause-fails : goal.returns-in_default-clause-fails
returns-in_default-clause-fails g c =
    inr (inr (
      refl,
      string_bytes c.in_ok-input.input,
      c.in_ok-input.ensures.text,
      string_bytes c.in_ok-printed.printed.text,
      c.in_ok-printed.printed.status,
      subst (λ (input : List ℕ). PairsTo input (string_bytes c.in_ok-printed.printed.text) c.in_ok-printed.printed.status) c.as_str.ensures.value c.in_ok-printed.ensures.answers,
    ))
