-- One more id is copied.
use Rattle.std.proofs.Common.{◌≡◌, ℕ, ◌+◌, ◌<◌, List, [], ◌∷◌, ◌++◌, length, take, set, get_or, refl, sym, ap, ◌∙◌}
use Rattle.std.proofs.lemmas.List.{take_more, take_more_set}
use Rattle.rpc_msg.specs.declared.ids.ExportId.{ExportId}
use Rattle.rpc_machine.specs.Progress.{numbers}

numbers_more : (es : List ExportId) (e : ExportId) → numbers (es ++ e ∷ []) ≡ numbers es ++ e.0 ∷ []
numbers_more [] e = refl
numbers_more (x ∷ es) e = ap (λ (ns : List ℕ). x.0 ∷ ns) (numbers_more es e)

pub copied_more : (es : List ExportId) (to : List ℕ) (i : ℕ) (none : ExportId) → i < length es → i < length to → take i to ≡ numbers (take i es) → take (i + 1) (set to i (get_or es i none).0) ≡ numbers (take (i + 1) es)
copied_more es to i none lt fits before =
    take_more_set to i (get_or es i none).0 fits ∙ ap (λ (ns : List ℕ). ns ++ (get_or es i none).0 ∷ []) before ∙ sym (numbers_more (take i es) (get_or es i none))
    ∙ ap numbers (sym (take_more es i none lt))
