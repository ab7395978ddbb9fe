-- The lines of a table, written one after another.
use Rattle.std.proofs.Common.{◌≡◌, ℕ, List, [], ◌∷◌, ◌++◌, sym, ap, ◌∙◌, append_assoc, append-nil}
use Rattle.rpc_msg.specs.declared.ids.Vat.{Vat}
use Rattle.trace_file.specs.declared.rows.Calls.{Calls}
use Rattle.trace_file.specs.Shown.{calls_text, rows_text}

pub rows_more : (v : Vat) (text new all : List ℕ) (rows rest : List (ℕ × Calls)) (number : ℕ) (calls : Calls)
    → rows ≡ (number, calls) ∷ rest → new ≡ text ++ calls_text v number calls → text ++ rows_text v rows ≡ all → new ++ rows_text v rest ≡ all
rows_more v text new all rows rest number calls split wrote so_far =
    ap (λ x. x ++ rows_text v rest) wrote ∙ append_assoc text (calls_text v number calls) (rows_text v rest)
    ∙ ap (λ rs. text ++ rows_text v rs) (sym split) ∙ so_far

pub rows_done : (v : Vat) (text all : List ℕ) (rows : List (ℕ × Calls)) → rows ≡ [] → text ++ rows_text v rows ≡ all → text ≡ all
rows_done v text all rows none so_far = sym (append-nil text) ∙ ap (λ rs. text ++ rows_text v rs) (sym none) ∙ so_far
