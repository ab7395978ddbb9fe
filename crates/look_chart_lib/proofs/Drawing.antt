-- The arrows of rows, when one more comes.
use Rattle.std.proofs.Common.{◌≡◌, List, [], ◌∷◌, ◌++◌, ◌∙◌, ap, append-nil}
use Rattle.std.proofs.lemmas.Grind.{flat_map-append}
use Rattle.look_chart_lib.specs.declared.chart.Row.{Row}
use Rattle.look_chart_lib.specs.Arrows.{arrow_in, arrows_of}

pub arrows_push : (rows : List Row) (row : Row) → arrows_of (rows ++ row ∷ []) ≡ arrows_of rows ++ arrow_in row
arrows_push rows row = flat_map-append arrow_in rows (row ∷ []) ∙ ap (λ t. arrows_of rows ++ t) (append-nil (arrow_in row))
