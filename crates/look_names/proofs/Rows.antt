-- The rows of a list of structs, one by one.
use Rattle.std.proofs.Common.{◌≡◌, ℕ, zero, suc, ◌<◌, ◌≤◌, ◌-◌, List, [], ◌∷◌, length, drop, get_or, Option, Some, None, refl, subst, arith}
use Rattle.capn_trees.specs.declared.tree.Fields.{Fields}
use Rattle.capn_trees.specs.Views.{fields_view, structs_view}
use Rattle.rpc_codec_parts.specs.Blocks.{Block, of_fields}
use Rattle.look_names.specs.Names.{row_at, id_in, noted, place_from}

abbrev pub some_row : Block → Option Block
some_row b = Some b

pub row_there : (rows : List Fields) (n : ℕ) (d : Fields) → n < length rows → row_at (structs_view rows) n ≡ Some (of_fields (fields_view (get_or rows n d)))
row_there [] n d lt = absurd (omega arith)
row_there (r ∷ rows) zero d lt = refl
row_there (r ∷ rows) (suc n) d lt = row_there rows n d (omega arith)

pub row_past : (rows : List Fields) (n : ℕ) → length rows ≤ n → row_at (structs_view rows) n ≡ None
row_past [] n le = refl
row_past (r ∷ rows) zero le = absurd (omega arith)
row_past (r ∷ rows) (suc n) le = row_past rows n (omega arith)

-- Where an id stands first among rows is at the first of them, or where it stands among the others.
pub place_first : (rows : List Fields) (k n : ℕ) → k < length rows → (id : ℕ)
    → place_from (structs_view (drop k rows)) id n ≡ noted (id_in (structs_view (drop k rows))) n (place_from (structs_view (drop (suc k) rows)) id (suc n)) id
place_first [] k n lt id = absurd (omega arith)
place_first (r ∷ rows) zero n lt id = refl
place_first (r ∷ rows) (suc k) n lt id = place_first rows k n (omega arith) id

pub place_before : (rows : List Fields) (p : ℕ) → 0 < p → p ≤ length rows → (id : ℕ)
    → place_from (structs_view (drop (p - 1) rows)) id (p - 1) ≡ noted (id_in (structs_view (drop (p - 1) rows))) (p - 1) (place_from (structs_view (drop p rows)) id p) id
place_before rows p lt le id =
    let is : suc (p - 1) ≡ p = omega arith in
    subst (λ (n : ℕ). place_from (structs_view (drop (p - 1) rows)) id (p - 1) ≡ noted (id_in (structs_view (drop (p - 1) rows))) (p - 1) (place_from (structs_view (drop n rows)) id n) id)
    is (place_first rows (p - 1) (p - 1) (omega arith) id)
