-- The counts of a table, made one after the other by its ids, are those of its entries.
use Rattle.std.proofs.Common.{◌≡◌, ℕ, T, List, [], ◌∷◌, Option, None, Some, refl, ap, ◌∙◌}
use Rattle.std.proofs.Common.{map as list_map}
use Rattle.std.specs.Ordering.{nat_cmp}
use Rattle.std.specs.FinMap as map
use Rattle.std.specs.FinMap.Entries as entries
use Rattle.finite_maps.specs.Tally.{Map}
use Rattle.finite_maps.proofs.Sorted.{behind, first_entry, later_entry, sorted_tail}
use Rattle.rpc_msg.specs.declared.ids.ExportId.{ExportId}
use Rattle.rpc_machine.specs.declared.entries.Export.{Export}
use Rattle.rpc_machine.specs.declared.entries.Import.{Import}
use Rattle.rpc_machine.specs.Lists.{from_each, of_map}
use Rattle.rpc_machine.specs.Queries.{export_counts, import_counts}
use Rattle.vat_tables.specs.Exports as tables

-- ---- Exports

pub exports_counted : (es : List (ℕ × Export)) → tables.export_counts es ≡ from_each export_counts es
exports_counted [] = refl
exports_counted (e ∷ es) = ap (λ (rest : List (ExportId × ℕ)). (record { 0 = e.0 }, e.1.count) ∷ rest) (exports_counted es)

-- ---- Imports

abbrev counted_at : ℕ → Option Import → List (ExportId × ℕ) → List (ExportId × ℕ)
counted_at id None rest = rest
counted_at id (Some x) rest = (record { 0 = id }, x.count) ∷ rest

-- Those of the imports with these ids.
abbrev pub counted : Map Import → List ℕ → List (ExportId × ℕ)
counted m [] = []
counted m (id ∷ ids) = counted_at id (map.get m id) (counted m ids)

-- Each of these entries is found under its key.
abbrev AreFound : List (ℕ × Import) → List (ℕ × Import) → Type 0
AreFound within [] = Unit {0}
AreFound within (e ∷ es) = (entries.find nat_cmp e.0 within ≡ Some e.1) × AreFound within es

found_behind : (e : ℕ × Import) (within es : List (ℕ × Import)) → T (entries.below_all nat_cmp e.0 within) → AreFound within es → AreFound (e ∷ within) es
found_behind e within [] below found = tt
found_behind e within (x ∷ es) below found = (later_entry e within x.0 (behind e.0 within x.0 x.1 below found.0) ∙ found.0, found_behind e within es below found.1)

are_found : (es : List (ℕ × Import)) → T (entries.is_sorted nat_cmp es) → AreFound es es
are_found [] sorted = tt
are_found (e ∷ es) sorted =
    let rest = sorted_tail e.0 es sorted in
    (first_entry e es, found_behind e es es rest.0 (are_found es rest.1))

counted_found : (m : Map Import) (es : List (ℕ × Import)) → AreFound (map.entries m) es → counted m (list_map (λ e. e.0) es) ≡ from_each import_counts es
counted_found m [] found = refl
counted_found m (e ∷ es) found =
    ap (λ (o : Option Import). counted_at e.0 o (counted m (list_map (λ x. x.0) es))) (map.get-entries m e.0 ∙ found.0)
    ∙ ap (λ (rest : List (ExportId × ℕ)). (record { 0 = e.0 }, e.1.count) ∷ rest) (counted_found m es found.1)

pub imports_counted : (m : Map Import) → counted m (map.keys m) ≡ of_map import_counts m
imports_counted m = counted_found m (map.entries m) (are_found (map.entries m) (map.entries_sorted m))
