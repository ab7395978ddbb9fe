-- An outcome of which no field is exported: nothing is listed of it.
use Rattle.std.proofs.Common.{◌≡◌, ℕ, ◌+◌, Bool, true, false, cond, List, [], ◌∷◌, refl, arith}
use Rattle.std.specs.FinMap as map
use Rattle.finite_maps.specs.Tally.{Map, tally_of}
use Rattle.rpc_machine.specs.declared.entries.Export.{Export}
use Rattle.rpc_machine.specs.Nodes.{is_field}
use Rattle.rpc_machine.specs.Settling.{exports_where}
use Rattle.vat_tables.specs.Exports.{field_of, fields_of}

none_in : (o : ℕ) (es : List (ℕ × Export)) → tally_of (λ (x : Export). field_of o x.node) es ≡ 0 → exports_where (is_field o) es ≡ []
none_in o [] none = refl
none_in o (e ∷ es) none = by (is_field o e.1.node) none (none_in o es)
  where
    by : (b : Bool) → cond b 1 0 + tally_of (λ (x : Export). field_of o x.node) es ≡ 0 → (tally_of (λ (x : Export). field_of o x.node) es ≡ 0 → exports_where (is_field o) es ≡ [])
        → cond b ((e.0, e.1.node) ∷ exports_where (is_field o) es) (exports_where (is_field o) es) ≡ []
    by true some later = absurd (omega (arith, some))
    by false rest later = later (omega (arith, rest))

pub none_listed : (m : Map Export) (o : ℕ) → fields_of o m ≡ 0 → exports_where (is_field o) (map.entries m) ≡ []
none_listed m o none = none_in o (map.entries m) none
