-- What no place names has no export, so no Resolve is sent for it.
use Rattle.std.proofs.Common.{◌≡◌, ℕ, suc, Bool, true, false, cond, List, [], ◌∷◌, refl, arith}
use Rattle.std.specs.FinMap as map
use Rattle.rpc_machine.specs.declared.node.Node.{Node}
use Rattle.rpc_machine.specs.declared.entries.Export.{Export}
use Rattle.rpc_machine.specs.Lists.{how_many, from_each}
use Rattle.rpc_machine.specs.Places.{named_by_export}
use Rattle.rpc_machine.specs.Settling.{exports_where}
use Rattle.laws_acts.specs.Laws.{NoResolves}
use Rattle.laws_acts.proofs.Parts.{names_are}

none_chosen : (test : Node → Bool) (es : List (ℕ × Export)) → how_many test (from_each named_by_export es) ≡ 0 → exports_where test es ≡ []
none_chosen test [] h = refl
none_chosen test (e ∷ es) h = by (test e.1.node) (none_chosen test es) h
  where
    by : (b : Bool) → (how_many test (from_each named_by_export es) ≡ 0 → exports_where test es ≡ []) → cond b (suc (how_many test (from_each named_by_export es))) (how_many test (from_each named_by_export es)) ≡ 0 → cond b ((e.0, e.1.node) ∷ exports_where test es) (exports_where test es) ≡ []
    by true rest g = absurd (omega (arith, g))
    by false rest g = rest g

pub no_resolves : NoResolves
no_resolves s test none = none_chosen test (map.entries s.exports) (let a = names_are test s in omega (arith, a, none))
