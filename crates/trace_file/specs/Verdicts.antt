-- How a verdict is said (docs/trace.md, "The verdict").
use Rattle.std.specs.Prelude.{ℕ, List, [], ◌∷◌, ◌++◌, codes, decimal}
use Rattle.rpc_check.specs.declared.verdict.Verdict.{Verdict}
use Rattle.rpc_check.specs.declared.verdict.Verdict.TheVariants.{Good, Order, Unmatched, AfterDown, Count}

abbrev pub verdict_text : Verdict → List ℕ
verdict_text (Good n) = codes "ok: " ++ (decimal n ++ (codes " delivered" ++ 10 ∷ []))
verdict_text (Order n) = codes "broken order at entry " ++ (decimal n ++ 10 ∷ [])
verdict_text (Unmatched n) = codes "nothing in flight at entry " ++ (decimal n ++ 10 ∷ [])
verdict_text (AfterDown n) = codes "sent after down at entry " ++ (decimal n ++ 10 ∷ [])
verdict_text (Count n) = codes "broken count at entry " ++ (decimal n ++ 10 ∷ [])
