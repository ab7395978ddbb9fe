use Rattle.std.proofs.Common.{◌≡◌, ◌⊎◌, ◌≤◌, ℕ, List, length, sym, subst}
use Rattle.capn_fronts.proofs.Held.{few_dropped, table_there}
use Rattle.capn_fronts.proofs.reader.FrontReader.ended.Goals as goal

pub extent_of-requires-clause-few : goal.extent_of-requires-clause-few
extent_of-requires-clause-few c = few_dropped (record { kept = c.self.inside.kept.items; dropped = c.self.inside.dropped }) c.self.invariant

pub extent_of-requires-clause-table : goal.extent_of-requires-clause-table
extent_of-requires-clause-table c =
    subst (λ (b : List ℕ). (c.self.inside.dropped ≡ 0) ⊎ (72 ≤ length b)) (sym c.deref.ensures.value) (table_there (record { kept = c.self.inside.kept.items; dropped = c.self.inside.dropped }) c.self.invariant)
