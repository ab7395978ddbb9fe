use Rattle.std.proofs.Common.{◌≡◌, ◌⊎◌, ◌≤◌, ℕ, List, [], Vec, Global, length, ap, sym, subst, ◌∙◌}
use Rattle.capn_fronts.specs.Parts.{IsHeld, IsShort, front_of}
use Rattle.capn_fronts.proofs.Held.{few_dropped, nothing_held, nothing_short, table_there}
use Rattle.capn_fronts.proofs.reader.FrontReader.take_frame.Goals as goal

pub extent_of-extent-requires-clause-few : goal.extent_of-extent-requires-clause-few
extent_of-extent-requires-clause-few c = few_dropped (record { kept = c.self.inside.kept.items; dropped = c.self.inside.dropped }) c.self.invariant

pub extent_of-extent-requires-clause-table : goal.extent_of-extent-requires-clause-table
extent_of-extent-requires-clause-table c =
    subst (λ (b : List ℕ). (c.self.inside.dropped ≡ 0) ⊎ (72 ≤ length b)) (sym c.deref.ensures.value) (table_there (record { kept = c.self.inside.kept.items; dropped = c.self.inside.dropped }) c.self.invariant)

pub invariant_of-self : goal.invariant_of-self
invariant_of-self c =
    let emptied : c.replace-kept.new.dest.items ≡ [] = ap (λ (v : Vec ℕ Global). v.items) c.replace-kept.ensures.after ∙ c.new.ensures.items in
    subst (λ (b : List ℕ). IsHeld (record { kept = b; dropped = 0 })) (sym emptied) nothing_held

pub returns-clause-waits : goal.returns-clause-waits
returns-clause-waits c =
    let emptied : c.replace-kept.new.dest.items ≡ [] = ap (λ (v : Vec ℕ Global). v.items) c.replace-kept.ensures.after ∙ c.new.ensures.items in
    subst (λ (b : List ℕ). IsShort (front_of (record { kept = b; dropped = 0 }))) (sym emptied) nothing_short
