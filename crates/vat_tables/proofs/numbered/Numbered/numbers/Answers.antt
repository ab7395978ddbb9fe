use Rattle.std.proofs.Common.{◌≡◌, ◌++◌, rules, sym, ap, subst, ◌∙◌, List, ℕ, arith}
use Rattle.std.specs.FinMap as map
use Rattle.std.specs.HashMap as hash
use Rattle.std.specs.List.Sorted.{IsPermutation}
use Rattle.std.specs.Map.{keys_of}
use Rattle.slab.specs.Slab.{entries_from}
use Rattle.vat_tables.proofs.PlacedTable.{seen}
use Rattle.vat_tables.proofs.RisingKeys.{rising_keys, distinct_from, numbers_joined}
use Rattle.vat_tables.proofs.numbered.Numbered.numbers.Goals as goal

pub returns : goal.returns
returns g c =
    let placed : c.in_ok-numbers.numbers.items ≡ keys_of (entries_from 0 c.self.inside.places.items) = c.in_ok-numbers.ensures ∙ ap (λ ps. keys_of (entries_from 0 ps)) c.deref.ensures.value in
    let hashed : c.in_ok-hashed.hashed.items ≡ hash.keys c.self.inside.hashed = search rules in
    let all : c.append.new.self.items ≡ keys_of (entries_from 0 c.self.inside.places.items ++ c.self.inside.hashed.entries) =
    c.in_ok-append.ensures.items ∙ (λ i. placed i ++ hashed i) ∙ sym (numbers_joined (entries_from 0 c.self.inside.places.items) c.self.inside.hashed.entries) in
    rising_keys (entries_from 0 c.self.inside.places.items ++ c.self.inside.hashed.entries) c.sort_unstable.new.self.items
    (distinct_from 0 c.self.inside.places.items c.self.inside.hashed.entries c.keys.ensures.unique (λ q low. c.self.invariant.0 q (omega (arith, low))))
    (subst (λ (xs : List ℕ). IsPermutation xs c.sort_unstable.new.self.items) all c.sort_unstable.ensures.permutation)
    c.sort_unstable.ensures.sorted
    ∙ ap (λ m. map.keys m) (seen c.self.inside.places.items c.self.inside.hashed _ _ c.self.view_is)
