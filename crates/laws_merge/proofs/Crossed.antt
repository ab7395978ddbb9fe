-- That the crossing logs have no order.
use Rattle.std.proofs.Common.{◌≡◌, ℕ, ◌≤◌, arith, List, [], ◌∷◌, refl, subst}
use Rattle.laws_merge.specs.Machine.{Receive, Move, Takes, World, Event, AtA, AtB, moves_a, moves_b}
use Rattle.laws_merge.specs.Laws.{Interleaving}
use Rattle.laws_merge.specs.Crossing.{free, nothing, crossing, AcksAreNeeded}

-- what both sides do
abbrev receives : Move free
receives = record { input = Receive 7; note = tt; sends = 7 ∷ [] }

-- from an empty link it can't happen
not_from_nothing : (m : Move free) (new : List ℕ) → m ≡ receives → Takes m.input [] new → ⊥
not_from_nothing m new e t =
    let h : [] ≡ 7 ∷ new = subst (λ z. Takes z.input [] new) e t in
    absurd (cc)

-- an order would begin with one of the two
no_order : (events : List (Event free free)) (end : World free free) → Interleaving free free nothing crossing crossing events end → ⊥
no_order [] end i = let h : [] ≡ receives ∷ [] = i.at_a in absurd (cc)
no_order (AtA m ∷ es) end i =
    let h : m ∷ moves_a free free es ≡ receives ∷ [] = i.at_a in
    let e : m ≡ receives = cc in
    not_from_nothing m (i.run).0.to_a e (i.run).1.2
no_order (AtB m ∷ es) end i =
    let h : m ∷ moves_b free free es ≡ receives ∷ [] = i.at_b in
    let e : m ≡ receives = cc in
    not_from_nothing m (i.run).0.to_b e (i.run).1.2

pub needed : AcksAreNeeded
needed = record {
  lawful = (tt, tt, (refl, refl, tt), refl);
  begins = ([], refl);
  refused = λ h. let high : 1 ≤ 0 = h.0 in omega arith;
  no_order = no_order;
}
