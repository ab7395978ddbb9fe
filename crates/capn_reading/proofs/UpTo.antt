-- What the root leads to where so many words may be visited.
use Rattle.std.proofs.Common.{◌≡◌, ℕ, zero, suc, ◌<◌, Bool, true, false, cond, eqb, List, length, Ok, Err, refl, arith}
use Rattle.std.specs.Prelude.{IsOk}
use Rattle.capn_trees.specs.declared.faults.PayloadFault.TheVariants.{OutOfBounds}
use Rattle.capn_trees.specs.Trees.{Tree}
use Rattle.capn_reading.specs.declared.referent.Referent.{Referent}
use Rattle.capn_reading.specs.Segments.{segment_of}
use Rattle.capn_reading.specs.Following.{counted_before, followed}
use Rattle.capn_reading.specs.Reading.{Reading, reading, root_up_to}
use Rattle.capn_reading.specs.Looking.{StandsFor}
use Rattle.capn_reading.proofs.Rooted.{passed}
use Rattle.capn_reading.proofs.Places.{reading_stands}

module _ (words : ℕ) (m : List (List ℕ)) (caps levels : ℕ) where
  abbrev root : ℕ → Reading Tree
  root n = cond (eqb n 0) (Err OutOfBounds) (reading m caps levels 0 0 (counted_before words))

  pub up_to_there : IsOk (root_up_to words m caps levels) → 0 < length (segment_of m 0)
  up_to_there ok = cases (length (segment_of m 0)) ok
    where
      cases : (n : ℕ) → IsOk (root n) → 0 < n
      cases zero h = absurd cc
      cases (suc n) h = omega arith

  pub up_to_is : IsOk (root_up_to words m caps levels) → root_up_to words m caps levels ≡ reading m caps levels 0 0 (counted_before words)
  up_to_is ok = cases (eqb (length (segment_of m 0)) 0) ok
    where
      cases : (b : Bool) → IsOk (cond b (Err OutOfBounds) (reading m caps levels 0 0 (counted_before words))) → cond b (Err OutOfBounds) (reading m caps levels 0 0 (counted_before words)) ≡ reading m caps levels 0 0 (counted_before words)
      cases true h = absurd cc
      cases false h = refl

  pub up_to_stands : (t : Tree) (after : ℕ) → root_up_to words m caps levels ≡ Ok (t, after)
      → (r : Referent) × (n : ℕ) × (followed m caps 0 0 0 ≡ Ok (r, n)) × StandsFor m caps r t
  up_to_stands t after e =
      let p = passed (eqb (length (segment_of m 0)) 0) OutOfBounds (reading m caps levels 0 0 (counted_before words)) (t, after) e in
      reading_stands m caps levels 0 0 (counted_before words) t after p.1
