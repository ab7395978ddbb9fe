-- What one pass finds says why a tree can't be written, and that it can.
use Rattle.std.proofs.Common.{◌≡◌, ℕ, ◌+◌, ◌<◌, ◌≤◌, Bool, true, false, cond, ltb, ◌||◌, List, [], ◌∷◌, Option, Some, None, refl, sym, ap, ◌∙◌, arith, inl, inr}
use Rattle.std.proofs.lemmas.Bool.{cases_lt, ltb-false, lt-ltb, le-ltb, or_parts}
use Rattle.capn_trees.specs.declared.faults.WriteFault.{WriteFault}
use Rattle.capn_trees.specs.declared.faults.WriteFault.TheVariants as fault
use Rattle.capn_trees.specs.declared.measure.Measure.{Measure}
use Rattle.capn_trees.specs.Trees.{Tree}
use Rattle.capn_trees.specs.Writable.{Part, is_uneven, is_too_deep, is_beyond, is_too_wide, words_taken, words_visited, some_part, is_deeper, parts, all_words, refused}
use Rattle.capn_trees.specs.Measuring.{capped, own, together, measured, told}
use Rattle.capn_trees.proofs.Parts.{AreGood}

pub capped_low : (n : ℕ) → n ≤ 65536 → capped n ≡ n
capped_low n le = let e : ltb 65536 n ≡ false = le-ltb _ _ le in rw e refl

pub capped_high : (n : ℕ) → 65536 < n → capped n ≡ 65537
capped_high n lt = let e : ltb 65536 n ≡ true = lt-ltb _ _ lt in rw e refl

capped_most : (n : ℕ) → capped n ≤ 65537
capped_most n =
    elim (cases_lt 65536 n) [
      | inl lt ↦ omega (arith, capped_high n lt)
      | inr le ↦ omega (arith, capped_low n le)
    ]

ltb_capped : (n : ℕ) → ltb 65536 (capped n) ≡ ltb 65536 n
ltb_capped n =
    elim (cases_lt 65536 n) [
      | inl lt ↦ ap (ltb 65536) (capped_high n lt) ∙ sym (lt-ltb 65536 n lt)
      | inr le ↦ ap (ltb 65536) (capped_low n le)
    ]

capped_sum : (a b c : ℕ) → capped (capped (a + capped b) + c) ≡ capped (a + (b + c))
capped_sum a b c =
    elim (cases_lt 65536 b) [
      | inl lt ↦
          let big = capped_high b lt in
          let inner = capped_high (a + capped b) (omega (arith, big)) in
          capped_high (capped (a + capped b) + c) (omega (arith, inner)) ∙ sym (capped_high (a + (b + c)) (omega arith))
      | inr le ↦
          let same = capped_low b le in
          elim (cases_lt 65536 (a + b)) [
            | inl lt ↦
                let inner = capped_high (a + capped b) (omega (arith, same)) in
                capped_high (capped (a + capped b) + c) (omega (arith, inner)) ∙ sym (capped_high (a + (b + c)) (omega arith))
            | inr small ↦
                let inner = capped_low (a + capped b) (omega (arith, same)) in
                let e : capped (a + capped b) + c ≡ a + (b + c) = omega (arith, inner, same) in
                ap capped e
          ]
    ]

again : (n : ℕ) → capped (capped n) ≡ capped n
again n =
    elim (cases_lt 65536 n) [
      | inl lt ↦ ap capped (capped_high n lt) ∙ sym (capped_high n lt)
      | inr le ↦ ap capped (capped_low n le)
    ]

or_assoc : (a b c : Bool) → ((a || b) || c) ≡ (a || (b || c))
or_assoc true b c = refl
or_assoc false b c = refl

or_false : (a : Bool) → (a || false) ≡ a
or_false true = refl
or_false false = refl

module _ (caps : ℕ) where
  uneven_found : (m : Measure) (ps : List Part) → (measured caps m ps).is_uneven ≡ (m.is_uneven || some_part (λ p. is_uneven p.what) ps)
  uneven_found m [] = sym (or_false m.is_uneven)
  uneven_found m (p ∷ ps) = uneven_found (together m (own caps p)) ps ∙ or_assoc m.is_uneven (is_uneven p.what) (some_part (λ q. is_uneven q.what) ps)

  deep_found : (m : Measure) (ps : List Part) → (measured caps m ps).is_too_deep ≡ (m.is_too_deep || some_part is_too_deep ps)
  deep_found m [] = sym (or_false m.is_too_deep)
  deep_found m (p ∷ ps) = deep_found (together m (own caps p)) ps ∙ or_assoc m.is_too_deep (is_too_deep p) (some_part is_too_deep ps)

  beyond_found : (m : Measure) (ps : List Part) → (measured caps m ps).is_beyond ≡ (m.is_beyond || some_part (λ p. is_beyond caps p.what) ps)
  beyond_found m [] = sym (or_false m.is_beyond)
  beyond_found m (p ∷ ps) = beyond_found (together m (own caps p)) ps ∙ or_assoc m.is_beyond (is_beyond caps p.what) (some_part (λ q. is_beyond caps q.what) ps)

  wide_found : (m : Measure) (ps : List Part) → (measured caps m ps).is_too_wide ≡ (m.is_too_wide || some_part (λ p. is_too_wide p.what) ps)
  wide_found m [] = sym (or_false m.is_too_wide)
  wide_found m (p ∷ ps) = wide_found (together m (own caps p)) ps ∙ or_assoc m.is_too_wide (is_too_wide p.what) (some_part (λ q. is_too_wide q.what) ps)

  words_found : (m : Measure) (ps : List Part) → capped m.words ≡ m.words → (measured caps m ps).words ≡ capped (m.words + all_words words_taken ps)
  words_found m [] e = sym e ∙ ap capped (let z : m.words ≡ m.words + 0 = omega arith in z)
  words_found m (p ∷ ps) e =
      words_found (together m (own caps p)) ps (again (m.words + capped (words_taken p.what)))
      ∙ capped_sum m.words (words_taken p.what) (all_words words_taken ps)

  visited_found : (m : Measure) (ps : List Part) → capped m.visited ≡ m.visited → (measured caps m ps).visited ≡ capped (m.visited + all_words words_visited ps)
  visited_found m [] e = sym e ∙ ap capped (let z : m.visited ≡ m.visited + 0 = omega arith in z)
  visited_found m (p ∷ ps) e =
      visited_found (together m (own caps p)) ps (again (m.visited + capped (words_visited p.what)))
      ∙ capped_sum m.visited (words_visited p.what) (all_words words_visited ps)

abbrev pub nothing : Measure
nothing = record { is_uneven = false; is_too_deep = false; is_beyond = false; is_too_wide = false; words = 1; visited = 0 }

-- the words that are counted where they are few enough
pub words_told : (caps : ℕ) (ps : List Part) → 1 + all_words words_taken ps ≤ 65536 → (measured caps nothing ps).words ≡ 1 + all_words words_taken ps
words_told caps ps le = words_found caps nothing ps refl ∙ capped_low (1 + all_words words_taken ps) le

-- the reason that the pass tells is the first of the reasons
pub told_refused : (caps : ℕ) (ps : List Part) → told (measured caps nothing ps) ≡ refused caps ps
told_refused caps ps =
    let w : ltb 65536 (measured caps nothing ps).words ≡ ltb 65536 (1 + all_words words_taken ps) = ap (ltb 65536) (words_found caps nothing ps refl) ∙ ltb_capped (1 + all_words words_taken ps) in
    let zero_more : 0 + all_words words_visited ps ≡ all_words words_visited ps = omega arith in
    let v : ltb 65536 (measured caps nothing ps).visited ≡ ltb 65536 (all_words words_visited ps) =
    ap (ltb 65536) (visited_found caps nothing ps refl) ∙ ltb_capped (0 + all_words words_visited ps) ∙ ap (ltb 65536) zero_more in
    rw (uneven_found caps nothing ps, deep_found caps nothing ps, beyond_found caps nothing ps, wide_found caps nothing ps, w, v) refl

passed : (b : Bool) (e : WriteFault) (o : Option WriteFault) → cond b (Some e) o ≡ None → (b ≡ false) × (o ≡ None)
passed true e o h = absurd cc
passed false e o h = (refl, h)

parts_good : (caps : ℕ) (ps : List Part) → some_part (λ p. is_uneven p.what) ps ≡ false → some_part is_too_deep ps ≡ false → some_part (λ p. is_beyond caps p.what) ps ≡ false → some_part (λ p. is_too_wide p.what) ps ≡ false → AreGood caps ps
parts_good caps [] a b c d = tt
parts_good caps (p ∷ ps) a b c d =
    let u = or_parts (is_uneven p.what) (some_part (λ q. is_uneven q.what) ps) a in
    let v = or_parts (is_too_deep p) (some_part is_too_deep ps) b in
    let w = or_parts (is_beyond caps p.what) (some_part (λ q. is_beyond caps q.what) ps) c in
    let x = or_parts (is_too_wide p.what) (some_part (λ q. is_too_wide q.what) ps) d in
    (((u.0, v.0), (w.0, x.0)), parts_good caps ps u.1 v.1 w.1 x.1)

-- without a reason there is none in any part
pub none_refused : (caps : ℕ) (ps : List Part) → refused caps ps ≡ None → AreGood caps ps × (1 + all_words words_taken ps ≤ 65536) × (all_words words_visited ps ≤ 65536)
none_refused caps ps e =
    let a = passed (some_part (λ p. is_uneven p.what) ps) fault.BadTag _ e in
    let b = passed (some_part is_too_deep ps) fault.Depth _ a.1 in
    let c = passed (some_part (λ p. is_beyond caps p.what) ps) fault.CapIndex _ b.1 in
    let d = passed (some_part (λ p. is_too_wide p.what) ps || ltb 65536 (1 + all_words words_taken ps)) fault.TooLarge _ c.1 in
    let f = passed (ltb 65536 (all_words words_visited ps)) fault.Traversal None d.1 in
    let g = or_parts (some_part (λ p. is_too_wide p.what) ps) (ltb 65536 (1 + all_words words_taken ps)) d.0 in
    (parts_good caps ps a.0 b.0 c.0 g.0, ltb-false 65536 (1 + all_words words_taken ps) g.1, ltb-false 65536 (all_words words_visited ps) f.0)

-- what was measured of a tree tells how deep it is
pub depth_found : (t : Tree) (levels : ℕ) (s m : Measure) → s.is_too_deep ≡ false → m ≡ measured 0 s (parts t levels) → is_deeper t levels ≡ m.is_too_deep
depth_found t levels s m fresh is_m =
    sym (ap (λ (x : Measure). x.is_too_deep) is_m ∙ deep_found 0 s (parts t levels) ∙ ap (λ b. b || some_part is_too_deep (parts t levels)) fresh)
