-- A tree whose numbers have their widths is laid down in words of 64 bits. So it reads back.
use Rattle.std.proofs.Common.{◌≡◌, ℕ, zero, suc, ◌+◌, ◌-◌, ◌*◌, ◌/◌, ◌^◌, ◌<◌, ◌≤◌, Bool, true, false, cond, eqb, ltb, List, [], ◌∷◌, ◌++◌, length, take, drop, None, refl, sym, ap, subst, ◌∙◌, arith}
use Rattle.std.proofs.Math.Nat.{mul-le-mul_right}
use Rattle.std.proofs.lemmas.Bool.{ltb-true, ltb-false, or_parts, not-false}
use Rattle.std.proofs.lemmas.List.{length-append}
use Rattle.std.proofs.lemmas.Nat.{pow-add, pow_pos}
use Rattle.capn_trees.specs.declared.width.Width.{Width}
use Rattle.capn_trees.specs.declared.width.Width.TheVariants as width
use Rattle.capn_trees.specs.Trees as tree
use Rattle.capn_trees.specs.Trees.{Tree, Trees, Elements, Structs, trees_count, structs_count}
use Rattle.capn_trees.specs.Widths.{AreOf, bits_of, packed_size}
use Rattle.capn_trees.specs.Writable.{Part, parts, parts_of_all, parts_of_list, parts_of_structs, are_even, is_uneven, is_too_wide, words_visited, refusal}
use Rattle.capn_trees.proofs.Parts.{AreGood, even_parts}
use Rattle.capn_writing.specs.Fitting.{Fits, FitsAll, FitsList, FitsStructs}
use Rattle.capn_writing.specs.Laying.{HaveSizes}
use Rattle.capn_writing.specs.Placing.{joined, packed_words, size_number, struct_word, list_word, offset_of, placed, placed_all, placed_list, placed_structs, segment_for, written}
use Rattle.capn_writing.proofs.Filled.{are_drop}
use Rattle.capn_writing.proofs.Lengths.{length-packed, length-placed_all, length-placed_structs}
use Rattle.capn_writing.proofs.Sized.{sizes_left, sizes_right, taken_by}
use Rattle.capn_writing.proofs.Writing.{can_write, good_sizes}
use Rattle.capn_wire.specs.Payloads.{tree_of}
use Rattle.capn_wire.proofs.Written.{says_written}
use Rattle.laws_read_back.proofs.Widths.{AllFit, HasWidths, HaveWidths, ListHasWidths, StructsHaveWidths}

both_fit : (xs ys : List ℕ) → AllFit xs → AllFit ys → AllFit (xs ++ ys)
both_fit [] ys a b = b
both_fit (x ∷ xs) ys a b = (a.0, both_fit xs ys a.1 b)

each_fits : (xs : List ℕ) → AllFit xs → AreOf 64 xs
each_fits [] fit i = omega arith
each_fits (x ∷ xs) fit zero = fit.0
each_fits (x ∷ xs) fit (suc i) = each_fits xs fit.1 i

good_left : (caps : ℕ) (ps qs : List Part) → AreGood caps (ps ++ qs) → AreGood caps ps
good_left caps [] qs g = tt
good_left caps (p ∷ ps) qs g = (g.0, good_left caps ps qs g.1)

good_right : (caps : ℕ) (ps qs : List Part) → AreGood caps (ps ++ qs) → AreGood caps qs
good_right caps [] qs g = g
good_right caps (p ∷ ps) qs g = good_right caps ps qs g.1

-- ---- elements as words

joined_low : (b n : ℕ) (xs : List ℕ) → AreOf b xs → joined b (take n xs) < 2 ^ (n * b)
joined_low b zero xs fit = pow_pos (0 * b)
joined_low b (suc n) [] fit = pow_pos (suc n * b)
joined_low b (suc n) (x ∷ xs) fit =
    let rest = joined_low b n xs (λ i. fit (suc i)) in
    let one = fit 0 in
    let more : (joined b (take n xs) + 1) * 2 ^ b ≤ 2 ^ (n * b) * 2 ^ b = mul-le-mul_right (2 ^ b) (omega (arith, rest)) in
    let split : (joined b (take n xs) + 1) * 2 ^ b ≡ joined b (take n xs) * 2 ^ b + 2 ^ b = omega arith in
    let size : suc n * b ≡ n * b + b = omega arith in
    let whole : 2 ^ (suc n * b) ≡ 2 ^ (n * b) * 2 ^ b = ap (λ k. 2 ^ k) size ∙ pow-add 2 (n * b) b in
    omega (arith, one, more, split, whole)

packed_fit : (b n : ℕ) (xs : List ℕ) → 64 / b * b ≡ 64 → AreOf b xs → AllFit (packed_words b n xs)
packed_fit b zero xs per fit = tt
packed_fit b (suc n) xs per fit = (subst (λ k. joined b (take (64 / b) xs) < 2 ^ k) per (joined_low b (64 / b) xs fit), packed_fit b n (drop (64 / b) xs) per (are_drop b (64 / b) xs fit))

none_fit : (n count : ℕ) (xs : List ℕ) → n ≡ packed_size 0 count → AllFit (packed_words 0 n xs)
none_fit zero count xs e = tt
none_fit (suc n) count xs e = absurd (omega (arith, e))

elements_fit : (w : Width) (xs : List ℕ) → AreOf (bits_of w) xs → AllFit (packed_words (bits_of w) (packed_size (bits_of w) (length xs)) xs)
elements_fit width.Void xs fit = none_fit (packed_size 0 (length xs)) (length xs) xs refl
elements_fit width.Bit xs fit = packed_fit 1 (packed_size 1 (length xs)) xs refl fit
elements_fit width.Byte xs fit = packed_fit 8 (packed_size 8 (length xs)) xs refl fit
elements_fit width.TwoBytes xs fit = packed_fit 16 (packed_size 16 (length xs)) xs refl fit
elements_fit width.FourBytes xs fit = packed_fit 32 (packed_size 32 (length xs)) xs refl fit
elements_fit width.EightBytes xs fit = packed_fit 64 (packed_size 64 (length xs)) xs refl fit

-- ---- pointers as words

struct_fits : (offset d p : ℕ) → offset < 2 ^ 30 → d < 2 ^ 16 → p < 2 ^ 16 → struct_word offset d p < 2 ^ 64
struct_fits offset d p small few fewer = omega arith

pointer_fits : (b : Bool) (offset d p : ℕ) → offset < 2 ^ 30 → d < 2 ^ 16 → p < 2 ^ 16 → cond b (struct_word (2 ^ 30 - 1) 0 0) (struct_word offset d p) < 2 ^ 64
pointer_fits true offset d p small few fewer = omega arith
pointer_fits false offset d p small few fewer = struct_fits offset d p small few fewer

list_fits : (offset size count : ℕ) → offset < 2 ^ 30 → size < 8 → count < 2 ^ 29 → list_word offset size count < 2 ^ 64
list_fits offset size count small short few = omega arith

packed_pointer : (w : Width) (offset : ℕ) (xs : List ℕ) → offset < 2 ^ 30 → is_too_wide (tree.list (tree.packed (bits_of w) xs)) ≡ false → packed_size (bits_of w) (length xs) ≤ 65536
    → list_word offset (size_number (bits_of w)) (length xs) < 2 ^ 64
packed_pointer width.Void offset xs small narrow le = let n = ltb-false 536870911 (length xs) narrow in list_fits offset 0 (length xs) small (omega arith) (omega (arith, n))
packed_pointer width.Bit offset xs small narrow le = list_fits offset 1 (length xs) small (omega arith) (omega arith)
packed_pointer width.Byte offset xs small narrow le = list_fits offset 2 (length xs) small (omega arith) (omega arith)
packed_pointer width.TwoBytes offset xs small narrow le = list_fits offset 3 (length xs) small (omega arith) (omega arith)
packed_pointer width.FourBytes offset xs small narrow le = list_fits offset 4 (length xs) small (omega arith) (omega arith)
packed_pointer width.EightBytes offset xs small narrow le = list_fits offset 5 (length xs) small (omega arith) (omega arith)

-- ---- all words of a tree

module _ (caps : ℕ) (few : caps ≤ 2 ^ 32) where
  mutual
    fits : (t : Tree) (levels : ℕ) → HasWidths t → AreGood caps (parts t levels) → Fits t
    fits tree.null levels h g = tt
    fits (tree.capability index) levels h g = let below = ltb-true index caps (not-false (ltb index caps) g.0.1.0) in omega (arith, below, few)
    fits (tree.struct ws ts) levels h g = fits_all ts (levels - 1) h.1 g.1
    fits (tree.list es) levels h g = fits_list es (levels - 1) h g.1

    fits_all : (ts : Trees) (levels : ℕ) → HaveWidths ts → AreGood caps (parts_of_all ts levels) → FitsAll ts
    fits_all tree.no_trees levels h g = tt
    fits_all (tree.tree t ts) levels h g = (fits t levels h.0 (good_left caps (parts t levels) (parts_of_all ts levels) g), fits_all ts levels h.1 (good_right caps (parts t levels) (parts_of_all ts levels) g))

    fits_list : (es : Elements) (levels : ℕ) → ListHasWidths es → AreGood caps (parts_of_list es levels) → FitsList es
    fits_list (tree.packed bits xs) levels h g = h
    fits_list (tree.pointers ts) levels h g = fits_all ts levels h g
    fits_list (tree.structs d p ss) levels h g = (h.0, fits_structs ss levels h.1 g)

    fits_structs : (ss : Structs) (levels : ℕ) → StructsHaveWidths ss → AreGood caps (parts_of_structs ss levels) → FitsStructs ss
    fits_structs tree.no_structs levels h g = tt
    fits_structs (tree.struct_of ws ts ss) levels h g =
        (fits_all ts levels h.0.1 (good_left caps (parts_of_all ts levels) (parts_of_structs ss levels) g), fits_structs ss levels h.1 (good_right caps (parts_of_all ts levels) (parts_of_structs ss levels) g))

abbrev PackedFit : ℕ → ℕ → List ℕ → ℕ → Type 0
PackedFit offset next xs b =
    AreOf b xs → is_too_wide (tree.list (tree.packed b xs)) ≡ false → next + length (packed_words b (packed_size b (length xs)) xs) ≤ 65536
    → (list_word offset (size_number b) (length xs) < 2 ^ 64) × AllFit (packed_words b (packed_size b (length xs)) xs)

packed_both : (w : Width) (offset next : ℕ) (xs : List ℕ) → offset < 2 ^ 30 → PackedFit offset next xs (bits_of w)
packed_both w offset next xs small fit narrow inside =
    let n = length-packed (bits_of w) (packed_size (bits_of w) (length xs)) xs in
    (packed_pointer w offset xs small narrow (omega (arith, n, inside)), elements_fit w xs fit)

-- no more structs than words, or than a visit counts
few_structs : (n k : ℕ) → n * k + 1 + cond (eqb k 0) n 0 ≤ 65536 → n ≤ 65536
few_structs n zero h = omega arith
few_structs n (suc k) h = let split : n * suc k ≡ n * k + n = omega arith in omega (arith, split, h)

-- its size is one that a pointer or a tag can say
abbrev IsSized : Tree → Type 0
IsSized t = ((is_uneven t ≡ false) × (is_too_wide t ≡ false)) × (words_visited t ≤ 65536)

mutual
  -- where there is room for them
  words_fit : (t : Tree) (levels at next : ℕ) → Fits t → HasWidths t → HaveSizes (parts t levels) → next + length (placed t at next).1 ≤ 65536 → ((placed t at next).0 < 2 ^ 64) × AllFit (placed t at next).1
  words_fit tree.null levels at next f h z room = (omega arith, tt)
  words_fit (tree.capability index) levels at next f h z room = (omega (arith, f), tt)
  words_fit (tree.struct ws ts) levels at next f h z room =
      let d = length ws in
      let p = trees_count ts in
      let found = placed_all ts (next + d) (next + d + p) in
      let n = or_parts (ltb 65535 d) (ltb 65535 p) z.0.0.1 in
      let nd = ltb-false 65535 d n.0 in
      let np = ltb-false 65535 p n.1 in
      let a = length-append ws (found.0 ++ found.1) in
      let b = length-append found.0 found.1 in
      let c = length-placed_all ts (next + d) (next + d + p) in
      let rest = all_fit ts (levels - 1) (next + d) (next + d + p) f h.1 z.1 (omega (arith, a, b, c, room)) in (
        pointer_fits (eqb (d + p) 0) (offset_of at next) d p (omega (arith, room)) (omega (arith, nd)) (omega (arith, np)),
        both_fit ws (found.0 ++ found.1) h.0 (both_fit found.0 found.1 rest.0 rest.1),
      )
  words_fit (tree.list es) levels at next f h z room = list_words_fit es levels at next f h z.0 z.1 room

  all_fit : (ts : Trees) (levels at next : ℕ) → FitsAll ts → HaveWidths ts → HaveSizes (parts_of_all ts levels) → next + length (placed_all ts at next).1 ≤ 65536 → AllFit (placed_all ts at next).0 × AllFit (placed_all ts at next).1
  all_fit tree.no_trees levels at next f h z room = (tt, tt)
  all_fit (tree.tree t ts) levels at next f h z room =
      let first = placed t at next in
      let rest = placed_all ts (at + 1) (next + length first.1) in
      let a = length-append first.1 rest.1 in
      let one = words_fit t levels at next f.0 h.0 (sizes_left (parts t levels) (parts_of_all ts levels) z) (omega (arith, a, room)) in
      let others = all_fit ts levels (at + 1) (next + length first.1) f.1 h.1 (sizes_right (parts t levels) (parts_of_all ts levels) z) (omega (arith, a, room)) in
      ((one.0, others.0), both_fit first.1 rest.1 one.1 others.1)

  list_words_fit : (es : Elements) (levels at next : ℕ) → FitsList es → ListHasWidths es → IsSized (tree.list es) → HaveSizes (parts_of_list es (levels - 1))
      → next + length (placed_list es at next).1 ≤ 65536 → ((placed_list es at next).0 < 2 ^ 64) × AllFit (placed_list es at next).1
  list_words_fit (tree.packed b xs) levels at next f h z below room =
      subst (PackedFit (offset_of at next) next xs) (sym h.0.1) (packed_both h.0.0 (offset_of at next) next xs (omega (arith, room))) h.1 z.0.1 room
  list_words_fit (tree.pointers ts) levels at next f h z below room =
      let n = trees_count ts in
      let found = placed_all ts next (next + n) in
      let a = length-append found.0 found.1 in
      let b = length-placed_all ts next (next + n) in
      let rest = all_fit ts (levels - 1) next (next + n) f h below (omega (arith, a, b, room)) in
      (list_fits (offset_of at next) 6 n (omega (arith, room)) (omega arith) (omega (arith, a, b, room)), both_fit found.0 found.1 rest.0 rest.1)
  list_words_fit (tree.structs d p ss) levels at next f h z below room =
      let n = structs_count ss in
      let size = n * (d + p) in
      let found = placed_structs ss (next + 1) (next + 1 + size) in
      let even = not-false (are_even d p ss) z.0.0 in
      let a = length-append found.0 found.1 in
      let b = length-placed_structs ss d p (next + 1) (next + 1 + size) even in
      let count = few_structs n (d + p) z.1 in
      let rest = structs_fit ss d p (levels - 1) (next + 1) (next + 1 + size) f.1 h.1 even below (omega (arith, a, b, room)) in
      (list_fits (offset_of at next) 7 size (omega (arith, room)) (omega arith) (omega (arith, a, b, room)), (struct_fits n d p (omega (arith, count)) h.0.0 h.0.1, both_fit found.0 found.1 rest.0 rest.1))

  structs_fit : (ss : Structs) (d p levels at next : ℕ) → FitsStructs ss → StructsHaveWidths ss → are_even d p ss ≡ true → HaveSizes (parts_of_structs ss levels) → next + length (placed_structs ss at next).1 ≤ 65536
      → AllFit (placed_structs ss at next).0 × AllFit (placed_structs ss at next).1
  structs_fit tree.no_structs d p levels at next f h even z room = (tt, tt)
  structs_fit (tree.struct_of ws ts ss) d p levels at next f h even z room =
      let g = even_parts d p ws ts ss even in
      let own = placed_all ts (at + length ws) next in
      let rest = placed_structs ss (at + length ws + trees_count ts) (next + length own.1) in
      let a = length-append own.1 rest.1 in
      let one = all_fit ts levels (at + length ws) next f.0 h.0.1 (sizes_left (parts_of_all ts levels) (parts_of_structs ss levels) z) (omega (arith, a, room)) in
      let others = structs_fit ss d p levels (at + length ws + trees_count ts) (next + length own.1) f.1 h.1 g.2 (sizes_right (parts_of_all ts levels) (parts_of_structs ss levels) z) (omega (arith, a, room)) in
      (both_fit ws (own.0 ++ rest.0) h.0.0 (both_fit own.0 rest.0 one.0 others.0), both_fit own.1 rest.1 one.1 others.1)

-- ---- so it reads back

pub reads_anew : (t : Tree) (caps : ℕ) → caps ≤ 2 ^ 32 → refusal t caps ≡ None → HasWidths t → tree_of (record { bytes = written t; caps = caps }) ≡ t
reads_anew t caps few none h =
    let can = can_write t caps none in
    let sizes = good_sizes caps (parts t 64) can.0 can.2 in
    let long = taken_by t 64 0 1 sizes in
    let room = can.1 in
    let f = fits caps few t 64 h can.0 in
    let words = words_fit t 64 0 1 f h sizes (omega (arith, long, room)) in
    (says_written t caps (written t) none f (each_fits (segment_for t) words) refl).1
