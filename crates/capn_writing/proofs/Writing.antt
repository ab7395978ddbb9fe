-- From what was found in a tree to what is written for it.
use Rattle.std.proofs.Common.{◌≡◌, ℕ, ◌+◌, ◌≤◌, Option, None, Some, List, [], ◌∷◌, length, sym, ap, subst, ◌∙◌, arith}
use Rattle.std.specs.Prelude.{MatchOption}
use Rattle.capn_trees.specs.declared.faults.WriteFault.{WriteFault}
use Rattle.capn_trees.specs.declared.measure.Measure.{Measure}
use Rattle.capn_trees.specs.Trees.{Tree}
use Rattle.capn_writing.specs.Placing.{segment_for}
use Rattle.capn_trees.specs.Writable.{Part, parts, words_taken, words_visited, all_words, refusal}
use Rattle.capn_trees.specs.Measuring.{measured, told}
use Rattle.capn_writing.specs.Laying.{HaveSizes}
use Rattle.capn_trees.proofs.Parts.{AreGood}
use Rattle.capn_trees.proofs.Found.{nothing, told_refused, none_refused, words_told}
use Rattle.capn_writing.proofs.Sized.{taken_by, sizes_move, taken_move}

-- parts that can be written have sizes that can be said
pub good_sizes : (caps : ℕ) (ps : List Part) → AreGood caps ps → all_words words_visited ps ≤ 65536 → HaveSizes ps
good_sizes caps [] g le = tt
good_sizes caps (p ∷ ps) g le = (((g.0.0.0, g.0.1.1), omega arith), good_sizes caps ps g.1 (omega arith))

-- Nothing keeps the tree from being written.
abbrev pub CanWrite : Tree → ℕ → Type 0
CanWrite t caps = AreGood caps (parts t 64) × (1 + all_words words_taken (parts t 64) ≤ 65536) × (all_words words_visited (parts t 64) ≤ 65536)

-- What one pass tells is the first reason.
pub told_so : (t : Tree) (caps : ℕ) (start m : Measure) → start ≡ nothing → m ≡ measured caps start (parts t 64) → {o : Option WriteFault} → o ≡ told m → refusal t caps ≡ o
told_so t caps start m begins found tells = sym (tells ∙ ap told (found ∙ ap (λ (s : Measure). measured caps s (parts t 64)) begins) ∙ told_refused caps (parts t 64))

pub can_write : (t : Tree) (caps : ℕ) → refusal t caps ≡ None → CanWrite t caps
can_write t caps none = none_refused caps (parts t 64) none

sizes : (t : Tree) (caps : ℕ) → CanWrite t caps → HaveSizes (parts t 64)
sizes t caps can = good_sizes caps (parts t 64) can.0 can.2

pub sizes_at_root : (t : Tree) (caps : ℕ) → CanWrite t caps → HaveSizes (parts t 0)
sizes_at_root t caps can = sizes_move t 64 0 (sizes t caps can)

pub room_at_root : (t : Tree) (caps : ℕ) → CanWrite t caps → 1 + all_words words_taken (parts t 0) ≤ 65536
room_at_root t caps can = subst (λ n. 1 + n ≤ 65536) (taken_move t 64 0 (sizes t caps can)) can.1

-- The words that were counted are those that the tree takes.
pub count_at_root : (t : Tree) (caps : ℕ) (start m : Measure) → start ≡ nothing → m ≡ measured caps start (parts t 64) → CanWrite t caps → m.words ≡ 1 + all_words words_taken (parts t 0)
count_at_root t caps start m begins found can =
    ap (λ (x : Measure). x.words) (found ∙ ap (λ (s : Measure). measured caps s (parts t 64)) begins)
    ∙ words_told caps (parts t 64) can.1
    ∙ ap (λ k. 1 + k) (taken_move t 64 0 (sizes t caps can))

-- The segment is short enough for its size to be told.
pub short_segment : (t : Tree) (caps : ℕ) (words : List ℕ) → CanWrite t caps → words ≡ segment_for t → length words ≤ 65536
short_segment t caps words can is =
    let long = taken_by t 64 0 1 (sizes t caps can) in
    let short : length (segment_for t) ≤ 65536 = let room = can.1 in omega (arith, long) in
    subst (λ (ws : List ℕ). length ws ≤ 65536) (sym is) short

-- Without a reason, what is asked then is all that is asked.
pub no_reason : (t : Tree) (caps : ℕ) (A : Type 0) (F : WriteFault → Type 0) → refusal t caps ≡ None → A → MatchOption (refusal t caps) A F
no_reason t caps A F none a = subst (λ (o : Option WriteFault). MatchOption o A F) (sym none) a

pub some_reason : (t : Tree) (caps : ℕ) (A : Type 0) (F : WriteFault → Type 0) (fault : WriteFault) → refusal t caps ≡ Some fault → F fault → MatchOption (refusal t caps) A F
some_reason t caps A F fault some f = subst (λ (o : Option WriteFault). MatchOption o A F) (sym some) f
