-- How many words are laid down.
use Rattle.std.proofs.Common.{◌≡◌, ℕ, zero, suc, ◌+◌, ◌*◌, ◌/◌, true, List, ◌++◌, length, drop, refl, ap, ◌∙◌, arith}
use Rattle.std.proofs.lemmas.List.{length-append}
use Rattle.capn_trees.specs.Trees as tree
use Rattle.capn_trees.specs.Trees.{Trees, Structs, trees_count, structs_count}
use Rattle.capn_writing.specs.Placing.{packed_words, placed, placed_all, placed_structs}
use Rattle.capn_trees.specs.Writable.{are_even}
use Rattle.capn_trees.proofs.Parts.{even_parts}

pub length-packed : (b n : ℕ) (xs : List ℕ) → length (packed_words b n xs) ≡ n
length-packed b zero xs = refl
length-packed b (suc n) xs = ap suc (length-packed b n (drop (64 / b) xs))

pub length-placed_all : (ts : Trees) (at next : ℕ) → length (placed_all ts at next).0 ≡ trees_count ts
length-placed_all tree.no_trees at next = refl
length-placed_all (tree.tree t ts) at next = ap suc (length-placed_all ts (at + 1) (next + length (placed t at next).1))

pub length-placed_structs : (ss : Structs) (d p at next : ℕ) → are_even d p ss ≡ true → length (placed_structs ss at next).0 ≡ structs_count ss * (d + p)
length-placed_structs tree.no_structs d p at next e = omega arith
length-placed_structs (tree.struct_of ws ts ss) d p at next e =
    let f = even_parts d p ws ts ss e in
    let own = (placed_all ts (at + length ws) next).0 in
    let rest = (placed_structs ss (at + length ws + trees_count ts) (next + length (placed_all ts (at + length ws) next).1)).0 in
    let a = length-append ws (own ++ rest) in
    let b = length-append own rest in
    let c = length-placed_all ts (at + length ws) next in
    let g = length-placed_structs ss d p (at + length ws + trees_count ts) (next + length (placed_all ts (at + length ws) next).1) f.2 in
    let more : suc (structs_count ss) * (d + p) ≡ (d + p) + structs_count ss * (d + p) = omega arith in
    let fd = f.0 in
    let fp = f.1 in
    a ∙ omega (arith, b, c, g, more, fd, fp)
