-- Whether nodes meet a limit, told by how often each stands among those before it.
use Rattle.std.proofs.Common.{◌≡◌, ℕ, zero, suc, ◌+◌, ◌<◌, ◌||◌, Bool, true, false, List, [], ◌∷◌, count_by, take, drop, get_or, length, Option, Some, None, if◌then◌else◌, refl, sym, ap, ◌∙◌, arith}
use Rattle.std.proofs.lemmas.List.Sums.{count_by_more_yes, count_by_more_no}
use Rattle.std.proofs.Math.Seq.{drop-cons}
use Rattle.rpc_machine.specs.declared.node.Node.{Node}
use Rattle.vat_tables.specs.Exports.{node_eq, is_name_limit, size_then, one_more, counts_then, meet_limit, added}
use Rattle.vat_tables.specs.declared.fault.TableFault.{TableFault}
use Rattle.vat_tables.specs.declared.fault.TableFault.TheVariants.{Full, Memory}
use Rattle.vat_tables.proofs.NodeKeys.{node_same, node_itself}

-- equal counts meet the same limits
pub meet_alike : (size : ℕ) (f g : Node → Option ℕ) (nodes : List Node) → ((node : Node) → f node ≡ g node) → meet_limit size f nodes ≡ meet_limit size g nodes
meet_alike size f g [] same = refl
meet_alike size f g (n ∷ ns) same =
    ap (λ o. is_name_limit size o || meet_limit (size_then size o) (counts_then f n) ns) (same n)
    ∙ ap (λ b. is_name_limit size (g n) || b) (meet_alike (size_then size (g n)) (counts_then f n) (counts_then g n) ns (λ k. then_alike k (node_eq k n)))
  where
    then_alike : (k : Node) (b : Bool) → (if b then Some (one_more (f n)) else f k) ≡ (if b then Some (one_more (g n)) else g k)
    then_alike k true = ap (λ o. Some (one_more o)) (same n)
    then_alike k false = same k

added_more : (o : Option ℕ) (m j : ℕ) → j ≡ suc m → Some (one_more (added o m)) ≡ added o j
added_more None zero j e = sym (ap (added None) e)
added_more None (suc m) j e = let a : suc m + 1 ≡ suc (suc m) = omega arith in ap Some a ∙ sym (ap (added None) e)
added_more (Some c) m j e = let a : c + m + 1 ≡ c + j = omega (arith, e) in ap Some a

-- the counts once these were named
abbrev pub counts_at : (Node → Option ℕ) → List Node → Node → Option ℕ
counts_at counts done node = added (counts node) (count_by (λ n. node_eq n node) done)

other_way : (x k : Node) → node_eq k x ≡ false → node_eq x k ≡ false
other_way x k e = by (node_eq x k) refl
  where
    by : (b : Bool) → node_eq x k ≡ b → b ≡ false
    by true same = let f : true ≡ false = sym (node_itself x) ∙ ap (λ n. node_eq n x) (node_same x k same) ∙ e in cc
    by false same = refl

counts_next : (counts : Node → Option ℕ) (xs : List Node) (i : ℕ) (x : Node) → i < length xs → x ≡ get_or xs i x → (k : Node) → counts_then (counts_at counts (take i xs)) x k ≡ counts_at counts (take (i + 1) xs) k
counts_next counts xs i x lt at k = by (node_eq k x) refl
  where
    by : (b : Bool) → node_eq k x ≡ b → (if b then Some (one_more (counts_at counts (take i xs) x)) else counts_at counts (take i xs) k) ≡ counts_at counts (take (i + 1) xs) k
    by true same =
        let k_is : k ≡ x = node_same k x same in
        let yes : node_eq (get_or xs i x) k ≡ true = ap (λ n. node_eq n k) (sym at) ∙ ap (node_eq x) k_is ∙ node_itself x in
        let more = count_by_more_yes (λ n. node_eq n k) xs i x lt yes in
        ap (λ n. Some (one_more (counts_at counts (take i xs) n))) (sym k_is)
        ∙ added_more (counts k) (count_by (λ n. node_eq n k) (take i xs)) (count_by (λ n. node_eq n k) (take (i + 1) xs)) (omega (arith, more))
    by false apart =
        let no : node_eq (get_or xs i x) k ≡ false = ap (λ n. node_eq n k) (sym at) ∙ other_way x k apart in
        ap (added (counts k)) (sym (count_by_more_no (λ n. node_eq n k) xs i x lt no))

ahead : (xs : List Node) (i : ℕ) (x : Node) → i < length xs → x ≡ get_or xs i x → drop i xs ≡ x ∷ drop (i + 1) xs
ahead xs i x lt at =
    let next : suc i ≡ i + 1 = omega arith in
    drop-cons xs i x lt ∙ ap (λ n. n ∷ drop (suc i) xs) (sym at) ∙ ap (λ j. x ∷ drop j xs) next

-- the node at hand meets no limit
pub foresee_next : (size next : ℕ) (counts : Node → Option ℕ) (xs : List Node) (i : ℕ) (x : Node) → i < length xs → x ≡ get_or xs i x
    → is_name_limit size (counts_at counts (take i xs) x) ≡ false → next ≡ size_then size (counts_at counts (take i xs) x)
    → meet_limit size (counts_at counts (take i xs)) (drop i xs) ≡ meet_limit next (counts_at counts (take (i + 1) xs)) (drop (i + 1) xs)
foresee_next size next counts xs i x lt at below is =
    ap (meet_limit size (counts_at counts (take i xs))) (ahead xs i x lt at)
    ∙ ap (λ b. b || meet_limit (size_then size (counts_at counts (take i xs) x)) (counts_then (counts_at counts (take i xs)) x) (drop (i + 1) xs)) below
    ∙ ap (λ n. meet_limit n (counts_then (counts_at counts (take i xs)) x) (drop (i + 1) xs)) (sym is)
    ∙ meet_alike next (counts_then (counts_at counts (take i xs)) x) (counts_at counts (take (i + 1) xs)) (drop (i + 1) xs) (counts_next counts xs i x lt at)

-- or it meets one
pub foresee_met : (size : ℕ) (counts : Node → Option ℕ) (xs : List Node) (i : ℕ) (x : Node) → i < length xs → x ≡ get_or xs i x
    → is_name_limit size (counts_at counts (take i xs) x) ≡ true → meet_limit size (counts_at counts (take i xs)) (drop i xs) ≡ true
foresee_met size counts xs i x lt at met =
    ap (meet_limit size (counts_at counts (take i xs))) (ahead xs i x lt at)
    ∙ ap (λ b. b || meet_limit (size_then size (counts_at counts (take i xs) x)) (counts_then (counts_at counts (take i xs)) x) (drop (i + 1) xs)) met

pub added_none : (o : Option ℕ) → added o zero ≡ o
added_none None = refl
added_none (Some c) = let e : c + zero ≡ c = omega arith in ap Some e

-- before the first of them
pub foresee_first : (size : ℕ) (counts : Node → Option ℕ) (xs : List Node) → meet_limit size counts xs ≡ meet_limit size (counts_at counts (take zero xs)) (drop zero xs)
foresee_first size counts xs = meet_alike size counts (counts_at counts []) xs (λ k. sym (added_none (counts k)))

-- ---- The fault where there is no memory
