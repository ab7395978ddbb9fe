-- The frames of a stream are found one after the other, however it is cut.
use Rattle.std.proofs.Common.{◌≡◌, ◌⊎◌, inl, inr, ℕ, ◌+◌, ◌*◌, ◌≤◌, List, [], ◌∷◌, ◌++◌, append-nil, append_assoc, length, length-append, sum, refl, sym, ap, subst, ◌∙◌, arith}
use Rattle.std.specs.List.{concat}
use Rattle.capn_reading.specs.Framing.{segment_count, sizes}
use Rattle.capn_stream.specs.declared.front.Front.TheVariants.{Complete}
use Rattle.capn_stream.specs.Fronts.{front_of, IsFrame}
use Rattle.capn_stream.proofs.Numbers as numbers
use Rattle.capn_stream.proofs.Stable.{complete_stays}
use Rattle.capn_fronts.specs.Parts.{Part, count_of, front_of as part_front_of}
use Rattle.capn_fronts.specs.Laws.{IsKept}
use Rattle.capn_fronts.proofs.Numbers as parts
use Rattle.capn_fronts.proofs.Grown.{count_stays, sizes_stay}
use Rattle.capn_fronts.proofs.Held.{keeps, table_there, whole_frame, whole_held}

pub concat_append : (xs ys : List (List ℕ)) → concat (xs ++ ys) ≡ concat xs ++ concat ys
concat_append [] ys = refl
concat_append (x ∷ xs) ys = ap (λ zs. x ++ zs) (concat_append xs ys) ∙ sym (append_assoc x (concat xs) (concat ys))

complete_in : (m n : ℕ) → Complete m ≡ Complete n → m ≡ n
complete_in m n e = cc

-- Two beginnings of one list that are as long are one.
same_front : (xs ys cs bs : List ℕ) → length xs ≡ length ys → xs ++ cs ≡ ys ++ bs → (xs ≡ ys) × (cs ≡ bs)
same_front [] [] cs bs l e = (refl, e)
same_front [] (y ∷ ys) cs bs l e = absurd (omega arith)
same_front (x ∷ xs) [] cs bs l e = absurd (omega arith)
same_front (x ∷ xs) (y ∷ ys) cs bs l e =
    let h : x ≡ y = cc in
    let t : xs ++ cs ≡ ys ++ bs = cc in
    let r = same_front xs ys cs bs (omega arith) t in
    ((λ i. h i ∷ r.0 i), r.1)

-- Where a frame stands at the front of the same bytes as another, it is that.
pub same_frame : (f g cs bs : List ℕ) → IsFrame f → IsFrame g → f ++ cs ≡ g ++ bs → (f ≡ g) × (cs ≡ bs)
same_frame f g cs bs i j e =
    let a = complete_stays f cs (length f) i in
    let b = complete_stays g bs (length g) j in
    same_front f g cs bs (complete_in (length f) (length g) (sym a ∙ ap front_of e ∙ b)) e

-- ---- what is kept of a frame

no_bytes_of : (bytes : List ℕ) → length bytes ≡ 0 → bytes ≡ []
no_bytes_of [] none = refl
no_bytes_of (b ∷ bytes) none = absurd (omega (arith, none))

-- No frame is empty.
pub not_empty : (frame cs : List ℕ) (p : Part) → IsKept frame p → frame ++ cs ≡ [] → ⊥
unfolding part_front_of
not_empty frame cs p ((gone, is, count), whole) e =
    let four = parts.complete_counts (count_of p) (segment_count p.kept) (sum (sizes p.kept)) (count_of p) whole.whole in
    let none = ap length (sym (ap (λ (f : List ℕ). f ++ cs) is) ∙ e) in
    omega (arith, four, count, none, length-append (p.kept ++ gone) cs, length-append p.kept gone)

-- What the table says stays the same as more bytes come.
record Tables (a b : List ℕ) : Type 0 where
  count : segment_count (a ++ b) ≡ segment_count a
  words : sum (sizes (a ++ b)) ≡ sum (sizes a)

tables : (a b : List ℕ) → 4 + 4 * segment_count a ≤ length a → Tables a b
tables a b there = record { count = count_stays a b (omega (arith, there)); words = ap sum (sizes_stay a b there) }

part_table : (p : Part) → part_front_of p ≡ Complete (count_of p) → (p.dropped ≡ 0) ⊎ (72 ≤ length p.kept) → 4 + 4 * segment_count p.kept ≤ length p.kept
unfolding part_front_of
part_table p whole (inl none) = let table = parts.complete_table (count_of p) (segment_count p.kept) (sum (sizes p.kept)) (count_of p) whole in omega (arith, table, none)
part_table p whole (inr there) = let few = parts.complete_few (count_of p) (segment_count p.kept) (sum (sizes p.kept)) (count_of p) whole in omega (arith, few, there)

frame_table : (g : List ℕ) → IsFrame g → 4 + 4 * segment_count g ≤ length g
unfolding front_of
frame_table g whole = let table = numbers.complete_table (length g) (segment_count g) (sum (sizes g)) (length g) whole in omega (arith, table)

frame_words : (g : List ℕ) → IsFrame g → sum (sizes g) ≤ 65536
unfolding front_of
frame_words g whole = numbers.complete_small (length g) (segment_count g) (sum (sizes g)) (length g) whole

-- Where a frame of a message stands at the front of the same bytes as a frame of which this is kept, all of it is kept, and it is that.
pub record IsSame (frame g cs bs : List ℕ) (p : Part) : Type 0 where
  pub same : frame ≡ g
  pub behind : cs ≡ bs
  pub kept : p.kept ≡ g
  pub whole : p.dropped ≡ 0

pub same_kept : (frame g cs bs : List ℕ) (p : Part) → IsKept frame p → IsFrame g → frame ++ cs ≡ g ++ bs → IsSame frame g cs bs p
same_kept frame g cs bs p ((gone, is, count), whole) small e =
    let joined : p.kept ++ (gone ++ cs) ≡ g ++ bs = sym (append_assoc p.kept gone cs) ∙ ap (λ (f : List ℕ). f ++ cs) (sym is) ∙ e in
    let of_p = tables p.kept (gone ++ cs) (part_table p whole.whole (table_there p (whole_held p whole))) in
    let of_g = tables g bs (frame_table g small) in
    let words : sum (sizes p.kept) ≡ sum (sizes g) = sym of_p.words ∙ ap (λ (x : List ℕ). sum (sizes x)) joined ∙ of_g.words in
    let none : p.dropped ≡ 0 = elim (keeps p whole) [
      | inl all ↦ all.0
      | inr large ↦ let few = frame_words g small in let more = large.1 in absurd (omega (arith, few, more, words))
    ] in
    let all : frame ≡ p.kept = is ∙ ap (λ (x : List ℕ). p.kept ++ x) (no_bytes_of gone (count ∙ none)) ∙ append-nil p.kept in
    let s = same_frame frame g cs bs (subst IsFrame (sym all) (whole_frame p whole none)) small e in
    record { same = s.0; behind = s.1; kept = sym all ∙ s.0; whole = none }
