-- Pointer words that were laid down are read again.
use Rattle.std.proofs.Common.{◌≡◌, ℕ, ◌+◌, ◌-◌, ◌*◌, ◌/◌, ◌%◌, ◌^◌, ◌<◌, true, false, eqb, ltb, Option, Some, refl, ap, ◌∙◌, arith}
use Rattle.std.proofs.lemmas.Bool.{eq-eqb, ne_eqb, lt-ltb, le-ltb}
use Rattle.capn_trees.specs.declared.width.Width.{Width}
use Rattle.capn_trees.specs.declared.width.Width.TheVariants as width
use Rattle.capn_reading.specs.declared.pointer.Shape.{Shape}
use Rattle.capn_reading.specs.declared.pointer.Shape.TheVariants as shape
use Rattle.capn_reading.specs.declared.pointer.Pointer.{Pointer}
use Rattle.capn_reading.specs.declared.pointer.Pointer.TheVariants as pointer
use Rattle.capn_reading.specs.declared.pointer.Tag.{Tag}
use Rattle.capn_trees.specs.Widths.{bits_of}
use Rattle.capn_reading.specs.Pointers.{decoded, list_shape, middle, upper, tag_of}
use Rattle.capn_reading.specs.Following.{target}
use Rattle.capn_writing.specs.Placing.{struct_word, list_word, capability_word, offset_of, size_number}

abbrev content : ℕ → Shape → Pointer
content offset s = pointer.Content offset s

abbrev struct_of_size : ℕ → ℕ → Shape
struct_of_size d p = shape.Struct d p

abbrev some_tag : ℕ → ℕ → ℕ → Option Tag
some_tag n d p = Some (record { count = n; data_words = d; pointer_words = p })

module _ (offset d p : ℕ) (small : offset < 2 ^ 30) (few : d < 2 ^ 16) (few_pointers : p < 2 ^ 16) where
  struct_kind : struct_word offset d p % 4 ≡ 0
  struct_kind = omega arith

  struct_middle : middle (struct_word offset d p) ≡ offset
  struct_middle = omega arith

  struct_upper : upper (struct_word offset d p) ≡ d + 2 ^ 16 * p
  struct_upper = omega arith

  low_half : upper (struct_word offset d p) % 2 ^ 16 ≡ d
  low_half = omega (arith, struct_upper)

  high_half : upper (struct_word offset d p) / 2 ^ 16 ≡ p
  high_half = omega (arith, struct_upper)

  pub decoded_struct : 0 < offset + d + p → decoded (struct_word offset d p) ≡ pointer.Content offset (shape.Struct d p)
  decoded_struct some =
      let not_null : eqb (struct_word offset d p) 0 ≡ false = ne_eqb _ _ (λ e. omega arith) in
      let kind : eqb (struct_word offset d p % 4) 0 ≡ true = eq-eqb _ _ struct_kind in
      rw (not_null, kind) (
      ap (λ (o : ℕ). content o (struct_of_size (upper (struct_word offset d p) % 2 ^ 16) (upper (struct_word offset d p) / 2 ^ 16))) struct_middle
      ∙ ap (λ (x : ℕ). content offset (struct_of_size x (upper (struct_word offset d p) / 2 ^ 16))) low_half
      ∙ ap (λ (y : ℕ). content offset (struct_of_size d y)) high_half)

  pub tag_again : tag_of (struct_word offset d p) ≡ Some (record { count = offset; data_words = d; pointer_words = p })
  tag_again =
      let kind : eqb (struct_word offset d p % 4) 0 ≡ true = eq-eqb _ _ struct_kind in
      rw kind (
      ap (λ (o : ℕ). some_tag o (upper (struct_word offset d p) % 2 ^ 16) (upper (struct_word offset d p) / 2 ^ 16)) struct_middle
      ∙ ap (λ (x : ℕ). some_tag offset x (upper (struct_word offset d p) / 2 ^ 16)) low_half
      ∙ ap (λ (y : ℕ). some_tag offset d y) high_half)

module _ (offset size count : ℕ) (small : offset < 2 ^ 30) (short : size < 8) (few : count < 2 ^ 29) where
  list_kind : list_word offset size count % 4 ≡ 1
  list_kind = omega arith

  list_middle : middle (list_word offset size count) ≡ offset
  list_middle = omega arith

  list_upper : upper (list_word offset size count) ≡ size + 8 * count
  list_upper = omega arith

  decoded_list : decoded (list_word offset size count) ≡ pointer.Content offset (list_shape (size + 8 * count))
  decoded_list =
      let not_null : eqb (list_word offset size count) 0 ≡ false = ne_eqb _ _ (λ e. omega arith) in
      let first : eqb (list_word offset size count % 4) 0 ≡ false = ne_eqb _ _ (λ e. omega (arith, list_kind)) in
      let kind : eqb (list_word offset size count % 4) 1 ≡ true = eq-eqb _ _ list_kind in
      rw (not_null, first, kind) (
      ap (λ (o : ℕ). content o (list_shape (upper (list_word offset size count)))) list_middle
      ∙ ap (λ (h : ℕ). content offset (list_shape h)) list_upper)

low_size : (size count : ℕ) → size < 8 → (size + 8 * count) % 8 ≡ size
low_size size count short = omega arith

high_count : (size count : ℕ) → size < 8 → (size + 8 * count) / 8 ≡ count
high_count size count short = omega arith

packed_shape : (w : Width) (count : ℕ) → list_shape (size_number (bits_of w) + 8 * count) ≡ shape.Packed w count
packed_shape width.Void count = rw (low_size 0 count (omega arith), high_count 0 count (omega arith)) refl
packed_shape width.Bit count = rw (low_size 1 count (omega arith), high_count 1 count (omega arith)) refl
packed_shape width.Byte count = rw (low_size 2 count (omega arith), high_count 2 count (omega arith)) refl
packed_shape width.TwoBytes count = rw (low_size 3 count (omega arith), high_count 3 count (omega arith)) refl
packed_shape width.FourBytes count = rw (low_size 4 count (omega arith), high_count 4 count (omega arith)) refl
packed_shape width.EightBytes count = rw (low_size 5 count (omega arith), high_count 5 count (omega arith)) refl

small_size : (w : Width) → size_number (bits_of w) < 8
small_size width.Void = omega arith
small_size width.Bit = omega arith
small_size width.Byte = omega arith
small_size width.TwoBytes = omega arith
small_size width.FourBytes = omega arith
small_size width.EightBytes = omega arith

pub decoded_packed : (w : Width) (offset count : ℕ) → offset < 2 ^ 30 → count < 2 ^ 29 → decoded (list_word offset (size_number (bits_of w)) count) ≡ pointer.Content offset (shape.Packed w count)
decoded_packed w offset count small few = decoded_list offset (size_number (bits_of w)) count small (small_size w) few ∙ ap (content offset) (packed_shape w count)

pub decoded_pointers : (offset count : ℕ) → offset < 2 ^ 30 → count < 2 ^ 29 → decoded (list_word offset 6 count) ≡ pointer.Content offset (shape.Pointers count)
decoded_pointers offset count small few =
    decoded_list offset 6 count small (omega arith) few
    ∙ rw (low_size 6 count (omega arith), high_count 6 count (omega arith)) refl

pub decoded_structs : (offset count : ℕ) → offset < 2 ^ 30 → count < 2 ^ 29 → decoded (list_word offset 7 count) ≡ pointer.Content offset (shape.Composite count)
decoded_structs offset count small few =
    decoded_list offset 7 count small (omega arith) few
    ∙ rw (low_size 7 count (omega arith), high_count 7 count (omega arith)) refl

pub decoded_capability : (index : ℕ) → index < 2 ^ 32 → decoded (capability_word index) ≡ pointer.Other 0 index
decoded_capability index small =
    let not_null : eqb (capability_word index) 0 ≡ false = ne_eqb _ _ (λ e. omega arith) in
    let a : eqb (capability_word index % 4) 0 ≡ false = ne_eqb _ _ (λ e. omega arith) in
    let b : eqb (capability_word index % 4) 1 ≡ false = ne_eqb _ _ (λ e. omega arith) in
    let c : eqb (capability_word index % 4) 2 ≡ false = ne_eqb _ _ (λ e. omega arith) in
    let no_middle : middle (capability_word index) ≡ 0 = omega arith in
    let is_index : upper (capability_word index) ≡ index = omega arith in
    rw (not_null, a, b, c) (
    ap (λ (o : ℕ). other o (upper (capability_word index))) no_middle
    ∙ ap (λ (i : ℕ). other 0 i) is_index)
  where
    other : ℕ → ℕ → Pointer
    other o i = pointer.Other o i

abbrev some : ℕ → Option ℕ
some n = Some n

pub target_ahead : (at next : ℕ) → at < next → next < 2 ^ 29 → target at (offset_of at next) ≡ Some next
target_ahead at next lt small =
    let ahead : ltb (offset_of at next) (2 ^ 29) ≡ true = lt-ltb _ _ (omega arith) in
    let place : at + 1 + offset_of at next ≡ next = omega arith in
    rw ahead (ap some place)

-- offset -1
pub target_here : (at : ℕ) → target at (2 ^ 30 - 1) ≡ Some at
target_here at =
    let inside : ltb (at + 1 + (2 ^ 30 - 1)) (2 ^ 30) ≡ false = le-ltb _ _ (omega arith) in
    let place : at + 1 + (2 ^ 30 - 1) - 2 ^ 30 ≡ at = omega arith in
    rw inside (ap some place)
