use Rattle.std.proofs.Common.{◌≡◌, ℕ, ◌+◌, ◌*◌, ◌/◌, ◌<◌, ◌≤◌, List, length, take, drop, get_or, sym, ap, subst, ◌∙◌, arith}
use Rattle.std.specs.Prelude.{slice_index}
use Rattle.std.proofs.lemmas.List.{get_or-drop, length-drop, map-id}
use Rattle.byteorder.specs.Endian.{little_number}
use Rattle.capn_reading.specs.declared.span.Span.{Span}
use Rattle.capn_reading.specs.Segments.{segment_of}
use Rattle.capn_reading.specs.Index.{spanned}
use Rattle.capn_reading.specs.Reading.{elements}
use Rattle.capn_reading.proofs.Spanned.{is_there, length-spanned, size-spanned, word-spanned}
use Rattle.capn_reading.proofs.Bytes.{no_elements, bytes_of_words}
use Rattle.capn_reading.proofs.message.Message.bytes.Goals as goal

pub returns-then-count-eq0 : goal.returns-then-count-eq0
returns-then-count-eq0 c = c.split_at.ensures.front ∙ sym (no_elements (drop c.args.start (segment_of c.args.self.now c.args.segment)) c.args.count c.if-count-eq0.true)

pub split_at-requires-2 : goal.split_at-requires-2
split_at-requires-2 c =
    let a = c.self.inside in
    let none : Span = record { start = 0; size = 0 } in
    let m = spanned a.bytes.now a.count a.spans in
    let inside : c.args.start + (c.args.count * 8 + 63) / 64 ≤ length (segment_of m c.args.segment) = subst (λ (n : List (List ℕ)). c.args.start + (c.args.count * 8 + 63) / 64 ≤ length (segment_of n c.args.segment)) (sym c.self.view_is) c.requires.inside in
    let first : c.args.start < length (segment_of m c.args.segment) = omega (arith, inside, c.if-count-eq0.false) in
    let there : c.args.segment < a.count = omega (arith, is_there m c.args.segment c.args.start first, length-spanned a.bytes.now a.count a.spans c.self.invariant.few) in
    let size = size-spanned a.bytes.now a.count c.args.segment a.spans none c.self.invariant.few there in
    omega (arith, c.self.invariant.inside c.args.segment none there, size, first)

pub split_at-requires-3 : goal.split_at-requires-3
split_at-requires-3 c =
    let a = c.self.inside in
    let none : Span = record { start = 0; size = 0 } in
    let m = spanned a.bytes.now a.count a.spans in
    let inside : c.args.start + (c.args.count * 8 + 63) / 64 ≤ length (segment_of m c.args.segment) = subst (λ (n : List (List ℕ)). c.args.start + (c.args.count * 8 + 63) / 64 ≤ length (segment_of n c.args.segment)) (sym c.self.view_is) c.requires.inside in
    let first : c.args.start < length (segment_of m c.args.segment) = omega (arith, inside, c.if-count-eq0.false) in
    let there : c.args.segment < a.count = omega (arith, is_there m c.args.segment c.args.start first, length-spanned a.bytes.now a.count a.spans c.self.invariant.few) in
    let size = size-spanned a.bytes.now a.count c.args.segment a.spans none c.self.invariant.few there in
    let left = ap length c.split_at-2.ensures.back ∙ length-drop (8 * ((get_or a.spans c.args.segment none).start + c.from.result)) a.bytes.now in
    omega (arith, c.self.invariant.inside c.args.segment none there, size, inside, left, c.from.ensures)

pub returns : goal.returns
returns c =
    let a = c.self.inside in
    let none : Span = record { start = 0; size = 0 } in
    let m = spanned a.bytes.now a.count a.spans in
    let span = get_or a.spans c.args.segment none in
    let ws = drop c.args.start (segment_of m c.args.segment) in
    let inside : c.args.start + (c.args.count * 8 + 63) / 64 ≤ length (segment_of m c.args.segment) = subst (λ (n : List (List ℕ)). c.args.start + (c.args.count * 8 + 63) / 64 ≤ length (segment_of n c.args.segment)) (sym c.self.view_is) c.requires.inside in
    let first : c.args.start < length (segment_of m c.args.segment) = omega (arith, inside, c.if-count-eq0.false) in
    let there : c.args.segment < a.count = omega (arith, is_there m c.args.segment c.args.start first, length-spanned a.bytes.now a.count a.spans c.self.invariant.few) in
    let size = size-spanned a.bytes.now a.count c.args.segment a.spans none c.self.invariant.few there in
    let from : span.start + c.from.result ≡ span.start + c.args.start = omega (arith, c.from.ensures) in
    let stand : (k : ℕ) → k * 8 < c.args.count → slice_index ws k ≡ little_number 8 (drop (8 * (span.start + c.args.start + k)) a.bytes.now) = λ k lt.
    let below : c.args.start + k < length (segment_of m c.args.segment) = omega (arith, lt, inside) in
    let place : span.start + (c.args.start + k) ≡ span.start + c.args.start + k = omega arith in
    get_or-drop c.args.start (segment_of m c.args.segment) k 0 ∙ word-spanned a.bytes.now a.count c.args.segment (c.args.start + k) a.spans none c.self.invariant.few there below
    ∙ ap (λ (i : ℕ). little_number 8 (drop (8 * i) a.bytes.now)) place in
    let small : (k : ℕ) → slice_index a.bytes.now k < 256 = λ k. rw (map-id a.bytes.now) at (c.fit.ensures k) in
    c.split_at-3.ensures.front ∙ ap (take c.args.count) (c.split_at-2.ensures.back ∙ ap (λ (i : ℕ). drop (8 * i) a.bytes.now) from)
    ∙ bytes_of_words a.bytes.now ws (span.start + c.args.start) c.args.count small stand (omega (arith, c.self.invariant.inside c.args.segment none there, size, inside))
    ∙ ap (λ (n : List (List ℕ)). elements (drop c.args.start (segment_of n c.args.segment)) 8 0 c.args.count) c.self.view_is

pub offset_bounds-self-inside-segment : goal.offset_bounds-self-inside-segment
offset_bounds-self-inside-segment c =
    let a = c.self.inside in
    let none : Span = record { start = 0; size = 0 } in
    let m = spanned a.bytes.now a.count a.spans in
    let inside : c.args.start + (c.args.count * 8 + 63) / 64 ≤ length (segment_of m c.args.segment) = subst (λ (n : List (List ℕ)). c.args.start + (c.args.count * 8 + 63) / 64 ≤ length (segment_of n c.args.segment)) (sym c.self.view_is) c.requires.inside in
    let first : c.args.start < length (segment_of m c.args.segment) = omega (arith, inside, c.if-count-eq0.false) in
    let there : c.args.segment < a.count = omega (arith, is_there m c.args.segment c.args.start first, length-spanned a.bytes.now a.count a.spans c.self.invariant.few) in
    let few = c.self.invariant.few in
    omega (arith, there, few)

pub bounds-self-inside-segment : goal.bounds-self-inside-segment
bounds-self-inside-segment c =
    let a = c.self.inside in
    let none : Span = record { start = 0; size = 0 } in
    let m = spanned a.bytes.now a.count a.spans in
    let inside : c.args.start + (c.args.count * 8 + 63) / 64 ≤ length (segment_of m c.args.segment) = subst (λ (n : List (List ℕ)). c.args.start + (c.args.count * 8 + 63) / 64 ≤ length (segment_of n c.args.segment)) (sym c.self.view_is) c.requires.inside in
    let first : c.args.start < length (segment_of m c.args.segment) = omega (arith, inside, c.if-count-eq0.false) in
    let there : c.args.segment < a.count = omega (arith, is_there m c.args.segment c.args.start first, length-spanned a.bytes.now a.count a.spans c.self.invariant.few) in
    let few = c.self.invariant.few in
    omega (arith, there, few)

pub overflow_add-place : goal.overflow_add-place
overflow_add-place c =
    let a = c.self.inside in
    let none : Span = record { start = 0; size = 0 } in
    let m = spanned a.bytes.now a.count a.spans in
    let inside : c.args.start + (c.args.count * 8 + 63) / 64 ≤ length (segment_of m c.args.segment) = subst (λ (n : List (List ℕ)). c.args.start + (c.args.count * 8 + 63) / 64 ≤ length (segment_of n c.args.segment)) (sym c.self.view_is) c.requires.inside in
    let first : c.args.start < length (segment_of m c.args.segment) = omega (arith, inside, c.if-count-eq0.false) in
    let there : c.args.segment < a.count = omega (arith, is_there m c.args.segment c.args.start first, length-spanned a.bytes.now a.count a.spans c.self.invariant.few) in
    let size = size-spanned a.bytes.now a.count c.args.segment a.spans none c.self.invariant.few there in
    omega (arith, c.self.invariant.inside c.args.segment none there, size, first)

pub overflow_mul-place : goal.overflow_mul-place
overflow_mul-place c =
    let a = c.self.inside in
    let none : Span = record { start = 0; size = 0 } in
    let m = spanned a.bytes.now a.count a.spans in
    let inside : c.args.start + (c.args.count * 8 + 63) / 64 ≤ length (segment_of m c.args.segment) = subst (λ (n : List (List ℕ)). c.args.start + (c.args.count * 8 + 63) / 64 ≤ length (segment_of n c.args.segment)) (sym c.self.view_is) c.requires.inside in
    let first : c.args.start < length (segment_of m c.args.segment) = omega (arith, inside, c.if-count-eq0.false) in
    let there : c.args.segment < a.count = omega (arith, is_there m c.args.segment c.args.start first, length-spanned a.bytes.now a.count a.spans c.self.invariant.few) in
    let size = size-spanned a.bytes.now a.count c.args.segment a.spans none c.self.invariant.few there in
    omega (arith, c.self.invariant.inside c.args.segment none there, size, first)
