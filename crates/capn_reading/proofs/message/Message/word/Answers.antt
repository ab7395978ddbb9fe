use Rattle.std.proofs.Common.{◌<◌, length, List, ℕ, sym, ap, subst, ◌∙◌, arith}
use Rattle.capn_reading.specs.declared.span.Span.{Span}
use Rattle.capn_reading.specs.Segments.{segment_of, word_at}
use Rattle.capn_reading.specs.Index.{spanned}
use Rattle.capn_reading.proofs.Spanned.{is_there, length-spanned, size-spanned, word-spanned}
use Rattle.capn_reading.proofs.message.Message.word.Goals as goal

pub u64_at-requires : goal.u64_at-requires
u64_at-requires c =
    let a = c.self.inside in
    let none : Span = record { start = 0; size = 0 } in
    let inside : c.args.index < length (segment_of (spanned a.bytes.now a.count a.spans) c.args.segment) = subst (λ (m : List (List ℕ)). c.args.index < length (segment_of m c.args.segment)) (sym c.self.view_is) c.requires in
    let there : c.args.segment < a.count = omega (arith, is_there (spanned a.bytes.now a.count a.spans) c.args.segment c.args.index inside, length-spanned a.bytes.now a.count a.spans c.self.invariant.few) in
    let size = size-spanned a.bytes.now a.count c.args.segment a.spans none c.self.invariant.few there in
    omega (arith, c.self.invariant.inside c.args.segment none there)

pub returns : goal.returns
returns c =
    let a = c.self.inside in
    let none : Span = record { start = 0; size = 0 } in
    let inside : c.args.index < length (segment_of (spanned a.bytes.now a.count a.spans) c.args.segment) = subst (λ (m : List (List ℕ)). c.args.index < length (segment_of m c.args.segment)) (sym c.self.view_is) c.requires in
    let there : c.args.segment < a.count = omega (arith, is_there (spanned a.bytes.now a.count a.spans) c.args.segment c.args.index inside, length-spanned a.bytes.now a.count a.spans c.self.invariant.few) in
    let word = word-spanned a.bytes.now a.count c.args.segment c.args.index a.spans none c.self.invariant.few there inside in
    rw (c.u64_at.ensures, c.from.ensures) (sym word ∙ ap (λ (m : List (List ℕ)). word_at m c.args.segment c.args.index) c.self.view_is)

pub bounds-self-inside-segment : goal.bounds-self-inside-segment
bounds-self-inside-segment c =
    let a = c.self.inside in
    let none : Span = record { start = 0; size = 0 } in
    let inside : c.args.index < length (segment_of (spanned a.bytes.now a.count a.spans) c.args.segment) = subst (λ (m : List (List ℕ)). c.args.index < length (segment_of m c.args.segment)) (sym c.self.view_is) c.requires in
    let there : c.args.segment < a.count = omega (arith, is_there (spanned a.bytes.now a.count a.spans) c.args.segment c.args.index inside, length-spanned a.bytes.now a.count a.spans c.self.invariant.few) in
    let few = c.self.invariant.few in
    omega (arith, there, few)

pub overflow_add-place : goal.overflow_add-place
overflow_add-place c =
    let a = c.self.inside in
    let none : Span = record { start = 0; size = 0 } in
    let inside : c.args.index < length (segment_of (spanned a.bytes.now a.count a.spans) c.args.segment) = subst (λ (m : List (List ℕ)). c.args.index < length (segment_of m c.args.segment)) (sym c.self.view_is) c.requires in
    let there : c.args.segment < a.count = omega (arith, is_there (spanned a.bytes.now a.count a.spans) c.args.segment c.args.index inside, length-spanned a.bytes.now a.count a.spans c.self.invariant.few) in
    let size = size-spanned a.bytes.now a.count c.args.segment a.spans none c.self.invariant.few there in
    omega (arith, c.self.invariant.inside c.args.segment none there, size, inside)

pub overflow_mul-place : goal.overflow_mul-place
overflow_mul-place c =
    let a = c.self.inside in
    let none : Span = record { start = 0; size = 0 } in
    let inside : c.args.index < length (segment_of (spanned a.bytes.now a.count a.spans) c.args.segment) = subst (λ (m : List (List ℕ)). c.args.index < length (segment_of m c.args.segment)) (sym c.self.view_is) c.requires in
    let there : c.args.segment < a.count = omega (arith, is_there (spanned a.bytes.now a.count a.spans) c.args.segment c.args.index inside, length-spanned a.bytes.now a.count a.spans c.self.invariant.few) in
    let size = size-spanned a.bytes.now a.count c.args.segment a.spans none c.self.invariant.few there in
    omega (arith, c.self.invariant.inside c.args.segment none there, size, inside)
