use Rattle.std.proofs.Common.{◌≡◌, ◌+◌, ◌-◌, ◌*◌, ◌≤◌, Ok, sym, ◌∙◌, arith}
use Rattle.std.proofs.Math.Nat.{mul-le-mul_right}
use Rattle.std.proofs.lemmas.Result.{err_from_is_err_and}
use Rattle.capn_reading.specs.Reading.{reading, pointers_at, visited_of}
use Rattle.capn_reading.proofs.Steps.{ends_before, pointers_more, pointers_stop, pointers_done, structs_more, structs_stop, structs_done, reading_stop, reading_null, reading_plain, reading_too_deep, reading_unlaid, reading_heavy, reading_content, content_of-Struct, content_of-Packed, content_of-Pointers, content_of-Structs, content_of-Structs_skipped}
use Rattle.capn_reading.proofs.walk.+walk.Goals as goal

pub walk_pointer-returns-in_err-referent : goal.walk_pointer-returns-in_err-referent
walk_pointer-returns-in_err-referent t c =
    let p = err_from_is_err_and c.from_residual.result c.from_residual.ensures.1 in
    rw (p.1, p.2) (reading_stop c.args.message.now c.args.caps c.args.levels c.args.segment c.args.index c.args.visited c.in_err-referent.field-0.0 c.in_err-referent.ensures)

pub walk_pointer-returns-in_default : goal.walk_pointer-returns-in_default
walk_pointer-returns-in_default t c =
    reading_plain c.args.message.now c.args.caps c.args.levels c.args.segment c.args.index c.args.visited c.in_ok-referent.referent c.in_ok-referent.visited c.in_ok-referent.ensures c.in_default.not-Content

pub walk_pointer-returns-then-levels-eq0 : goal.walk_pointer-returns-then-levels-eq0
walk_pointer-returns-then-levels-eq0 t c =
    reading_too_deep c.args.message.now c.args.caps c.args.levels c.args.segment c.args.index c.args.visited c.in-Content.content c.in_ok-referent.visited (rw c.in-Content.is at c.in_ok-referent.ensures) c.if-levels-eq0.true

pub walk_pointer-returns-in_err-layout : goal.walk_pointer-returns-in_err-layout
walk_pointer-returns-in_err-layout t c =
    let p = err_from_is_err_and c.from_residual-in_err-layout.result c.from_residual-in_err-layout.ensures.1 in
    rw (p.1, p.2) (reading_unlaid c.args.message.now c.args.caps (c.args.levels - 1) c.args.levels c.args.segment c.args.index c.args.visited c.in-Content.content c.in_ok-referent.visited
    (rw c.in-Content.is at c.in_ok-referent.ensures) (omega arith) c.in_err-layout.field-0.0 c.in_err-layout.ensures.laid)

pub walk_pointer-returns-in_err-visited : goal.walk_pointer-returns-in_err-visited
walk_pointer-returns-in_err-visited t c =
    let p = err_from_is_err_and c.from_residual-in_err-visited.result c.from_residual-in_err-visited.ensures.1 in
    rw (p.1, p.2) (reading_heavy c.args.message.now c.args.caps (c.args.levels - 1) c.args.levels c.args.segment c.args.index c.args.visited c.in-Content.content c.in_ok-referent.visited
    (rw c.in-Content.is at c.in_ok-referent.ensures) (omega arith) c.in_ok-layout.layout c.in_err-visited.field-0.0 c.in_ok-layout.ensures.laid (rw c.weight.ensures.weight at c.in_err-visited.ensures))

pub walk_pointer-returns : goal.walk_pointer-returns
walk_pointer-returns t c =
    c.walk_content.ensures
    ∙ reading_content c.args.message.now c.args.caps (c.args.levels - 1) c.args.levels c.args.segment c.args.index c.args.visited c.in-Content.content c.in_ok-referent.visited
    (rw c.in-Content.is at c.in_ok-referent.ensures) (omega arith) c.in_ok-layout.layout c.in_ok-visited.visited c.in_ok-layout.ensures.laid (rw c.weight.ensures.weight at c.in_ok-visited.ensures)

pub walk_pointers-returns-in_err-visited : goal.walk_pointers-returns-in_err-visited
walk_pointers-returns-in_err-visited t c =
    let p = err_from_is_err_and c.from_residual.result c.from_residual.ensures.1 in
    rw (p.1, p.2) (pointers_stop (reading c.args.message.now c.args.caps c.args.levels) c.args.segment c.args.start c.args.count c.loop-k.k c.loop-k.visited c.in_err-visited.field-0.0 _ c.loop-k-test.true c.in_err-visited.ensures c.loop-k.invariant)

pub walk_pointers-loop-k-preserved-then-word-eq0 : goal.walk_pointers-loop-k-preserved-then-word-eq0
walk_pointers-loop-k-preserved-then-word-eq0 t c =
    let read = reading_null c.args.message.now c.args.caps c.args.levels c.args.segment (c.args.start + c.loop-k.k) c.loop-k.visited (sym c.word.ensures ∙ c.if-word-eq0.true) in
    pointers_more (reading c.args.message.now c.args.caps c.args.levels) c.args.segment c.args.start c.args.count c.loop-k.k c.loop-k.visited c.loop-k.visited _ c.loop-k-test.true read c.loop-k.invariant

pub walk_pointers-loop-k-preserved : goal.walk_pointers-loop-k-preserved
walk_pointers-loop-k-preserved t c =
    pointers_more (reading c.args.message.now c.args.caps c.args.levels) c.args.segment c.args.start c.args.count c.loop-k.k c.loop-k.visited c.in_ok-visited.visited _ c.loop-k-test.true (sym c.in_ok-visited.ensures) c.loop-k.invariant

pub walk_pointers-returns : goal.walk_pointers-returns
walk_pointers-returns t c =
    pointers_done (reading c.args.message.now c.args.caps c.args.levels) c.args.segment c.args.start c.args.count c.loop-k.k c.loop-k.visited _ c.loop-k-test.false c.loop-k.invariant

pub walk_structs-returns-in_err-visited : goal.walk_structs-returns-in_err-visited
walk_structs-returns-in_err-visited t c =
    let p = err_from_is_err_and c.from_residual.result c.from_residual.ensures.1 in
    rw (p.1, p.2) (structs_stop c.args.message.now (reading c.args.message.now c.args.caps c.args.levels) c.args.segment c.args.row.data_words c.args.row.pointer_words c.loop.at c.args.row.count c.loop.counter c.loop.visited c.in_err-visited.field-0.0 _ c.loop-test.true (rw (c.from.ensures, c.from-in-loop.ensures) at c.in_err-visited.ensures) c.loop.invariant.same)

pub walk_structs-loop-preserved : goal.walk_structs-loop-preserved
walk_structs-loop-preserved t c =
    let d = c.from.ensures in
    let p = c.from-in-loop-2.ensures in
    let read : visited_of (pointers_at (reading c.args.message.now c.args.caps c.args.levels) c.args.segment (c.loop.at + c.args.row.data_words) c.args.row.pointer_words c.loop.visited) ≡ Ok c.in_ok-visited.visited = sym (rw (c.from.ensures, c.from-in-loop.ensures) at c.in_ok-visited.ensures) in
    record {
      place = omega (arith, c.loop.invariant.place);
      same = structs_more c.args.message.now (reading c.args.message.now c.args.caps c.args.levels) c.args.segment c.args.row.data_words c.args.row.pointer_words c.loop.at c.args.row.count c.loop.counter c.loop.visited
          _ c.in_ok-visited.visited _ c.loop-test.true (omega arith) read c.loop.invariant.same;
    }

pub walk_structs-returns : goal.walk_structs-returns
walk_structs-returns t c =
    structs_done c.args.message.now (reading c.args.message.now c.args.caps c.args.levels) c.args.segment c.args.row.data_words c.args.row.pointer_words c.loop.at c.args.row.count c.loop.counter c.loop.visited _ c.loop-test.false c.loop.invariant.same

pub walk_content-returns-in-Struct : goal.walk_content-returns-in-Struct
walk_content-returns-in-Struct t c =
    rw c.in-Struct.is (c.walk_pointers.ensures ∙ rw (c.from.ensures, c.from-in-Struct.ensures) (content_of-Struct c.args.message.now (reading c.args.message.now c.args.caps c.args.levels) c.args.segment c.args.visited c.in-Struct.start c.in-Struct.data_words c.in-Struct.pointer_words))

pub walk_content-returns-in-Packed : goal.walk_content-returns-in-Packed
walk_content-returns-in-Packed t c =
    rw c.in-Packed.is (content_of-Packed c.args.message.now (reading c.args.message.now c.args.caps c.args.levels) c.args.segment c.args.visited c.in-Packed.start c.in-Packed.width c.in-Packed.count)

pub walk_content-returns-in-Pointers : goal.walk_content-returns-in-Pointers
walk_content-returns-in-Pointers t c =
    rw c.in-Pointers.is (c.walk_pointers-in-Pointers.ensures ∙ content_of-Pointers c.args.message.now (reading c.args.message.now c.args.caps c.args.levels) c.args.segment c.args.visited c.in-Pointers.start c.in-Pointers.count)

pub walk_content-returns-then-pointer_words-eq0 : goal.walk_content-returns-then-pointer_words-eq0
walk_content-returns-then-pointer_words-eq0 t c =
    rw c.in-Structs.is (content_of-Structs_skipped c.args.message.now (reading c.args.message.now c.args.caps c.args.levels) c.args.segment c.args.visited c.in-Structs.start c.in-Structs.count c.in-Structs.data_words c.in-Structs.pointer_words c.in-Structs.words c.if-pointer_words-eq0.true)

pub walk_content-returns-else-pointer_words-eq0 : goal.walk_content-returns-else-pointer_words-eq0
walk_content-returns-else-pointer_words-eq0 t c =
    rw c.in-Structs.is (c.walk_structs.ensures ∙ content_of-Structs c.args.message.now (reading c.args.message.now c.args.caps c.args.levels) c.args.segment c.args.visited c.in-Structs.start c.in-Structs.count c.in-Structs.data_words c.in-Structs.pointer_words c.in-Structs.words)

pub walk_structs-walk_pointers-requires : goal.walk_structs-walk_pointers-requires
walk_structs-walk_pointers-requires t c =
    let room : (c.loop.counter + 1) * (c.args.row.data_words + c.args.row.pointer_words) ≤ c.args.row.count * (c.args.row.data_words + c.args.row.pointer_words) = mul-le-mul_right (c.args.row.data_words + c.args.row.pointer_words) (omega arith) in
    let place = c.loop.invariant.place in
    (omega arith, ends_before c.requires (omega (arith, room, place)))

pub walk_content-walk_pointers-requires : goal.walk_content-walk_pointers-requires
walk_content-walk_pointers-requires t c = (omega arith, ends_before (rw c.in-Struct.is at c.requires) (omega arith))

pub walk_content-walk_pointers-requires-in-Pointers : goal.walk_content-walk_pointers-requires-in-Pointers
walk_content-walk_pointers-requires-in-Pointers t c = (omega arith, rw c.in-Pointers.is at c.requires)

pub walk_content-walk_structs-requires : goal.walk_content-walk_structs-requires
walk_content-walk_structs-requires t c = (omega arith, rw c.in-Structs.is at c.requires)

pub walk_pointer-follow-requires : goal.walk_pointer-follow-requires
walk_pointer-follow-requires t c =
    c.requires

pub walk_pointer-visited_after-requires : goal.walk_pointer-visited_after-requires
walk_pointer-visited_after-requires t c =
    let small = c.weight.ensures.small in
    omega (arith, small)

pub walk_pointer-walk_content-requires : goal.walk_pointer-walk_content-requires
walk_pointer-walk_content-requires t c =
    (omega arith, c.in_ok-layout.ensures.within)

pub walk_content-overflow_add-first : goal.walk_content-overflow_add-first
walk_content-overflow_add-first t c =
    let small = (rw c.in-Struct.is at c.requires).small in
    omega (arith, small)

pub walk_pointers-overflow_add-start : goal.walk_pointers-overflow_add-start
walk_pointers-overflow_add-start t c =
    let small = c.requires.small in
    omega (arith, small)

pub walk_pointers-word-requires : goal.walk_pointers-word-requires
walk_pointers-word-requires t c =
    let inside = c.requires.inside in
    omega (arith, inside)

pub walk_pointers-overflow_add-start-in-loop-k : goal.walk_pointers-overflow_add-start-in-loop-k
walk_pointers-overflow_add-start-in-loop-k t c =
    let small = c.requires.small in
    omega (arith, small)

pub walk_pointers-walk_pointer-requires : goal.walk_pointers-walk_pointer-requires
walk_pointers-walk_pointer-requires t c =
    let inside = c.requires.inside in
    (omega arith, omega (arith, inside))

pub walk_structs-overflow_add-first : goal.walk_structs-overflow_add-first
walk_structs-overflow_add-first t c =
    let room : (c.loop.counter + 1) * (c.args.row.data_words + c.args.row.pointer_words) ≤ c.args.row.count * (c.args.row.data_words + c.args.row.pointer_words) = mul-le-mul_right (c.args.row.data_words + c.args.row.pointer_words) (omega arith) in
    let place = c.loop.invariant.place in
    let small = c.requires.small in
    omega (arith, room, place, small)

pub walk_structs-overflow_add-at : goal.walk_structs-overflow_add-at
walk_structs-overflow_add-at t c =
    let room : (c.loop.counter + 1) * (c.args.row.data_words + c.args.row.pointer_words) ≤ c.args.row.count * (c.args.row.data_words + c.args.row.pointer_words) = mul-le-mul_right (c.args.row.data_words + c.args.row.pointer_words) (omega arith) in
    let place = c.loop.invariant.place in
    let small = c.requires.small in
    omega (arith, room, place, small)
