use Rattle.std.proofs.Common.{◌≡◌, ℕ, List, ◌+◌, ◌-◌, ◌*◌, ◌≤◌, sym, ap, ◌∙◌, arith}
use Rattle.std.proofs.Math.Nat.{mul-le-mul_right}
use Rattle.std.proofs.lemmas.Result.{err_from_is_err_and, IfOk-weaker}
use Rattle.capn_trees.specs.Trees as tree
use Rattle.capn_trees.specs.declared.tree.Tree as program
use Rattle.capn_trees.proofs.Viewed.{view_null, view_capability, view_struct, view_list, view_pointers, view_structs}
use Rattle.capn_reading.specs.Reading.{ReadsTo, pointers_at, structs_at, content_of, reading}
use Rattle.capn_trees.specs.Views.{held, view, trees_view, structs_view}
use Rattle.capn_reading.proofs.Joining.{with_no_trees, with_no_structs, pointers_go_on, pointers_over, next_reads, structs_go_on, structs_over, next_struct_reads, trees_view_push, structs_view_push, struct_reads, pointers_read_ok, structs_read_ok}
use Rattle.capn_reading.proofs.Uncounted.{struct_to, packed_to, pointers_to, structs_to, leads_somewhere, null_to, capability_to, has_level, has_place, content_reads, content_to}
use Rattle.capn_reading.proofs.Steps.{ends_before}
use Rattle.capn_reading.proofs.Depths.{pointers_shallow, reading_shallow}
use Rattle.capn_reading.proofs.build.+build.Goals as goal

pub build_content-build_pointers-requires : goal.build_content-build_pointers-requires
build_content-build_pointers-requires t c =
    let r = rw c.in-Struct.is at c.requires.reads in
    let reads = struct_reads c.args.message.now (reading c.args.message.now c.args.caps c.args.levels) c.args.segment r.0 c.in-Struct.start c.in-Struct.data_words c.in-Struct.pointer_words r.1 in
    (omega arith, (c.requires.levels, (ends_before (rw c.in-Struct.is at c.requires.within) (omega arith), rw (c.from.ensures, c.from-count.ensures) (r.0, reads))))

pub build_content-build_pointers-requires-in-Pointers : goal.build_content-build_pointers-requires-in-Pointers
build_content-build_pointers-requires-in-Pointers t c =
    let r = rw c.in-Pointers.is at c.requires.reads in
    let reads = pointers_read_ok c.args.message.now (reading c.args.message.now c.args.caps c.args.levels) c.args.segment r.0 c.in-Pointers.start c.in-Pointers.count r.1 in
    (omega arith, (c.requires.levels, (rw c.in-Pointers.is at c.requires.within, (r.0, reads))))

pub build_content-build_structs-requires : goal.build_content-build_structs-requires
build_content-build_structs-requires t c =
    let r = rw c.in-Structs.is at c.requires.reads in
    let reads = structs_read_ok c.args.message.now (reading c.args.message.now c.args.caps c.args.levels) c.args.segment r.0 c.in-Structs.start c.in-Structs.count c.in-Structs.data_words c.in-Structs.pointer_words c.in-Structs.words r.1 in
    (omega arith, (c.requires.levels, (rw c.in-Structs.is at c.requires.within, (r.0, reads))))

pub build_pointer-unreachable-requires : goal.build_pointer-unreachable-requires
build_pointer-unreachable-requires t c =
    let f = leads_somewhere c.args.message.now c.args.caps c.args.levels c.args.segment c.args.index c.requires.reads in
    c.in_default.not-Ok (f.0, f.1) (c.follow.ensures ∙ f.2)

pub build_pointer-returns-in-Null : goal.build_pointer-returns-in-Null
build_pointer-returns-in-Null t c =
    null_to c.args.message.now c.args.caps c.args.levels c.args.segment c.args.index c.in-Ok.field-0-1 (rw c.in-Null.is at c.in-Ok.ensures) (view program.Null) (sym view_null)

pub build_pointer-returns-in-Capability : goal.build_pointer-returns-in-Capability
build_pointer-returns-in-Capability t c =
    capability_to c.args.message.now c.args.caps c.args.levels c.args.segment c.args.index c.in-Capability.index c.in-Ok.field-0-1 (rw c.in-Capability.is at c.in-Ok.ensures) (view (program.Cap c.in-Capability.index)) (sym (view_capability c.in-Capability.index))

pub build_pointer-unreachable-requires-then-levels-eq0 : goal.build_pointer-unreachable-requires-then-levels-eq0
build_pointer-unreachable-requires-then-levels-eq0 t c =
    has_level c.args.message.now c.args.caps c.args.levels c.args.segment c.args.index c.in-Content.content c.in-Ok.field-0-1 (rw c.in-Content.is at c.in-Ok.ensures) c.if-levels-eq0.true c.requires.reads

pub build_pointer-unreachable-requires-in_default-lay_out : goal.build_pointer-unreachable-requires-in_default-lay_out
build_pointer-unreachable-requires-in_default-lay_out t c =
    let l = has_place c.args.message.now c.args.caps c.args.levels c.args.segment c.args.index c.in-Content.content c.in-Ok.field-0-1 (rw c.in-Content.is at c.in-Ok.ensures) (c.args.levels - 1) (omega arith) c.requires.reads in
    c.in_default-lay_out.not-Ok l.0 (c.lay_out.ensures.laid ∙ l.1)

pub build_pointer-build_content-requires : goal.build_pointer-build_content-requires
build_pointer-build_content-requires t c =
    let reads = content_reads c.args.message.now c.args.caps c.args.levels c.args.segment c.args.index c.in-Content.content c.in-Ok.field-0-1 (rw c.in-Content.is at c.in-Ok.ensures) (c.args.levels - 1) (omega arith) c.in-Ok-lay_out.layout c.in-Ok-lay_out.ensures.laid c.requires.reads in
    (omega arith, (omega arith, (c.in-Ok-lay_out.ensures.within, reads)))

pub build_pointer-returns : goal.build_pointer-returns
build_pointer-returns t c =
    IfOk-weaker c.build_content.result (λ (u : program.Tree). ReadsTo (content_of c.args.message.now (reading c.args.message.now c.args.caps (c.args.levels - 1)) c.in-Content.content.segment c.in-Ok-lay_out.layout) (view u)) (λ (u : program.Tree). ReadsTo (reading c.args.message.now c.args.caps c.args.levels c.args.segment c.args.index) (view u))
    (λ (u : program.Tree). content_to c.args.message.now c.args.caps c.args.levels c.args.segment c.args.index c.in-Content.content c.in-Ok.field-0-1 (rw c.in-Content.is at c.in-Ok.ensures) (c.args.levels - 1) (omega arith) c.in-Ok-lay_out.layout c.in-Ok-lay_out.ensures.laid (view u)) c.build_content.ensures

pub build_pointers-build_pointer-requires : goal.build_pointers-build_pointer-requires
build_pointers-build_pointer-requires t c =
    let here = c.loop-k.invariant.same c.requires.reads.0 c.requires.reads.1 in
    let reads = next_reads (reading c.args.message.now c.args.caps c.args.levels) c.args.segment c.args.start c.args.count c.loop-k.k here.0 (trees_view c.loop-k.trees.items) _ c.loop-k-test.true c.requires.reads.1 here.1 in
    let inside = c.requires.within.inside in
    (omega arith, (c.requires.levels, (omega (arith, inside), (here.0, reads))))

pub build_pointers-loop-k-preserved : goal.build_pointers-loop-k-preserved
build_pointers-loop-k-preserved t c =
    record {
      same = λ v ok.
          let here = c.loop-k.invariant.same v ok in
          let one = c.in_ok-tree.ensures here.0 (next_reads (reading c.args.message.now c.args.caps c.args.levels) c.args.segment c.args.start c.args.count c.loop-k.k here.0 (trees_view c.loop-k.trees.items) _ c.loop-k-test.true ok here.1) in (
            one.0,
            rw (c.push_reserved.ensures.items, trees_view_push)
                (pointers_go_on (reading c.args.message.now c.args.caps c.args.levels) c.args.segment c.args.start c.args.count c.loop-k.k here.0 (trees_view c.loop-k.trees.items) (view c.in_ok-tree.tree) one.0 _ c.loop-k-test.true one.1 here.1),
          );
      count = c.push_reserved.ensures.len ∙ ap (λ n. n + 1) c.loop-k.invariant.count;
      room = c.push_reserved.ensures.capacity ∙ c.loop-k.invariant.room;
    }

pub build_pointers-push_reserved-requires : goal.build_pointers-push_reserved-requires
build_pointers-push_reserved-requires t c =
    let count = c.loop-k.invariant.count in
    let room = c.loop-k.invariant.room in
    let test = c.loop-k-test.true in
    omega (arith, count, room, test)

pub build_pointers-of-requires : goal.build_pointers-of-requires
build_pointers-of-requires t c =
    let here = c.loop-k.invariant.same c.requires.reads.0 c.requires.reads.1 in
    let all = pointers_over (reading c.args.message.now c.args.caps c.args.levels) c.args.segment c.args.start c.args.count c.loop-k.k here.0 (trees_view c.loop-k.trees.items) _ c.loop-k-test.false here.1 in
    pointers_shallow (reading c.args.message.now c.args.caps c.args.levels) 127 (reading_shallow c.args.message.now c.args.caps c.args.levels 127 (omega arith)) c.args.segment c.args.start c.args.count c.requires.reads.0 (trees_view c.loop-k.trees.items) here.0 all

pub build_pointers-returns : goal.build_pointers-returns
build_pointers-returns t c =
    λ v ok.
    let here = c.loop-k.invariant.same v ok in
    (here.0, rw c.of.ensures (pointers_over (reading c.args.message.now c.args.caps c.args.levels) c.args.segment c.args.start c.args.count c.loop-k.k here.0 (trees_view c.loop-k.trees.items) _ c.loop-k-test.false here.1))

pub build_content-returns-in_ok-pointers-in-Struct : goal.build_content-returns-in_ok-pointers-in-Struct
build_content-returns-in_ok-pointers-in-Struct t c =
    rw c.in-Struct.is (
    struct_to c.args.message.now (reading c.args.message.now c.args.caps c.args.levels) c.args.segment c.in-Struct.start c.in-Struct.data_words c.in-Struct.pointer_words (trees_view (held c.in_ok-pointers-in-Struct.pointers)) _
    (rw (c.from.ensures, c.from-count.ensures) at c.in_ok-pointers-in-Struct.ensures)
    (sym (view_struct c.in_ok-words-in-Struct.words c.in_ok-pointers-in-Struct.pointers ∙ ap (λ (ws : List ℕ). tree.struct ws (trees_view (held c.in_ok-pointers-in-Struct.pointers))) c.in_ok-words-in-Struct.ensures)))

pub build_content-returns-in_ok-items-in-Packed : goal.build_content-returns-in_ok-items-in-Packed
build_content-returns-in_ok-items-in-Packed t c =
    rw c.in-Packed.is (
    packed_to c.args.message.now (reading c.args.message.now c.args.caps c.args.levels) c.args.segment c.in-Packed.start c.in-Packed.width c.in-Packed.count _
    (sym (view_list c.in_ok-items-in-Packed.items ∙ ap tree.list c.in_ok-items-in-Packed.ensures)))

pub build_content-returns-in_ok-pointers-in-Pointers : goal.build_content-returns-in_ok-pointers-in-Pointers
build_content-returns-in_ok-pointers-in-Pointers t c =
    rw c.in-Pointers.is (
    pointers_to c.args.message.now (reading c.args.message.now c.args.caps c.args.levels) c.args.segment c.in-Pointers.start c.in-Pointers.count (trees_view (held c.in_ok-pointers-in-Pointers.pointers)) _ c.in_ok-pointers-in-Pointers.ensures
    (sym (view_list _ ∙ ap tree.list (view_pointers c.in_ok-pointers-in-Pointers.pointers))))

pub build_content-returns-in_ok-items-in-Structs : goal.build_content-returns-in_ok-items-in-Structs
build_content-returns-in_ok-items-in-Structs t c =
    rw c.in-Structs.is (
    structs_to c.args.message.now (reading c.args.message.now c.args.caps c.args.levels) c.args.segment c.in-Structs.start c.in-Structs.count c.in-Structs.data_words c.in-Structs.pointer_words c.in-Structs.words (structs_view c.in_ok-items-in-Structs.items.items) _ c.in_ok-items-in-Structs.ensures
    (sym (view_list _ ∙ ap tree.list (view_structs c.in-Structs.data_words c.in-Structs.pointer_words c.in_ok-items-in-Structs.items))))

pub build_structs-build_pointers-requires : goal.build_structs-build_pointers-requires
build_structs-build_pointers-requires t c =
    let here = c.loop.invariant.same c.requires.reads.0 c.requires.reads.1 in
    let reads = next_struct_reads c.args.message.now (reading c.args.message.now c.args.caps c.args.levels) c.args.segment c.args.row.data_words c.args.row.pointer_words c.loop.at c.args.row.count c.loop.counter here.0 (structs_view c.loop.items.items) _ here.1 c.loop-test.true c.requires.reads.1 in
    let room : (c.loop.counter + 1) * (c.args.row.data_words + c.args.row.pointer_words) ≤ c.args.row.count * (c.args.row.data_words + c.args.row.pointer_words) = mul-le-mul_right (c.args.row.data_words + c.args.row.pointer_words) (omega arith) in
    let place = c.loop.invariant.place in
    (omega arith, (c.requires.levels, (ends_before c.requires.within (omega (arith, room, place)), rw (c.from.ensures, c.from-length.ensures) (here.0, reads))))

pub build_structs-loop-preserved : goal.build_structs-loop-preserved
build_structs-loop-preserved t c =
    let d = c.from.ensures in
    let p = c.from-length.ensures in
    let read = rw (c.from.ensures, c.from-length.ensures) at c.in_ok-pointers.ensures in
    record {
      place = omega (arith, c.loop.invariant.place);
      same = λ v ok.
          let here = c.loop.invariant.same v ok in
          let one = read here.0 (next_struct_reads c.args.message.now (reading c.args.message.now c.args.caps c.args.levels) c.args.segment c.args.row.data_words c.args.row.pointer_words c.loop.at c.args.row.count c.loop.counter here.0 (structs_view c.loop.items.items) _ here.1 c.loop-test.true ok) in (
            one.0,
            rw (ap structs_view c.push_reserved.ensures.items ∙ structs_view_push _ _) (rw (c.make_fields.ensures ∙ ap (λ (ws : List ℕ). (ws, trees_view (held c.in_ok-pointers.pointers))) c.in_ok-words.ensures)
                (structs_go_on c.args.message.now (reading c.args.message.now c.args.caps c.args.levels) c.args.segment c.args.row.data_words c.args.row.pointer_words c.loop.at c.args.row.count c.loop.counter here.0 (structs_view c.loop.items.items) _ here.1 (c.loop.at + c.from.result + c.from-length.result) (trees_view (held c.in_ok-pointers.pointers)) one.0 c.loop-test.true (omega arith) one.1)),
          );
      count = c.push_reserved.ensures.len ∙ ap (λ n. n + 1) c.loop.invariant.count;
      room = c.push_reserved.ensures.capacity ∙ c.loop.invariant.room;
    }

pub build_structs-push_reserved-requires : goal.build_structs-push_reserved-requires
build_structs-push_reserved-requires t c =
    let count = c.loop.invariant.count in
    let room = c.loop.invariant.room in
    let test = c.loop-test.true in
    omega (arith, count, room, test)

pub build_structs-returns : goal.build_structs-returns
build_structs-returns t c =
    λ v ok.
    let here = c.loop.invariant.same v ok in
    (here.0, structs_over c.args.message.now (reading c.args.message.now c.args.caps c.args.levels) c.args.segment c.args.row.data_words c.args.row.pointer_words c.loop.at c.args.row.count c.loop.counter here.0 (structs_view c.loop.items.items) _ here.1 c.loop-test.false)

pub build_content-overflow_add-first : goal.build_content-overflow_add-first
build_content-overflow_add-first t c =
    let all = (rw c.in-Struct.is at c.requires.within).small in
    omega (arith, all)

pub build_structs-overflow_add-first : goal.build_structs-overflow_add-first
build_structs-overflow_add-first t c =
    let room : (c.loop.counter + 1) * (c.args.row.data_words + c.args.row.pointer_words) ≤ c.args.row.count * (c.args.row.data_words + c.args.row.pointer_words) = mul-le-mul_right (c.args.row.data_words + c.args.row.pointer_words) (omega arith) in
    let place = c.loop.invariant.place in
    let all = c.requires.within.small in
    omega (arith, room, place, all)

pub build_structs-overflow_add-at : goal.build_structs-overflow_add-at
build_structs-overflow_add-at t c =
    let room : (c.loop.counter + 1) * (c.args.row.data_words + c.args.row.pointer_words) ≤ c.args.row.count * (c.args.row.data_words + c.args.row.pointer_words) = mul-le-mul_right (c.args.row.data_words + c.args.row.pointer_words) (omega arith) in
    let place = c.loop.invariant.place in
    let all = c.requires.within.small in
    omega (arith, room, place, all)

pub build_pointers-loop-k-init : goal.build_pointers-loop-k-init
build_pointers-loop-k-init t c =
    let read = (reading c.args.message.now c.args.caps c.args.levels) in
    let none = c.in_ok-trees.ensures.items in
    let first : c.args.start + 0 ≡ c.args.start = omega arith in
    let all : c.args.count - 0 ≡ c.args.count = omega arith in
    record {
      same = λ v ok. (
        v,
        rw none (with_no_trees (pointers_at read c.args.segment (c.args.start + 0) (c.args.count - 0) v)
            ∙ ap (λ (i : ℕ). pointers_at read c.args.segment i (c.args.count - 0) v) first ∙ ap (λ (n : ℕ). pointers_at read c.args.segment c.args.start n v) all),
      );
      count = c.in_ok-trees.ensures.len;
      room = c.in_ok-trees.ensures.exact;
    }

pub build_structs-loop-init : goal.build_structs-loop-init
build_structs-loop-init t c =
    let read = (reading c.args.message.now c.args.caps c.args.levels) in
    let none = c.in_ok-items.ensures.items in
    let all : c.args.row.count - 0 ≡ c.args.row.count = omega arith in
    record {
      place = omega arith;
      same = λ v ok. (
        v,
        rw none (with_no_structs (structs_at c.args.message.now read c.args.segment c.args.row.data_words c.args.row.pointer_words c.args.row.start (c.args.row.count - 0) v)
            ∙ ap (λ (n : ℕ). structs_at c.args.message.now read c.args.segment c.args.row.data_words c.args.row.pointer_words c.args.row.start n v) all),
      );
      count = c.in_ok-items.ensures.len;
      room = c.in_ok-items.ensures.exact;
    }

pub build_content-words_at-requires : goal.build_content-words_at-requires
build_content-words_at-requires t c =
    ends_before (rw c.in-Struct.is at c.requires.within) (omega arith)

pub build_content-packed_items-requires : goal.build_content-packed_items-requires
build_content-packed_items-requires t c =
    ends_before (rw c.in-Packed.is at c.requires.within) (omega arith)

pub build_structs-words_at-requires : goal.build_structs-words_at-requires
build_structs-words_at-requires t c =
    let room : (c.loop.counter + 1) * (c.args.row.data_words + c.args.row.pointer_words) ≤ c.args.row.count * (c.args.row.data_words + c.args.row.pointer_words) = mul-le-mul_right (c.args.row.data_words + c.args.row.pointer_words) (omega arith) in
    let place = c.loop.invariant.place in
    ends_before c.requires.within (omega (arith, room, place))

pub build_pointer-follow-requires : goal.build_pointer-follow-requires
build_pointer-follow-requires t c =
    c.requires.there

pub build_pointers-overflow_add-start : goal.build_pointers-overflow_add-start
build_pointers-overflow_add-start t c =
    let small = c.requires.within.small in
    omega (arith, small)

pub build_content-returns-in_err-words-in-Struct : goal.build_content-returns-in_err-words-in-Struct
build_content-returns-in_err-words-in-Struct t c = rw (err_from_is_err_and c.from_residual.result c.from_residual.ensures.1).1 tt

pub build_content-returns-in_err-pointers-in-Struct : goal.build_content-returns-in_err-pointers-in-Struct
build_content-returns-in_err-pointers-in-Struct t c = rw (err_from_is_err_and c.from_residual-in_err-pointers-in-Struct.result c.from_residual-in_err-pointers-in-Struct.ensures.1).1 tt

pub build_content-returns-in_err-items-in-Packed : goal.build_content-returns-in_err-items-in-Packed
build_content-returns-in_err-items-in-Packed t c = rw (err_from_is_err_and c.from_residual-in_err-items-in-Packed.result c.from_residual-in_err-items-in-Packed.ensures.1).1 tt

pub build_content-returns-in_err-pointers-in-Pointers : goal.build_content-returns-in_err-pointers-in-Pointers
build_content-returns-in_err-pointers-in-Pointers t c = rw (err_from_is_err_and c.from_residual-in_err-pointers-in-Pointers.result c.from_residual-in_err-pointers-in-Pointers.ensures.1).1 tt

pub build_content-returns-in_err-items-in-Structs : goal.build_content-returns-in_err-items-in-Structs
build_content-returns-in_err-items-in-Structs t c = rw (err_from_is_err_and c.from_residual-in_err-items-in-Structs.result c.from_residual-in_err-items-in-Structs.ensures.1).1 tt

pub build_pointers-returns-in_err-trees : goal.build_pointers-returns-in_err-trees
build_pointers-returns-in_err-trees t c = rw (err_from_is_err_and c.from_residual.result c.from_residual.ensures.1).1 tt

pub build_pointers-returns-in_err-tree : goal.build_pointers-returns-in_err-tree
build_pointers-returns-in_err-tree t c = rw (err_from_is_err_and c.from_residual-in_err-tree.result c.from_residual-in_err-tree.ensures.1).1 tt

pub build_structs-returns-in_err-items : goal.build_structs-returns-in_err-items
build_structs-returns-in_err-items t c = rw (err_from_is_err_and c.from_residual.result c.from_residual.ensures.1).1 tt

pub build_structs-returns-in_err-words : goal.build_structs-returns-in_err-words
build_structs-returns-in_err-words t c = rw (err_from_is_err_and c.from_residual-in_err-words.result c.from_residual-in_err-words.ensures.1).1 tt

pub build_structs-returns-in_err-pointers : goal.build_structs-returns-in_err-pointers
build_structs-returns-in_err-pointers t c = rw (err_from_is_err_and c.from_residual-in_err-pointers.result c.from_residual-in_err-pointers.ensures.1).1 tt

pub build_pointer-overflow_sub-levels : goal.build_pointer-overflow_sub-levels
build_pointer-overflow_sub-levels t c = omega arith

pub build_pointers-loop-k-smaller : goal.build_pointers-loop-k-smaller
build_pointers-loop-k-smaller t c = omega arith

pub build_structs-loop-smaller : goal.build_structs-loop-smaller
build_structs-loop-smaller t c = omega arith

pub build_structs-overflow_cast-row : goal.build_structs-overflow_cast-row
build_structs-overflow_cast-row t c = omega arith
