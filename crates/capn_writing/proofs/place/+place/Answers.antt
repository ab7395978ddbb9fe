use Rattle.std.proofs.lemmas.Grind.{common_steps}
use Rattle.std.proofs.Common.{◌≡◌, ℕ, ◌+◌, ◌-◌, ◌*◌, ◌^◌, ◌<◌, ◌≤◌, ◌++◌, Bool, true, List, map, ltb, length, set, refl, sym, ap, subst, ◌∙◌, arith, rules}
use Rattle.std.specs.Prelude.{replicate}
use Rattle.std.specs.Vec.{vec_capacity}
use Rattle.std.proofs.lemmas.List.{length-set, length-replicate, length-append, length_push, drop_all, append-nil, map-id}
use Rattle.std.proofs.lemmas.Bool.{not-false, or_parts, ltb-false}
use Rattle.capn_trees.specs.declared.width.Width.TheVariants as width
use Rattle.capn_trees.specs.declared.tree.Items.{the_lemmas}
use Rattle.capn_trees.specs.declared.tree.Fields.{Fields}
use Rattle.capn_trees.specs.declared.tree.Tree as program
use Rattle.capn_trees.specs.Trees as tree
use Rattle.capn_trees.specs.Trees.{Tree, Elements, trees_count, structs_count}
use Rattle.capn_trees.specs.Views.{bit, view, items_view, trees_view, structs_view}
use Rattle.capn_writing.specs.Placing.{packed_words, placed, placed_all, placed_structs}
use Rattle.capn_writing.specs.Fitting.{FitsAll, FitsList, FitsStructs}
use Rattle.capn_trees.specs.Widths.{packed_size}
use Rattle.capn_trees.specs.Writable.{parts, parts_of_all, parts_of_structs, are_even}
use Rattle.capn_writing.specs.Laying.{HaveSizes, HasRoom, filled}
use Rattle.capn_writing.proofs.Lengths.{length-placed_all}
use Rattle.capn_trees.proofs.Counts.{trees_counted, structs_counted}
use Rattle.capn_writing.proofs.Filled.{zeros_fit, filled_none, length-filled, length-put}
use Rattle.capn_writing.proofs.Laid.{narrow_1, narrow_16, narrow_32, packed_room, bytes_room, eights_room, room_for, fields_placed, pointers_placed, list_placed, struct_placed, few_structs}
use Rattle.capn_writing.proofs.Room.{sum_same, le_then, room_first, room_rest, slot_inside, slot_next, inside_next, struct_inside, struct_fits, section_fits, struct_next, struct_long, struct_there, list_long, list_there, pointers_there, list_spare, zeros_spare}
use Rattle.capn_writing.proofs.Sized.{taken, taken_by, taken_by_all, trees_sizes, trees_taken, trees_fit, trees_placed, structs_sizes, structs_taken, structs_fit, structs_even, structs_placed}
use Rattle.capn_trees.proofs.Viewed.{view_null, view_capability, view_struct, view_list, view_void, view_bits, view_bytes, view_twos, view_fours, view_eights, view_pointers, view_structs}
use Rattle.capn_writing.proofs.place.+place.Goals as goal

pub place_fields-returns-clause-placed : goal.place_fields-returns-clause-placed
place_fields-returns-clause-placed t c =
    fields_placed c.args.pointers.now c.args.words.now.items c.put.new.words.items c.place_trees.new.words.items c.args.section.now c.args.at c.put.ensures.items c.requires.inside c.place_trees.ensures.placed

pub place_items-place_pointers-requires : goal.place_items-place_pointers-requires
place_items-place_pointers-requires t c =
    let e = ap items_view c.in-Pointers.is ∙ view_pointers c.in-Pointers.pointers in
    let sizes = subst (λ (es : Elements). HaveSizes (parts (tree.list es) 0)) e c.requires.sizes in
    let room = subst (λ (es : Elements). HasRoom (taken (parts (tree.list es) 0)) (length c.args.words.now.items) (vec_capacity c.args.words.now)) e c.requires.room in
    let below : HaveSizes (parts_of_all (trees_view c.as_slice-in-Pointers.result.now) 0) = rw c.as_slice-in-Pointers.ensures sizes.1 in
    let fits : HasRoom (length c.as_slice-in-Pointers.result.now + taken (parts_of_all (trees_view c.as_slice-in-Pointers.result.now) 0)) (length c.args.words.now.items) (vec_capacity c.args.words.now) = rw c.as_slice-in-Pointers.ensures (room_for room (omega (arith, trees_counted c.in-Pointers.pointers.trees.items))) in
    (grind (the_lemmas, arith, common_steps), (c.requires.ahead, (below, fits)))

pub place_items-place_list-requires : goal.place_items-place_list-requires
place_items-place_list-requires t c =
    let e = ap items_view c.in-Structs.is ∙ view_structs c.in-Structs.data_words c.in-Structs.pointer_words c.in-Structs.items in
    let sizes = subst (λ (es : Elements). HaveSizes (parts (tree.list es) 0)) e c.requires.sizes in
    let room = subst (λ (es : Elements). HasRoom (taken (parts (tree.list es) 0)) (length c.args.words.now.items) (vec_capacity c.args.words.now)) e c.requires.room in
    let n = structs_counted c.in-Structs.items.items in
    let below : HaveSizes (parts_of_structs (structs_view c.deref.result.now) 0) = rw c.deref.ensures.value sizes.1 in
    let even : are_even c.in-Structs.data_words c.in-Structs.pointer_words (structs_view c.deref.result.now) ≡ true = rw c.deref.ensures.value (not-false (are_even c.in-Structs.data_words c.in-Structs.pointer_words (structs_view c.in-Structs.items.items)) sizes.0.0.0) in
    let few = few_structs (structs_count (structs_view c.in-Structs.items.items)) (c.in-Structs.data_words + c.in-Structs.pointer_words) sizes.0.1 in
    let same : structs_count (structs_view c.in-Structs.items.items) * (c.in-Structs.data_words + c.in-Structs.pointer_words) ≡ length c.in-Structs.items.items * (c.in-Structs.data_words + c.in-Structs.pointer_words) = ap (λ (k : ℕ). k * (c.in-Structs.data_words + c.in-Structs.pointer_words)) n in
    let short : length c.deref.result.now < 2 ^ 30 = rw c.deref.ensures.value (omega (arith, few, n)) in
    let fits : HasRoom (length c.deref.result.now * (c.in-Structs.data_words + c.in-Structs.pointer_words) + 1 + taken (parts_of_structs (structs_view c.deref.result.now) 0)) (length c.args.words.now.items) (vec_capacity c.args.words.now) = rw c.deref.ensures.value (room_for room (omega (arith, same))) in
    (grind (the_lemmas, arith, common_steps), (c.requires.ahead, (even, (below, (short, fits)))))

pub place_tree-place_fields-requires : goal.place_tree-place_fields-requires
place_tree-place_fields-requires t c =
    let e = ap view c.in-Struct.is ∙ view_struct c.in-Struct.«data» c.in-Struct.pointers in
    let sizes = subst (λ (u : Tree). HaveSizes (parts u 0)) e c.requires.sizes in
    let room = subst (λ (u : Tree). HasRoom (taken (parts u 0)) (length c.args.words.now.items) (vec_capacity c.args.words.now)) e c.requires.room in
    let k = ap length c.as_slice-trees.ensures in
    let n = trees_counted c.in-Struct.pointers.trees.items in
    let z = ap length c.push_zeros.ensures.items ∙ length-append c.args.words.now.items (replicate {A = ℕ} (c.len.result + length c.as_slice-trees.result.now) 0) in
    let b = length-replicate {A = ℕ} (c.len.result + length c.as_slice-trees.result.now) 0 in
    let size = struct_long (length c.args.words.now.items) z b (c.len.ensures ∙ c.in-Struct.«data».ok.0) k n in
    let below : HaveSizes (parts_of_all (trees_view c.as_slice-trees.result.now) 0) = rw c.as_slice-trees.ensures sizes.1 in
    let inside = struct_there (c.len-next.ensures ∙ c.args.words.now.ok.0) (ap length c.deref.ensures.value) k n size in
    let fits : HasRoom (taken (parts_of_all (trees_view c.as_slice-trees.result.now) 0)) (length c.push_zeros.new.words.items) (vec_capacity c.push_zeros.new.words) =
    rw c.as_slice-trees.ensures (room_rest (length c.in-Struct.«data».items + trees_count (trees_view c.in-Struct.pointers.trees.items)) refl size c.push_zeros.ensures.capacity room) in
    (grind (the_lemmas, arith, common_steps), (inside, (below, fits)))

pub place_tree-push_zeros-requires : goal.place_tree-push_zeros-requires
place_tree-push_zeros-requires t c =
    let e = ap view c.in-Struct.is ∙ view_struct c.in-Struct.«data» c.in-Struct.pointers in
    let room = subst (λ (u : Tree). HasRoom (taken (parts u 0)) (length c.args.words.now.items) (vec_capacity c.args.words.now)) e c.requires.room in
    zeros_spare _ {count = length c.in-Struct.«data».items + trees_count (trees_view c.in-Struct.pointers.trees.items)} refl (sum_same (c.len.ensures ∙ c.in-Struct.«data».ok.0) (ap length c.as_slice-trees.ensures ∙ sym (trees_counted c.in-Struct.pointers.trees.items))) room

pub place_trees-place_tree-word-requires : goal.place_trees-place_tree-word-requires
place_trees-place_tree-word-requires t c =
    let inv = c.loop-tree.invariant in
    let sizes = (trees_sizes c.args.trees.now c.loop-tree.tree-index c.tree-item.result c.loop-tree-test.true c.tree-item.is inv.sizes).0 in
    let all = trees_taken c.args.trees.now c.loop-tree.tree-index c.tree-item.result c.loop-tree-test.true c.tree-item.is in
    (grind (the_lemmas, arith, common_steps), (slot_inside inv.inside c.loop-tree-test.true, (sizes, room_first _ all inv.room)))

pub place_trees-loop-tree-preserved : goal.place_trees-loop-tree-preserved
place_trees-loop-tree-preserved t c =
    let inv = c.loop-tree.invariant in
    let test = c.loop-tree-test.true in
    let item = c.tree-item.result in
    let ws = c.loop-tree.words.items in
    let sizes = trees_sizes c.args.trees.now c.loop-tree.tree-index item test c.tree-item.is inv.sizes in
    let all = trees_taken c.args.trees.now c.loop-tree.tree-index item test c.tree-item.is in
    let own = taken_by (view item) 0 c.loop-tree.slot (length ws) sizes.0 in
    let long = length-append ws (placed (view item) c.loop-tree.slot (length ws)).1 in
    let made = c.place_tree-word.ensures.laid.placed in
    let size : length (set c.place_tree-word.new.words.items c.loop-tree.slot c.place_tree-word.result) ≡ length ws + taken (parts (view item) 0) =
    length-set c.place_tree-word.new.words.items c.loop-tree.slot c.place_tree-word.result ∙ ap length made ∙ long ∙ ap (λ (k : ℕ). length ws + k) own in
    let more = c.place_tree-word.ensures.laid.capacity in
    record {
      slot = slot_next c.args.at c.loop-tree.tree-index inv.slot;
      inside = inside_next c.loop-tree.slot (taken (parts (view item) 0)) size inv.inside test;
      sizes = sizes.1;
      room = room_rest (taken (parts (view item) 0)) all size more inv.room;
      capacity = le_then inv.capacity more;
      same = trees_placed c.args.trees.now c.loop-tree.tree-index item test c.tree-item.is ws (set c.place_tree-word.new.words.items c.loop-tree.slot c.place_tree-word.result) _ c.loop-tree.slot c.place_tree-word.result inv.inside
          (ap (λ (l : List ℕ). set l c.loop-tree.slot c.place_tree-word.result) made) c.place_tree-word.ensures.laid.word inv.same;
      fits = trees_fit c.args.trees.now c.loop-tree.tree-index item test c.tree-item.is (trees_view c.args.trees.now) c.place_tree-word.ensures.fits inv.fits;
    }

pub place_structs-place_fields-requires : goal.place_structs-place_fields-requires
place_structs-place_fields-requires t c =
    let inv = c.loop-item.invariant in
    let test = c.loop-item-test.true in
    let item = c.item-item.result in
    let ss = c.args.items.now in
    let i = c.loop-item.item-index in
    let same = sym c.as_slice.ensures in
    let sizes = structs_sizes ss i item test c.item-item.is inv.sizes in
    let all = structs_taken ss i item test c.item-item.is in
    let even = structs_even ss i item test c.item-item.is c.args.data_words c.args.pointer_words inv.even in
    let inside = struct_fits c.loop-item.slot _ (ap length c.deref.ensures.value ∙ even.0) (ap length c.as_slice.ensures ∙ even.1) (struct_inside c.loop-item.slot (c.args.data_words + c.args.pointer_words) test inv.inside) in
    let below = subst (λ (us : List program.Tree). HaveSizes (parts_of_all (trees_view us) 0)) same sizes.0 in
    let room = subst (λ (us : List program.Tree). HasRoom (taken (parts_of_all (trees_view us) 0)) (length c.loop-item.words.items) (vec_capacity c.loop-item.words)) same (room_first _ all inv.room) in
    (search (rules, the_lemmas), (inside, (below, room)))

pub place_structs-loop-item-preserved : goal.place_structs-loop-item-preserved
place_structs-loop-item-preserved t c =
    let inv = c.loop-item.invariant in
    let test = c.loop-item-test.true in
    let item = c.item-item.result in
    let d = c.args.data_words in
    let p = c.args.pointer_words in
    let ss = c.args.items.now in
    let ws = c.loop-item.words.items in
    let i = c.loop-item.item-index in
    let sizes = structs_sizes ss i item test c.item-item.is inv.sizes in
    let all = structs_taken ss i item test c.item-item.is in
    let even = structs_even ss i item test c.item-item.is d p inv.even in
    let inside = struct_inside c.loop-item.slot (d + p) test inv.inside in
    let more = c.place_fields.ensures.capacity in
    let made = rw (c.as_slice.ensures, c.deref.ensures.value) at c.place_fields.ensures.placed in
    let next : c.loop-item.slot + (c.from.result + c.from-in-loop-item.result) ≡ c.loop-item.slot + (d + p) = ap (λ (k : ℕ). c.loop-item.slot + k) (sum_same c.from.ensures c.from-in-loop-item.ensures) in
    let at = c.loop-item.slot + length item.words.items in
    let ts = trees_view item.pointers.trees.items in
    let A = placed_all ts at (length ws) in
    let count = length-placed_all ts at (length ws) ∙ trees_counted item.pointers.trees.items in
    let own = taken_by_all ts 0 at (length ws) sizes.0 in
    let size : length c.place_fields.new.words.items ≡ length ws + taken (parts_of_all ts 0) =
    ap length made ∙ length-filled ws (item.words.items ++ A.0) A.1 c.loop-item.slot (section_fits c.loop-item.slot _ (length-append item.words.items A.0 ∙ ap (λ (k : ℕ). length item.words.items + k) count) even.0 even.1 inside) ∙ ap (λ (k : ℕ). length ws + k) own in
    record {
      even = even.2;
      inside = struct_next c.loop-item.slot (d + p) _ (taken (parts_of_all ts 0)) next size inside;
      sizes = sizes.1;
      room = room_rest (taken (parts_of_all ts 0)) all size more inv.room;
      capacity = le_then inv.capacity more;
      same = structs_placed ss i item test c.item-item.is ws c.place_fields.new.words.items _ d p c.loop-item.slot (c.loop-item.slot + (c.from.result + c.from-in-loop-item.result)) inv.even next inv.inside inv.sizes made inv.same;
      fits = structs_fit ss i item test c.item-item.is (structs_view ss) (rw c.as_slice.ensures at c.place_fields.ensures.fits) inv.fits;
    }

pub place_tree-pointer_to_struct-requires-clause-data_words : goal.place_tree-pointer_to_struct-requires-clause-data_words
place_tree-pointer_to_struct-requires-clause-data_words t c =
    let e = ap view c.in-Struct.is ∙ view_struct c.in-Struct.«data» c.in-Struct.pointers in
    let sizes = subst (λ (u : Tree). HaveSizes (parts u 0)) e c.requires.sizes in
    let n = trees_counted c.in-Struct.pointers.trees.items in
    let w = or_parts (ltb 65535 (length c.in-Struct.«data».items)) (ltb 65535 (trees_count (trees_view c.in-Struct.pointers.trees.items))) sizes.0.0.1 in
    let a = ltb-false 65535 (length c.in-Struct.«data».items) w.0 in
    let b = ltb-false 65535 (trees_count (trees_view c.in-Struct.pointers.trees.items)) w.1 in
    omega (arith, a, b, n)

pub place_tree-pointer_to_struct-requires-clause-pointer_words : goal.place_tree-pointer_to_struct-requires-clause-pointer_words
place_tree-pointer_to_struct-requires-clause-pointer_words t c =
    let e = ap view c.in-Struct.is ∙ view_struct c.in-Struct.«data» c.in-Struct.pointers in
    let sizes = subst (λ (u : Tree). HaveSizes (parts u 0)) e c.requires.sizes in
    let k = ap length c.as_slice-trees.ensures in
    let n = trees_counted c.in-Struct.pointers.trees.items in
    let w = or_parts (ltb 65535 (length c.in-Struct.«data».items)) (ltb 65535 (trees_count (trees_view c.in-Struct.pointers.trees.items))) sizes.0.0.1 in
    let a = ltb-false 65535 (length c.in-Struct.«data».items) w.0 in
    let b = ltb-false 65535 (trees_count (trees_view c.in-Struct.pointers.trees.items)) w.1 in
    omega (arith, a, b, n, k)

pub place_trees-returns-clause-placed : goal.place_trees-returns-clause-placed
place_trees-returns-clause-placed t c =
    let inv = c.loop-tree.invariant in
    let ws = c.loop-tree.words.items in
    sym (filled_none ws c.loop-tree.slot (omega (arith, inv.inside)))
    ∙ sym (ap (λ (us : List program.Tree). filled ws c.loop-tree.slot (placed_all (trees_view us) c.loop-tree.slot (length ws))) (drop_all c.loop-tree.tree-index c.args.trees.now c.loop-tree-test.false))
    ∙ inv.same

pub place_structs-returns-clause-placed : goal.place_structs-returns-clause-placed
place_structs-returns-clause-placed t c =
    let inv = c.loop-item.invariant in
    let ws = c.loop-item.words.items in
    sym (filled_none ws c.loop-item.slot (omega (arith, inv.inside)))
    ∙ sym (ap (λ (us : List Fields). filled ws c.loop-item.slot (placed_structs (structs_view us) c.loop-item.slot (length ws))) (drop_all c.loop-item.item-index c.args.items.now c.loop-item-test.false))
    ∙ inv.same

pub place_trees-index_mut-requires : goal.place_trees-index_mut-requires
place_trees-index_mut-requires t c =
    let size = ap length c.place_tree-word.ensures.laid.placed ∙ length-append c.loop-tree.words.items (placed (view c.tree-item.result) c.loop-tree.slot (length c.loop-tree.words.items)).1 in
    let inside = c.loop-tree.invariant.inside in
    omega (arith, size, inside)

pub place_tree-place_items-requires : goal.place_tree-place_items-requires
place_tree-place_items-requires t c =
    let e = ap view c.in-List.is ∙ view_list c.in-List.items in
    let sizes = subst (λ (u : Tree). HaveSizes (parts u 0)) e c.requires.sizes in
    let room = subst (λ (u : Tree). HasRoom (taken (parts u 0)) (length c.args.words.now.items) (vec_capacity c.args.words.now)) e c.requires.room in
    (grind (the_lemmas, arith, common_steps), (c.requires.ahead, (sizes, room)))

pub place_fields-place_trees-requires : goal.place_fields-place_trees-requires
place_fields-place_trees-requires t c =
    let inside = c.requires.inside in
    let size = length-put c.args.words.now.items c.put.new.words.items c.args.section.now c.args.at c.put.ensures.items (omega (arith, inside)) in
    (grind (the_lemmas, arith, common_steps), (rw size inside, (c.requires.sizes, rw (size, c.put.ensures.capacity) c.requires.room)))

pub place_fields-returns-clause-capacity : goal.place_fields-returns-clause-capacity
place_fields-returns-clause-capacity t c =
    subst (λ (k : ℕ). k ≤ vec_capacity c.place_trees.new.words) c.put.ensures.capacity c.place_trees.ensures.capacity

pub place_pointers-place_trees-requires : goal.place_pointers-place_trees-requires
place_pointers-place_trees-requires t c =
    let size = ap length c.push_zeros.ensures.items ∙ length-append c.args.words.now.items (replicate {A = ℕ} (length c.args.trees.now) 0) ∙ ap (λ (k : ℕ). length c.args.words.now.items + k) (length-replicate {A = ℕ} (length c.args.trees.now) 0) in
    (grind (the_lemmas, arith, common_steps), (pointers_there (length c.args.trees.now) (c.len-next.ensures ∙ c.args.words.now.ok.0) size, (c.requires.sizes, room_rest (length c.args.trees.now) refl size c.push_zeros.ensures.capacity c.requires.room)))

pub place_pointers-push_zeros-requires : goal.place_pointers-push_zeros-requires
place_pointers-push_zeros-requires t c = zeros_spare _ {count = length c.args.trees.now} refl refl c.requires.room

pub place_list-place_structs-requires : goal.place_list-place_structs-requires
place_list-place_structs-requires t c =
    let count = length c.args.items.now * (c.from.result + c.from-2.result) in
    let whole = length c.args.items.now * (c.args.data_words + c.args.pointer_words) in
    let same : count ≡ whole = ap (λ (k : ℕ). length c.args.items.now * k) (sum_same c.from.ensures c.from-2.ensures) in
    let tag = ap length c.push_reserved.ensures.items ∙ length_push c.args.words.now.items c.word_of_struct-tag.result in
    let zeros = ap length c.push_zeros.ensures.items ∙ length-append c.push_reserved.new.self.items (replicate {A = ℕ} count 0) in
    let size = list_long (length c.args.words.now.items) zeros (length-replicate {A = ℕ} count 0) tag same in
    let more = subst (λ (k : ℕ). k ≤ vec_capacity c.push_zeros.new.words) c.push_reserved.ensures.capacity c.push_zeros.ensures.capacity in
    (grind (the_lemmas, arith, common_steps), (c.requires.even, (list_there whole (c.len-next.ensures ∙ c.args.words.now.ok.0) size, (c.requires.sizes, room_rest (whole + 1) refl size more c.requires.room))))

pub place_list-push_reserved-requires : goal.place_list-push_reserved-requires
place_list-push_reserved-requires t c = let spare = c.requires.room.spare in omega (arith, spare)

pub place_list-push_zeros-requires : goal.place_list-push_zeros-requires
place_list-push_zeros-requires t c =
    let same = ap (λ (k : ℕ). length c.args.items.now * k) (sum_same c.from.ensures c.from-2.ensures) in
    let tag = ap length c.push_reserved.ensures.items ∙ length_push c.args.words.now.items c.word_of_struct-tag.result in
    list_spare _ tag same c.push_reserved.ensures.capacity c.requires.room

pub place_items-place_packed-requires : goal.place_items-place_packed-requires
place_items-place_packed-requires t c =
    let e = ap items_view c.in-Bits.is ∙ view_bits c.in-Bits.bits ∙ ap (λ (bs : List Bool). tree.packed 1 (map bit bs)) (sym c.as_slice.ensures.value) in
    record { ahead = c.requires.ahead; narrow = narrow_1; room = packed_room 1 c.as_slice.result.now bit _ _ _ e c.requires.room }

pub place_items-returns-in-Bits : goal.place_items-returns-in-Bits
place_items-returns-in-Bits t c =
    let e = ap items_view c.in-Bits.is ∙ view_bits c.in-Bits.bits ∙ ap (λ (bs : List Bool). tree.packed 1 (map bit bs)) (sym c.as_slice.ensures.value) in
    record { laid = rw e c.place_packed.ensures.laid; fits = subst FitsList (sym e) ((width.Bit, refl), c.place_packed.ensures.fit) }

pub place_items-place_bytes-requires : goal.place_items-place_bytes-requires
place_items-place_bytes-requires t c =
    let e = ap items_view c.in-Bytes.is ∙ view_bytes c.in-Bytes.bytes ∙ ap (tree.packed 8) (sym c.as_slice-in-Bytes.ensures.value) in
    record { ahead = c.requires.ahead; room = bytes_room c.as_slice-in-Bytes.result.now _ _ _ e c.requires.room }

pub place_items-returns-in-Bytes : goal.place_items-returns-in-Bytes
place_items-returns-in-Bytes t c =
    let e = ap items_view c.in-Bytes.is ∙ view_bytes c.in-Bytes.bytes ∙ ap (tree.packed 8) (sym c.as_slice-in-Bytes.ensures.value) in
    record { laid = rw e c.place_bytes.ensures.laid; fits = subst FitsList (sym e) ((width.Byte, refl), c.place_bytes.ensures.fit) }

pub place_items-place_packed-requires-in-Twos : goal.place_items-place_packed-requires-in-Twos
place_items-place_packed-requires-in-Twos t c =
    let e = ap items_view c.in-Twos.is ∙ view_twos c.in-Twos.twos ∙ ap (tree.packed 16) (sym c.as_slice-in-Twos.ensures.value ∙ sym (map-id c.as_slice-in-Twos.result.now)) in
    record { ahead = c.requires.ahead; narrow = narrow_16; room = packed_room 16 c.as_slice-in-Twos.result.now (λ (x : ℕ). x) _ _ _ e c.requires.room }

pub place_items-returns-in-Twos : goal.place_items-returns-in-Twos
place_items-returns-in-Twos t c =
    let e = ap items_view c.in-Twos.is ∙ view_twos c.in-Twos.twos ∙ ap (tree.packed 16) (sym c.as_slice-in-Twos.ensures.value ∙ sym (map-id c.as_slice-in-Twos.result.now)) in
    record { laid = rw e c.place_packed-in-Twos.ensures.laid; fits = subst FitsList (sym e) ((width.TwoBytes, refl), c.place_packed-in-Twos.ensures.fit) }

pub place_items-place_packed-requires-in-Fours : goal.place_items-place_packed-requires-in-Fours
place_items-place_packed-requires-in-Fours t c =
    let e = ap items_view c.in-Fours.is ∙ view_fours c.in-Fours.fours ∙ ap (tree.packed 32) (sym c.as_slice-in-Fours.ensures.value ∙ sym (map-id c.as_slice-in-Fours.result.now)) in
    record { ahead = c.requires.ahead; narrow = narrow_32; room = packed_room 32 c.as_slice-in-Fours.result.now (λ (x : ℕ). x) _ _ _ e c.requires.room }

pub place_items-returns-in-Fours : goal.place_items-returns-in-Fours
place_items-returns-in-Fours t c =
    let e = ap items_view c.in-Fours.is ∙ view_fours c.in-Fours.fours ∙ ap (tree.packed 32) (sym c.as_slice-in-Fours.ensures.value ∙ sym (map-id c.as_slice-in-Fours.result.now)) in
    record { laid = rw e c.place_packed-in-Fours.ensures.laid; fits = subst FitsList (sym e) ((width.FourBytes, refl), c.place_packed-in-Fours.ensures.fit) }

pub place_items-place_eights-requires : goal.place_items-place_eights-requires
place_items-place_eights-requires t c =
    let e = ap items_view c.in-Eights.is ∙ view_eights c.in-Eights.eights ∙ ap (tree.packed 64) (sym c.as_slice-in-Eights.ensures.value) in
    record { ahead = c.requires.ahead; room = eights_room c.as_slice-in-Eights.result.now _ _ _ e c.requires.room }

pub place_items-returns-in-Eights : goal.place_items-returns-in-Eights
place_items-returns-in-Eights t c =
    let e = ap items_view c.in-Eights.is ∙ view_eights c.in-Eights.eights ∙ ap (tree.packed 64) (sym c.as_slice-in-Eights.ensures.value) in
    record { laid = rw e c.place_eights.ensures.laid; fits = subst FitsList (sym e) ((width.EightBytes, refl), c.place_eights.ensures.fit) }

pub place_items-returns-in-Void : goal.place_items-returns-in-Void
place_items-returns-in-Void t c =
    let e = ap items_view c.in-Void.is ∙ view_void c.in-Void.count in
    let zeros = replicate {A = ℕ} c.in-Void.count 0 in
    let n = length-replicate {A = ℕ} c.in-Void.count 0 in
    let is_next : c.len.result ≡ length c.args.words.now.items = omega arith in
    let none : packed_size 0 (length zeros) ≡ 0 = omega arith in
    record {
      laid = rw e record {
        word = c.word_of_list.ensures ∙ rw (c.distance.ensures, is_next, c.from.ensures, n) refl;
        placed = sym (ap (λ (k : ℕ). c.args.words.now.items ++ packed_words 0 k zeros) none ∙ append-nil c.args.words.now.items);
        capacity = omega arith;
      };
      fits = subst FitsList (sym e) ((width.Void, refl), zeros_fit c.in-Void.count);
    }

pub place_items-returns-in-Pointers-clause-laid : goal.place_items-returns-in-Pointers-clause-laid
place_items-returns-in-Pointers-clause-laid t c =
    let e = ap items_view c.in-Pointers.is ∙ view_pointers c.in-Pointers.pointers in
    rw e (rw (trees_counted c.in-Pointers.pointers.trees.items) (rw c.as_slice-in-Pointers.ensures at c.place_pointers.ensures.laid))

pub place_items-returns-in-Structs-clause-laid : goal.place_items-returns-in-Structs-clause-laid
place_items-returns-in-Structs-clause-laid t c =
    let e = ap items_view c.in-Structs.is ∙ view_structs c.in-Structs.data_words c.in-Structs.pointer_words c.in-Structs.items in
    rw e (rw (structs_counted c.in-Structs.items.items) (rw c.deref.ensures.value at c.place_list.ensures.laid))

pub place_tree-returns-in-Null-clause-laid : goal.place_tree-returns-in-Null-clause-laid
place_tree-returns-in-Null-clause-laid t c =
    rw (ap view c.in-Null.is ∙ view_null) record { word = refl; placed = sym (append-nil c.args.words.now.items); capacity = omega arith }

pub place_tree-returns-in-Cap-clause-laid : goal.place_tree-returns-in-Cap-clause-laid
place_tree-returns-in-Cap-clause-laid t c =
    rw (ap view c.in-Cap.is ∙ view_capability c.in-Cap.index) record { word = c.word_of_capability.ensures; placed = sym (append-nil c.args.words.now.items); capacity = omega arith }

pub place_tree-returns-in-List : goal.place_tree-returns-in-List
place_tree-returns-in-List t c =
    let e = ap view c.in-List.is ∙ view_list c.in-List.items in
    record { laid = rw e c.place_items.ensures.laid; fits = rw e c.place_items.ensures.fits }

pub place_tree-returns-in-Struct-clause-laid : goal.place_tree-returns-in-Struct-clause-laid
place_tree-returns-in-Struct-clause-laid t c =
    let e = ap view c.in-Struct.is ∙ view_struct c.in-Struct.«data» c.in-Struct.pointers in
    let k = ap length c.as_slice-trees.ensures in
    let n = trees_counted c.in-Struct.pointers.trees.items in
    let is_next : c.len-next.result ≡ length c.args.words.now.items = c.len-next.ensures ∙ c.args.words.now.ok.0 in
    let is_data : c.len-in-Struct.result ≡ length c.in-Struct.«data».items = c.len-in-Struct.ensures ∙ c.in-Struct.«data».ok.0 in
    let is_pointers : length c.as_slice-trees.result.now ≡ trees_count (trees_view c.in-Struct.pointers.trees.items) = k ∙ sym n in
    let made = rw (c.as_slice-trees.ensures, c.deref.ensures.value) at c.place_fields.ensures.placed in
    let count : c.len.result + length c.as_slice-trees.result.now ≡ length c.in-Struct.«data».items + length c.in-Struct.pointers.trees.items = sum_same (c.len.ensures ∙ c.in-Struct.«data».ok.0) k in
    let a = c.push_zeros.ensures.capacity in
    let b = c.place_fields.ensures.capacity in
    rw e record {
      word = c.pointer_to_struct.ensures ∙ rw (is_next, is_data, is_pointers) refl;
      placed = struct_placed c.in-Struct.pointers.trees.items c.args.words.now.items c.push_zeros.new.words.items c.place_fields.new.words.items c.in-Struct.«data».items c.len-next.result
          (c.push_zeros.ensures.items ∙ ap (λ (k : ℕ). c.args.words.now.items ++ replicate k 0) count) is_next made;
      capacity = le_then a b;
    }

pub place_pointers-returns-clause-laid : goal.place_pointers-returns-clause-laid
place_pointers-returns-clause-laid t c =
    let is_next : c.len-next.result ≡ length c.args.words.now.items = c.len-next.ensures ∙ c.args.words.now.ok.0 in
    let a = c.push_zeros.ensures.capacity in
    let b = c.place_trees.ensures.capacity in
    record {
      word = c.word_of_list.ensures ∙ rw (c.distance.ensures, is_next) refl;
      placed = pointers_placed c.args.trees.now c.args.words.now.items c.push_zeros.new.words.items c.place_trees.new.words.items c.len-next.result c.push_zeros.ensures.items is_next c.place_trees.ensures.placed;
      capacity = le_then a b;
    }

pub place_list-returns-clause-laid : goal.place_list-returns-clause-laid
place_list-returns-clause-laid t c =
    let is_next : c.len-next.result ≡ length c.args.words.now.items = c.len-next.ensures ∙ c.args.words.now.ok.0 in
    let tag_is = rw (c.from-3.ensures, c.from-4.ensures) at c.word_of_struct-tag.ensures in
    let a = c.push_reserved.ensures.capacity in
    let b = c.push_zeros.ensures.capacity in
    let d = c.place_structs.ensures.capacity in
    record {
      word = c.word_of_list.ensures ∙ rw (c.distance.ensures, is_next, c.from.ensures, c.from-2.ensures) refl;
      placed = rw (← tag_is) (list_placed c.args.items.now c.args.data_words c.args.pointer_words c.args.words.now.items c.push_reserved.new.self.items c.push_zeros.new.words.items c.place_structs.new.words.items (c.len-next.result + 1) c.word_of_struct-tag.result c.requires.even c.push_reserved.ensures.items (c.push_zeros.ensures.items ∙ ap (λ (k : ℕ). c.push_reserved.new.self.items ++ replicate (length c.args.items.now * k) 0) (sum_same c.from.ensures c.from-2.ensures)) (ap (λ (k : ℕ). k + 1) is_next) c.place_structs.ensures.placed);
      capacity = subst (λ (k : ℕ). k ≤ vec_capacity c.place_structs.new.words) a (le_then b d);
    }

pub place_fields-put-requires : goal.place_fields-put-requires
place_fields-put-requires t c =
    let inside = c.requires.inside in
    omega (arith, inside)

pub place_fields-overflow_add-at : goal.place_fields-overflow_add-at
place_fields-overflow_add-at t c =
    let inside = c.requires.inside in
    let few = c.requires.room.few in
    omega (arith, inside, few)

pub place_fields-returns-clause-fits : goal.place_fields-returns-clause-fits
place_fields-returns-clause-fits t c =
    c.place_trees.ensures.fits

pub place_items-distance-requires : goal.place_items-distance-requires
place_items-distance-requires t c =
    let ahead = c.requires.ahead in
    omega (arith, ahead)

pub place_items-word_of_list-requires-clause-offset : goal.place_items-word_of_list-requires-clause-offset
place_items-word_of_list-requires-clause-offset t c =
    let few = c.requires.room.few in
    let apart = c.distance.ensures in
    omega (arith, few, apart)

pub place_items-word_of_list-requires-clause-size : goal.place_items-word_of_list-requires-clause-size
place_items-word_of_list-requires-clause-size t c =
    omega arith

pub place_items-returns-in-Pointers-clause-fits : goal.place_items-returns-in-Pointers-clause-fits
place_items-returns-in-Pointers-clause-fits t c =
    let e = ap items_view c.in-Pointers.is ∙ view_pointers c.in-Pointers.pointers in
    rw e (rw c.as_slice-in-Pointers.ensures at c.place_pointers.ensures.fits)

pub place_list-overflow_add-size : goal.place_list-overflow_add-size
place_list-overflow_add-size t c =
    omega arith

pub place_list-overflow_mul-size : goal.place_list-overflow_mul-size
place_list-overflow_mul-size t c =
    let step : c.from.result + c.from-2.result ≡ c.args.data_words + c.args.pointer_words = omega arith in
    let same = ap (λ (k : ℕ). length c.args.items.now * k) step in
    let few = c.requires.room.few in
    omega (arith, same, few)

pub place_list-word_of_struct-tag-requires-clause-offset : goal.place_list-word_of_struct-tag-requires-clause-offset
place_list-word_of_struct-tag-requires-clause-offset t c =
    let few = c.requires.few in
    omega (arith, few)

pub place_list-word_of_struct-tag-requires-clause-data_words : goal.place_list-word_of_struct-tag-requires-clause-data_words
place_list-word_of_struct-tag-requires-clause-data_words t c =
    omega arith

pub place_list-word_of_struct-tag-requires-clause-pointer_words : goal.place_list-word_of_struct-tag-requires-clause-pointer_words
place_list-word_of_struct-tag-requires-clause-pointer_words t c =
    omega arith

pub place_list-overflow_add-next : goal.place_list-overflow_add-next
place_list-overflow_add-next t c =
    let few = c.requires.room.few in
    omega (arith, few)

pub place_list-distance-requires : goal.place_list-distance-requires
place_list-distance-requires t c =
    let ahead = c.requires.ahead in
    omega (arith, ahead)

pub place_list-word_of_list-requires-clause-offset : goal.place_list-word_of_list-requires-clause-offset
place_list-word_of_list-requires-clause-offset t c =
    let few = c.requires.room.few in
    let apart = c.distance.ensures in
    omega (arith, few, apart)

pub place_list-word_of_list-requires-clause-size : goal.place_list-word_of_list-requires-clause-size
place_list-word_of_list-requires-clause-size t c =
    omega arith

pub place_list-word_of_list-requires-clause-count : goal.place_list-word_of_list-requires-clause-count
place_list-word_of_list-requires-clause-count t c =
    let step : c.from.result + c.from-2.result ≡ c.args.data_words + c.args.pointer_words = omega arith in
    let same = ap (λ (k : ℕ). length c.args.items.now * k) step in
    let few = c.requires.room.few in
    omega (arith, same, few)

pub place_list-returns-clause-fits : goal.place_list-returns-clause-fits
place_list-returns-clause-fits t c =
    c.place_structs.ensures.fits

pub place_pointers-distance-requires : goal.place_pointers-distance-requires
place_pointers-distance-requires t c =
    let ahead = c.requires.ahead in
    omega (arith, ahead)

pub place_pointers-word_of_list-requires-clause-offset : goal.place_pointers-word_of_list-requires-clause-offset
place_pointers-word_of_list-requires-clause-offset t c =
    let few = c.requires.room.few in
    let apart = c.distance.ensures in
    omega (arith, few, apart)

pub place_pointers-word_of_list-requires-clause-size : goal.place_pointers-word_of_list-requires-clause-size
place_pointers-word_of_list-requires-clause-size t c =
    omega arith

pub place_pointers-word_of_list-requires-clause-count : goal.place_pointers-word_of_list-requires-clause-count
place_pointers-word_of_list-requires-clause-count t c =
    let few = c.requires.room.few in
    omega (arith, few)

pub place_pointers-returns-clause-fits : goal.place_pointers-returns-clause-fits
place_pointers-returns-clause-fits t c =
    c.place_trees.ensures.fits

pub place_structs-overflow_add-slot : goal.place_structs-overflow_add-slot
place_structs-overflow_add-slot t c =
    let inside = c.loop-item.invariant.inside in
    let few = c.loop-item.invariant.room.few in
    omega (arith, inside, few)

pub place_structs-overflow_add-slot-in-loop-item : goal.place_structs-overflow_add-slot-in-loop-item
place_structs-overflow_add-slot-in-loop-item t c =
    let inside = c.loop-item.invariant.inside in
    let few = c.loop-item.invariant.room.few in
    omega (arith, inside, few)

pub place_structs-returns-clause-capacity : goal.place_structs-returns-clause-capacity
place_structs-returns-clause-capacity t c =
    c.loop-item.invariant.capacity

pub place_structs-returns-clause-fits : goal.place_structs-returns-clause-fits
place_structs-returns-clause-fits t c =
    c.loop-item.invariant.fits (subst (λ (us : List Fields). FitsStructs (structs_view us)) (sym (drop_all c.loop-item.item-index c.args.items.now c.loop-item-test.false)) tt)

pub place_tree-pointer_to_struct-requires-clause-ahead : goal.place_tree-pointer_to_struct-requires-clause-ahead
place_tree-pointer_to_struct-requires-clause-ahead t c =
    let ahead = c.requires.ahead in
    omega (arith, ahead)

pub place_tree-pointer_to_struct-requires-clause-small : goal.place_tree-pointer_to_struct-requires-clause-small
place_tree-pointer_to_struct-requires-clause-small t c =
    let few = c.requires.room.few in
    omega (arith, few)

pub place_tree-returns-in-Null-clause-fits : goal.place_tree-returns-in-Null-clause-fits
place_tree-returns-in-Null-clause-fits t c =
    rw (ap view c.in-Null.is ∙ view_null) tt

pub place_tree-returns-in-Struct-clause-fits : goal.place_tree-returns-in-Struct-clause-fits
place_tree-returns-in-Struct-clause-fits t c =
    let e = ap view c.in-Struct.is ∙ view_struct c.in-Struct.«data» c.in-Struct.pointers in
    rw e (rw c.as_slice-trees.ensures at c.place_fields.ensures.fits)

pub place_trees-overflow_add-slot : goal.place_trees-overflow_add-slot
place_trees-overflow_add-slot t c =
    let inside = c.loop-tree.invariant.inside in
    let few = c.loop-tree.invariant.room.few in
    let test = c.loop-tree-test.true in
    omega (arith, inside, few, test)

pub place_trees-returns-clause-capacity : goal.place_trees-returns-clause-capacity
place_trees-returns-clause-capacity t c =
    c.loop-tree.invariant.capacity

pub place_trees-returns-clause-fits : goal.place_trees-returns-clause-fits
place_trees-returns-clause-fits t c =
    c.loop-tree.invariant.fits (subst (λ (us : List program.Tree). FitsAll (trees_view us)) (sym (drop_all c.loop-tree.tree-index c.args.trees.now c.loop-tree-test.false)) tt)

pub place_items-word_of_list-requires-clause-count : goal.place_items-word_of_list-requires-clause-count
place_items-word_of_list-requires-clause-count t c =
    let e = ap items_view c.in-Void.is ∙ view_void c.in-Void.count in
    let sizes = subst (λ (es : Elements). HaveSizes (parts (tree.list es) 0)) e c.requires.sizes in
    let most = ltb-false 536870911 (length (replicate {A = ℕ} c.in-Void.count 0)) sizes.0.0.1 in
    let n = length-replicate {A = ℕ} c.in-Void.count 0 in
    omega (arith, most, n)

pub place_items-returns-in-Structs-clause-fits : goal.place_items-returns-in-Structs-clause-fits
place_items-returns-in-Structs-clause-fits t c =
    let e = ap items_view c.in-Structs.is ∙ view_structs c.in-Structs.data_words c.in-Structs.pointer_words c.in-Structs.items in
    rw e ((omega arith, omega arith), rw c.deref.ensures.value at c.place_list.ensures.fits)

pub place_tree-returns-in-Cap-clause-fits : goal.place_tree-returns-in-Cap-clause-fits
place_tree-returns-in-Cap-clause-fits t c =
    rw (ap view c.in-Cap.is ∙ view_capability c.in-Cap.index) (omega arith)

pub place_tree-overflow_add-len : goal.place_tree-overflow_add-len
place_tree-overflow_add-len t c =
    let e = ap view c.in-Struct.is ∙ view_struct c.in-Struct.«data» c.in-Struct.pointers in
    let few = (subst (λ (u : Tree). HasRoom (taken (parts u 0)) (length c.args.words.now.items) (vec_capacity c.args.words.now)) e c.requires.room).few in
    let k = ap length c.as_slice-trees.ensures in
    let n = trees_counted c.in-Struct.pointers.trees.items in
    omega (arith, few, n, k)

pub place_trees-loop-tree-init : goal.place_trees-loop-tree-init
place_trees-loop-tree-init t c =
    let inside = c.requires.inside in
    record {
      slot = omega arith;
      inside = omega (arith, inside);
      sizes = c.requires.sizes;
      room = c.requires.room;
      capacity = omega arith;
      same = refl;
      fits = λ all. all;
    }

pub place_structs-loop-item-init : goal.place_structs-loop-item-init
place_structs-loop-item-init t c =
    let all : length c.args.items.now - 0 ≡ length c.args.items.now = omega arith in
    record {
      even = c.requires.even;
      inside = rw all c.requires.inside;
      sizes = c.requires.sizes;
      room = c.requires.room;
      capacity = omega arith;
      same = refl;
      fits = λ all. all;
    }

pub place_trees-loop-tree-smaller : goal.place_trees-loop-tree-smaller
place_trees-loop-tree-smaller t c = omega arith

pub place_structs-loop-item-smaller : goal.place_structs-loop-item-smaller
place_structs-loop-item-smaller t c = omega arith
