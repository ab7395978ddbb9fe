use Rattle.std.proofs.lemmas.Grind.{common_steps}
use Rattle.capn_trees.specs.declared.tree.Items.TheFolds.{the_lemmas}
use Rattle.std.proofs.Common.{◌≡◌, Bool, ℕ, ◌+◌, ◌<◌, ◌≤◌, arith, List, [], ◌∷◌, ◌++◌, length, map, take, get_or, sym, ap, subst, ◌∙◌}
use Rattle.std.specs.Prelude.{IfOk}
use Rattle.std.proofs.lemmas.Result.{err_from_is_err_and}
use Rattle.std.proofs.lemmas.List.{map_push, map-id, take_all, take_more}
use Rattle.capn_trees.specs.declared.tree.Fields.{Fields}
use Rattle.capn_trees.specs.Trees.{Tree, Trees, Elements, Structs, struct, list, packed, pointers, structs}
use Rattle.capn_trees.specs.Views.{bit, view, held, items_view, fields_view, trees_of, structs_of, trees_view, structs_view}
use Rattle.capn_trees.proofs.Viewed.{view_fields, view_struct, view_list, view_bits, view_bytes, view_twos, view_fours, view_eights, view_pointers, view_structs}
use Rattle.capn_trees.proofs.copy.+copy.Goals as goal

-- one more copy that says what it is a copy of, and the copies of all
copied_more : {X Y : Type 0} (f : X → Y) (more done xs : List X) (i : ℕ) (x y : X) → more ≡ done ++ y ∷ [] → i < length xs → x ≡ get_or xs i x → f y ≡ f x
    → map f done ≡ map f (take i xs) → map f more ≡ map f (take (i + 1) xs)
copied_more f more done xs i x y is_more lt is_x same so_far =
    ap (map f) is_more ∙ map_push f done y ∙ ap (λ l. l ++ f y ∷ []) so_far ∙ ap (λ z. map f (take i xs) ++ z ∷ []) (same ∙ ap f is_x)
    ∙ sym (ap (map f) (take_more xs i x lt) ∙ map_push f (take i xs) (get_or xs i x))

copied_all : {X Y : Type 0} (f : X → Y) (done xs : List X) (i : ℕ) → length xs ≤ i → map f done ≡ map f (take i xs) → map f done ≡ map f xs
copied_all f done xs i le so_far = so_far ∙ ap (map f) (take_all i xs le)

fields_same : (x y : Fields) → y.words.items ≡ x.words.items → trees_view y.pointers.trees.items ≡ trees_view x.pointers.trees.items → fields_view y ≡ fields_view x
fields_same x y words trees =
    view_fields y ∙ ap (λ (ws : List ℕ). (ws, trees_view y.pointers.trees.items)) words ∙ ap (λ (ts : Trees). (x.words.items, ts)) trees ∙ sym (view_fields x)

pub copy_pointers-loop-tree-preserved : goal.copy_pointers-loop-tree-preserved
copy_pointers-loop-tree-preserved t c =
    record {
      same = copied_more view c.push_reserved.new.self.items c.loop-tree.copies.items c.as_slice-trees.result.now c.loop-tree.tree-index c.tree-item.result _ c.push_reserved.ensures.items c.loop-tree-test.true c.tree-item.is c.in_ok-copy_tree.ensures c.loop-tree.invariant.same;
      count = c.push_reserved.ensures.len ∙ ap (λ n. n + 1) c.loop-tree.invariant.count;
      room = c.push_reserved.ensures.capacity ∙ c.loop-tree.invariant.room;
    }

pub copy_pointers-push_reserved-requires : goal.copy_pointers-push_reserved-requires
copy_pointers-push_reserved-requires t c =
    let count = c.loop-tree.invariant.count in
    let room = c.loop-tree.invariant.room in
    let test = c.loop-tree-test.true in
    omega (arith, count, room, test)

pub copy_pointers-returns : goal.copy_pointers-returns
copy_pointers-returns t c =
    ap trees_of (copied_all view c.loop-tree.copies.items c.as_slice-trees.result.now c.loop-tree.tree-index c.loop-tree-test.false c.loop-tree.invariant.same)
    ∙ ap trees_view c.as_slice-trees.ensures

pub copy_structs-loop-item-preserved : goal.copy_structs-loop-item-preserved
copy_structs-loop-item-preserved t c =
    let same = fields_same c.item-item.result (record { words = c.in_ok-words.words; pointers = c.in_ok-pointers.pointers }) (c.in_ok-words.ensures.items ∙ c.as_slice.ensures.value) c.in_ok-pointers.ensures in
    record {
      same = copied_more fields_view c.push_reserved.new.self.items c.loop-item.copies.items c.args.items.now c.loop-item.item-index c.item-item.result _ c.push_reserved.ensures.items c.loop-item-test.true c.item-item.is same c.loop-item.invariant.same;
      count = c.push_reserved.ensures.len ∙ ap (λ n. n + 1) c.loop-item.invariant.count;
      room = c.push_reserved.ensures.capacity ∙ c.loop-item.invariant.room;
    }

pub copy_structs-push_reserved-requires : goal.copy_structs-push_reserved-requires
copy_structs-push_reserved-requires t c =
    let count = c.loop-item.invariant.count in
    let room = c.loop-item.invariant.room in
    let test = c.loop-item-test.true in
    omega (arith, count, room, test)

pub copy_structs-returns : goal.copy_structs-returns
copy_structs-returns t c =
    ap structs_of (copied_all fields_view c.loop-item.copies.items c.args.items.now c.loop-item.item-index c.loop-item-test.false c.loop-item.invariant.same)

pub copy_list-returns-in-Void : goal.copy_list-returns-in-Void
copy_list-returns-in-Void t c = view_list _ ∙ ap list (sym (ap items_view c.in-Void.is))

pub copy_list-returns-in-Bits : goal.copy_list-returns-in-Bits
copy_list-returns-in-Bits t c =
    let same = ap (λ (bs : List Bool). packed 1 (map bit bs)) c.as_slice.ensures.value ∙ sym (ap items_view c.in-Bits.is ∙ view_bits c.in-Bits.bits) in
    subst (λ (es : Elements). IfOk c.copy_elements.result (λ copy. view copy ≡ list es)) same c.copy_elements.ensures

pub copy_list-returns-in-Bytes : goal.copy_list-returns-in-Bytes
copy_list-returns-in-Bytes t c =
    let same = ap (packed 8) (map-id c.as_slice-in-Bytes.result.now ∙ c.as_slice-in-Bytes.ensures.value) ∙ sym (ap items_view c.in-Bytes.is ∙ view_bytes c.in-Bytes.bytes) in
    subst (λ (es : Elements). IfOk c.copy_elements-in-Bytes.result (λ copy. view copy ≡ list es)) same c.copy_elements-in-Bytes.ensures

pub copy_list-returns-in-Twos : goal.copy_list-returns-in-Twos
copy_list-returns-in-Twos t c =
    let same = ap (packed 16) (map-id c.as_slice-in-Twos.result.now ∙ c.as_slice-in-Twos.ensures.value) ∙ sym (ap items_view c.in-Twos.is ∙ view_twos c.in-Twos.twos) in
    subst (λ (es : Elements). IfOk c.copy_elements-in-Twos.result (λ copy. view copy ≡ list es)) same c.copy_elements-in-Twos.ensures

pub copy_list-returns-in-Fours : goal.copy_list-returns-in-Fours
copy_list-returns-in-Fours t c =
    let same = ap (packed 32) (map-id c.as_slice-in-Fours.result.now ∙ c.as_slice-in-Fours.ensures.value) ∙ sym (ap items_view c.in-Fours.is ∙ view_fours c.in-Fours.fours) in
    subst (λ (es : Elements). IfOk c.copy_elements-in-Fours.result (λ copy. view copy ≡ list es)) same c.copy_elements-in-Fours.ensures

pub copy_list-returns-in-Eights : goal.copy_list-returns-in-Eights
copy_list-returns-in-Eights t c =
    let same = ap (packed 64) (map-id c.as_slice-in-Eights.result.now ∙ c.as_slice-in-Eights.ensures.value) ∙ sym (ap items_view c.in-Eights.is ∙ view_eights c.in-Eights.eights) in
    subst (λ (es : Elements). IfOk c.copy_elements-in-Eights.result (λ copy. view copy ≡ list es)) same c.copy_elements-in-Eights.ensures

pub copy_list-returns-in_ok-pointers-in-Pointers : goal.copy_list-returns-in_ok-pointers-in-Pointers
copy_list-returns-in_ok-pointers-in-Pointers t c =
    view_list _ ∙ ap list (view_pointers c.in_ok-pointers-in-Pointers.pointers) ∙ ap (λ (ts : Trees). list (pointers ts)) c.in_ok-pointers-in-Pointers.ensures ∙ ap list (sym (ap items_view c.in-Pointers.is ∙ view_pointers c.in-Pointers.pointers))

pub copy_list-returns-in_ok-items-in-Structs : goal.copy_list-returns-in_ok-items-in-Structs
copy_list-returns-in_ok-items-in-Structs t c =
    view_list _ ∙ ap list (view_structs c.in-Structs.data_words c.in-Structs.pointer_words c.in_ok-items-in-Structs.items)
    ∙ ap (λ (ss : Structs). list (structs c.in-Structs.data_words c.in-Structs.pointer_words ss)) (c.in_ok-items-in-Structs.ensures ∙ ap structs_view c.as_slice-in-Structs.ensures.value)
    ∙ ap list (sym (ap items_view c.in-Structs.is ∙ view_structs c.in-Structs.data_words c.in-Structs.pointer_words c.in-Structs.items))

pub copy_tree-returns-in-Null : goal.copy_tree-returns-in-Null
copy_tree-returns-in-Null t c = sym (ap view c.in-Null.is)

pub copy_tree-returns-in-Cap : goal.copy_tree-returns-in-Cap
copy_tree-returns-in-Cap t c = sym (ap view c.in-Cap.is)

pub copy_tree-returns-in_ok-pointers-in-Struct : goal.copy_tree-returns-in_ok-pointers-in-Struct
copy_tree-returns-in_ok-pointers-in-Struct t c =
    let same = c.in_ok-words-in-Struct.ensures.items ∙ c.as_slice.ensures.value in
    view_struct _ _ ∙ ap (λ (ws : List ℕ). struct ws (trees_view (held c.in_ok-pointers-in-Struct.pointers))) same ∙ ap (struct c.in-Struct.words.items) c.in_ok-pointers-in-Struct.ensures
    ∙ sym (ap view c.in-Struct.is ∙ view_struct c.in-Struct.words c.in-Struct.pointers)

pub copy_tree-returns-in-List : goal.copy_tree-returns-in-List
copy_tree-returns-in-List t c =
    subst (λ (u : Tree). IfOk c.copy_list.result (λ copy. view copy ≡ u)) (sym (ap view c.in-List.is ∙ view_list c.in-List.items)) c.copy_list.ensures

pub copy_tree-copy_list-requires : goal.copy_tree-copy_list-requires
copy_tree-copy_list-requires t c = grind (the_lemmas, arith, common_steps)

pub copy_list-copy_structs-requires : goal.copy_list-copy_structs-requires
copy_list-copy_structs-requires t c = grind (the_lemmas, arith, common_steps)

pub copy_pointers-copy_tree-requires : goal.copy_pointers-copy_tree-requires
copy_pointers-copy_tree-requires t c = grind (the_lemmas, arith, common_steps)

pub copy_list-returns-in_err-pointers-in-Pointers : goal.copy_list-returns-in_err-pointers-in-Pointers
copy_list-returns-in_err-pointers-in-Pointers t c = rw (err_from_is_err_and c.from_residual.result c.from_residual.ensures.1).1 tt

pub copy_list-returns-in_err-items-in-Structs : goal.copy_list-returns-in_err-items-in-Structs
copy_list-returns-in_err-items-in-Structs t c = rw (err_from_is_err_and c.from_residual-in_err-items-in-Structs.result c.from_residual-in_err-items-in-Structs.ensures.1).1 tt

pub copy_pointers-returns-in_err-copies : goal.copy_pointers-returns-in_err-copies
copy_pointers-returns-in_err-copies t c = rw (err_from_is_err_and c.from_residual.result c.from_residual.ensures.1).1 tt

pub copy_pointers-returns-in_err-copy_tree : goal.copy_pointers-returns-in_err-copy_tree
copy_pointers-returns-in_err-copy_tree t c = rw (err_from_is_err_and c.from_residual-in_err-copy_tree.result c.from_residual-in_err-copy_tree.ensures.1).1 tt

pub copy_structs-returns-in_err-copies : goal.copy_structs-returns-in_err-copies
copy_structs-returns-in_err-copies t c = rw (err_from_is_err_and c.from_residual.result c.from_residual.ensures.1).1 tt

pub copy_structs-returns-in_err-words : goal.copy_structs-returns-in_err-words
copy_structs-returns-in_err-words t c = rw (err_from_is_err_and c.from_residual-in_err-words.result c.from_residual-in_err-words.ensures.1).1 tt

pub copy_structs-returns-in_err-pointers : goal.copy_structs-returns-in_err-pointers
copy_structs-returns-in_err-pointers t c = rw (err_from_is_err_and c.from_residual-in_err-pointers.result c.from_residual-in_err-pointers.ensures.1).1 tt

pub copy_tree-returns-in_err-words-in-Struct : goal.copy_tree-returns-in_err-words-in-Struct
copy_tree-returns-in_err-words-in-Struct t c = rw (err_from_is_err_and c.from_residual.result c.from_residual.ensures.1).1 tt

pub copy_tree-returns-in_err-pointers-in-Struct : goal.copy_tree-returns-in_err-pointers-in-Struct
copy_tree-returns-in_err-pointers-in-Struct t c = rw (err_from_is_err_and c.from_residual-in_err-pointers-in-Struct.result c.from_residual-in_err-pointers-in-Struct.ensures.1).1 tt

pub copy_pointers-loop-tree-init : goal.copy_pointers-loop-tree-init
copy_pointers-loop-tree-init t c =
    record { same = ap (map view) c.in_ok-copies.ensures.items; count = c.in_ok-copies.ensures.len; room = c.in_ok-copies.ensures.exact }

pub copy_structs-loop-item-init : goal.copy_structs-loop-item-init
copy_structs-loop-item-init t c =
    record { same = ap (map fields_view) c.in_ok-copies.ensures.items; count = c.in_ok-copies.ensures.len; room = c.in_ok-copies.ensures.exact }

pub copy_list-copy_pointers-requires : goal.copy_list-copy_pointers-requires
copy_list-copy_pointers-requires t c = grind (the_lemmas, arith, common_steps)

pub copy_structs-copy_pointers-requires : goal.copy_structs-copy_pointers-requires
copy_structs-copy_pointers-requires t c = grind (the_lemmas, arith, common_steps)

pub copy_tree-copy_pointers-requires : goal.copy_tree-copy_pointers-requires
copy_tree-copy_pointers-requires t c = grind (the_lemmas, arith, common_steps)

pub copy_pointers-bounds-trees-tree-index : goal.copy_pointers-bounds-trees-tree-index
copy_pointers-bounds-trees-tree-index t c = c.loop-tree-test.true

pub copy_structs-bounds-items-item-index : goal.copy_structs-bounds-items-item-index
copy_structs-bounds-items-item-index t c = c.loop-item-test.true

pub copy_pointers-loop-tree-smaller : goal.copy_pointers-loop-tree-smaller
copy_pointers-loop-tree-smaller t c = omega arith

pub copy_structs-loop-item-smaller : goal.copy_structs-loop-item-smaller
copy_structs-loop-item-smaller t c = omega arith
