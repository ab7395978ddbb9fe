-- The tree that a value of the program stands for, by its form.
use Rattle.std.proofs.Common.{◌≡◌, ℕ, Bool, List, map, sym, ap, ◌∙◌}
use Rattle.std.specs.Prelude.{replicate}
use Rattle.std.specs.Global.{Vec}
use Rattle.capn_trees.specs.declared.tree.Tree.TheVariants as tree_form
use Rattle.capn_trees.specs.declared.tree.Items.{Items}
use Rattle.capn_trees.specs.declared.tree.Items.TheVariants as form
use Rattle.capn_trees.specs.declared.tree.Items.TheOpen.{Tree-F, Items-F}
use Rattle.capn_trees.specs.declared.tree.Items.TheFolds.{fold-roll-Tree, fold-roll-Items, fold_out-Fields, fold_out-Pointers}
use Rattle.capn_trees.specs.declared.tree.Fields.{Fields}
use Rattle.capn_trees.specs.declared.tree.Pointers.{Pointers}
use Rattle.capn_trees.specs.Trees.{Tree, null, struct, list, capability, Trees, Elements, packed, pointers, structs}
use Rattle.capn_trees.specs.Views.{bit, items_step, tree_step, fields_step, pointers_step, view, items_view, fields_view, pointers_view, trees_view, structs_view}

pub view_held : (ps : Pointers) → pointers_view ps ≡ trees_view ps.trees.items
view_held ps = fold_out-Pointers Elements Tree (List ℕ × Trees) Trees items_step tree_step fields_step pointers_step ps

pub view_null : view tree_form.Null ≡ null
view_null = ap view (sym tree_form.rolls-Null) ∙ fold-roll-Tree Elements Tree (List ℕ × Trees) Trees items_step tree_step fields_step pointers_step Tree-F.Null

pub view_capability : (index : ℕ) → view (tree_form.Cap index) ≡ capability index
view_capability index = ap view (sym (tree_form.rolls-Cap index)) ∙ fold-roll-Tree Elements Tree (List ℕ × Trees) Trees items_step tree_step fields_step pointers_step (Tree-F.Cap index)

pub view_struct : (words : Vec ℕ) (ps : Pointers) → view (tree_form.Struct words ps) ≡ struct words.items (trees_view ps.trees.items)
view_struct words ps = ap view (sym (tree_form.rolls-Struct words ps)) ∙ fold-roll-Tree Elements Tree (List ℕ × Trees) Trees items_step tree_step fields_step pointers_step (Tree-F.Struct words ps) ∙ ap (struct words.items) (view_held ps)

pub view_list : (items : Items) → view (tree_form.List items) ≡ list (items_view items)
view_list items = ap view (sym (tree_form.rolls-List items)) ∙ fold-roll-Tree Elements Tree (List ℕ × Trees) Trees items_step tree_step fields_step pointers_step (Tree-F.List items)

pub view_void : (n : ℕ) → items_view (form.Void n) ≡ packed 0 (replicate n 0)
view_void n = ap items_view (sym (form.rolls-Void n)) ∙ fold-roll-Items Elements Tree (List ℕ × Trees) Trees items_step tree_step fields_step pointers_step (Items-F.Void n)

pub view_bits : (v : Vec Bool) → items_view (form.Bits v) ≡ packed 1 (map bit v.items)
view_bits v = ap items_view (sym (form.rolls-Bits v)) ∙ fold-roll-Items Elements Tree (List ℕ × Trees) Trees items_step tree_step fields_step pointers_step (Items-F.Bits v)

pub view_bytes : (v : Vec ℕ) → items_view (form.Bytes v) ≡ packed 8 v.items
view_bytes v = ap items_view (sym (form.rolls-Bytes v)) ∙ fold-roll-Items Elements Tree (List ℕ × Trees) Trees items_step tree_step fields_step pointers_step (Items-F.Bytes v)

pub view_twos : (v : Vec ℕ) → items_view (form.Twos v) ≡ packed 16 v.items
view_twos v = ap items_view (sym (form.rolls-Twos v)) ∙ fold-roll-Items Elements Tree (List ℕ × Trees) Trees items_step tree_step fields_step pointers_step (Items-F.Twos v)

pub view_fours : (v : Vec ℕ) → items_view (form.Fours v) ≡ packed 32 v.items
view_fours v = ap items_view (sym (form.rolls-Fours v)) ∙ fold-roll-Items Elements Tree (List ℕ × Trees) Trees items_step tree_step fields_step pointers_step (Items-F.Fours v)

pub view_eights : (v : Vec ℕ) → items_view (form.Eights v) ≡ packed 64 v.items
view_eights v = ap items_view (sym (form.rolls-Eights v)) ∙ fold-roll-Items Elements Tree (List ℕ × Trees) Trees items_step tree_step fields_step pointers_step (Items-F.Eights v)

pub view_pointers : (v : Pointers) → items_view (form.Pointers v) ≡ pointers (trees_view v.trees.items)
view_pointers v = ap items_view (sym (form.rolls-Pointers v)) ∙ fold-roll-Items Elements Tree (List ℕ × Trees) Trees items_step tree_step fields_step pointers_step (Items-F.Pointers v) ∙ ap pointers (view_held v)

pub view_structs : (d p : ℕ) (v : Vec Fields) → items_view (form.Structs d p v) ≡ structs d p (structs_view v.items)
view_structs d p v = ap items_view (sym (form.rolls-Structs d p v)) ∙ fold-roll-Items Elements Tree (List ℕ × Trees) Trees items_step tree_step fields_step pointers_step (Items-F.Structs d p v)

pub view_fields : (s : Fields) → fields_view s ≡ (s.words.items, trees_view s.pointers.trees.items)
view_fields s = fold_out-Fields Elements Tree (List ℕ × Trees) Trees items_step tree_step fields_step pointers_step s ∙ ap (λ (ts : Trees). (s.words.items, ts)) (view_held s.pointers)
