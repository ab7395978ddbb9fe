-- A promise has one export at most: what is listed of it.
use Rattle.std.proofs.Common.{◌≡◌, ℕ, Bool, true, false, cond, T, List, [], ◌∷◌, Option, None, Some, refl, sym, ap, subst, ◌∙◌}
use Rattle.std.specs.Ordering.{nat_cmp, eq_by_cmp}
use Rattle.std.specs.FinMap as map
use Rattle.std.specs.FinMap.Entries as entries
use Rattle.finite_maps.specs.Tally.{Map}
use Rattle.finite_maps.proofs.Tested.{ties, equal, itself}
use Rattle.finite_maps.proofs.Sorted.{behind, first_entry, later_entry, sorted_tail}
use Rattle.rpc_msg.specs.declared.ids.ExportId.{ExportId}
use Rattle.rpc_machine.specs.declared.node.Node.{Node}
use Rattle.rpc_machine.specs.declared.node.Node.TheVariants as node
use Rattle.rpc_machine.specs.declared.entries.Export.{Export}
use Rattle.rpc_machine.specs.Nodes.{is_promise}
use Rattle.rpc_machine.specs.Settling.{exports_where}
use Rattle.vat_tables.specs.Exports.{IsOther, IsNotExported, IsOneEach, HasExport}

-- The node of a promise is it.
the_promise : (p : ℕ) (n : Node) → is_promise p n ≡ true → n ≡ node.Promise p
the_promise p (node.Object o) h = absurd cc
the_promise p (node.Promise k) h = ap node.Promise (equal k p h)
the_promise p (node.Field o path) h = absurd cc
the_promise p (node.Import e) h = absurd cc
the_promise p (node.Pipe q path) h = absurd cc
the_promise p (node.Broken reason) h = absurd cc

module _ (test : Node → Bool) where
  skipped : (e : ℕ × Export) (es : List (ℕ × Export)) (b : Bool) (whole : List (ℕ × Node)) → b ≡ false → exports_where test es ≡ whole → cond b ((e.0, e.1.node) ∷ exports_where test es) (exports_where test es) ≡ whole
  skipped e es true whole out rest = absurd cc
  skipped e es false whole out rest = rest

  no_other : (b : Bool) → (b ≡ true → ⊥) → b ≡ false
  no_other true h = absurd (h refl)
  no_other false h = refl

  -- None is listed where no export is chosen.
  pub lists_none : (es : List (ℕ × Export)) → T (entries.is_sorted nat_cmp es) → ((k : ℕ) (x : Export) → entries.find nat_cmp k es ≡ Some x → test x.node ≡ false) → exports_where test es ≡ []
  lists_none [] o h = refl
  lists_none (e ∷ es) o h =
      let g = sorted_tail e.0 es o in
      skipped e es (test e.1.node) [] (h e.0 e.1 (first_entry e es)) (lists_none es g.1 (λ (k : ℕ) (x : Export) i. h k x (later_entry e es k (behind e.0 es k x g.0 i) ∙ i)))

  -- One is listed where that alone is chosen.
  pub lists_one : (es : List (ℕ × Export)) → T (entries.is_sorted nat_cmp es) → (id : ℕ) (y : Export) → entries.find nat_cmp id es ≡ Some y → test y.node ≡ true
      → ((k : ℕ) (x : Export) → entries.find nat_cmp k es ≡ Some x → test x.node ≡ true → k ≡ id) → exports_where test es ≡ (id, y.node) ∷ []
  lists_one [] o id y there chosen only = absurd (let h : ◌≡◌ {A = Option Export} None (Some y) = there in cc)
  lists_one (e ∷ es) o id y there chosen only =
      by (eq_by_cmp nat_cmp id e.0) refl there (λ (at : entries.find nat_cmp id es ≡ Some y).
      lists_one es g.1 id y at chosen (λ (k : ℕ) (x : Export) i t. only k x (later_entry e es k (behind e.0 es k x g.0 i) ∙ i) t))
    where
      g : T (entries.below_all nat_cmp e.0 es) × T (entries.is_sorted nat_cmp es)
      g = sorted_tail e.0 es o

      here : exports_where test es ≡ [] → (b : Bool) → test e.1.node ≡ b → b ≡ true → cond b ((e.0, e.1.node) ∷ exports_where test es) (exports_where test es) ≡ (e.0, e.1.node) ∷ []
      here none true same h = ap (λ (l : List (ℕ × Node)). (e.0, e.1.node) ∷ l) none
      here none false same h = absurd cc

      by : (b : Bool) → eq_by_cmp nat_cmp id e.0 ≡ b → cond b (Some e.1) (entries.find nat_cmp id es) ≡ Some y
          → (entries.find nat_cmp id es ≡ Some y → exports_where test es ≡ (id, y.node) ∷ []) → exports_where test (e ∷ es) ≡ (id, y.node) ∷ []
      by true is at later =
          let same : id ≡ e.0 = equal id e.0 (sym (ties id e.0) ∙ is) in
          let it : e.1 ≡ y = let h : Some e.1 ≡ Some y = at in cc in
          let none : exports_where test es ≡ [] = lists_none es g.1 (λ (k : ℕ) (x : Export) i.
          let far : eq_by_cmp nat_cmp k e.0 ≡ false = behind e.0 es k x g.0 i in
          no_other (test x.node) (λ t. let k_is : k ≡ id = only k x (later_entry e es k far ∙ i) t in
          let bad : true ≡ false = sym is ∙ subst (λ (j : ℕ). eq_by_cmp nat_cmp j e.0 ≡ false) k_is far in absurd cc)) in
          rw (same, sym it) (here none (test e.1.node) refl (ap (λ (x : Export). test x.node) it ∙ chosen))
      by false is at later =
          skipped e es (test e.1.node) ((id, y.node) ∷ [])
          (no_other (test e.1.node) (λ t. let first : e.0 ≡ id = only e.0 e.1 (first_entry e es) t in
          let bad : true ≡ false = sym (ties e.0 e.0 ∙ itself e.0) ∙ subst (λ (j : ℕ). eq_by_cmp nat_cmp j e.0 ≡ false) (sym first) is in absurd cc))
          (later at)

none_of : (m : Map Export) (p : ℕ) → IsNotExported m (node.Promise p) → exports_where (is_promise p) (map.entries m) ≡ []
none_of m p h =
    lists_none (is_promise p) (map.entries m) (map.entries_sorted m) (λ (k : ℕ) (x : Export) i.
    no_other (is_promise p) (is_promise p x.node) (λ t.
    let apart : IsOther (node.Promise p) (Some x) = subst (IsOther (node.Promise p)) (map.get-entries m k ∙ i) (h k) in
    apart (the_promise p x.node t)))

one_of : (m : Map Export) (p id count : ℕ) → IsOneEach m → map.get m id ≡ Some (record { node = node.Promise p; count = count }) → exports_where (is_promise p) (map.entries m) ≡ (id, node.Promise p) ∷ []
one_of m p id count one there =
    let y : Export = record { node = node.Promise p; count = count } in
    lists_one (is_promise p) (map.entries m) (map.entries_sorted m) id y (sym (map.get-entries m id) ∙ there) (itself p)
    (λ (k : ℕ) (x : Export) i t. one k id x y (map.get-entries m k ∙ i) there (the_promise p x.node t))

-- What is listed of a promise, by the export that is found of it.
abbrev pub of_found : ℕ → Option ExportId → List (ℕ × Node)
of_found p None = []
of_found p (Some id) = (id.0, node.Promise p) ∷ []

pub listed : (m : Map Export) (p : ℕ) (found : Option ExportId) → IsOneEach m → HasExport m (node.Promise p) found → exports_where (is_promise p) (map.entries m) ≡ of_found p found
listed m p None one h = none_of m p h
listed m p (Some id) one h = one_of m p id.0 h.0 one h.1
