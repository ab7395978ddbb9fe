-- What is found in an index once it changed for one node.
use Rattle.std.proofs.Common.{◌≡◌, ◌≢◌, ◌==◌, ℕ, true, false, Option, Some, None, refl, sym, ap, subst, ◌∙◌}
use Rattle.std.proofs.lemmas.Bool.{eq-eqb}
use Rattle.std.specs.FinMap as map
use Rattle.std.specs.Ordering.{nat_cmp}
use Rattle.std.specs.HashMap.{IsEmpty}
use Rattle.std.specs.Map.{lookup}
use Rattle.finite_maps.proofs.Gets.{get-insert_same, get-insert_other, get-remove_same, get-remove_other}
use Rattle.rpc_machine.specs.rpc_msg.specs.declared.ids.ExportId.{ExportId}
use Rattle.rpc_machine.specs.rpc_msg.specs.declared.ids.ObjectId.{ObjectId}
use Rattle.rpc_machine.specs.declared.node.Node.{Node}
use Rattle.rpc_machine.specs.declared.node.Node.TheVariants as node
use Rattle.vat_tables.specs.declared.index.NodeIndex.{NodeIndex}
use Rattle.vat_tables.specs.Exports.{node_eq}
use Rattle.vat_tables.specs.Index.{found, FindsNone, Refinds, Numbers}
use Rattle.vat_tables.specs.Table.{Table}

-- ---- The numbers of one kind

-- this stands under the number, and under each other what stood there
abbrev pub Renumbers : Numbers → Numbers → ℕ → Option ℕ → Type 0
Renumbers old new k id = (map.get new k ≡ id) × ((q : ℕ) → q ≢ k → map.get new q ≡ map.get old q)

pub numbered : (old new : Numbers) (k id : ℕ) → new ≡ map.insert old k id → Renumbers old new k (Some id)
numbered old new k id is = (
  ap (λ (m : Numbers). map.get m k) is ∙ get-insert_same old k id,
  λ q apart. ap (λ (m : Numbers). map.get m q) is ∙ get-insert_other old k id q apart,
)

pub unnumbered : (old new : Numbers) (k : ℕ) → new ≡ map.remove old k → Renumbers old new k None
unnumbered old new k is = (
  ap (λ (m : Numbers). map.get m k) is ∙ get-remove_same old k,
  λ q apart. ap (λ (m : Numbers). map.get m q) is ∙ get-remove_other old k q apart,
)

differ : (x y : ℕ) → (x == y) ≡ false → y ≢ x
differ x y apart same = let e : true ≡ false = sym (eq-eqb x y (sym same)) ∙ apart in cc

-- ---- The nodes of one kind

pub refound_object : (old : NodeIndex) (t : Table ℕ) (o : ObjectId) (id : Option ℕ) (n : Node) → n ≡ node.Object o → Renumbers old.objects.entries t.entries o.0 id
    → Refinds (found old) (found (record old { objects = t })) n id
refound_object old t o id n same is = subst (λ (m : Node). Refinds (found old) (found (record old { objects = t })) m id) (sym same) (is.0, other)
  where
    other : (n : Node) → node_eq (node.Object o) n ≡ false → found (record old { objects = t }) n ≡ found old n
    other (node.Object p) apart = is.1 p.0 (differ o.0 p.0 apart)
    other (node.Promise p) apart = refl
    other (node.Field k p) apart = refl
    other (node.Import p) apart = refl
    other (node.Pipe k p) apart = refl
    other (node.Broken p) apart = refl

pub refound_promise : (old : NodeIndex) (t : Table ℕ) (key : ℕ) (id : Option ℕ) (n : Node) → n ≡ node.Promise key → Renumbers old.promises.entries t.entries key id
    → Refinds (found old) (found (record old { promises = t })) n id
refound_promise old t key id n same is = subst (λ (m : Node). Refinds (found old) (found (record old { promises = t })) m id) (sym same) (is.0, other)
  where
    other : (n : Node) → node_eq (node.Promise key) n ≡ false → found (record old { promises = t }) n ≡ found old n
    other (node.Object p) apart = refl
    other (node.Promise p) apart = is.1 p (differ key p apart)
    other (node.Field k p) apart = refl
    other (node.Import p) apart = refl
    other (node.Pipe k p) apart = refl
    other (node.Broken p) apart = refl

pub refound_import : (old : NodeIndex) (t : Table ℕ) (i : ExportId) (id : Option ℕ) (n : Node) → n ≡ node.Import i → Renumbers old.imports.entries t.entries i.0 id
    → Refinds (found old) (found (record old { imports = t })) n id
refound_import old t i id n same is = subst (λ (m : Node). Refinds (found old) (found (record old { imports = t })) m id) (sym same) (is.0, other)
  where
    other : (n : Node) → node_eq (node.Import i) n ≡ false → found (record old { imports = t }) n ≡ found old n
    other (node.Object p) apart = refl
    other (node.Promise p) apart = refl
    other (node.Field k p) apart = refl
    other (node.Import p) apart = is.1 p.0 (differ i.0 p.0 apart)
    other (node.Pipe k p) apart = refl
    other (node.Broken p) apart = refl

pub found_none : (index : NodeIndex) → index.objects.entries ≡ map.empty → index.promises.entries ≡ map.empty → index.imports.entries ≡ map.empty → IsEmpty index.hashed
    → FindsNone (found index)
found_none index objects promises imports hashed (node.Object o) = ap (λ (m : Numbers). map.get m o.0) objects ∙ map.get-empty nat_cmp o.0
found_none index objects promises imports hashed (node.Promise k) = ap (λ (m : Numbers). map.get m k) promises ∙ map.get-empty nat_cmp k
found_none index objects promises imports hashed (node.Field k p) = ap (lookup (node_eq (node.Field k p))) hashed
found_none index objects promises imports hashed (node.Import i) = ap (λ (m : Numbers). map.get m i.0) imports ∙ map.get-empty nat_cmp i.0
found_none index objects promises imports hashed (node.Pipe q p) = ap (lookup (node_eq (node.Pipe q p))) hashed
found_none index objects promises imports hashed (node.Broken r) = ap (lookup (node_eq (node.Broken r))) hashed
