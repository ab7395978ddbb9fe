-- How many fields of each outcome are found follows the exports.
use Rattle.std.proofs.Common.{◌≡◌, ◌≢◌, ◌≤◌, ℕ, suc, ◌+◌, ◌-◌, Bool, true, false, cond, nat_eq, List, [], ◌∷◌, length, Some, None, refl, sym, ap, subst, ◌∙◌, arith}
use Rattle.std.specs.FinMap as map
use Rattle.finite_maps.specs.Tally.{tally_of}
use Rattle.finite_maps.proofs.Tested.{equal, apart, sides}
use Rattle.finite_maps.proofs.Gets.{get-insert_same, get-insert_other, get-remove_same, get-remove_other}
use Rattle.finite_maps.proofs.Tallies.{tally-empty, tally-new, tally-same, tally-split}
use Rattle.rpc_machine.specs.declared.node.Node.{Node}
use Rattle.rpc_machine.specs.declared.entries.Export.{Export}
use Rattle.rpc_machine.specs.Nodes.{is_field}
use Rattle.vat_tables.specs.Exports.{Exported, field_of, fields_of, CountsFields}
use Rattle.vat_tables.specs.Index.{Numbers, number_of, OneMore, OneFewer, FieldsSame, FieldsMore, FieldsFewer}

-- ---- Numbers

-- Of two keys that are told apart, each is another.
others : (k q : ℕ) → nat_eq k q ≡ false → q ≢ k
others k q differs = apart q k (sides q k ∙ differs)

one_more : (old new : Numbers) (k : ℕ) → number_of (map.get new k) ≡ number_of (map.get old k) + 1 → ((q : ℕ) → q ≢ k → map.get new q ≡ map.get old q) → OneMore old new k
one_more old new k here rest q = by (nat_eq k q) refl
  where
    by : (b : Bool) → nat_eq k q ≡ b → number_of (map.get new q) ≡ number_of (map.get old q) + cond b 1 0
    by true same = subst (λ (j : ℕ). number_of (map.get new j) ≡ number_of (map.get old j) + 1) (equal k q same) here
    by false differs = let a = ap number_of (rest q (others k q differs)) in omega (arith, a)

one_fewer : (old new : Numbers) (k : ℕ) → number_of (map.get new k) ≡ number_of (map.get old k) - 1 → ((q : ℕ) → q ≢ k → map.get new q ≡ map.get old q) → OneFewer old new k
one_fewer old new k here rest q = by (nat_eq k q) refl
  where
    by : (b : Bool) → nat_eq k q ≡ b → number_of (map.get new q) ≡ number_of (map.get old q) - cond b 1 0
    by true same = subst (λ (j : ℕ). number_of (map.get new j) ≡ number_of (map.get old j) - 1) (equal k q same) here
    by false differs = let a = ap number_of (rest q (others k q differs)) in omega (arith, a)

-- The first one of a key.
pub first_more : (old new : Numbers) (k : ℕ) → map.get old k ≡ None → new ≡ map.insert old k 1 → OneMore old new k
first_more old new k free is =
    one_more old new k
    (let a = ap number_of (ap (λ (m : Numbers). map.get m k) is ∙ get-insert_same old k 1) in let b = ap number_of free in omega (arith, a, b))
    (λ q apart. ap (λ (m : Numbers). map.get m q) is ∙ get-insert_other old k 1 q apart)

-- One more of a key that has some.
pub next_more : (old new : Numbers) (k n more : ℕ) → map.get old k ≡ Some n → more ≡ n + 1 → new ≡ map.insert old k more → OneMore old new k
next_more old new k n more there count is =
    one_more old new k
    (let a = ap number_of (ap (λ (m : Numbers). map.get m k) is ∙ get-insert_same old k more) in let b = ap number_of there in omega (arith, a, b, count))
    (λ q apart. ap (λ (m : Numbers). map.get m q) is ∙ get-insert_other old k more q apart)

-- None is there.
pub none_fewer : (old : Numbers) (k : ℕ) → map.get old k ≡ None → OneFewer old old k
none_fewer old k free = one_fewer old old k (let a = ap number_of free in omega (arith, a)) (λ q apart. refl)

-- The last one goes.
pub last_fewer : (old new : Numbers) (k n : ℕ) → map.get old k ≡ Some n → n - 1 ≡ 0 → new ≡ map.remove old k → OneFewer old new k
last_fewer old new k n there last is =
    one_fewer old new k
    (let a = ap number_of (ap (λ (m : Numbers). map.get m k) is ∙ get-remove_same old k) in let b = ap number_of there in omega (arith, a, b, last))
    (λ q apart. ap (λ (m : Numbers). map.get m q) is ∙ get-remove_other old k q apart)

-- One goes, and others stay.
pub next_fewer : (old new : Numbers) (k n fewer : ℕ) → map.get old k ≡ Some n → fewer ≡ n - 1 → new ≡ map.insert old k fewer → OneFewer old new k
next_fewer old new k n fewer there count is =
    one_fewer old new k
    (let a = ap number_of (ap (λ (m : Numbers). map.get m k) is ∙ get-insert_same old k fewer) in let b = ap number_of there in omega (arith, a, b, count))
    (λ q apart. ap (λ (m : Numbers). map.get m q) is ∙ get-insert_other old k fewer q apart)

-- ---- Fields among the exports

-- At most as many as there are exports.
fields_in : (outcome : ℕ) (es : List (ℕ × Export)) → tally_of (λ (x : Export). field_of outcome x.node) es ≤ length es
fields_in outcome [] = omega arith
fields_in outcome (e ∷ es) = by (is_field outcome e.1.node) (fields_in outcome es)
  where
    by : (b : Bool) → tally_of (λ (x : Export). field_of outcome x.node) es ≤ length es → cond b 1 0 + tally_of (λ (x : Export). field_of outcome x.node) es ≤ suc (length es)
    by true h = omega (arith, h)
    by false h = omega (arith, h)

pub fields_within : (outcome : ℕ) (exports : Exported) → fields_of outcome exports ≤ map.len exports
fields_within outcome exports = let a = map.len-entries exports in let b = fields_in outcome (map.entries exports) in omega (arith, a, b)

-- There are no exports.
pub fields_new : (exports : Exported) (count : ℕ → ℕ) → exports ≡ map.empty → ((outcome : ℕ) → count outcome ≡ 0) → CountsFields exports count
fields_new exports count none zeros outcome =
    zeros outcome ∙ sym (ap (fields_of outcome) none ∙ tally-empty (λ (x : Export). field_of outcome x.node))

-- Nothing is counted anew.
pub fields_same : (exports : Exported) (old new : ℕ → ℕ) → CountsFields exports old → FieldsSame old new → CountsFields exports new
fields_same exports old new is same outcome = same outcome ∙ is outcome

-- An export has another count of names.
pub fields_count : (exports : Exported) (count : ℕ → ℕ) (id names : ℕ) (export : Export) → CountsFields exports count → map.get exports id ≡ Some export
    → CountsFields (map.insert exports id (record export { count = names })) count
fields_count exports count id names export is there outcome =
    is outcome ∙ sym (tally-same (λ (x : Export). field_of outcome x.node) exports id export (record export { count = names }) there refl)

-- A node gets an export.
pub fields_add : (exports : Exported) (old new : ℕ → ℕ) (id names : ℕ) (node : Node) → CountsFields exports old → map.get exports id ≡ None
    → FieldsMore old new node → CountsFields (map.insert exports id (record { node = node; count = names })) new
fields_add exports old new id names node is free more outcome =
    let a = is outcome in
    let b = more outcome in
    let c = tally-new (λ (x : Export). field_of outcome x.node) exports id (record { node = node; count = names }) free in
    omega (arith, a, b, c)

-- An export goes.
pub fields_close : (exports : Exported) (old new : ℕ → ℕ) (id : ℕ) (export : Export) → CountsFields exports old → map.get exports id ≡ Some export
    → FieldsFewer old new export.node → CountsFields (map.remove exports id) new
fields_close exports old new id export is there fewer outcome =
    let a = is outcome in
    let b = fewer outcome in
    let c = tally-split (λ (x : Export). field_of outcome x.node) exports id export there in
    omega (arith, a, b, c)

-- ---- The fields that are found, by nodes

-- A node that is no field is none of them.
pub none_more : (count : ℕ → ℕ) (n m : Node) → n ≡ m → ((outcome : ℕ) → field_of outcome m ≡ 0) → FieldsMore count count n
none_more count n m is none outcome = let a = ap (field_of outcome) is in let b = none outcome in omega (arith, a, b)

pub none_fewer_of : (count : ℕ → ℕ) (n m : Node) → n ≡ m → ((outcome : ℕ) → field_of outcome m ≡ 0) → FieldsFewer count count n
none_fewer_of count n m is none outcome = let a = ap (field_of outcome) is in let b = none outcome in omega (arith, a, b)

-- A field is one of its outcome.
pub field_more : (old new : Numbers) (k : ℕ) (n m : Node) → n ≡ m → ((outcome : ℕ) → is_field outcome m ≡ nat_eq k outcome) → OneMore old new k
    → FieldsMore (λ o. number_of (map.get old o)) (λ o. number_of (map.get new o)) n
field_more old new k n m is field more outcome =
    more outcome ∙ ap (λ b. number_of (map.get old outcome) + cond b 1 0) (sym (ap (is_field outcome) is ∙ field outcome))

pub field_fewer : (old new : Numbers) (k : ℕ) (n m : Node) → n ≡ m → ((outcome : ℕ) → is_field outcome m ≡ nat_eq k outcome) → OneFewer old new k
    → FieldsFewer (λ o. number_of (map.get old o)) (λ o. number_of (map.get new o)) n
field_fewer old new k n m is field fewer outcome =
    fewer outcome ∙ ap (λ b. number_of (map.get old outcome) - cond b 1 0) (sym (ap (is_field outcome) is ∙ field outcome))
