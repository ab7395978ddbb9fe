-- Exports find room for the nodes that go out exactly where no limit is passed by naming them.
use Rattle.std.proofs.Common.{◌≡◌, ◌⊎◌, inl, inr, ℕ, ◌+◌, ◌≤◌, ◌<◌, Bool, true, false, ◌&&◌, ◌||◌, cond, nat_eq, nat_le, List, [], ◌∷◌, Option, None, Some, is_some, unwrap_or, refl, sym, ap, subst, ◌∙◌, arith, T}
use Rattle.std.proofs.lemmas.Bool.Decides.{nat_tests}
use Rattle.std.specs.Ordering.{nat_cmp, eq_by_cmp}
use Rattle.std.specs.Cmp.{nat_cmp_total}
use Rattle.std.specs.FinMap as map
use Rattle.std.specs.FinMap.Entries as entries
use Rattle.laws_acts.specs.rpc_msg.specs.declared.parts.Descriptor.{Descriptor}
use Rattle.laws_acts.specs.rpc_msg.specs.Op.{Op}
use Rattle.laws_acts.specs.rpc_msg.specs.Op.TheVariants as op
use Rattle.laws_acts.specs.rpc_machine.specs.declared.node.Node.{Node}
use Rattle.laws_acts.specs.rpc_machine.specs.declared.node.Node.TheVariants as node
use Rattle.laws_acts.specs.rpc_machine.specs.declared.entries.Export.{Export}
use Rattle.laws_acts.specs.rpc_machine.specs.State.{State}
use Rattle.laws_acts.specs.rpc_machine.specs.Nodes.{link, settle, same_op, same_path, is_same_node}
use Rattle.laws_acts.specs.rpc_machine.specs.Descriptors.{IsOther, ExportedAs, Exported, Described, DescribesAll}
use Rattle.laws_acts.specs.rpc_machine.specs.Limits.{table_limit, count_limit, export_count}
use Rattle.laws_acts.specs.rpc_machine.specs.Fullness.{is_exportable, going_out, count_among, count_of, name_lacks_room, size_then, one_more, counts_then, names_lack_room}
use Rattle.laws_acts.specs.rpc_machine.proofs.Following.{settles_alike}
use Rattle.laws_steps.specs.Room.{HasOneEach, ExportsFit, RoomIsExact}
use Rattle.finite_maps.proofs.Tested.{equal, itself, get_put, get_other}
use Rattle.finite_maps.proofs.Gets.{get-insert_same}
use Rattle.finite_maps.proofs.Sorted.{behind, first_entry}

-- ---- The test of nodes

both : (a b : Bool) → (a && b) ≡ true → (a ≡ true) × (b ≡ true)
both true b h = (refl, h)
both false b h = let e : false ≡ true = h in cc

same_ops : (a b : Op) → same_op a b ≡ true → a ≡ b
same_ops op.Noop op.Noop h = refl
same_ops op.Noop (op.Field j) h = cc
same_ops (op.Field i) op.Noop h = cc
same_ops (op.Field i) (op.Field j) h = ap (λ k. op.Field k) (equal i j h)

same_paths : (p q : List Op) → same_path p q ≡ true → p ≡ q
same_paths [] [] h = refl
same_paths [] (b ∷ q) h = cc
same_paths (a ∷ p) [] h = cc
same_paths (a ∷ p) (b ∷ q) h =
    let k = both (same_op a b) (same_path p q) h in
    rw (same_ops a b k.0, same_paths p q k.1) refl

same : (m n : Node) → is_same_node m n ≡ true → m ≡ n
same (node.Object o) (node.Object x) h = ap (λ (k : ℕ). node.Object (record { 0 = k })) (equal o.0 x.0 h)
same (node.Object o) (node.Promise p) h = cc
same (node.Object o) (node.Field k path) h = cc
same (node.Object o) (node.Import e) h = cc
same (node.Object o) (node.Pipe q path) h = cc
same (node.Object o) (node.Broken r) h = cc
same (node.Promise p) (node.Object x) h = cc
same (node.Promise p) (node.Promise x) h = ap (λ k. node.Promise k) (equal p x h)
same (node.Promise p) (node.Field k path) h = cc
same (node.Promise p) (node.Import e) h = cc
same (node.Promise p) (node.Pipe q path) h = cc
same (node.Promise p) (node.Broken r) h = cc
same (node.Field o path) (node.Object x) h = cc
same (node.Field o path) (node.Promise p) h = cc
same (node.Field o path) (node.Field x y) h =
    let k = both (nat_eq o x) (same_path path y) h in
    rw (equal o x k.0, same_paths path y k.1) refl
same (node.Field o path) (node.Import e) h = cc
same (node.Field o path) (node.Pipe q y) h = cc
same (node.Field o path) (node.Broken r) h = cc
same (node.Import e) (node.Object x) h = cc
same (node.Import e) (node.Promise p) h = cc
same (node.Import e) (node.Field k path) h = cc
same (node.Import e) (node.Import x) h = ap (λ (k : ℕ). node.Import (record { 0 = k })) (equal e.0 x.0 h)
same (node.Import e) (node.Pipe q path) h = cc
same (node.Import e) (node.Broken r) h = cc
same (node.Pipe q path) (node.Object x) h = cc
same (node.Pipe q path) (node.Promise p) h = cc
same (node.Pipe q path) (node.Field k y) h = cc
same (node.Pipe q path) (node.Import e) h = cc
same (node.Pipe q path) (node.Pipe x y) h =
    let k = both (nat_eq q.0 x.0) (same_path path y) h in
    ap (λ (i : ℕ). node.Pipe (record { 0 = i }) path) (equal q.0 x.0 k.0) ∙ ap (λ p. node.Pipe x p) (same_paths path y k.1)
same (node.Pipe q path) (node.Broken r) h = cc
same (node.Broken r) (node.Object x) h = cc
same (node.Broken r) (node.Promise p) h = cc
same (node.Broken r) (node.Field k path) h = cc
same (node.Broken r) (node.Import e) h = cc
same (node.Broken r) (node.Pipe q path) h = cc
same (node.Broken r) (node.Broken x) h = cc

path_itself : (p : List Op) → same_path p p ≡ true
path_itself [] = refl
path_itself (op.Noop ∷ p) = path_itself p
path_itself (op.Field i ∷ p) = rw (itself i, path_itself p) refl

-- Of a node that an export can stand for.
node_itself : (n : Node) → is_exportable n ≡ true → is_same_node n n ≡ true
node_itself (node.Object o) h = itself o.0
node_itself (node.Promise p) h = itself p
node_itself (node.Field o path) h = rw (itself o, path_itself path) refl
node_itself (node.Import e) h = cc
node_itself (node.Pipe q path) h = cc
node_itself (node.Broken r) h = cc

-- ---- The exports of a node

found_among : (n : Node) (c : ℕ) (es : List (ℕ × Export)) → T (entries.is_sorted nat_cmp es) → count_among n es ≡ Some c → (e : ℕ) × (x : Export) × (entries.find nat_cmp e es ≡ Some x) × (x.node ≡ n) × (x.count ≡ c)
found_among n c [] h g = cc
found_among n c (y ∷ es) h g = by (found_among n c es) (entries.below_all nat_cmp y.0 es) refl h (is_same_node n y.1.node) refl g
  where
    by : (T (entries.is_sorted nat_cmp es) → count_among n es ≡ Some c → (e : ℕ) × (x : Export) × (entries.find nat_cmp e es ≡ Some x) × (x.node ≡ n) × (x.count ≡ c)) → (b : Bool) → entries.below_all nat_cmp y.0 es ≡ b → T (b && entries.is_sorted nat_cmp es) → (d : Bool) → is_same_node n y.1.node ≡ d → cond d (Some y.1.count) (count_among n es) ≡ Some c → (e : ℕ) × (x : Export) × (entries.find nat_cmp e (y ∷ es) ≡ Some x) × (x.node ≡ n) × (x.count ≡ c)
    by rest false p h d q g = absurd h
    by rest true p h true q g = (y.0, y.1, first_entry y es, sym (same n y.1.node q), ap (λ o. unwrap_or o 0) g)
    by rest true p h false q g =
        let r = rest h g in
        let k = r.0 in
        let x = r.1 in
        let t = r.2 in
        let u : eq_by_cmp nat_cmp k y.0 ≡ false = behind y.0 es k x (subst (λ (c : Bool). T c) (sym p) tt) t in
        (k, x, ap (λ b. cond b (Some y.1) (entries.find nat_cmp k es)) u ∙ t, r.3, r.4)

none_among : (n : Node) (es : List (ℕ × Export)) → is_same_node n n ≡ true → count_among n es ≡ None → (e : ℕ) (x : Export) → entries.find nat_cmp e es ≡ Some x → x.node ≡ n → ⊥
none_among n [] i h e x g t = cc
none_among n (y ∷ es) i h e x g t = by (none_among n es i) (is_same_node n y.1.node) refl h (eq_by_cmp nat_cmp e y.0) g
  where
    by : (count_among n es ≡ None → (e : ℕ) (x : Export) → entries.find nat_cmp e es ≡ Some x → x.node ≡ n → ⊥) → (d : Bool) → is_same_node n y.1.node ≡ d → cond d (Some y.1.count) (count_among n es) ≡ None → (k : Bool) → cond k (Some y.1) (entries.find nat_cmp e es) ≡ Some x → ⊥
    by rest true q h k g = cc
    by rest false q h true g =
        let a : y.1 ≡ x = ap (λ o. unwrap_or o x) g in
        let b : is_same_node n y.1.node ≡ true = ap (λ (z : Export). is_same_node n z.node) a ∙ ap (is_same_node n) t ∙ i in
        cc
    by rest false q h false g = rest h e x g t

abbrev IsCounted : State → Node → Option ℕ → Type 0
IsCounted s n c = ((e : ℕ) × (x : Export) × (map.get s.exports e ≡ Some x) × (x.node ≡ n) × (c ≡ Some x.count)) ⊎ (((e : ℕ) (x : Export) → map.get s.exports e ≡ Some x → x.node ≡ n → ⊥) × (c ≡ None))

abbrev Counts : State → (Node → Option ℕ) → Type 0
Counts s counts = (n : Node) → is_exportable n ≡ true → IsCounted s n (counts n)

counts_at_first : (s : State) → Counts s (count_of s)
counts_at_first s n i = by (count_of s n) refl
  where
    by : (o : Option ℕ) → count_of s n ≡ o → IsCounted s n o
    by None h = inr ((λ e x g t. none_among n (map.entries s.exports) (node_itself n i) h e x (sym (map.get-entries s.exports e) ∙ g) t), refl)
    by (Some c) h =
        let r = found_among n c (map.entries s.exports) (map.entries_sorted s.exports) h in
        let t = r.2 in
        inl (r.0, r.1, map.get-entries s.exports r.0 ∙ t, r.3, ap (λ (k : ℕ). Some k) (sym r.4))

-- ---- A node is named

abbrev put : State → ℕ → Node → ℕ → State
put s e n c = record s { exports = map.insert s.exports e (record { node = n; count = c }) }

-- Only the export e may stand for the node, and it stands for no other.
abbrev IsPlace : State → Node → ℕ → Type 0
IsPlace s n e = (f : ℕ) (x : Export) → map.get s.exports f ≡ Some x → (x.node ≡ n → f ≡ e) × (f ≡ e → x.node ≡ n)

split : (b : Bool) → (b ≡ true) ⊎ (b ≡ false)
split true = inl refl
split false = inr refl

put_one_each : (s : State) (n : Node) (e c : ℕ) → HasOneEach s → IsPlace s n e → HasOneEach (put s e n c)
put_one_each s n e c o p f g x y h k t = by (split (nat_eq f e)) (split (nat_eq g e))
  where
    made : Export
    made = record { node = n; count = c }

    at : (f : ℕ) (x : Export) → map.get (put s e n c).exports f ≡ Some x → nat_eq f e ≡ true → x.node ≡ n
    at f x h q = ap (λ (z : Option Export). (unwrap_or z x).node) (sym h ∙ get_put s.exports e made f ∙ ap (λ b. cond b (Some made) (map.get s.exports f)) q)

    old : (f : ℕ) (x : Export) → map.get (put s e n c).exports f ≡ Some x → nat_eq f e ≡ false → map.get s.exports f ≡ Some x
    old f x h q = sym (get_other s.exports e made f q) ∙ h

    by : ((nat_eq f e ≡ true) ⊎ (nat_eq f e ≡ false)) → ((nat_eq g e ≡ true) ⊎ (nat_eq g e ≡ false)) → f ≡ g
    by (inl a) (inl b) = equal f e a ∙ sym (equal g e b)
    by (inl a) (inr b) = equal f e a ∙ sym ((p g y (old g y k b)).0 (sym t ∙ at f x h a))
    by (inr a) (inl b) = (p f x (old f x h a)).0 (t ∙ at g y k b) ∙ sym (equal g e b)
    by (inr a) (inr b) = o f g x y (old f x h a) (old g y k b) t

put_counts : (s : State) (n : Node) (e c : ℕ) (counts : Node → Option ℕ) → IsPlace s n e → Counts s counts → c ≡ one_more (counts n) → Counts (put s e n c) (counts_then counts n)
put_counts s n e c counts p k same_count m i = by (split (is_same_node m n)) (k m i)
  where
    made : Export
    made = record { node = n; count = c }

    by : ((is_same_node m n ≡ true) ⊎ (is_same_node m n ≡ false)) → IsCounted s m (counts m) → IsCounted (put s e n c) m (counts_then counts n m)
    by (inl a) w = inl (e, made, get-insert_same s.exports e made, sym (same m n a), ap (λ b. cond b (Some (one_more (counts n))) (counts m)) a ∙ ap (λ (j : ℕ). Some j) (sym same_count))
    by (inr a) (inl w) =
        let x = w.1 in
        let g : map.get s.exports w.0 ≡ Some x = w.2 in
        let t : x.node ≡ m = w.3 in
        inl (w.0, x, get_other s.exports e made w.0 (apart w.0 x g t (split (nat_eq w.0 e))) ∙ g, t, ap (λ b. cond b (Some (one_more (counts n))) (counts m)) a ∙ w.4)
      where
        apart : (f : ℕ) (x : Export) → map.get s.exports f ≡ Some x → x.node ≡ m → ((nat_eq f e ≡ true) ⊎ (nat_eq f e ≡ false)) → nat_eq f e ≡ false
        apart f x g t (inr q) = q
        apart f x g t (inl q) =
            let z : m ≡ n = sym t ∙ (p f x g).1 (equal f e q) in
            let y : is_same_node m n ≡ true = ap (is_same_node m) (sym z) ∙ node_itself m i in
            cc
    by (inr a) (inr w) = inr ((λ f x g t. nowhere f x g t (split (nat_eq f e))), ap (λ b. cond b (Some (one_more (counts n))) (counts m)) a ∙ w.1)
      where
        nowhere : (f : ℕ) (x : Export) → map.get (put s e n c).exports f ≡ Some x → x.node ≡ m → ((nat_eq f e ≡ true) ⊎ (nat_eq f e ≡ false)) → ⊥
        nowhere f x g t (inr q) = w.0 f x (sym (get_other s.exports e made f q) ∙ g) t
        nowhere f x g t (inl q) =
            let z : x.node ≡ n = ap (λ (z : Option Export). (unwrap_or z x).node) (sym g ∙ get_put s.exports e made f ∙ ap (λ b. cond b (Some made) (map.get s.exports f)) q) in
            let v : m ≡ n = sym t ∙ z in
            let y : is_same_node m n ≡ true = ap (is_same_node m) (sym v) ∙ node_itself m i in
            cc

size_put : (s : State) (n : Node) (e c : ℕ) (o : Option Export) → map.get s.exports e ≡ o → map.len (put s e n c).exports ≡ cond (is_some o) (map.len s.exports) (map.len s.exports + 1)
size_put s n e c o h = map.len-insert nat_cmp_total s.exports e (record { node = n; count = c }) ∙ ap (λ (x : Option Export). cond (is_some x) (map.len s.exports) (map.len s.exports + 1)) h

-- The node is put at its place, with one more.
abbrev Names : State → Node → Option ℕ → ℕ → State → Type 0
Names s n o e mid = (c : ℕ) × (c ≡ one_more o) × (mid ≡ put s e n c) × IsPlace s n e × (map.len (put s e n c).exports ≡ size_then (map.len s.exports) o)

named : (s : State) (n : Node) (e : ℕ) (mid : State) (o : Option ℕ) → HasOneEach s → IsCounted s n o → Exported s n e mid → Names s n o e mid
named s n e mid o one k h = by (map.get s.exports e) refl h k
  where
    by : (x : Option Export) → map.get s.exports e ≡ x → ExportedAs s n e x mid → IsCounted s n o → Names s n o e mid
    by None g h (inl w) =
        let x = w.1 in
        let q : map.get s.exports w.0 ≡ Some x = w.2 in
        let t : x.node ≡ n = w.3 in
        absurd (subst (IsOther n) q (h.0 w.0) t)
    by None g h (inr w) = (
      1,
      ap one_more (sym w.1),
      h.1,
      (λ f x q. ((λ t. absurd (w.0 f x q t)), (λ t. let z : ◌≡◌ {A = Option Export} (Some x) None = sym q ∙ ap (λ (j : ℕ). map.get s.exports j) t ∙ g in cc))),
      size_put s n e 1 None g ∙ ap (size_then (map.len s.exports)) (sym w.1),
    )
    by (Some x) g h (inl w) =
        let y = w.1 in
        let q : map.get s.exports w.0 ≡ Some y = w.2 in
        let t : y.node ≡ n = w.3 in
        let r : w.0 ≡ e = one w.0 e y x q g (t ∙ sym h.0) in
        let z : y ≡ x = ap (λ (z : Option Export). unwrap_or z x) (sym q ∙ ap (λ (j : ℕ). map.get s.exports j) r ∙ g) in
        let v : o ≡ Some x.count = w.4 ∙ ap (λ (z : Export). Some z.count) z in (
          x.count + 1,
          ap one_more (sym v),
          h.1,
          (λ f y q. ((λ t. one f e y x q g (t ∙ sym h.0)), (λ t. ap (λ (z : Option Export). (unwrap_or z x).node) (sym q ∙ ap (λ (j : ℕ). map.get s.exports j) t ∙ g) ∙ h.0))),
          size_put s n e (x.count + 1) (Some x) g ∙ ap (size_then (map.len s.exports)) (sym v),
        )
    by (Some x) g h (inr w) = absurd (w.0 e x g h.0)

-- ---- Limits of exports

not_upto : (i j : ℕ) → nat_le i j ≡ false → j < i
not_upto i j h = grind (arith, nat_tests)

less_not : (i j : ℕ) → j < i → nat_le i j ≡ false
less_not i j h = grind (arith, nat_tests)

has_room : (size : ℕ) (o : Option ℕ) → size ≤ table_limit → name_lacks_room size o ≡ false → (size_then size o ≤ table_limit) × (one_more o < count_limit)
has_room size None f h = let a = not_upto 4096 size h in (omega arith, omega arith)
has_room size (Some c) f h = (f, not_upto count_limit (c + 1) h)

had_room : (size : ℕ) (o : Option ℕ) → size_then size o ≤ table_limit → one_more o < count_limit → name_lacks_room size o ≡ false
had_room size None f g = less_not 4096 size (omega arith)
had_room size (Some c) f g = less_not count_limit (c + 1) g

put_fits : (s : State) (n : Node) (e c : ℕ) → ExportsFit s → map.len (put s e n c).exports ≤ table_limit → c < count_limit → ExportsFit (put s e n c)
put_fits s n e c f l g = (l, λ k. subst (λ (x : Option Export). export_count x < count_limit) (sym (get_put s.exports e (record { node = n; count = c }) k)) (by k (nat_eq k e)))
  where
    by : (k : ℕ) (b : Bool) → export_count (cond b (Some (record { node = n; count = c })) (map.get s.exports k)) < count_limit
    by k true = g
    by k false = f.1 k

abbrev Grows : State → State → Type 0
Grows s t = (map.len s.exports ≤ map.len t.exports) × ((e : ℕ) → export_count (map.get s.exports e) ≤ export_count (map.get t.exports e))

fit_before : (s t : State) → Grows s t → ExportsFit t → ExportsFit s
fit_before s t g f = (let a = g.0 in let b = f.0 in omega arith, λ e. let a = g.1 e in let b = f.1 e in omega arith)

put_grows : (s : State) (n : Node) (e c : ℕ) (o : Option Export) → map.get s.exports e ≡ o → export_count o ≤ c → Grows s (put s e n c)
put_grows s n e c o h l = (subst (λ k. map.len s.exports ≤ k) (sym (size_put s n e c o h)) (more (is_some o)), λ k. subst (λ (x : Option Export). export_count (map.get s.exports k) ≤ export_count x) (sym (get_put s.exports e (record { node = n; count = c }) k)) (by k (nat_eq k e) refl))
  where
    more : (b : Bool) → map.len s.exports ≤ cond b (map.len s.exports) (map.len s.exports + 1)
    more true = omega arith
    more false = omega arith

    by : (k : ℕ) (b : Bool) → nat_eq k e ≡ b → export_count (map.get s.exports k) ≤ export_count (cond b (Some (record { node = n; count = c })) (map.get s.exports k))
    by k true q = subst (λ j. export_count (map.get s.exports j) ≤ c) (sym (equal k e q)) (subst (λ (x : Option Export). export_count x ≤ c) (sym h) l)
    by k false q = omega arith

-- ---- All that goes out

exported_or_not : (s : State) (v : Node) (d : Descriptor) (mid : State) → Described s v d mid → ((is_exportable v ≡ true) × (e : ℕ) × Exported s v e mid) ⊎ ((is_exportable v ≡ false) × (mid ≡ s))
exported_or_not s (node.Object o) d mid h = inl (refl, h.0, h.2)
exported_or_not s (node.Promise p) d mid h = inl (refl, h.0, h.2)
exported_or_not s (node.Field o path) d mid h = inl (refl, h.0, h.2)
exported_or_not s (node.Import e) d mid h = inr (refl, h.1)
exported_or_not s (node.Pipe q path) d mid h = inr (refl, h.1)
exported_or_not s (node.Broken reason) d mid h = inr (refl, h.1)

export_grows : (s : State) (n : Node) (e : ℕ) (mid : State) → Exported s n e mid → Grows s mid
export_grows s n e mid h = by (map.get s.exports e) refl h
  where
    by : (x : Option Export) → map.get s.exports e ≡ x → ExportedAs s n e x mid → Grows s mid
    by None g h = subst (Grows s) (sym h.1) (put_grows s n e 1 None g (omega arith))
    by (Some x) g h = subst (Grows s) (sym h.1) (put_grows s n e (x.count + 1) (Some x) g (omega arith))

all_grow : (ns : List Node) (ds : List Descriptor) (s t : State) → DescribesAll s ns ds t → Grows s t
all_grow [] [] s t h = subst (Grows s) (sym h) (omega arith, λ e. omega arith)
all_grow [] (d ∷ ds) s t h = absurd h
all_grow (n ∷ ns) [] s t h = absurd h
all_grow (n ∷ ns) (d ∷ ds) s t h =
    let a = one (exported_or_not s (settle s n) d h.0 h.1) in
    let b = all_grow ns ds h.0 t h.2 in
    (let i = a.0 in let j = b.0 in omega arith, λ e. let i = a.1 e in let j = b.1 e in omega arith)
  where
    one : {mid : State} → ((is_exportable (settle s n) ≡ true) × (e : ℕ) × Exported s (settle s n) e mid) ⊎ ((is_exportable (settle s n) ≡ false) × (mid ≡ s)) → Grows s mid
    one {mid} (inl w) = export_grows s (settle s n) w.1 mid w.2
    one {mid} (inr w) = subst (Grows s) (sym w.1) (omega arith, λ e. omega arith)

put_link : (s : State) (v : Node) (e c : ℕ) (n : Node) → link (put s e v c) n ≡ link s n
put_link s v e c (node.Object o) = refl
put_link s v e c (node.Promise p) = refl
put_link s v e c (node.Field o path) = refl
put_link s v e c (node.Import i) = refl
put_link s v e c (node.Pipe q path) = refl
put_link s v e c (node.Broken reason) = refl

put_going : (s : State) (v : Node) (e c : ℕ) (ns : List Node) → going_out (put s e v c) ns ≡ going_out s ns
put_going s v e c [] = refl
put_going s v e c (n ∷ ns) =
    ap (λ (k : Node). cond (is_exportable k) (k ∷ going_out (put s e v c) ns) (going_out (put s e v c) ns)) (settles_alike s (put s e v c) (put_link s v e c) refl n)
    ∙ ap (λ (ks : List Node). cond (is_exportable (settle s n)) (settle s n ∷ ks) ks) (put_going s v e c ns)

neither : (a b : Bool) → (a || b) ≡ false → (a ≡ false) × (b ≡ false)
neither true b h = let e : true ≡ false = h in cc
neither false b h = (refl, h)

-- Of all nodes from here on.
abbrev Exactly : State → (Node → Option ℕ) → List Node → State → Type 0
Exactly s counts ns t = (names_lack_room (map.len s.exports) counts (going_out s ns) ≡ false → ExportsFit t) × (ExportsFit t → names_lack_room (map.len s.exports) counts (going_out s ns) ≡ false)

abbrev All : List Node → List Descriptor → State → Type 0
All ns ds t = (u : State) (counts : Node → Option ℕ) → Counts u counts → HasOneEach u → ExportsFit u → DescribesAll u ns ds t → Exactly u counts ns t

exactly : (ns : List Node) (ds : List Descriptor) (s t : State) (counts : Node → Option ℕ) → Counts s counts → HasOneEach s → ExportsFit s → DescribesAll s ns ds t → Exactly s counts ns t
exactly [] [] s t counts k o f h = (λ r. subst ExportsFit (sym h) f, λ g. refl)
exactly [] (d ∷ ds) s t counts k o f h = absurd h
exactly (n ∷ ns) [] s t counts k o f h = absurd h
exactly (n ∷ ns) (d ∷ ds) s t counts k o f h = by (λ u cs kk oo ff hh. exactly ns ds u t cs kk oo ff hh) (exported_or_not s (settle s n) d h.0 h.1)
  where
    v : Node
    v = settle s n

    mid : State
    mid = h.0

    size : ℕ
    size = map.len s.exports

    by : All ns ds t → ((is_exportable v ≡ true) × (e : ℕ) × Exported s v e mid) ⊎ ((is_exportable v ≡ false) × (mid ≡ s)) → Exactly s counts (n ∷ ns) t
    by all (inr w) =
        let rest : DescribesAll s ns ds t = subst (λ (m : State). DescribesAll m ns ds t) w.1 h.2 in
        let a = all s counts k o f rest in
        let e : going_out s (n ∷ ns) ≡ going_out s ns = ap (λ b. cond b (v ∷ going_out s ns) (going_out s ns)) w.0 in
        (λ r. a.0 (ap (names_lack_room size counts) (sym e) ∙ r), λ g. ap (names_lack_room size counts) e ∙ a.1 g)
    by all (inl w) =
        let i = w.1 in
        let g = named s v i mid (counts v) o (k v w.0) w.2 in
        let c = g.0 in
        let new : State = put s i v c in
        let rest : DescribesAll new ns ds t = subst (λ (m : State). DescribesAll m ns ds t) g.2 h.2 in
        let l : map.len new.exports ≡ size_then size (counts v) = g.4 in
        let e : going_out s (n ∷ ns) ≡ v ∷ going_out s ns = ap (λ b. cond b (v ∷ going_out s ns) (going_out s ns)) w.0 in
        let u : names_lack_room (map.len new.exports) (counts_then counts v) (going_out new ns) ≡ names_lack_room (size_then size (counts v)) (counts_then counts v) (going_out s ns) =
        ap (λ j. names_lack_room j (counts_then counts v) (going_out new ns)) l ∙ ap (names_lack_room (size_then size (counts v)) (counts_then counts v)) (put_going s v i c ns) in
        let then : ExportsFit new → Exactly new (counts_then counts v) ns t =
        λ fits. all new (counts_then counts v) (put_counts s v i c counts g.3 k g.1) (put_one_each s v i c o g.3) fits rest in (
          λ r.
              let z = neither (name_lacks_room size (counts v)) (names_lack_room (size_then size (counts v)) (counts_then counts v) (going_out s ns)) (ap (names_lack_room size counts) (sym e) ∙ r) in
              let y = has_room size (counts v) f.0 z.0 in
              (then (put_fits s v i c f (subst (λ j. j ≤ table_limit) (sym l) y.0) (subst (λ j. j < count_limit) (sym g.1) y.1))).0 (u ∙ z.1),
          λ q.
              let fits : ExportsFit new = fit_before new t (all_grow ns ds new t rest) q in
              let a : name_lacks_room size (counts v) ≡ false =
              had_room size (counts v) (subst (λ j. j ≤ table_limit) l fits.0)
              (subst (λ j. j < count_limit) g.1 (subst (λ (x : Option Export). export_count x < count_limit) (get-insert_same s.exports i (record { node = v; count = c })) (fits.1 i))) in
              let b : names_lack_room (size_then size (counts v)) (counts_then counts v) (going_out s ns) ≡ false = sym u ∙ (then fits).1 q in
              ap (names_lack_room size counts) e ∙ rw (a, b) refl,
        )

pub room_is_exact : RoomIsExact
room_is_exact s ns ds t o f h = exactly ns ds s t (count_of s) (counts_at_first s) o f h
