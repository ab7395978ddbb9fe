-- Nodes that are described one after the other find room where the machine says that they do.
use Rattle.std.proofs.Common.{◌≡◌, ◌≢◌, ◌⊎◌, inl, inr, ℕ, zero, suc, ◌+◌, ◌≤◌, ◌<◌, Bool, true, false, ◌||◌, cond, nat_le, List, [], ◌∷◌, Option, None, Some, unwrap_or, refl, sym, ap, subst, ◌∙◌, arith}
use Rattle.std.proofs.lemmas.Bool.Decides.{nat_tests}
use Rattle.std.proofs.lemmas.Bool.{cases_eq}
use Rattle.std.specs.FinMap as map
use Rattle.finite_maps.specs.Tally.{Map}
use Rattle.finite_maps.proofs.Gets.{get-insert_same, get-insert_other, each_inserted}
use Rattle.finite_maps.proofs.Lens.{len_new, len_same}
use Rattle.rpc_msg.specs.declared.parts.Descriptor.{Descriptor}
use Rattle.rpc_machine.specs.declared.node.Node.{Node}
use Rattle.rpc_machine.specs.declared.node.Node.TheVariants as node
use Rattle.rpc_machine.specs.declared.entries.Export.{Export}
use Rattle.rpc_machine.specs.State.{State}
use Rattle.rpc_machine.specs.Nodes.{link, next, follow, links, settle, is_same_node}
use Rattle.rpc_machine.specs.Descriptors.{ExportedAs, Exported, Described, Describes}
use Rattle.rpc_machine.specs.Fullness.{is_exportable, going_out, count_of, name_lacks_room, size_then, one_more, counts_then, names_lack_room}
use Rattle.vat_tables.specs.Exports.{IsOther, IsNotExported, IsNameLimit, IsOneEach, HasCount}
use Rattle.core_step_checks.proofs.Outgoing.{has_count}
use Rattle.core_step_checks.proofs.Wires.{same_node, is_itself}
use Rattle.core_step_routes.specs.Fitting.{IsCount, AreCounts, HasExportRoom}
use Rattle.vat_tables.proofs.ExportLemmas.{not_none, some_same}

stands : (m : Map Export) (n : Node) (e : ℕ) (x : Export) → map.get m e ≡ Some x → x.node ≡ n → IsNotExported m n → ⊥
stands m n e x at is none = subst (IsOther n) at (none e) is

-- ---- The machine's counts are those of the exports

pub first_counts : (s : State) → IsOneEach s.exports → AreCounts s (count_of s)
first_counts s one n goes = by (count_of s n) (has_count s n goes)
  where
    by : (o : Option ℕ) → HasCount s.exports n o → IsCount s.exports n o
    by None h = h
    by (Some c) h = (
      stands s.exports n h.0 (record { node = n; count = c }) h.1 refl,
      λ e x at is.
          let k : h.0 ≡ e = one h.0 e (record { node = n; count = c }) x h.1 at (sym is) in
          let same : record { node = n; count = c } ≡ x = some_same (sym h.1 ∙ ap (map.get s.exports) k ∙ at) in
          let count : c ≡ x.count = ap (λ (y : Export). y.count) same in
          omega (arith, count),
    )

-- Where the counts leave room, the node is at no limit.
pub no_limit : (m : Map Export) (n : Node) (o : Option ℕ) → IsCount m n o → name_lacks_room (map.len m) o ≡ false → IsNameLimit m n → ⊥
no_limit m n None none room (inl (e, count, at, past)) = stands m n e (record { node = n; count = count }) at refl none
no_limit m n None none room (inr (_none, full)) = let a : nat_le 4096 (map.len m) ≡ false = room in let b : map.len m < 4096 = grind (arith, nat_tests) in omega (arith, b, full)
no_limit m n (Some c) has room (inl (e, count, at, past)) =
    let below = has.1 e (record { node = n; count = count }) at refl in
    let a : nat_le 4294967296 (c + 1) ≡ false = room in
    let b : c + 1 < 4294967296 = grind (arith, nat_tests) in
    omega (arith, below, past, b)
no_limit m n (Some c) has room (inr (none, full)) = has.0 none

-- ---- A node is named

put : State → ℕ → Node → ℕ → State
put s e n c = record s { exports = map.insert s.exports e (record { node = n; count = c }) }

-- What the entry was stood for that node, or there was none.
abbrev Was : Option Export → Node → Type 0
Was o v = (x : Export) → o ≡ Some x → x.node ≡ v

other_stays : (m : Map Export) (e : ℕ) (v n : Node) (c : ℕ) (o : Option ℕ) → n ≢ v → Was (map.get m e) v → IsCount m n o → IsCount (map.insert m e (record { node = v; count = c })) n o
other_stays m e v n c None apart was none =
    each_inserted (λ k o. IsOther n o) m e (record { node = v; count = c }) (λ same. apart (sym same)) (λ k far. none k)
other_stays m e v n c (Some count) apart was has =
    let new : Map Export = map.insert m e (record { node = v; count = c }) in (
      λ none. has.0 (λ k. elim (cases_eq k e) [
        | inl here ↦ before k (map.get m k) refl here
        | inr far ↦ subst (IsOther n) (get-insert_other m e (record { node = v; count = c }) k far) (none k)
      ]),
      λ k x at is. elim (cases_eq k e) [
        | inl here ↦
            let same : record { node = v; count = c } ≡ x = some_same (sym (get-insert_same m e (record { node = v; count = c })) ∙ ap (map.get new) (sym here) ∙ at) in
            absurd (apart (sym (ap (λ (y : Export). y.node) same ∙ is)))
        | inr far ↦ has.1 k x (sym (get-insert_other m e (record { node = v; count = c }) k far) ∙ at) is
      ],
    )
  where
    before : (k : ℕ) (o : Option Export) → map.get m k ≡ o → k ≡ e → IsOther n o
    before k None at here = tt
    before k (Some x) at here = λ same. apart (sym same ∙ was x (ap (map.get m) (sym here) ∙ at))

itself_counts : (m : Map Export) (e : ℕ) (v : Node) (c : ℕ) → ((k : ℕ) (x : Export) → map.get m k ≡ Some x → x.node ≡ v → x.count ≤ c) → IsCount (map.insert m e (record { node = v; count = c })) v (Some c)
itself_counts m e v c most =
    let new : Map Export = map.insert m e (record { node = v; count = c }) in (
      stands new v e (record { node = v; count = c }) (get-insert_same m e (record { node = v; count = c })) refl,
      λ k x at is. elim (cases_eq k e) [
        | inl here ↦
            let same : record { node = v; count = c } ≡ x = some_same (sym (get-insert_same m e (record { node = v; count = c })) ∙ ap (map.get new) (sym here) ∙ at) in
            let count : c ≡ x.count = ap (λ (y : Export). y.count) same in
            omega (arith, count)
        | inr far ↦ most k x (sym (get-insert_other m e (record { node = v; count = c }) k far) ∙ at) is
      ],
    )

counts_less : (m : Map Export) (v : Node) (c d : ℕ) → IsCount m v (Some c) → c ≤ d → (k : ℕ) (x : Export) → map.get m k ≡ Some x → x.node ≡ v → x.count ≤ d
counts_less m v c d has less k x at is = let a = has.1 k x at is in omega (arith, a, less)

-- The counts then are those of the exports then.
counts_put : (s : State) (counts : Node → Option ℕ) (e : ℕ) (v : Node) (c : ℕ) → AreCounts s counts → Was (map.get s.exports e) v → IsCount (map.insert s.exports e (record { node = v; count = c })) v (Some (one_more (counts v)))
    → AreCounts (record s { exports = map.insert s.exports e (record { node = v; count = c }) }) (counts_then counts v)
counts_put s counts e v c are was mine n goes = by (is_same_node n v) refl
  where
    by : (b : Bool) → is_same_node n v ≡ b → IsCount (map.insert s.exports e (record { node = v; count = c })) n (cond b (Some (one_more (counts v))) (counts n))
    by true h = subst (λ (k : Node). IsCount (map.insert s.exports e (record { node = v; count = c })) k (Some (one_more (counts v)))) (sym (same_node n v h)) mine
    by false h = other_stays s.exports e v n c (counts n) (λ same. let f : true ≡ false = sym (is_itself n goes) ∙ ap (is_same_node n) same ∙ h in cc) was (are n goes)

abbrev Named : State → (Node → Option ℕ) → Node → State → Type 0
Named s counts v new = AreCounts new (counts_then counts v) × (map.len new.exports ≡ size_then (map.len s.exports) (counts v))

named_as : (s : State) (counts : Node → Option ℕ) (v : Node) (e : ℕ) (o : Option Export) (new : State) → map.get s.exports e ≡ o → AreCounts s counts → is_exportable v ≡ true → ExportedAs s v e o new → Named s counts v new
named_as s counts v e None new at are goes h =
    subst (Named s counts v) (sym h.1)
    (by (counts v) (are v goes))
  where
    made : State
    made = record s { exports = map.insert s.exports e (record { node = v; count = 1 }) }

    first : (o : Option ℕ) → IsCount s.exports v o → IsNotExported s.exports v → o ≡ None
    first None c none = refl
    first (Some k) c none = absurd (c.0 none)

    by : (o : Option ℕ) → IsCount s.exports v o → Named s counts v (record s { exports = map.insert s.exports e (record { node = v; count = 1 }) })
    by o c =
        let empty : counts v ≡ None = first (counts v) (are v goes) h.0 in (
          counts_put s counts e v 1 are (λ x some. absurd (not_none (map.get s.exports e) some at))
              (subst (λ (p : Option ℕ). IsCount (map.insert s.exports e (record { node = v; count = 1 })) v (Some (one_more p))) (sym empty)
              (itself_counts s.exports e v 1 (λ k x there is. absurd (stands s.exports v k x there is h.0)))),
          len_new s.exports e (record { node = v; count = 1 }) at ∙ sym (ap (size_then (map.len s.exports)) empty),
        )
named_as s counts v e (Some x) new at are goes h = by (counts v) refl (are v goes)
  where
    by : (o : Option ℕ) → counts v ≡ o → IsCount s.exports v o → Named s counts v new
    by None is c = absurd (stands s.exports v e x at h.0 c)
    by (Some c) is has =
        let most : x.count ≤ c = has.1 e x at h.0 in
        let up : (k : ℕ) (y : Export) → map.get s.exports k ≡ Some y → y.node ≡ v → y.count ≤ c + 1 = counts_less s.exports v c (c + 1) has (omega arith) in
        subst (Named s counts v) (sym h.1) (
          counts_put s counts e v (x.count + 1) are (λ y some. ap (λ (z : Export). z.node) (some_same (sym some ∙ at)) ∙ h.0)
              (subst (λ (p : Option ℕ). IsCount (map.insert s.exports e (record { node = v; count = x.count + 1 })) v (Some (one_more p))) (sym is)
              (bounded (map.insert s.exports e (record { node = v; count = x.count + 1 })) c
              (stands (map.insert s.exports e (record { node = v; count = x.count + 1 })) v e (record { node = v; count = x.count + 1 }) (get-insert_same s.exports e (record { node = v; count = x.count + 1 })) refl)
              (most_then c most up))),
          len_same s.exports e x (record { node = v; count = x.count + 1 }) at ∙ sym (ap (size_then (map.len s.exports)) is),
        )
      where
        bounded : (m : Map Export) (c : ℕ) → (IsNotExported m v → ⊥) → ((k : ℕ) (y : Export) → map.get m k ≡ Some y → y.node ≡ v → y.count ≤ c + 1) → IsCount m v (Some (c + 1))
        bounded m c there most = (there, most)

        most_then : (c : ℕ) → x.count ≤ c → ((k : ℕ) (y : Export) → map.get s.exports k ≡ Some y → y.node ≡ v → y.count ≤ c + 1) → (k : ℕ) (y : Export) → map.get (map.insert s.exports e (record { node = v; count = x.count + 1 })) k ≡ Some y → y.node ≡ v → y.count ≤ c + 1
        most_then c most up k y there is = elim (cases_eq k e) [
          | inl here ↦
              let same : record { node = v; count = x.count + 1 } ≡ y = some_same (sym (get-insert_same s.exports e (record { node = v; count = x.count + 1 })) ∙ ap (map.get (map.insert s.exports e (record { node = v; count = x.count + 1 }))) (sym here) ∙ there) in
              let count : x.count + 1 ≡ y.count = ap (λ (z : Export). z.count) same in
              omega (arith, count, most)
          | inr far ↦ up k y (sym (get-insert_other s.exports e (record { node = v; count = x.count + 1 }) k far) ∙ there) is
        ]

-- ---- What goes out is the same, whatever the exports are

same_link : (s : State) (m : Map Export) (n : Node) → link (record s { exports = m }) n ≡ link s n
same_link s m (node.Object o) = refl
same_link s m (node.Promise p) = refl
same_link s m (node.Field o path) = refl
same_link s m (node.Import e) = refl
same_link s m (node.Pipe q path) = refl
same_link s m (node.Broken reason) = refl

same_follow : (s : State) (m : Map Export) (k : ℕ) (n : Node) → follow (record s { exports = m }) k n ≡ follow s k n
same_follow s m zero n = refl
same_follow s m (suc k) n = ap (λ o. follow (record s { exports = m }) k (unwrap_or o n)) (same_link s m n) ∙ same_follow s m k (next s n)

pub same_going : (s : State) (m : Map Export) (ns : List Node) → going_out (record s { exports = m }) ns ≡ going_out s ns
same_going s m [] = refl
same_going s m (n ∷ ns) =
    ap (λ (k : Node). cond (is_exportable k) (k ∷ going_out (record s { exports = m }) ns) (going_out (record s { exports = m }) ns)) (same_follow s m (links s) n)
    ∙ ap (λ (ks : List Node). cond (is_exportable (settle s n)) (settle s n ∷ ks) ks) (same_going s m ns)

-- ---- One of them is described

-- From here on there is room for these.
abbrev pub HasRoomFor : State → List Node → Type 0
HasRoomFor s ns = (counts : Node → Option ℕ) × AreCounts s counts × (names_lack_room (map.len s.exports) counts (going_out s ns) ≡ false)

pub first_room : (s : State) (ns : List Node) → IsOneEach s.exports → names_lack_room (map.len s.exports) (count_of s) (going_out s ns) ≡ false → HasRoomFor s ns
first_room s ns one room = (count_of s, first_counts s one, room)

neither : (a b : Bool) → (a || b) ≡ false → (a ≡ false) × (b ≡ false)
neither true b h = let e : true ≡ false = h in cc
neither false b h = (refl, h)

parts : (s : State) (counts : Node → Option ℕ) (n : Node) (ns : List Node) → is_exportable (settle s n) ≡ true → names_lack_room (map.len s.exports) counts (going_out s (n ∷ ns)) ≡ false
    → (name_lacks_room (map.len s.exports) (counts (settle s n)) ≡ false) × (names_lack_room (size_then (map.len s.exports) (counts (settle s n))) (counts_then counts (settle s n)) (going_out s ns) ≡ false)
parts s counts n ns goes room =
    neither (name_lacks_room (map.len s.exports) (counts (settle s n))) (names_lack_room (size_then (map.len s.exports) (counts (settle s n))) (counts_then counts (settle s n)) (going_out s ns))
    (ap (names_lack_room (map.len s.exports) counts) (sym (ap (λ b. cond b (settle s n ∷ going_out s ns) (going_out s ns)) goes)) ∙ room)

pub room_for_one : (s : State) (counts : Node → Option ℕ) (n : Node) (ns : List Node) → names_lack_room (map.len s.exports) counts (going_out s (n ∷ ns)) ≡ false → HasExportRoom s counts (settle s n)
room_for_one s counts n ns room goes = (parts s counts n ns goes room).0

described_as : (s : State) (v : Node) (d : Descriptor) (new : State) → Described s v d new → ((is_exportable v ≡ true) × (e : ℕ) × Exported s v e new) ⊎ ((is_exportable v ≡ false) × (new ≡ s))
described_as s (node.Object o) d new h = inl (refl, h.0, h.2)
described_as s (node.Promise p) d new h = inl (refl, h.0, h.2)
described_as s (node.Field o path) d new h = inl (refl, h.0, h.2)
described_as s (node.Import e) d new h = inr (refl, h.1)
described_as s (node.Pipe q path) d new h = inr (refl, h.1)
described_as s (node.Broken reason) d new h = inr (refl, h.1)

exports_alone : (s : State) (v : Node) (e : ℕ) (o : Option Export) (new : State) → ExportedAs s v e o new → new ≡ record s { exports = new.exports }
exports_alone s v e None new h = h.1 ∙ ap (λ (t : State). record s { exports = t.exports }) (sym h.1)
exports_alone s v e (Some x) new h = h.1 ∙ ap (λ (t : State). record s { exports = t.exports }) (sym h.1)

-- Then there is room for the others.
pub room_behind : (s : State) (n : Node) (ns : List Node) (d : Descriptor) (new : State) → Describes s n d new → HasRoomFor s (n ∷ ns) → HasRoomFor new ns
room_behind s n ns d new said h = by (described_as s v d new said)
  where
    v : Node
    v = settle s n

    by : ((is_exportable (settle s n) ≡ true) × (e : ℕ) × Exported s (settle s n) e new) ⊎ ((is_exportable (settle s n) ≡ false) × (new ≡ s)) → HasRoomFor new ns
    by (inr w) =
        subst (λ (t : State). HasRoomFor t ns) (sym w.1)
        (h.0, h.1, ap (names_lack_room (map.len s.exports) h.0) (sym (ap (λ b. cond b (settle s n ∷ going_out s ns) (going_out s ns)) w.0)) ∙ h.2)
    by (inl w) =
        let named = named_as s h.0 (settle s n) w.1 (map.get s.exports w.1) new refl h.1 w.0 w.2 in
        let alone = exports_alone s (settle s n) w.1 (map.get s.exports w.1) new w.2 in
        let going : going_out new ns ≡ going_out s ns = ap (λ (t : State). going_out t ns) alone ∙ same_going s new.exports ns in (
          counts_then h.0 (settle s n),
          named.0,
          ap (λ (k : ℕ). names_lack_room k (counts_then h.0 (settle s n)) (going_out new ns)) named.1
              ∙ ap (names_lack_room (size_then (map.len s.exports) (h.0 (settle s n))) (counts_then h.0 (settle s n))) going
              ∙ (parts s h.0 n ns w.0 h.2).1,
        )
