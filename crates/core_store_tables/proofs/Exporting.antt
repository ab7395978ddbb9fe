-- What holds stays so where exports come, change and go.
use Rattle.std.proofs.Common.{append_assoc, ◌≡◌, ℕ, ◌+◌, ◌-◌, ◌≤◌, ◌<◌, Bool, true, false, cond, nat_eq, nat_lt, nat_le, List, [], ◌∷◌, ◌++◌, length, Option, None, Some, refl, sym, ap, subst, ◌∙◌, arith}
use Rattle.std.specs.FinMap as map
use Rattle.finite_maps.specs.Tally.{Map}
use Rattle.finite_maps.proofs.Gets.{each_inserted, each_removed, insert_same}
use Rattle.finite_maps.proofs.Lens.{len_new, len_same, len_fewer}
use Rattle.rpc_machine.specs.declared.node.Node.{Node}
use Rattle.rpc_machine.specs.declared.entries.Export.{Export}
use Rattle.rpc_machine.specs.State.{State}
use Rattle.rpc_machine.specs.Places.{places}
use Rattle.rpc_machine.specs.Descriptors.{ExportedAs, Exported, IsOther}
use Rattle.rpc_msg.specs.declared.ids.ExportId.{ExportId}
use Rattle.rpc_machine.specs.Progress.{numbers}
use Rattle.rpc_machine.specs.Settling.{exports_where}
use Rattle.rpc_machine.specs.Flags.{lowered, lower_by, lower_each}
use Rattle.rpc_machine.specs.Limits.{IsWithin, export_count, count_limit, table_limit, number_limit}
use Rattle.laws_acts.specs.Alike.{Alike, come_by_naming}
use Rattle.laws_acts.proofs.Tables.{tables}
use Rattle.laws_acts.proofs.Likeness.{stays}
use Rattle.laws_acts.proofs.Imports.{export_named, export_goes}
use Rattle.vat_tables.specs.Table.{Table}
use Rattle.vat_tables.specs.Exports as table
use Rattle.vat_tables.specs.Exports.{NamedBy}
use Rattle.core_refcounts.specs.Names.{Names, named, unnamed, named_all}
use Rattle.core_store.specs.declared.store.Store.{Store}
use Rattle.core_store.specs.Holding.{state_of, IsSound}
use Rattle.core_store.proofs.Covering.{covered_beside}
use Rattle.core_store.proofs.Keeping.{renamed, spare_kept}
use Rattle.core_store_tables.proofs.Beside.{no_note, tables_kept, others_room}

-- ---- The table

within_by : (s : State) (m : Map Export) → IsWithin s → map.len m ≤ table_limit → ((e : ℕ) → export_count (map.get m e) < count_limit) → IsWithin (record s { exports = m })
within_by s m h fits counts = record {
  questions = h.questions;
  answers = h.answers;
  imports = h.imports;
  exports = fits;
  embargoes = h.embargoes;
  held = h.held;
  import_counts = h.import_counts;
  export_counts = counts;
  refs = h.refs;
  calls = h.calls;
  tasks = h.tasks;
  promises = h.promises;
  made = h.made;
}

pub kept_exports : (x : Store) (m : Table Export) (come gone : List Node) (slack added : ℕ) → IsSound x
    → Alike (come ++ places (state_of x)) (gone ++ places (record (state_of x) { exports = m.entries }))
    → map.len m.entries ≤ table_limit → ((e : ℕ) → export_count (map.get m.entries e) < count_limit)
    → slack + length come ≤ x.slack → x.added + length come ≤ added → added + slack < number_limit → slack ≤ m.room
    → IsSound (record x { exports = m; names = renamed x.names come gone; slack = slack; added = added })
kept_exports x m come gone slack added h alike fits counts less more bound room =
    let s : State = state_of x in
    let others = others_room x slack h (omega (arith, less)) in
    tables_kept x x.questions x.answers x.imports m x.calls x.names come gone slack added h (no_note x.names) (spare_kept slack x.slack x.names [] [] (omega (arith, less)) h.room.notes) alike
    (covered_beside s m.entries s.refs s.tasks s.unsettled s.embargoes s.next_ref s.next_call s.next_task s.next_promise s.down x.names h.covered) (within_by s m.entries h.within fits counts) h.numbered.calls
    less more bound (record { questions = others.questions; answers = others.answers; imports = others.imports; exports = room; calls = others.calls })

-- ---- A node is named

other : (n : Node) (o : Option Export) → table.IsOther n o → IsOther n o
other n None h = tt
other n (Some x) h = h

named_as : (s : State) (n : Node) (e : ℕ) (m : Map Export) (o : Option Export) → NamedBy s.exports n e o m → ExportedAs s n e o (record s { exports = m })
named_as s n e m None h = (λ k. other n (map.get s.exports k) (h.0 k), ap (λ (t : Map Export). record s { exports = t }) h.2)
named_as s n e m (Some x) h = (h.0, ap (λ (t : Map Export). record s { exports = t }) h.2)

pub exported : (s : State) (n : Node) (e : ℕ) (m : Map Export) → NamedBy s.exports n e (map.get s.exports e) m → Exported s n e (record s { exports = m })
exported s n e m h = named_as s n e m (map.get s.exports e) h

grew_by : (old m : Map Export) (n : Node) (e : ℕ) (c : Names) (o : Option Export) → map.get old e ≡ o → NamedBy old n e o m → cond (nat_lt (map.len old) (map.len m)) (named c n) c ≡ named_all c (come_by_naming n o)
grew_by old m n e c None at h =
    let a = len_new old e (record { node = n; count = 1 }) at in
    let b = ap (λ (t : Map Export). map.len t) h.2 in
    let more : map.len old < map.len m = omega (arith, a, b) in
    let yes : nat_lt (map.len old) (map.len m) ≡ true = grind (arith, more) in
    ap (λ g. cond g (named c n) c) yes
grew_by old m n e c (Some x) at h =
    let a = len_same old e x (record { node = n; count = x.count + 1 }) at in
    let b = ap (λ (t : Map Export). map.len t) h.2 in
    let no : nat_lt (map.len old) (map.len m) ≡ false = grind (arith, a, b) in
    ap (λ g. cond g (named c n) c) no

counts_by : (s : State) (m : Map Export) (n : Node) (e : ℕ) (o : Option Export) → NamedBy s.exports n e o m → ((k : ℕ) → export_count (map.get s.exports k) < count_limit) → (k : ℕ) → export_count (map.get m k) < count_limit
counts_by s m n e None h old =
    subst (λ (t : Map Export). (k : ℕ) → export_count (map.get t k) < count_limit) (sym h.2)
    (each_inserted (λ k o. export_count o < count_limit) s.exports e (record { node = n; count = 1 }) (omega arith) (λ k apart. old k))
counts_by s m n e (Some x) h old =
    subst (λ (t : Map Export). (k : ℕ) → export_count (map.get t k) < count_limit) (sym h.2)
    (each_inserted (λ k o. export_count o < count_limit) s.exports e (record { node = n; count = x.count + 1 }) (let a = h.1 in omega (arith, a)) (λ k apart. old k))

one_at_most : (n : Node) (o : Option Export) → length (come_by_naming n o) ≤ 1
one_at_most n None = omega arith
one_at_most n (Some x) = omega arith

pub sound_named : (x : Store) (m : Table Export) (n : Node) (e : ℕ) (grew : Bool) (names : Names) → IsSound x → 0 < x.slack → NamedBy x.exports.entries n e (map.get x.exports.entries e) m.entries → x.exports.room ≤ m.room + 1
    → map.len m.entries ≤ table_limit → grew ≡ nat_lt (map.len x.exports.entries) (map.len m.entries) → names ≡ cond grew (named x.names n) x.names
    → IsSound (record x { exports = m; names = names; slack = x.slack - 1; added = x.added + 1 })
sound_named x m n e grew names h some by room fits grown as_named =
    let s : State = state_of x in
    let o : Option Export = map.get s.exports e in
    let come : List Node = come_by_naming n o in
    let a = h.room.exports in
    let b = h.bounded.added in
    let one = one_at_most n o in
    let is : names ≡ named_all x.names come = as_named ∙ ap (λ g. cond g (named x.names n) x.names) grown ∙ grew_by s.exports m.entries n e x.names o refl by in
    subst (λ (d : Names). IsSound (record x { exports = m; names = d; slack = x.slack - 1; added = x.added + 1 })) (sym is)
    (kept_exports x m come [] (x.slack - 1) (x.added + 1) h (export_named s n e (record s { exports = m.entries }) (exported s n e m.entries by)) fits
    (counts_by s m.entries n e o by h.within.export_counts) (omega (arith, one, some)) (omega (arith, one)) (omega (arith, b, some)) (omega (arith, a, room, some)))

-- ---- A count falls

-- It goes.
pub sound_closed : (x : Store) (m : Table Export) (e : ℕ) (old : Export) (names : Names) → IsSound x → m.entries ≡ map.remove x.exports.entries e → x.exports.room ≤ m.room → Some old ≡ map.get x.exports.entries e → names ≡ unnamed x.names old.node
    → IsSound (record x { exports = m; names = names })
sound_closed x m e old names h is room there gone =
    let s : State = state_of x in
    let a = h.room.exports in
    let b = h.within.exports in
    let len = len_fewer s.exports e in
    subst (λ (t : Map Export). IsSound (record x { exports = record { entries = t; room = m.room }; names = names })) (sym is)
    (subst (λ (d : Names). IsSound (record x { exports = record { entries = map.remove s.exports e; room = m.room }; names = d })) (sym gone)
    (kept_exports x (record { entries = map.remove s.exports e; room = m.room }) [] (old.node ∷ []) x.slack x.added h (export_goes s e old (sym there)) (omega (arith, len, b))
    (each_removed (λ k o. export_count o < count_limit) s.exports e (omega arith) (λ k apart. h.within.export_counts k))
    (omega arith) (omega arith) h.bounded.added (omega (arith, a, room))))

released_by : (m : Map Export) (e n : ℕ) (old : Export) → Some old ≡ map.get m e → nat_le old.count n ≡ false → table.lowered m e n (map.get m e) ≡ map.insert m e (record old { count = old.count - n })
released_by m e n old there more =
    ap (table.lowered m e n) (sym there) ∙ (let no : nat_eq old.count n ≡ false = grind (arith, more) in ap (λ b. cond b (map.remove m e) (map.insert m e (record old { count = old.count - n }))) no)

-- It stays.
pub sound_lowered : (x : Store) (m : Table Export) (e n : ℕ) (old : Export) → IsSound x → m.entries ≡ table.lowered x.exports.entries e n (map.get x.exports.entries e) → x.exports.room ≤ m.room → Some old ≡ map.get x.exports.entries e
    → nat_le old.count n ≡ false → IsSound (record x { exports = m })
sound_lowered x m e n old h is room there more =
    let s : State = state_of x in
    let new : Export = record old { count = old.count - n } in
    let a = h.room.exports in
    let b = h.within.exports in
    let len = len_same s.exports e old new (sym there) in
    let count : old.count < count_limit = subst (λ (o : Option Export). export_count o < count_limit) (sym there) (h.within.export_counts e) in
    subst (λ (t : Map Export). IsSound (record x { exports = record { entries = t; room = m.room } })) (sym (is ∙ released_by s.exports e n old there more))
    (kept_exports x (record { entries = map.insert s.exports e new; room = m.room }) [] [] x.slack x.added h (stays tables.exports s e old new (sym there) (λ test. refl)) (omega (arith, len, b))
    (each_inserted (λ k o. export_count o < count_limit) s.exports e new (omega (arith, count)) (λ k apart. h.within.export_counts k))
    (omega arith) (omega arith) h.bounded.added (omega (arith, a, room)))

-- Nothing is taken off.
pub lower_none : (s : State) (e n : ℕ) (old : Export) → n ≡ 0 → Some old ≡ map.get s.exports e → nat_le old.count n ≡ false → s ≡ record s { exports = lower_by s.exports e n }
lower_none s e n old nothing there more =
    let same : old.count - n ≡ old.count = omega (arith, nothing) in
    let is : lower_by s.exports e n ≡ s.exports =
    ap (lowered s.exports e n) (sym there) ∙ ap (λ b. cond b (map.remove s.exports e) (map.insert s.exports e (record old { count = old.count - n }))) more
    ∙ ap (λ c. map.insert s.exports e (record old { count = c })) same ∙ insert_same s.exports e old (sym there) in
    ap (λ (t : Map Export). record s { exports = t }) (sym is)

-- ---- A flag

pub lower_more : (m : Map Export) (es : List ExportId) (e : ExportId) → lower_each m (numbers (es ++ e ∷ [])) ≡ lower_by (lower_each m (numbers es)) e.0 1
lower_more m [] e = refl
lower_more m (x ∷ es) e = lower_more (lower_by m x.0 1) es e

-- ---- Exports of some nodes

joined : (b : Bool) (x : ℕ × Node) (ys : List (ℕ × Node)) → cond b (x ∷ []) [] ++ ys ≡ cond b (x ∷ ys) ys
joined true x ys = refl
joined false x ys = refl

pub chosen_more : (test : Node → Bool) (found more : List (ℕ × Node)) (before after : List (ℕ × Export)) (id : ℕ) (x : Export) (whole : List (ℕ × Node)) → before ≡ (id, x) ∷ after
    → more ≡ found ++ cond (test x.node) ((id, x.node) ∷ []) [] → found ++ exports_where test before ≡ whole → more ++ exports_where test after ≡ whole
chosen_more test found more before after id x whole steps is so_far =
    ap (λ (l : List (ℕ × Node)). l ++ exports_where test after) is
    ∙ append_assoc found (cond (test x.node) ((id, x.node) ∷ []) []) (exports_where test after)
    ∙ ap (λ (l : List (ℕ × Node)). found ++ l) (joined (test x.node) (id, x.node) (exports_where test after))
    ∙ ap (λ (es : List (ℕ × Export)). found ++ exports_where test es) (sym steps) ∙ so_far
