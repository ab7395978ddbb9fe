-- What holds stays so where imports come, change and go.
use Rattle.std.proofs.Common.{◌≡◌, ℕ, ◌+◌, ◌-◌, ◌≤◌, ◌<◌, List, [], ◌++◌, length, Option, None, Some, refl, sym, ap, subst, ◌∙◌, arith}
use Rattle.std.specs.FinMap as map
use Rattle.finite_maps.specs.Tally.{Map}
use Rattle.finite_maps.proofs.Gets.{each_inserted, each_removed, remove_absent}
use Rattle.finite_maps.proofs.Lens.{len_new, len_same, len_fewer}
use Rattle.rpc_machine.specs.declared.node.Node.{Node}
use Rattle.rpc_machine.specs.declared.entries.Import.{Import}
use Rattle.rpc_machine.specs.declared.entries.Resolution.{Resolution}
use Rattle.rpc_machine.specs.declared.entries.Resolution.TheVariants as resolution
use Rattle.rpc_machine.specs.declared.entries.SenderKind.{SenderKind}
use Rattle.rpc_machine.specs.State.{State}
use Rattle.rpc_machine.specs.Places.{places, named_by_resolution}
use Rattle.rpc_machine.specs.Limits.{IsWithin, import_count, count_limit, table_limit, number_limit}
use Rattle.laws_acts.specs.Alike.{Alike}
use Rattle.laws_acts.proofs.Tables.{tables}
use Rattle.laws_acts.proofs.Likeness.{stays}
use Rattle.vat_tables.specs.Table.{Table, with_entry}
use Rattle.core_refcounts.specs.Names.{Names, HasSpare, named_all, unnamed_all}
use Rattle.core_store.specs.declared.store.Store.{Store}
use Rattle.core_store.specs.Holding.{state_of, IsThere, IsNoted, IsCovered, IsSound}
use Rattle.core_store.proofs.Keeping.{renamed, spare_kept}
use Rattle.core_store_tables.specs.Peer.{import_noted}
use Rattle.core_store_tables.proofs.Beside.{NotesMore, no_note, import_note, import_is_noted, spare_noted, covered_noted, told_before, as_now, tables_kept, others_room}

-- ---- The table

covered_by : (s : State) (m : Map Import) (c : Names) → IsCovered s c → ((e : ℕ) → IsThere (map.get m e) → IsNoted c.imports e) → IsCovered (record s { imports = m }) c
covered_by s m c h noted =
    let t : State = record s { imports = m } in
    record {
      promises = h.promises;
      outcomes = λ o told. h.outcomes o (told_before s t (λ k e. e) o (λ k e. e) (map.get s.outcomes o) told);
      imports = noted;
      questions = λ q. as_now s t (λ k e. e) c.questions q (map.get s.questions q) (h.questions q);
    }

within_by : (s : State) (m : Map Import) → IsWithin s → map.len m ≤ table_limit → ((e : ℕ) → import_count (map.get m e) < count_limit) → IsWithin (record s { imports = m })
within_by s m h fits counts = record {
  questions = h.questions;
  answers = h.answers;
  imports = fits;
  exports = h.exports;
  embargoes = h.embargoes;
  held = h.held;
  import_counts = counts;
  export_counts = h.export_counts;
  refs = h.refs;
  calls = h.calls;
  tasks = h.tasks;
  promises = h.promises;
  made = h.made;
}

pub kept_imports : (x : Store) (m : Table Import) (c : Names) (come gone : List Node) (slack added : ℕ) → IsSound x → NotesMore x.names c → HasSpare slack c
    → Alike (come ++ places (state_of x)) (gone ++ places (record (state_of x) { imports = m.entries }))
    → ((e : ℕ) → IsThere (map.get m.entries e) → IsNoted c.imports e) → map.len m.entries ≤ table_limit → ((e : ℕ) → import_count (map.get m.entries e) < count_limit)
    → slack + length come ≤ x.slack → x.added + length come ≤ added → added + slack < number_limit → slack ≤ m.room
    → IsSound (record x { imports = m; names = renamed c come gone; slack = slack; added = added })
kept_imports x m c come gone slack added h notes spare alike noted fits counts less more bound room =
    let s : State = state_of x in
    let others = others_room x slack h (omega (arith, less)) in
    tables_kept x x.questions x.answers m x.exports x.calls c come gone slack added h notes spare alike
    (covered_by s m.entries c (covered_noted s x.names c notes h.covered) noted) (within_by s m.entries h.within fits counts) h.numbered.calls
    less more bound (record { questions = others.questions; answers = others.answers; imports = room; exports = others.exports; calls = others.calls })

-- ---- An import comes

abbrev first : SenderKind → Import
first kind = record { kind = kind; count = 1; resolution = None }

pub sound_first : (x : Store) (m : Table Import) (e : ℕ) (kind : SenderKind) (names : Names) → IsSound x → 0 < x.slack → map.get x.imports.entries e ≡ None
    → m.entries ≡ map.insert x.imports.entries e (first kind) → x.imports.room ≤ m.room + 1 → map.len x.imports.entries < table_limit → names ≡ import_noted x.names e
    → IsSound (record x { imports = m; names = names; slack = x.slack - 1; added = x.added + 1 })
sound_first x m e kind names h some free is room fits noted =
    let s : State = state_of x in
    let c : Names = import_noted x.names e in
    let notes : NotesMore x.names c = import_note x.names e _ in
    let a = h.room.imports in
    let b = h.bounded.added in
    let len = len_new s.imports e (first kind) free in
    subst (λ (t : Map Import). IsSound (record x { imports = record { entries = t; room = m.room }; names = names; slack = x.slack - 1; added = x.added + 1 })) (sym is)
    (subst (λ (d : Names). IsSound (record x { imports = record { entries = map.insert s.imports e (first kind); room = m.room }; names = d; slack = x.slack - 1; added = x.added + 1 })) (sym noted)
    (kept_imports x (record { entries = map.insert s.imports e (first kind); room = m.room }) c [] [] (x.slack - 1) (x.added + 1) h notes
    (spare_noted (x.slack - 1) x.slack x.names c notes (omega (arith, some)) h.room.notes)
    (tables.imports.comes s e (first kind) free)
    (each_inserted (λ k o. IsThere o → IsNoted c.imports k) s.imports e (first kind) (λ u. import_is_noted x.names e) (λ k apart. (covered_noted s x.names c notes h.covered).imports k))
    (omega (arith, len, fits))
    (each_inserted (λ k o. import_count o < count_limit) s.imports e (first kind) (omega arith) (λ k apart. h.within.import_counts k))
    (omega arith) (omega arith) (omega (arith, b, some)) (omega (arith, a, room, some))))

-- ---- An import changes

-- What it names changes, and nothing is noted.
changed : (x : Store) (e : ℕ) (old new : Import) (come gone : List Node) (slack added : ℕ) → IsSound x → map.get x.imports.entries e ≡ Some old → new.count < count_limit
    → Alike (come ++ places (state_of x)) (gone ++ places (record (state_of x) { imports = map.insert x.imports.entries e new }))
    → slack + length come ≤ x.slack → x.added + length come ≤ added → added + slack < number_limit
    → IsSound (record x { imports = with_entry x.imports e new; names = renamed x.names come gone; slack = slack; added = added })
changed x e old new come gone slack added h there count alike less more bound =
    let s : State = state_of x in
    let a = h.room.imports in
    let b = h.within.imports in
    let len = len_same s.imports e old new there in
    let noted : IsNoted x.names.imports e = h.covered.imports e (subst IsThere (sym there) tt) in
    kept_imports x (with_entry x.imports e new) x.names come gone slack added h (no_note x.names) (spare_kept slack x.slack x.names [] [] (omega (arith, less)) h.room.notes) alike
    (each_inserted (λ k o. IsThere o → IsNoted x.names.imports k) s.imports e new (λ u. noted) (λ k apart. h.covered.imports k))
    (omega (arith, len, b))
    (each_inserted (λ k o. import_count o < count_limit) s.imports e new count (λ k apart. h.within.import_counts k))
    less more bound (omega (arith, a, less))

-- Its count alone changes.
pub sound_counted : (x : Store) (e : ℕ) (old : Import) (count slack : ℕ) → IsSound x → map.get x.imports.entries e ≡ Some old → count < count_limit → slack ≤ x.slack
    → IsSound (record x { imports = with_entry x.imports e (record old { count = count }); slack = slack })
sound_counted x e old count slack h there fits less =
    let b = h.bounded.added in
    changed x e old (record old { count = count }) [] [] slack x.added h there fits (stays tables.imports (state_of x) e old (record old { count = count }) there (λ test. refl)) (omega (arith, less)) (omega arith) (omega (arith, b, less))

one_at_most : (r : Resolution) → length (named_by_resolution (Some r)) ≤ 1
one_at_most (resolution.To d n) = omega arith
one_at_most (resolution.Exception exception) = omega arith

pub sound_resolved : (x : Store) (e : ℕ) (old : Import) (said : Resolution) (after : Option Resolution) (c names : Names) → IsSound x → 0 < x.slack → Some old ≡ map.get x.imports.entries e → after ≡ Some said
    → c ≡ named_all x.names (named_by_resolution (Some said)) → names ≡ unnamed_all c (named_by_resolution old.resolution)
    → IsSound (record x { imports = with_entry x.imports e (record old { resolution = after }); names = names; slack = x.slack - 1; added = x.added + 1 })
sound_resolved x e old said after c names h some there then come gone =
    let s : State = state_of x in
    let new : Import = record old { resolution = Some said } in
    let b = h.bounded.added in
    let one = one_at_most said in
    let count : old.count < count_limit = subst (λ (o : Option Import). import_count o < count_limit) (sym there) (h.within.import_counts e) in
    subst (λ (o : Option Resolution). IsSound (record x { imports = with_entry x.imports e (record old { resolution = o }); names = names; slack = x.slack - 1; added = x.added + 1 })) (sym then)
    (subst (λ (d : Names). IsSound (record x { imports = with_entry x.imports e new; names = d; slack = x.slack - 1; added = x.added + 1 }))
    (sym (gone ∙ ap (λ (d : Names). unnamed_all d (named_by_resolution old.resolution)) come))
    (changed x e old new (named_by_resolution (Some said)) (named_by_resolution old.resolution) (x.slack - 1) (x.added + 1) h (sym there) count (tables.imports.changes s e old new (sym there))
    (omega (arith, one, some)) (omega (arith, one)) (omega (arith, b, some))))

-- ---- An import goes

sound_without : (x : Store) (m : Table Import) (e : ℕ) (gone : List Node) → IsSound x → m.entries ≡ map.remove x.imports.entries e → x.imports.room ≤ m.room
    → Alike (places (state_of x)) (gone ++ places (record (state_of x) { imports = map.remove x.imports.entries e }))
    → (names : Names) → names ≡ renamed x.names [] gone → IsSound (record x { imports = m; names = names })
sound_without x m e gone h is room alike names named =
    let s : State = state_of x in
    let a = h.room.imports in
    let b = h.within.imports in
    let len = len_fewer s.imports e in
    subst (λ (t : Map Import). IsSound (record x { imports = record { entries = t; room = m.room }; names = names })) (sym is)
    (subst (λ (c : Names). IsSound (record x { imports = record { entries = map.remove s.imports e; room = m.room }; names = c })) (sym named)
    (kept_imports x (record { entries = map.remove s.imports e; room = m.room }) x.names [] gone x.slack x.added h (no_note x.names) h.room.notes alike
    (each_removed (λ k o. IsThere o → IsNoted x.names.imports k) s.imports e (λ u. absurd u) (λ k apart. h.covered.imports k))
    (omega (arith, len, b))
    (each_removed (λ k o. import_count o < count_limit) s.imports e (omega arith) (λ k apart. h.within.import_counts k))
    (omega arith) (omega arith) h.bounded.added (omega (arith, a, room))))

-- There is none.
pub sound_absent : (x : Store) (m : Table Import) (e : ℕ) → IsSound x → m.entries ≡ map.remove x.imports.entries e → x.imports.room ≤ m.room → map.get x.imports.entries e ≡ None → IsSound (record x { imports = m })
sound_absent x m e h is room none =
    sound_without x m e [] h is room
    (subst (λ (t : Map Import). Alike (places (state_of x)) (places (record (state_of x) { imports = t }))) (sym (remove_absent x.imports.entries e none)) (λ test. refl)) x.names refl

pub sound_taken : (x : Store) (m : Table Import) (e : ℕ) (old : Import) (names : Names) → IsSound x → m.entries ≡ map.remove x.imports.entries e → x.imports.room ≤ m.room
    → map.get x.imports.entries e ≡ Some old → names ≡ unnamed_all x.names (named_by_resolution old.resolution) → IsSound (record x { imports = m; names = names })
sound_taken x m e old names h is room there named = sound_without x m e (named_by_resolution old.resolution) h is room (tables.imports.goes (state_of x) e old there) names named
