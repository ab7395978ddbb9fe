-- What holds stays so where places come and go with the entries of a table.
use Rattle.std.proofs.Common.{ℕ, suc, ◌+◌, ◌≤◌, ◌<◌, Bool, true, false, cond, List, [], ◌∷◌, ◌++◌, length, arith}
use Rattle.std.specs.FinMap as map
use Rattle.rpc_machine.specs.declared.node.Node.{Node}
use Rattle.rpc_machine.specs.declared.node.Node.TheVariants as node
use Rattle.rpc_machine.specs.declared.calls.HeldCall.{HeldCall}
use Rattle.rpc_machine.specs.declared.entries.Reference.{Reference}
use Rattle.rpc_machine.specs.State.{State}
use Rattle.rpc_machine.specs.Lists.{how_many}
use Rattle.rpc_machine.specs.Nodes.{is_promise, is_field, is_import, is_pipe}
use Rattle.rpc_machine.specs.Places.{places}
use Rattle.rpc_machine.specs.Limits.{made_through, number_limit}
use Rattle.rpc_uses.specs.Objects.{is_the_object}
use Rattle.laws_acts.specs.Alike.{Alike, places_beside}
use Rattle.laws_acts.proofs.Likeness.{alike_beside}
use Rattle.laws_acts.proofs.Parts.{how_many_append}
use Rattle.vat_tables.specs.Table.{Table}
use Rattle.core_refcounts.specs.Names.{Names, Counts, times_named, named, unnamed, named_all, unnamed_all, HasRoom, HasSpare}
use Rattle.core_refcounts.proofs.Counting.{counts_alike}
use Rattle.core_refcounts.proofs.Listing.{counts_more_all, counts_less_all}
use Rattle.core_refcounts.proofs.Rooms.{room_named, room_fewer}
use Rattle.core_store.proofs.Covering.{covered_renamed, covered_beside}
use Rattle.core_store.specs.declared.store.Store.{Store}
use Rattle.core_store.specs.Holding.{state_of, IsFresh, IsSound}

-- The names once some come and others go.
abbrev pub renamed : Names → List Node → List Node → Names
renamed c come gone = unnamed_all (named_all c come) gone

pub counts_kept : (c : Names) (taken : List HeldCall) (s t : State) (come gone : List Node) → Counts c (places_beside taken s) → Alike (come ++ places s) (gone ++ places t)
    → Counts (renamed c come gone) (places_beside taken t)
counts_kept c taken s t come gone h alike =
    counts_less_all (named_all c come) (places_beside taken t) gone
    (counts_alike (named_all c come) (come ++ places_beside taken s) (gone ++ places_beside taken t) (alike_beside taken come gone s t alike)
    (counts_more_all c (places_beside taken s) come h))

-- ---- Bounds

at_most_all : (test : Node → Bool) (ns : List Node) → how_many test ns ≤ length ns
at_most_all test [] = omega arith
at_most_all test (n ∷ ns) = by (test n) (at_most_all test ns)
  where
    by : (b : Bool) → how_many test ns ≤ length ns → cond b (suc (how_many test ns)) (how_many test ns) ≤ suc (length ns)
    by true h = omega (arith, h)
    by false h = omega (arith, h)

module _ (ns ms come gone : List Node) (alike : Alike (come ++ ns) (gone ++ ms)) where
  no_more : (test : Node → Bool) → how_many test ms ≤ how_many test ns + length come
  no_more test =
      let a = alike test in
      let b = how_many_append test come ns in
      let c = how_many_append test gone ms in
      let d = at_most_all test come in
      omega (arith, a, b, c, d)

  -- No count grows by more than the places that come.
  pub times_kept : (c d : Names) → Counts c ns → Counts d ms → (n : Node) → times_named d n ≤ times_named c n + length come
  times_kept c d old new (node.Object o) = let a = old.objects o.0 in let b = new.objects o.0 in let e = no_more (is_the_object o.0) in omega (arith, a, b, e)
  times_kept c d old new (node.Promise p) = let a = old.promises p in let b = new.promises p in let e = no_more (is_promise p) in omega (arith, a, b, e)
  times_kept c d old new (node.Field o path) = let a = old.outcomes o in let b = new.outcomes o in let e = no_more (is_field o) in omega (arith, a, b, e)
  times_kept c d old new (node.Import i) = let a = old.imports i.0 in let b = new.imports i.0 in let e = no_more (is_import i.0) in omega (arith, a, b, e)
  times_kept c d old new (node.Pipe q path) = let a = old.questions q.0 in let b = new.questions q.0 in let e = no_more (is_pipe q.0) in omega (arith, a, b, e)
  times_kept c d old new (node.Broken reason) = omega arith

-- ---- Rooms

room_unnamed : (n : ℕ) (c : Names) (m : Node) → HasRoom n c → HasRoom n (unnamed c m)
room_unnamed n c (node.Object o) h = record { promises = h.promises; outcomes = h.outcomes; imports = h.imports; questions = h.questions; objects = h.objects }
room_unnamed n c (node.Promise p) h = record { promises = h.promises; outcomes = h.outcomes; imports = h.imports; questions = h.questions; objects = h.objects }
room_unnamed n c (node.Field o path) h = record { promises = h.promises; outcomes = h.outcomes; imports = h.imports; questions = h.questions; objects = h.objects }
room_unnamed n c (node.Import e) h = record { promises = h.promises; outcomes = h.outcomes; imports = h.imports; questions = h.questions; objects = h.objects }
room_unnamed n c (node.Pipe q path) h = record { promises = h.promises; outcomes = h.outcomes; imports = h.imports; questions = h.questions; objects = h.objects }
room_unnamed n c (node.Broken reason) h = h

spare_named : (n : ℕ) (c : Names) (m : Node) → HasSpare n c → HasSpare n (named c m)
spare_named n c (node.Object o) h = record { promises = h.promises; outcomes = h.outcomes; imports = h.imports; questions = h.questions }
spare_named n c (node.Promise p) h = record { promises = h.promises; outcomes = h.outcomes; imports = h.imports; questions = h.questions }
spare_named n c (node.Field o path) h = record { promises = h.promises; outcomes = h.outcomes; imports = h.imports; questions = h.questions }
spare_named n c (node.Import e) h = record { promises = h.promises; outcomes = h.outcomes; imports = h.imports; questions = h.questions }
spare_named n c (node.Pipe q path) h = record { promises = h.promises; outcomes = h.outcomes; imports = h.imports; questions = h.questions }
spare_named n c (node.Broken reason) h = h

spare_unnamed : (n : ℕ) (c : Names) (m : Node) → HasSpare n c → HasSpare n (unnamed c m)
spare_unnamed n c (node.Object o) h = record { promises = h.promises; outcomes = h.outcomes; imports = h.imports; questions = h.questions }
spare_unnamed n c (node.Promise p) h = record { promises = h.promises; outcomes = h.outcomes; imports = h.imports; questions = h.questions }
spare_unnamed n c (node.Field o path) h = record { promises = h.promises; outcomes = h.outcomes; imports = h.imports; questions = h.questions }
spare_unnamed n c (node.Import e) h = record { promises = h.promises; outcomes = h.outcomes; imports = h.imports; questions = h.questions }
spare_unnamed n c (node.Pipe q path) h = record { promises = h.promises; outcomes = h.outcomes; imports = h.imports; questions = h.questions }
spare_unnamed n c (node.Broken reason) h = h

room_named_all : (n : ℕ) (c : Names) (ns : List Node) → HasRoom (n + length ns) c → HasRoom n (named_all c ns)
room_named_all n c [] h = room_fewer n (n + 0) c (omega arith) h
room_named_all n c (m ∷ ns) h =
    room_named_all n (named c m) ns (room_named (n + length ns) c m (room_fewer (n + length ns + 1) (n + suc (length ns)) c (omega arith) h))

room_unnamed_all : (n : ℕ) (c : Names) (ns : List Node) → HasRoom n c → HasRoom n (unnamed_all c ns)
room_unnamed_all n c [] h = h
room_unnamed_all n c (m ∷ ns) h = room_unnamed_all n (unnamed c m) ns (room_unnamed n c m h)

pub room_kept : (n : ℕ) (c : Names) (come gone : List Node) → HasRoom (n + length come) c → HasRoom n (renamed c come gone)
room_kept n c come gone h = room_unnamed_all n (named_all c come) gone (room_named_all n c come h)

spare_named_all : (n : ℕ) (c : Names) (ns : List Node) → HasSpare n c → HasSpare n (named_all c ns)
spare_named_all n c [] h = h
spare_named_all n c (m ∷ ns) h = spare_named_all n (named c m) ns (spare_named n c m h)

spare_unnamed_all : (n : ℕ) (c : Names) (ns : List Node) → HasSpare n c → HasSpare n (unnamed_all c ns)
spare_unnamed_all n c [] h = h
spare_unnamed_all n c (m ∷ ns) h = spare_unnamed_all n (unnamed c m) ns (spare_unnamed n c m h)

spare_fewer : (m n : ℕ) (c : Names) → m ≤ n → HasSpare n c → HasSpare m c
spare_fewer m n c le h = record {
  promises = let a = h.promises in omega (arith, a, le);
  outcomes = let a = h.outcomes in omega (arith, a, le);
  imports = let a = h.imports in omega (arith, a, le);
  questions = let a = h.questions in omega (arith, a, le);
}

pub spare_kept : (m n : ℕ) (c : Names) (come gone : List Node) → m ≤ n → HasSpare n c → HasSpare m (renamed c come gone)
spare_kept m n c come gone le h = spare_fewer m n (renamed c come gone) le (spare_unnamed_all n (named_all c come) gone (spare_named_all n c come h))

-- ---- References

pub kept_refs : (x : Store) (m : Table Reference) (next : ℕ) (come gone : List Node) (slack added : ℕ) → IsSound x
    → Alike (come ++ places (state_of x)) (gone ++ places (record (state_of x) { refs = m.entries; next_ref = next }))
    → IsFresh m.entries next → next < number_limit → ((r : ℕ) → made_through (map.get m.entries r) < number_limit)
    → slack + length come ≤ x.slack → x.added + length come ≤ added → added + slack < number_limit → slack ≤ m.room
    → IsSound (record x { refs = m; next_ref = next; names = renamed x.names come gone; slack = slack; added = added })
kept_refs x m next come gone slack added h alike fresh fits made less more bound room =
    let s : State = state_of x in
    let t : State = record s { refs = m.entries; next_ref = next } in
    let c : Names = renamed x.names come gone in
    let counted : Counts c (places_beside x.waits.taken t) = counts_kept x.names x.waits.taken s t come gone h.counted alike in
    record {
      counted = counted;
      covered = covered_beside s s.exports m.entries s.tasks s.unsettled s.embargoes next s.next_call s.next_task s.next_promise s.down c (covered_renamed s x.names come gone h.covered);
      within = record {
        questions = h.within.questions;
        answers = h.within.answers;
        imports = h.within.imports;
        exports = h.within.exports;
        embargoes = h.within.embargoes;
        held = h.within.held;
        import_counts = h.within.import_counts;
        export_counts = h.within.export_counts;
        refs = fits;
        calls = h.within.calls;
        tasks = h.within.tasks;
        promises = h.within.promises;
        made = made;
      };
      numbered = record { refs = fresh; calls = h.numbered.calls; tasks = h.numbered.tasks; unsettled = h.numbered.unsettled };
      holds = record { counted = h.holds.counted; within = h.holds.within };
      far = h.far;
      bounded = record {
        names = λ n.
            let a = times_kept (places_beside x.waits.taken s) (places_beside x.waits.taken t) come gone (alike_beside x.waits.taken come gone s t alike) x.names c h.counted counted n in
            let b = h.bounded.names n in
            omega (arith, a, b, more);
        links = let a = h.bounded.links in omega (arith, a, more);
        added = bound;
      };
      room = record {
        questions = let a = h.room.questions in omega (arith, a, less);
        answers = let a = h.room.answers in omega (arith, a, less);
        imports = let a = h.room.imports in omega (arith, a, less);
        exports = let a = h.room.exports in omega (arith, a, less);
        refs = room;
        calls = let a = h.room.calls in omega (arith, a, less);
        tasks = let a = h.room.tasks in omega (arith, a, less);
        unsettled = let a = h.room.unsettled in omega (arith, a, less);
        waits = let a = h.room.waits in omega (arith, a, less);
        names = room_kept slack x.names come gone (room_fewer (slack + length come) x.slack x.names less h.room.names);
        notes = spare_kept slack x.slack x.names come gone (omega (arith, less)) h.room.notes;
      };
    }
