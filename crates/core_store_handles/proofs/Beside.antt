-- What holds stays so where numbers come and go beside the places, and where things are noted.
use Rattle.std.proofs.Common.{◌≡◌, ℕ, ◌+◌, ◌≤◌, ◌<◌, Bool, true, false, cond, nat_eq, None, Some, refl, sym, ap, subst, ◌∙◌, arith, [], ◌∷◌}
use Rattle.std.specs.FinMap as map
use Rattle.std.specs.List.{Contains}
use Rattle.std.proofs.lemmas.List.Elements.{Contains-append_left, Contains-push}
use Rattle.finite_maps.specs.Tally.{Map}
use Rattle.finite_maps.proofs.Gets.{each_inserted, each_removed}
use Rattle.rpc_machine.specs.declared.node.Node.{Node}
use Rattle.rpc_machine.specs.declared.calls.OwnCall.{OwnCall}
use Rattle.rpc_machine.specs.Limits.{number_limit}
use Rattle.vat_tables.specs.Table.{Table}
use Rattle.core_refcounts.specs.Names.{Counted, Names, Counts, times, times_named, noting, HasRoom, HasSpare}
use Rattle.core_refcounts.proofs.Rooms.{room_fewer}
use Rattle.core_store.specs.declared.store.Store.{Store}
use Rattle.core_store.specs.Holding.{state_of, all_named, IsFresh, IsNoted, IsCovered, IsSound}
use Rattle.core_store.proofs.Keeping.{spare_kept}
use Rattle.core_store_handles.specs.Ends.{noted_unnamed}

-- ---- Next numbers

module _ {X : Type 0} (m : Map X) (next : ℕ) (free : IsFresh m next) where
  -- The next number is given out.
  pub fresh_after : (v : X) → IsFresh (map.insert m next v) (next + 1)
  fresh_after v = each_inserted (λ k o. next + 1 ≤ k → o ≡ None) m next v (λ below. absurd (omega (arith, below))) (λ k apart below. free k (omega (arith, below)))

  -- One that was given out before has an entry.
  pub fresh_given : (k : ℕ) (v : X) → k < next → IsFresh (map.insert m k v) next
  fresh_given k v given = each_inserted (λ j o. next ≤ j → o ≡ None) m k v (λ below. absurd (omega (arith, given, below))) (λ j apart. free j)

  -- One that has an entry has another.
  pub fresh_still : (k : ℕ) (v w : X) → map.get m k ≡ Some v → IsFresh (map.insert m k w) next
  fresh_still k v w there = each_inserted (λ j o. next ≤ j → o ≡ None) m k w (λ below. absurd (let bad : Some v ≡ None = sym there ∙ free k below in cc)) (λ j apart. free j)

  pub fresh_without : (k : ℕ) → IsFresh (map.remove m k) next
  fresh_without k = each_removed (λ j o. next ≤ j → o ≡ None) m k (λ _. refl) (λ j apart. free j)

-- Entries under numbers, their next number, and room for so many more.
pub record AreNumbers {X : Type 0} (t : Table X) (next more : ℕ) : Type 0 where
  pub fresh : IsFresh t.entries next
  pub fits : next < number_limit
  pub room : more ≤ t.room

pub call_numbers : (x : Store) → IsSound x → AreNumbers x.calls x.next_call x.slack
call_numbers x h = record { fresh = h.numbered.calls; fits = h.within.calls; room = h.room.calls }

pub task_numbers : (x : Store) → IsSound x → AreNumbers x.tasks x.next_task x.slack
task_numbers x h = record { fresh = h.numbered.tasks; fits = h.within.tasks; room = h.room.tasks }

pub promise_numbers : (x : Store) → IsSound x → AreNumbers x.unsettled x.next_promise x.slack
promise_numbers x h = record { fresh = h.numbered.unsettled; fits = h.within.promises; room = h.room.unsettled }

module _ {X : Type 0} (t : Table X) (next more : ℕ) (h : AreNumbers t next more) where
  pub numbers_still : (less : ℕ) → less ≤ more → AreNumbers t next less
  numbers_still less few = record { fresh = h.fresh; fits = h.fits; room = let a = h.room in omega (arith, a, few) }

  pub numbers_after : (m : Table X) (v : X) (less : ℕ) → less + 1 ≤ more → next + 1 < number_limit → m.entries ≡ map.insert t.entries next v → t.room ≤ m.room + 1 → AreNumbers m (next + 1) less
  numbers_after m v less few fits is rooms = record {
    fresh = subst (λ (e : Map X). IsFresh e (next + 1)) (sym is) (fresh_after t.entries next h.fresh v);
    fits = fits;
    room = let a = h.room in omega (arith, a, few, rooms);
  }

  pub numbers_given : (m : Table X) (k : ℕ) (v : X) (less : ℕ) → less + 1 ≤ more → k < next → m.entries ≡ map.insert t.entries k v → t.room ≤ m.room + 1 → AreNumbers m next less
  numbers_given m k v less few given is rooms = record {
    fresh = subst (λ (e : Map X). IsFresh e next) (sym is) (fresh_given t.entries next h.fresh k v given);
    fits = h.fits;
    room = let a = h.room in omega (arith, a, few, rooms);
  }

  pub numbers_without : (m : Table X) (k less : ℕ) → less ≤ more → m.entries ≡ map.remove t.entries k → t.room ≤ m.room → AreNumbers m next less
  numbers_without m k less few is rooms = record {
    fresh = subst (λ (e : Map X). IsFresh e next) (sym is) (fresh_without t.entries next h.fresh k);
    fits = h.fits;
    room = let a = h.room in omega (arith, a, few, rooms);
  }

-- ---- Notes

module _ (c : Counted) (k : ℕ) where
  counts_by : (b : Bool) → (cond b (noting c k) c).counts ≡ c.counts
  counts_by true = refl
  counts_by false = refl

  -- Notes count nothing, and take no room of counts.
  pub same_counts : (noted_unnamed c k).counts ≡ c.counts
  same_counts = counts_by (nat_eq (times c.counts k) 0)

  room_by_note : (b : Bool) → (cond b (noting c k) c).room ≡ c.room
  room_by_note true = refl
  room_by_note false = refl

  pub same_room : (noted_unnamed c k).room ≡ c.room
  same_room = room_by_note (nat_eq (times c.counts k) 0)

  spare_by : (b : Bool) → c.spare ≤ (cond b (noting c k) c).spare + 1
  spare_by true = omega arith
  spare_by false = omega arith

  -- One note at most takes what is spare.
  pub spare_less : c.spare ≤ (noted_unnamed c k).spare + 1
  spare_less = spare_by (nat_eq (times c.counts k) 0)

  still_by : (b : Bool) (j : ℕ) → Contains c.noted j → Contains (cond b (noting c k) c).noted j
  still_by true j h = Contains-append_left c.noted (k ∷ []) j h
  still_by false j h = h

  -- What is noted stays so.
  pub still_noted : (j : ℕ) → Contains c.noted j → Contains (noted_unnamed c k).noted j
  still_noted = still_by (nat_eq (times c.counts k) 0)

  here_by : (b : Bool) → nat_eq (times c.counts k) 0 ≡ b → times c.counts k ≡ 0 → Contains (cond b (noting c k) c).noted k
  here_by true same none = Contains-push c.noted k
  here_by false other none = absurd (grind (arith, other, none))

  -- And the key is noted, if it is counted zero times.
  pub noted_here : IsNoted (noted_unnamed c k) k
  noted_here none = here_by (nat_eq (times c.counts k) 0) refl (ap (λ (m : Map ℕ). times m k) (sym same_counts) ∙ none)

  pub noted_more : (j : ℕ) → IsNoted c j → IsNoted (noted_unnamed c k) j
  noted_more j h none = still_noted j (h (ap (λ (m : Map ℕ). times m j) (sym same_counts) ∙ none))

-- ---- Calls, tasks and promises by number

-- The same places are counted, and there is room for so many more names and notes.
pub record AreNamed (x : Store) (c : Names) (more : ℕ) : Type 0 where
  pub counted : Counts c (all_named x)
  pub bounded : (n : Node) → times_named c n ≤ x.added
  pub names : HasRoom more c
  pub notes : HasSpare more c

pub same_names : (x : Store) (room : ℕ) → IsSound x → room ≤ x.slack → AreNamed x x.names room
same_names x room h few = record { counted = h.counted; bounded = h.bounded.names; names = room_fewer room x.slack x.names few h.room.names; notes = spare_kept room x.slack x.names [] [] few h.room.notes }

pub kept_numbers : (x : Store) (calls : Table OwnCall) (tasks unsettled : Table ℕ) (next_call next_task next_promise : ℕ) (c : Names) (slack added : ℕ) → IsSound x
    → AreNumbers calls next_call slack → AreNumbers tasks next_task slack → AreNumbers unsettled next_promise slack → AreNamed x c slack
    → IsCovered (record (state_of x) { calls = calls.entries; tasks = tasks.entries; unsettled = unsettled.entries; next_call = next_call; next_task = next_task; next_promise = next_promise }) c
    → slack ≤ x.slack → x.added ≤ added → added + slack < number_limit
    → IsSound (record x { calls = calls; tasks = tasks; unsettled = unsettled; next_call = next_call; next_task = next_task; next_promise = next_promise; names = c; slack = slack; added = added })
kept_numbers x calls tasks unsettled next_call next_task next_promise c slack added h by_call by_task by_promise named covered less more bound = record {
  counted = named.counted;
  covered = covered;
  within = record {
    questions = h.within.questions;
    answers = h.within.answers;
    imports = h.within.imports;
    exports = h.within.exports;
    embargoes = h.within.embargoes;
    held = h.within.held;
    import_counts = h.within.import_counts;
    export_counts = h.within.export_counts;
    refs = h.within.refs;
    calls = by_call.fits;
    tasks = by_task.fits;
    promises = by_promise.fits;
    made = h.within.made;
  };
  numbered = record { refs = h.numbered.refs; calls = by_call.fresh; tasks = by_task.fresh; unsettled = by_promise.fresh };
  holds = record { counted = h.holds.counted; within = h.holds.within };
  far = h.far;
  bounded = record {
    names = λ n. let a = named.bounded n in omega (arith, a, more);
    links = let a = h.bounded.links in omega (arith, a, more);
    added = bound;
  };
  room = record {
    questions = let a = h.room.questions in omega (arith, a, less);
    answers = let a = h.room.answers in omega (arith, a, less);
    imports = let a = h.room.imports in omega (arith, a, less);
    exports = let a = h.room.exports in omega (arith, a, less);
    refs = let a = h.room.refs in omega (arith, a, less);
    calls = by_call.room;
    tasks = by_task.room;
    unsettled = by_promise.room;
    waits = let a = h.room.waits in omega (arith, a, less);
    names = named.names;
    notes = named.notes;
  };
}
