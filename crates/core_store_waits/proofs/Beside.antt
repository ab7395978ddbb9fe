-- What holds of counts and notes where places come and go, calls that were taken out among them.
use Rattle.std.proofs.Common.{◌≡◌, ℕ, zero, suc, ◌+◌, ◌-◌, ◌≤◌, ◌<◌, Bool, true, false, cond, nat_le, List, [], ◌∷◌, ◌++◌, Option, None, Some, length, refl, sym, ap, ◌∙◌, arith}
use Rattle.std.specs.List.{Contains}
use Rattle.std.specs.FinMap as map
use Rattle.std.proofs.lemmas.List.Elements.{Contains-append_left, Contains-push}
use Rattle.finite_maps.specs.Tally.{Map, tally}
use Rattle.finite_maps.proofs.Tallies.{tally-split, tally-insert}
use Rattle.finite_maps.proofs.Gets.{get-insert_same}
use Rattle.rpc_machine.specs.declared.node.Node.{Node}
use Rattle.rpc_machine.specs.declared.node.Node.TheVariants as node
use Rattle.rpc_machine.specs.State.{State}
use Rattle.laws_acts.specs.Alike.{Alike}
use Rattle.core_refcounts.specs.Names.{Counted, Names, Counts, count_of, times, times_named, lowered, lowered_by, noted_by, named_all, HasRoom, HasSpare}
use Rattle.core_refcounts.proofs.Counting.{counts_alike}
use Rattle.core_refcounts.proofs.Listing.{counts_more_all, counts_less_all}
use Rattle.core_refcounts.proofs.Rooms.{room_fewer}
use Rattle.core_store.proofs.Keeping.{renamed, times_kept, room_kept, spare_kept}
use Rattle.core_store.specs.declared.store.Store.{Store}
use Rattle.core_store.specs.Holding.{all_named, IsNoted, IsCovered, IsSound}
use Rattle.core_store_waits.specs.Noting.{noted_at, noted_unnamed}

-- ---- Sums

-- Another entry under a key that has one.
pub tally_put : {X : Type 0} (f : X → ℕ) (m : Map X) (k : ℕ) (x y : X) → map.get m k ≡ Some x → tally f (map.insert m k y) + f x ≡ tally f m + f y
tally_put f m k x y there = let a = tally-insert f m k y in let b = tally-split f m k x there in omega (arith, a, b)

-- ---- Names

-- These nodes are counted, with counts, rooms and places to be noted in bounds.
pub record NamesFit (c : Names) (ns : List Node) (slack added : ℕ) : Type 0 where
  pub counted : Counts c ns
  pub times : (n : Node) → times_named c n ≤ added
  pub room : HasRoom slack c
  pub spare : HasSpare slack c

counts_changed : (c : Names) (ns ms come gone : List Node) → Counts c ns → Alike (come ++ ns) (gone ++ ms) → Counts (renamed c come gone) ms
counts_changed c ns ms come gone h alike =
    counts_less_all (named_all c come) ms gone (counts_alike (named_all c come) (come ++ ns) (gone ++ ms) alike (counts_more_all c ns come h))

-- Places that come are named, and those that go are not any more.
pub fit_renamed : (x : Store) (ms come gone : List Node) (slack added : ℕ) → IsSound x → Alike (come ++ all_named x) (gone ++ ms) → slack + length come ≤ x.slack → x.added + length come ≤ added
    → NamesFit (renamed x.names come gone) ms slack added
fit_renamed x ms come gone slack added h alike less more =
    let counted : Counts (renamed x.names come gone) ms = counts_changed x.names (all_named x) ms come gone h.counted alike in
    record {
      counted = counted;
      times = λ n.
          let a = times_kept (all_named x) ms come gone alike x.names (renamed x.names come gone) h.counted counted n in
          let b = h.bounded.names n in
          omega (arith, a, b, more);
      room = room_kept slack x.names come gone (room_fewer (slack + length come) x.slack x.names less h.room.names);
      spare = spare_kept slack x.slack x.names come gone (omega (arith, less)) h.room.notes;
    }

-- Nodes can be named and noted while there is slack.
pub room_for : (x : Store) (n : ℕ) → IsSound x → n ≤ x.slack → HasRoom n x.names
room_for x n h few = room_fewer n x.slack x.names few h.room.names

-- What naming each of them gives, where there is slack.
pub named_each : (x : Store) (ns caps : List Node) (c : Names) → IsSound x → ns ≡ caps → length caps ≤ x.slack → (HasRoom (length ns) x.names → c ≡ named_all x.names ns) → c ≡ named_all x.names caps
named_each x ns caps c h same few is =
    let e : length ns ≡ length caps = ap (λ (ms : List Node). length ms) same in
    is (room_for x (length ns) h (omega (arith, few, e))) ∙ ap (named_all x.names) same

pub can_note : (x : Store) (come : List Node) (c : Names) → IsSound x → 0 < x.slack → c ≡ named_all x.names come → 0 < c.outcomes.spare
can_note x come c h some is =
    let a = (spare_kept 1 x.slack x.names come [] (omega (arith, some)) h.room.notes).outcomes in
    let e : c.outcomes.spare ≡ (named_all x.names come).outcomes.spare = ap (λ (c : Names). c.outcomes.spare) is in
    omega (arith, a, e)

-- ---- Notes

module _ (c : Names) (o : ℕ) (ns : List Node) (slack added : ℕ) (h : NamesFit c ns (slack + 1) added) where
  abbrev with_note : ℕ → Names
  with_note n = record c { outcomes = noted_at c.outcomes o n }

  still_times : (k : ℕ) (n : Node) → times_named (with_note k) n ≤ added
  still_times k (node.Object i) = h.times (node.Object i)
  still_times k (node.Promise p) = h.times (node.Promise p)
  still_times zero (node.Field f path) = h.times (node.Field f path)
  still_times (suc k) (node.Field f path) = h.times (node.Field f path)
  still_times k (node.Import e) = h.times (node.Import e)
  still_times k (node.Pipe q path) = h.times (node.Pipe q path)
  still_times k (node.Broken reason) = h.times (node.Broken reason)

  fit_at : (k : ℕ) → NamesFit (with_note k) ns slack added
  fit_at zero = record {
    counted = record { promises = h.counted.promises; outcomes = h.counted.outcomes; imports = h.counted.imports; questions = h.counted.questions; objects = h.counted.objects };
    times = still_times 0;
    room = record { promises = omega (arith, h.room.promises); outcomes = omega (arith, h.room.outcomes); imports = omega (arith, h.room.imports); questions = omega (arith, h.room.questions); objects = omega (arith, h.room.objects) };
    spare = record { promises = omega (arith, h.spare.promises); outcomes = omega (arith, h.spare.outcomes); imports = omega (arith, h.spare.imports); questions = omega (arith, h.spare.questions) };
  }
  fit_at (suc k) = record {
    counted = record { promises = h.counted.promises; outcomes = h.counted.outcomes; imports = h.counted.imports; questions = h.counted.questions; objects = h.counted.objects };
    times = still_times (suc k);
    room = record { promises = omega (arith, h.room.promises); outcomes = omega (arith, h.room.outcomes); imports = omega (arith, h.room.imports); questions = omega (arith, h.room.questions); objects = omega (arith, h.room.objects) };
    spare = record { promises = omega (arith, h.spare.promises); outcomes = omega (arith, h.spare.outcomes); imports = omega (arith, h.spare.imports); questions = omega (arith, h.spare.questions) };
  }

  -- A note takes one of the slack at most.
  pub fit_noted : NamesFit (noted_unnamed c o) ns slack added
  fit_noted = fit_at (times c.outcomes.counts o)

noted_here : (c : Counted) (o n : ℕ) → times c.counts o ≡ n → IsNoted (noted_at c o n) o
noted_here c o zero is = λ e. Contains-push c.noted o
noted_here c o (suc n) is = λ e. absurd (omega (arith, is, e))

-- The outcome is noted, if no field of it is named.
pub note_here : (c : Names) (o : ℕ) → IsNoted (noted_unnamed c o).outcomes o
note_here c o = noted_here c.outcomes o (times c.outcomes.counts o) refl

noted_beside : (c : Counted) (o n k : ℕ) → IsNoted c k → IsNoted (noted_at c o n) k
noted_beside c o zero k h = λ e. Contains-append_left c.noted (o ∷ []) k (h e)
noted_beside c o (suc n) k h = h

-- What was noted is so still.
pub note_beside : (c : Names) (o k : ℕ) → IsNoted c.outcomes k → IsNoted (noted_unnamed c o).outcomes k
note_beside c o k h = noted_beside c.outcomes o (times c.outcomes.counts o) k h

pub covered_noted : (s : State) (c : Names) (o : ℕ) → IsCovered s c → IsCovered s (noted_unnamed c o)
covered_noted s c o h = record { promises = h.promises; outcomes = λ k told. note_beside c o k (h.outcomes k told); imports = h.imports; questions = h.questions }

-- What is named is noted, if the place that goes was the last that named it.
module _ (c : Counted) (k : ℕ) where
  last_gone : (n : ℕ) (b : Bool) → nat_le n 1 ≡ b → times (cond b (map.remove c.counts k) (map.insert c.counts k (n - 1))) k ≡ 0 → Contains (c.noted ++ cond b (k ∷ []) []) k
  last_gone n true few e = Contains-push c.noted k
  last_gone n false few e =
      let two : 1 < n = grind (arith, few) in
      let a : n - 1 ≡ 0 = sym (ap count_of (get-insert_same c.counts k (n - 1))) ∙ e in
      absurd (omega (arith, two, a))

  gone_by : (o : Option ℕ) → 0 < count_of o → times (lowered_by c.counts k o) k ≡ 0 → Contains (c.noted ++ noted_by k o) k
  gone_by None some e = absurd (omega (arith, some))
  gone_by (Some n) some e = last_gone n (nat_le n 1) refl e

  pub noted_at_last : 0 < times c.counts k → IsNoted (lowered c k) k
  noted_at_last some = gone_by (map.get c.counts k) some
