-- With less slack what holds of a store holds still.
use Rattle.std.proofs.Common.{ℕ, ◌≤◌, arith}
use Rattle.core_refcounts.specs.Names.{HasSpare}
use Rattle.core_refcounts.proofs.Rooms.{room_fewer}
use Rattle.core_store.specs.declared.store.Store.{Store}
use Rattle.core_store.specs.Holding.{IsSound}

spare_less : (n : ℕ) (x : Store) → n ≤ x.slack → IsSound x → HasSpare n x.names
spare_less n x less h = let c = h.room.notes in record {
  promises = let a = c.promises in omega (arith, a, less);
  outcomes = let a = c.outcomes in omega (arith, a, less);
  imports = let a = c.imports in omega (arith, a, less);
  questions = let a = c.questions in omega (arith, a, less);
}

pub sound_lowered : (x : Store) (n : ℕ) → n ≤ x.slack → IsSound x → IsSound (record x { slack = n })
sound_lowered x n less h = record {
  counted = h.counted;
  covered = h.covered;
  within = h.within;
  numbered = h.numbered;
  holds = record { counted = h.holds.counted; within = h.holds.within };
  far = h.far;
  bounded = record {
    names = h.bounded.names;
    links = h.bounded.links;
    added = let a = h.bounded.added in omega (arith, a, less);
  };
  room = record {
    questions = let a = h.room.questions in omega (arith, a, less);
    answers = let a = h.room.answers in omega (arith, a, less);
    imports = let a = h.room.imports in omega (arith, a, less);
    exports = let a = h.room.exports in omega (arith, a, less);
    refs = let a = h.room.refs in omega (arith, a, less);
    calls = let a = h.room.calls in omega (arith, a, less);
    tasks = let a = h.room.tasks in omega (arith, a, less);
    unsettled = let a = h.room.unsettled in omega (arith, a, less);
    waits = let a = h.room.waits in omega (arith, a, less);
    names = room_fewer n x.slack x.names less h.room.names;
    notes = spare_less n x less h;
  };
}
