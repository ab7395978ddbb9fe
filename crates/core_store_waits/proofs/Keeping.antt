-- What holds stays so where what waits changes.
use Rattle.std.proofs.Common.{◌≡◌, ℕ, ◌+◌, ◌≤◌, ◌<◌, length, refl, sym, subst, arith}
use Rattle.std.specs.FinMap as map
use Rattle.rpc_machine.specs.State.{State}
use Rattle.rpc_machine.specs.Nodes.{links}
use Rattle.rpc_machine.specs.Limits.{held, held_limit, table_limit, number_limit}
use Rattle.laws_acts.specs.Alike.{places_beside}
use Rattle.core_refcounts.specs.Names.{Names}
use Rattle.core_waits.specs.Waiting.{Waiting}
use Rattle.core_store.specs.declared.store.Store.{Store}
use Rattle.core_store.specs.Holding.{state_of, IsFixed, IsTold, IsNoted, IsCovered, IsSound}
use Rattle.core_store_waits.proofs.Beside.{NamesFit}
use Rattle.core_store.proofs.Covering.{told_back, as_then}
use Rattle.finite_maps.specs.Tally.{Map}
use Rattle.rpc_machine.specs.declared.calls.Promise.{Promise}
use Rattle.rpc_machine.specs.declared.calls.KeptOutcome.{KeptOutcome}
use Rattle.rpc_machine.specs.declared.entries.Embargo.{Embargo}

-- The state that waits so.
abbrev pub after : Store → Waiting → State
after x w = record (state_of x) { promises = w.promises; outcomes = w.outcomes; embargoes = w.embargoes }

-- What is to be shown of what waits now, of the names, and of the numbers that are kept with them.
pub record Keeps (x : Store) (w : Waiting) (c : Names) (slack added far : ℕ) : Type 0 where
  pub names : NamesFit c (places_beside w.taken (after x w)) slack added
  pub covered : IsCovered (after x w) c
  pub embargoes : map.len w.embargoes ≤ table_limit
  pub counted : w.held ≡ held (after x w) + length w.taken
  pub within : w.held ≤ held_limit
  pub links : far ≡ links (after x w)
  pub few : far ≤ added
  pub bound : added + slack < number_limit
  pub fewer : slack ≤ x.slack
  pub room : slack ≤ w.room

kept : (x : Store) (w : Waiting) (c : Names) (slack added far : ℕ) → IsSound x → Keeps x w c slack added far → IsSound (record x { waits = w; names = c; slack = slack; added = added; links = far })
kept x w c slack added far h k = record {
  counted = k.names.counted;
  covered = k.covered;
  within = record {
    questions = h.within.questions;
    answers = h.within.answers;
    imports = h.within.imports;
    exports = h.within.exports;
    embargoes = k.embargoes;
    held = omega (arith, k.counted, k.within);
    import_counts = h.within.import_counts;
    export_counts = h.within.export_counts;
    refs = h.within.refs;
    calls = h.within.calls;
    tasks = h.within.tasks;
    promises = h.within.promises;
    made = h.within.made;
  };
  numbered = record { refs = h.numbered.refs; calls = h.numbered.calls; tasks = h.numbered.tasks; unsettled = h.numbered.unsettled };
  holds = record { counted = k.counted; within = k.within };
  far = k.links;
  bounded = record { names = k.names.times; links = k.few; added = k.bound };
  room = record {
    questions = let a = h.room.questions in omega (arith, a, k.fewer);
    answers = let a = h.room.answers in omega (arith, a, k.fewer);
    imports = let a = h.room.imports in omega (arith, a, k.fewer);
    exports = let a = h.room.exports in omega (arith, a, k.fewer);
    refs = let a = h.room.refs in omega (arith, a, k.fewer);
    calls = let a = h.room.calls in omega (arith, a, k.fewer);
    tasks = let a = h.room.tasks in omega (arith, a, k.fewer);
    unsettled = let a = h.room.unsettled in omega (arith, a, k.fewer);
    waits = k.room;
    names = k.names.room;
    notes = k.names.spare;
  };
}

-- What waits, and the names, are known by equations.
pub kept_waits : (x : Store) (v w : Waiting) (d c : Names) (slack added far : ℕ) → w ≡ v → c ≡ d → IsSound x → Keeps x v d slack added far
    → IsSound (record x { waits = w; names = c; slack = slack; added = added; links = far })
kept_waits x v w d c slack added far is names h k =
    subst (λ (w : Waiting). IsSound (record x { waits = w; names = c; slack = slack; added = added; links = far })) (sym is)
    (subst (λ (c : Names). IsSound (record x { waits = v; names = c; slack = slack; added = added; links = far })) (sym names)
    (kept x v d slack added far h k))

-- What may have to go is noted still, where it is where promises and outcomes changed.
pub covered_waits : (s : State) (promises : Map Promise) (outcomes : Map KeptOutcome) (embargoes : Map Embargo) (c : Names) → IsCovered s c
    → ((p : ℕ) → IsFixed (map.get promises p) → IsNoted c.promises p)
    → ((o : ℕ) → IsTold s o (map.get outcomes o) → IsNoted c.outcomes o)
    → IsCovered (record s { promises = promises; outcomes = outcomes; embargoes = embargoes }) c
covered_waits s promises outcomes embargoes c h fixed told =
    let t : State = record s { promises = promises; outcomes = outcomes; embargoes = embargoes } in
    record {
      promises = fixed;
      outcomes = λ o is. told o (told_back s t refl refl o (map.get outcomes o) is);
      imports = h.imports;
      questions = λ q. as_then s t refl refl c.questions q (map.get s.questions q) (h.questions q);
    }
