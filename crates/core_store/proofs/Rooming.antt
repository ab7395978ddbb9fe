-- What holds stays so where at most the rooms differ, and where the vat goes down.
use Rattle.std.proofs.Common.{◌≡◌, ℕ, ◌+◌, ◌<◌, List, Option, length, refl, sym, ap, subst, ◌∙◌, arith}
use Rattle.rpc_machine.specs.declared.node.Node.{Node}
use Rattle.rpc_machine.specs.declared.node.Node.TheVariants as node
use Rattle.rpc_machine.specs.declared.calls.HeldCall.{HeldCall}
use Rattle.rpc_machine.specs.State.{State}
use Rattle.rpc_machine.specs.Nodes.{links}
use Rattle.rpc_machine.specs.Limits.{IsWithin, held, number_limit}
use Rattle.laws_acts.specs.Alike.{places_beside}
use Rattle.core_refcounts.specs.Names.{Names, Counts, times_named, all_with_rooms}
use Rattle.core_waits.specs.Waiting.{Waiting}
use Rattle.core_store.proofs.Covering.{covered_over, covered_beside}
use Rattle.core_store.specs.declared.store.Store.{Store}
use Rattle.core_store.specs.Holding.{state_of, IsCovered, IsNumbered, HoldsCalls, IsSameButRoom, HasRooms, IsSound}

-- Rooms count nothing.
counts_over : (c d : Names) (ns : List Node) → Counts c ns → Counts (all_with_rooms c d) ns
counts_over c d ns h = record { promises = h.promises; outcomes = h.outcomes; imports = h.imports; questions = h.questions; objects = h.objects }

times_over : (c d : Names) (n : Node) → times_named (all_with_rooms c d) n ≡ times_named c n
times_over c d (node.Object o) = refl
times_over c d (node.Promise p) = refl
times_over c d (node.Field o path) = refl
times_over c d (node.Import e) = refl
times_over c d (node.Pipe q path) = refl
times_over c d (node.Broken reason) = refl

holds_over : (s t : State) (v w : Waiting) → t ≡ s → w.taken ≡ v.taken → w.held ≡ v.held → HoldsCalls s v → HoldsCalls t w
holds_over s t v w same taken waiting h =
    let a = ap held same in
    let b = ap (λ (hs : List HeldCall). length hs) taken in
    record { counted = let c = h.counted in omega (arith, a, b, c, waiting); within = let c = h.within in omega (arith, c, waiting) }

-- At most the rooms differ.
pub sound_over : (x y : Store) → IsSameButRoom x y → y.added + y.slack < number_limit → HasRooms y.slack y → IsSound x → IsSound y
sound_over x y same fits rooms h = record {
  counted = subst (λ (c : Names). Counts c (places_beside y.waits.taken (state_of y))) (sym same.names)
      (subst (λ (hs : List HeldCall). Counts (all_with_rooms x.names y.names) (places_beside hs (state_of y))) (sym same.taken)
      (subst (λ (s : State). Counts (all_with_rooms x.names y.names) (places_beside x.waits.taken s)) (sym same.state)
      (counts_over x.names y.names (places_beside x.waits.taken (state_of x)) h.counted)));
  covered = subst (λ (c : Names). IsCovered (state_of y) c) (sym same.names)
      (subst (λ (s : State). IsCovered s (all_with_rooms x.names y.names)) (sym same.state) (covered_over (state_of x) x.names y.names h.covered));
  within = subst (λ (s : State). IsWithin s) (sym same.state) h.within;
  numbered = subst (λ (s : State). IsNumbered s) (sym same.state) h.numbered;
  holds = holds_over (state_of x) (state_of y) x.waits y.waits same.state same.taken same.held h.holds;
  far = same.links ∙ h.far ∙ sym (ap links same.state);
  bounded = record {
    names = λ n.
        let a : times_named y.names n ≡ times_named x.names n = ap (λ (c : Names). times_named c n) same.names ∙ times_over x.names y.names n in
        let b = h.bounded.names n in
        let c = same.added in
        omega (arith, a, b, c);
    links = let a = same.links in let b = same.added in let c = h.bounded.links in omega (arith, a, b, c);
    added = fits;
  };
  room = rooms;
}

-- Whether the vat is down says nothing of what it holds.
pub sound_down : (x : Store) (down : Option ℕ) → IsSound x → IsSound (record x { down = down })
sound_down x down h = record {
  counted = h.counted;
  covered = covered_beside (state_of x) (x.exports.entries) (x.refs.entries) (x.tasks.entries) (x.unsettled.entries) (x.waits.embargoes) x.next_ref x.next_call x.next_task x.next_promise down x.names h.covered;
  within = record {
    questions = h.within.questions;
    answers = h.within.answers;
    imports = h.within.imports;
    exports = h.within.exports;
    embargoes = h.within.embargoes;
    held = h.within.held;
    import_counts = h.within.import_counts;
    export_counts = h.within.export_counts;
    refs = h.within.refs;
    calls = h.within.calls;
    tasks = h.within.tasks;
    promises = h.within.promises;
    made = h.within.made;
  };
  numbered = record { refs = h.numbered.refs; calls = h.numbered.calls; tasks = h.numbered.tasks; unsettled = h.numbered.unsettled };
  holds = record { counted = h.holds.counted; within = h.holds.within };
  far = h.far;
  bounded = record { names = h.bounded.names; links = h.bounded.links; added = h.bounded.added };
  room = record {
    questions = h.room.questions;
    answers = h.room.answers;
    imports = h.room.imports;
    exports = h.room.exports;
    refs = h.room.refs;
    calls = h.room.calls;
    tasks = h.room.tasks;
    unsettled = h.room.unsettled;
    waits = h.room.waits;
    names = h.room.names;
    notes = h.room.notes;
  };
}
