-- What holds of a step holds of it still with another store.
use Rattle.std.proofs.Common.{◌≡◌, ℕ, ◌+◌, ◌≤◌, None, ap, arith}
use Rattle.std.specs.FinMap as map
use Rattle.finite_maps.proofs.Lens.{len_new}
use Rattle.rpc_machine.specs.declared.entries.Question.{Question}
use Rattle.core_store.specs.declared.store.Store.{Store}
use Rattle.core_store.specs.Holding.{IsSound}
use Rattle.core_step.specs.declared.step.Step.{Step}
use Rattle.core_step.specs.InProgress.{IsReady}

-- The store has no more slack, and questions and imports grew by no more than that fell.
pub ready_grown : (x : Step) (s : Store) → IsReady x → IsSound s → s.slack ≤ x.store.slack
    → map.len s.questions.entries + s.slack ≤ map.len x.store.questions.entries + x.store.slack
    → map.len s.imports.entries + s.slack ≤ map.len x.store.imports.entries + x.store.slack → IsReady (record x { store = s })
ready_grown x s h sound less asked taken = record {
  sound = sound;
  outbox = let a = h.outbox in omega (arith, a, less);
  arisen = let a = h.arisen in omega (arith, a, less);
  finishes = let a = h.finishes in omega (arith, a, asked);
  releases = let a = h.releases in omega (arith, a, taken);
  unfinished = h.unfinished;
  can_abort = h.can_abort;
}

-- Questions and imports are what they were.
pub ready_same : (x : Step) (s : Store) → IsReady x → IsSound s → s.slack ≤ x.store.slack
    → s.questions.entries ≡ x.store.questions.entries → s.imports.entries ≡ x.store.imports.entries → IsReady (record x { store = s })
ready_same x s h sound less qs is =
    let a = ap map.len qs in let b = ap map.len is in
    ready_grown x s h sound less (omega (arith, a, less)) (omega (arith, b, less))

-- A question more, for one of the slack at least; imports are what they were.
pub ready_asked : (x : Step) (mid new : Store) (q : ℕ) (y : Question) → map.get mid.questions.entries q ≡ None → new.questions.entries ≡ map.insert mid.questions.entries q y
    → mid.questions.entries ≡ x.store.questions.entries → new.imports.entries ≡ x.store.imports.entries
    → IsReady x → IsSound new → new.slack + 1 ≤ x.store.slack → IsReady (record x { store = new })
ready_asked x mid new q y free put same is h sound less =
    let one = len_new mid.questions.entries q y free in
    let a = ap map.len put in let b = ap map.len same in let c = ap map.len is in
    ready_grown x new h sound (omega (arith, less)) (omega (arith, one, a, b, less)) (omega (arith, c, less))
