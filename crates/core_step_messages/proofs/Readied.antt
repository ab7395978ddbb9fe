-- A step with another store is ready still.
use Rattle.std.proofs.Common.{◌≡◌, ℕ, ◌+◌, ◌-◌, ◌≤◌, ◌<◌, Option, None, Some, refl, ap, arith}
use Rattle.std.specs.FinMap as map
use Rattle.finite_maps.specs.Tally.{Map}
use Rattle.finite_maps.proofs.Lens.{len_new, len_same, len_fewer}
use Rattle.rpc_machine.specs.declared.entries.SenderKind.{SenderKind}
use Rattle.rpc_machine.specs.declared.entries.Import.{Import}
use Rattle.rpc_machine.specs.declared.entries.Resolution.{Resolution}
use Rattle.rpc_machine.specs.declared.entries.Question.{Question}
use Rattle.rpc_machine.specs.State.{State}
use Rattle.rpc_machine.specs.Lists.{updated, update}
use Rattle.rpc_machine.specs.Descriptors.{received, import_one}
use Rattle.rpc_machine.specs.Messages.{resolve_import, set_resolution}
use Rattle.core_store.specs.declared.store.Store.{Store}
use Rattle.core_store.specs.Holding.{state_of, IsSound}
use Rattle.core_step.specs.declared.step.Step.{Step}
use Rattle.core_step.specs.InProgress.{IsReady}
use Rattle.core_step.proofs.Readying.{ready_grown, ready_same}

-- At most one more.
pub len_put : {X : Type 0} (m : Map X) (k : ℕ) (v : X) → map.len (map.insert m k v) ≤ map.len m + 1
len_put {X = X} m k v = by (map.get m k) refl
  where
    by : (o : Option X) → map.get m k ≡ o → map.len (map.insert m k v) ≤ map.len m + 1
    by None at = let e = len_new m k v at in omega (arith, e)
    by (Some w) at = let e = len_same m k w v at in omega (arith, e)

pub len_updated : {X : Type 0} (m : Map X) (k : ℕ) (f : X → X) → map.len (update m k f) ≡ map.len m
len_updated {X = X} m k f = by (map.get m k) refl
  where
    by : (o : Option X) → map.get m k ≡ o → map.len (updated m k f o) ≡ map.len m
    by None at = refl
    by (Some w) at = len_same m k w (f w) at

-- An import was received once more, for one of the slack.
pub ready_received : (x : Step) (s : Store) (k : SenderKind) (e : ℕ) → IsReady x → IsSound s → 0 < x.store.slack → s.slack ≡ x.store.slack - 1
    → state_of s ≡ import_one (state_of x.store) k e → IsReady (record x { store = s })
ready_received x s k e h sound some left is =
    let qs = ap (λ (t : State). map.len t.questions) is in
    let ins = ap (λ (t : State). map.len t.imports) is in
    let put = len_put x.store.imports.entries e (received k (map.get x.store.imports.entries e)) in
    ready_grown x s h sound (omega (arith, left)) (omega (arith, left, qs)) (omega (arith, left, some, ins, put))

-- What a Resolve said of an import was kept.
pub ready_resolved : (x : Step) (s : Store) (e : ℕ) (said : Resolution) → IsReady x → IsSound s → s.slack ≤ x.store.slack
    → state_of s ≡ resolve_import (state_of x.store) e said (map.get x.store.imports.entries e) → IsReady (record x { store = s })
ready_resolved x s e said h sound less is = by (map.get x.store.imports.entries e) is
  where
    by : (o : Option Import) → state_of s ≡ resolve_import (state_of x.store) e said o → IsReady (record x { store = s })
    by None t = ready_same x s h sound less (ap (λ (t : State). t.questions) t) (ap (λ (t : State). t.imports) t)
    by (Some y) t =
        let qs = ap (λ (t : State). map.len t.questions) t in
        let ins = ap (λ (t : State). map.len t.imports) t in
        let same = len_updated x.store.imports.entries e (set_resolution said) in
        ready_grown x s h sound less (omega (arith, less, qs)) (omega (arith, less, ins, same))

-- A question was changed, if it is there.
pub ready_changed : (x : Step) (s : Store) (q : ℕ) (f : Question → Question) → IsReady x → IsSound s → s.slack ≤ x.store.slack
    → state_of s ≡ record (state_of x.store) { questions = update x.store.questions.entries q f } → IsReady (record x { store = s })
ready_changed x s q f h sound less is =
    let qs = ap (λ (t : State). map.len t.questions) is in
    let ins = ap (λ (t : State). map.len t.imports) is in
    let same = len_updated x.store.questions.entries q f in
    ready_grown x s h sound less (omega (arith, less, qs, same)) (omega (arith, less, ins))

-- A question went, if it was there.
pub ready_forgotten : (x : Step) (s : Store) (q : ℕ) → IsReady x → IsSound s → s.slack ≡ x.store.slack
    → state_of s ≡ record (state_of x.store) { questions = map.remove x.store.questions.entries q } → IsReady (record x { store = s })
ready_forgotten x s q h sound same is =
    let qs = ap (λ (t : State). map.len t.questions) is in
    let ins = ap (λ (t : State). map.len t.imports) is in
    let fewer = len_fewer x.store.questions.entries q in
    ready_grown x s h sound (omega (arith, same)) (omega (arith, same, qs, fewer)) (omega (arith, same, ins))
