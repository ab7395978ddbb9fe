-- What holds of a step holds of it still where a call waits.
use Rattle.std.proofs.Common.{◌≡◌, ℕ, ◌-◌, List, Option, None, Some, Result, Ok, Err, OnOk, OnErr, ap, sym, subst, arith}
use Rattle.rpc_msg.specs.Op.{Op}
use Rattle.rpc_machine.specs.declared.calls.WaitingCall.{WaitingCall}
use Rattle.rpc_machine.specs.declared.calls.KeptOutcome.{KeptOutcome}
use Rattle.rpc_machine.specs.declared.calls.Promise.{Promise}
use Rattle.rpc_machine.specs.declared.calls.Promise.TheVariants as promise
use Rattle.rpc_machine.specs.State.{State}
use Rattle.rpc_machine.specs.Progress.{Progress}
use Rattle.rpc_machine.specs.Routing.{WaitsForPromise, WaitsForField}
use Rattle.vat_tables.specs.declared.fault.TableFault.{TableFault}
use Rattle.core_store.specs.declared.store.Store.{Store}
use Rattle.core_store.specs.Holding.{state_of, IsSound}
use Rattle.core_step.specs.declared.step.Step.{Step}
use Rattle.core_step.specs.InProgress.{IsReady}
use Rattle.core_step.proofs.Readying.{ready_same}

-- No question comes, and no import.
abbrev pub SamePeer : State → State → Type 0
SamePeer s t = (t.questions ≡ s.questions) × (t.imports ≡ s.imports)

pub same_for_promise : (d : Progress) (c : WaitingCall) (p : ℕ) (o : Option Promise) (new : Progress) → WaitsForPromise d c p o new → SamePeer d.state new.state
same_for_promise d c p None new h = absurd h
same_for_promise d c p (Some (promise.Fixed to)) new h = absurd h
same_for_promise d c p (Some (promise.Open calls)) new h = (ap (λ (n : Progress). n.state.questions) h, ap (λ (n : Progress). n.state.imports) h)

pub same_for_field : (d : Progress) (c : WaitingCall) (k : ℕ) (path : List Op) (o : Option KeptOutcome) (new : Progress) → WaitsForField d c k path o new → SamePeer d.state new.state
same_for_field d c k path None new h = absurd h
same_for_field d c k path (Some x) new h = (ap (λ (n : Progress). n.state.questions) h, ap (λ (n : Progress). n.state.imports) h)

pub ready_behind : {A : Type 0} (r : Result A TableFault) (x : Step) (s : Store) (more : ℕ) → IsReady x → IsSound s → OnOk r (SamePeer (state_of x.store) (state_of s))
    → OnOk r (s.slack ≡ x.store.slack - more) → OnErr r (s ≡ x.store) → IsReady (record x { store = s })
ready_behind (Ok a) x s more h sound same left still = ready_same x s h sound (omega (arith, left)) same.0 same.1
ready_behind (Err e) x s more h sound same left still = subst (λ (s : Store). IsReady (record x { store = s })) (sym still) h
