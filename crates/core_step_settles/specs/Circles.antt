-- How it is found out whether a capability of an outcome leads to itself. What is said here is said whoever is to be told
-- of the outcome, and whatever waits for it: where its fields lead does not turn on either.
use Rattle.std.specs.Prelude.{◌≡◌, ◌≤◌, ℕ, take, drop, length, Bool, true, false, unwrap_or, slice_get, List, [], ◌++◌}
use Rattle.std.specs.FinMap as map
use Rattle.finite_maps.specs.Tally.{Map}
use Rattle.rpc_msg.specs.Payloads.{Contents as Payload}
use Rattle.rpc_machine.specs.declared.node.Node.{Node}
use Rattle.rpc_machine.specs.declared.node.Node.TheVariants as node
use Rattle.rpc_machine.specs.declared.node.Reason.TheVariants.{NotACapability}
use Rattle.rpc_machine.specs.declared.calls.Promise.{Promise}
use Rattle.rpc_machine.specs.declared.calls.Promise.TheVariants as promise
use Rattle.rpc_machine.specs.declared.calls.Caller.{Caller}
use Rattle.rpc_machine.specs.declared.calls.HeldCall.{HeldCall}
use Rattle.rpc_machine.specs.declared.calls.Value.{Value}
use Rattle.rpc_machine.specs.State.{State}
use Rattle.rpc_machine.specs.Progress.{Progress, with_state}
use Rattle.rpc_machine.specs.Settling.{TurnsBack, behind, Untangles, Fits}

-- ---- The machine's words

abbrev pub FitsWith : State → ℕ → Value → Value → State → Type 0
FitsWith s o v fit new = (who : Caller) (waiting : List HeldCall) → Fits s o who waiting v fit new

abbrev pub UntanglesWith : State → ℕ → Payload → ℕ → List Node → List Node → State → Type 0
UntanglesWith s o payload i caps out new = (who : Caller) (waiting : List HeldCall) → Untangles s o who waiting payload i caps out new

abbrev pub Turns : State → ℕ → Payload → ℕ → List Node → Node → Type 0
Turns s o payload i rest n = (who : Caller) (waiting : List HeldCall) → TurnsBack (behind s o who waiting payload i rest) o payload i n

abbrev pub NeverTurns : State → ℕ → Payload → ℕ → List Node → Node → Type 0
NeverTurns s o payload i rest n = (who : Caller) (waiting : List HeldCall) → ¬ (TurnsBack (behind s o who waiting payload i rest) o payload i n)

-- Whether the capability i leads to itself.
abbrev pub TurnsIf : Bool → State → ℕ → Payload → ℕ → List Node → Node → Type 0
TurnsIf true s o payload i rest n = Turns s o payload i rest n
TurnsIf false s o payload i rest n = NeverTurns s o payload i rest n

-- ---- What changes

abbrev pub cap_of : List Node → ℕ → Node
cap_of caps j = unwrap_or (slice_get caps j) (node.Broken NotACapability)

-- A new open promise.
abbrev pub with_promise : State → ℕ → State
with_promise s p = record s { promises = map.insert s.promises p (promise.Open []) }

abbrev pub with_promises : Progress → Map Promise → Progress
with_promises d m = with_state d (record (d.state) { promises = m })

-- The capabilities from i on are in place: caps became now, and s became t.
abbrev pub SoFar : State → ℕ → Payload → List Node → List Node → ℕ → State → Type 0
SoFar s o payload caps now i t =
    (i ≤ length now) × ((rest : List Node) × (caps ≡ take i now ++ rest) × UntanglesWith s o payload i rest (drop i now) t)
