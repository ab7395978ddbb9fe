-- A promise is fixed: the calls that waited for it are routed, then its exports get their Resolves.
use Rattle.std.proofs.Common.{ℕ, List, Option, None, Some, subst}
use Rattle.rpc_msg.specs.declared.exception.Exception.{Exception}
use Rattle.rpc_machine.specs.declared.node.Node.{Node}
use Rattle.rpc_machine.specs.declared.node.Node.TheVariants as node
use Rattle.rpc_machine.specs.declared.calls.HeldCall.{HeldCall}
use Rattle.rpc_machine.specs.declared.calls.WaitingCall.{WaitingCall}
use Rattle.rpc_machine.specs.declared.calls.Promise.{Promise}
use Rattle.rpc_machine.specs.declared.calls.Promise.TheVariants as promise
use Rattle.rpc_machine.specs.State.{State}
use Rattle.rpc_machine.specs.Nodes.{is_promise}
use Rattle.rpc_machine.specs.Progress.{Progress, with_state}
use Rattle.rpc_machine.specs.Routing.{RoutesAll}
use Rattle.rpc_machine.specs.Settling.{SendsResolves, FixesFrom}
use Rattle.core_waits.specs.Waiting.{calls_of}
use Rattle.core_store_waits.specs.Changes.{Fixes}

pub fixes : (d : Progress) (p : ℕ) (to : Node) (told : Option Exception) (o : Option Promise) (t : State) (taken : List HeldCall) (routed new : Progress) → Fixes d.state p to o t taken
    → RoutesAll (with_state d t) (calls_of taken) (node.Promise p) routed → SendsResolves routed told (is_promise p) new → FixesFrom d p to told o new
fixes d p to told None t taken routed new h all sent = absurd h
fixes d p to told (Some (promise.Fixed before)) t taken routed new h all sent = absurd h
fixes d p to told (Some (promise.Open calls)) t taken routed new h all sent = (
  routed,
  subst (λ (s : State). RoutesAll (with_state d s) calls (node.Promise p) routed) h.1 (subst (λ (cs : List WaitingCall). RoutesAll (with_state d t) cs (node.Promise p) routed) h.0 all),
  sent,
)
