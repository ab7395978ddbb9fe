-- What the peer can reach of a vat's nodes, whatever it sends (docs/laws/authority.md, "What the peer can reach").
use Rattle.std.specs.Prelude.{◌≡◌, ◌⊎◌, ℕ, Option, None, Some, List, [], ◌∷◌}
use Rattle.std.specs.FinMap as map
use Rattle.rpc_msg.specs.Op.{Op}
use Rattle.rpc_machine.specs.declared.node.Node.{Node}
use Rattle.rpc_machine.specs.declared.node.Node.TheVariants as node
use Rattle.rpc_machine.specs.declared.calls.WaitingCall.{WaitingCall}
use Rattle.rpc_machine.specs.declared.calls.HeldCall.{HeldCall}
use Rattle.rpc_machine.specs.declared.calls.Promise.TheVariants as promise
use Rattle.rpc_machine.specs.declared.calls.Caller.{Caller}
use Rattle.rpc_machine.specs.declared.calls.Caller.TheVariants as caller
use Rattle.rpc_machine.specs.declared.calls.KeptOutcome.{KeptOutcome}
use Rattle.rpc_machine.specs.declared.entries.AnswerEntry.{AnswerEntry}
use Rattle.rpc_machine.specs.declared.entries.Export.{Export}
use Rattle.rpc_machine.specs.declared.entries.Embargo.{Embargo}
use Rattle.rpc_machine.specs.State.{State}
use Rattle.rpc_machine.specs.Nodes.{link}

-- It is one of the list.
abbrev pub IsIn : {X : Type 0} → X → List X → Type 0
IsIn x [] = ⊥
IsIn x (y ∷ ys) = (y ≡ x) ⊎ IsIn x ys

-- Who is told of the outcome is the peer.
abbrev pub IsPeer : Caller → Type 0
IsPeer (caller.Application c) = ⊥
IsPeer (caller.Peer q) = Unit {0}

-- The outcome is there, and the peer asked for it by a Call or a Bootstrap.
abbrev pub IsForPeer : Option KeptOutcome → Type 0
IsForPeer None = ⊥
IsForPeer (Some x) = IsPeer x.caller

-- The call waits at that node: at an own promise, for a field of an outcome, or under an embargo.
pub data WaitsAt (s : State) (c : WaitingCall) : Node → Type 0 where
  AtPromise : (p : ℕ) (calls : List WaitingCall) → map.get s.promises p ≡ Some (promise.Open calls) → IsIn c calls → WaitsAt s c (node.Promise p)
  ForField : (o : ℕ) (x : KeptOutcome) (h : HeldCall) → map.get s.outcomes o ≡ Some x → IsIn h x.waiting → h.call ≡ c → WaitsAt s c (node.Field o h.path)
  UnderEmbargo : (e : ℕ) (b : Embargo) → map.get s.embargoes e ≡ Some b → IsIn c b.waiting → WaitsAt s c b.node

-- The peer can reach the node now.
pub data Reaches (s : State) : Node → Type 0 where
  -- an export stands for it: the peer was given it, and has not given it back
  Exported : (e : ℕ) (x : Export) → map.get s.exports e ≡ Some x → Reaches s x.node
  -- it is a field of an answer that the peer has not finished
  Answered : (q : ℕ) (a : AnswerEntry) (path : List Op) → map.get s.answers q ≡ Some a → Reaches s (node.Field a.outcome path)
  -- it is a field of an outcome of which the peer is still to be told
  Awaited : (o : ℕ) (x : KeptOutcome) (path : List Op) → map.get s.outcomes o ≡ Some x → IsPeer x.caller → x.value ≡ None → Reaches s (node.Field o path)
  -- a call of the peer's waits there
  CallsAt : (c : WaitingCall) (n : Node) → WaitsAt s c n → IsForPeer (map.get s.outcomes c.outcome) → Reaches s n
  -- a node that the peer can reach leads to it
  Further : (n m : Node) → Reaches s n → link s n ≡ Some m → Reaches s m

-- The peer can reach the node, or may come to reach it with nothing more from the application.
pub data MayReach (s : State) : Node → Type 0 where
  Now : (n : Node) → Reaches s n → MayReach s n
  -- a call that waits carries it: that call may go out to the peer
  Carried : (c : WaitingCall) (n m : Node) → WaitsAt s c n → IsIn m c.request.caps → MayReach s m
  -- a node that the peer may come to reach leads to it
  Beyond : (n m : Node) → MayReach s n → link s n ≡ Some m → MayReach s m
