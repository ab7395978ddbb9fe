-- A call goes over a wire, or stays here.
use Rattle.std.proofs.Common.{ℕ, Option, None, Some}
use Rattle.rpc_msg.specs.declared.parts.Target.{Target}
use Rattle.rpc_machine.specs.declared.calls.Request.{Request}
use Rattle.rpc_machine.specs.declared.node.Node.{Node}
use Rattle.rpc_machine.specs.declared.node.Node.TheVariants as node
use Rattle.rpc_machine.specs.Progress.{Progress}
use Rattle.rpc_machine.specs.Advancing.{wire_target}
use Rattle.rpc_machine.specs.Commands.{CallsDirect, CallsHere, CallsBy}

-- By the target of the wire, if it is one.
abbrev pub Goes : Progress → ℕ → Request → Node → Option Target → Progress → Type 0
Goes d c r head None new = CallsHere d c r head new
Goes d c r head (Some target) new = CallsDirect d c r target new

pub goes_by : (d : Progress) (c : ℕ) (r : Request) (head at : Node) (new : Progress) → Goes d c r head (wire_target at) new → CallsBy d c r head at new
goes_by d c r head (node.Object o) new h = h
goes_by d c r head (node.Promise p) new h = h
goes_by d c r head (node.Field o path) new h = h
goes_by d c r head (node.Import e) new h = h
goes_by d c r head (node.Pipe q path) new h = h
goes_by d c r head (node.Broken reason) new h = h
