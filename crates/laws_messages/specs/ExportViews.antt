-- How an export looks to its session, and what a step sends of it.
use Rattle.std.specs.Prelude.{ℕ, Bool, true, false, Option, None, Some, List, [], ◌∷◌, ◌++◌}
use Rattle.rpc_msg.specs.declared.message.Message.{Message}
use Rattle.rpc_msg.specs.declared.message.Message.TheVariants as message
use Rattle.rpc_msg.specs.Messages.{descriptors_of_plain}
use Rattle.rpc_machine.specs.declared.node.Node.{Node}
use Rattle.rpc_machine.specs.declared.entries.Export.{Export}
use Rattle.rpc_machine.specs.State.{State}
use Rattle.rpc_machine.specs.Nodes.{link, is_object}
use Rattle.laws_runs.specs.Exports as export
use Rattle.laws_runs.specs.Exports.{Stage, Exporter, Out}
use Rattle.laws_messages.specs.Views.{gives_in, resolves_in}

-- By whether its node is an object, whether a Resolve of it is owed, and where the node leads: one that leads on was
-- settled.
abbrev pub stage_by : Bool → Bool → Option Node → Stage
stage_by true owes to = export.IsObject
stage_by false owes None = export.IsOpen
stage_by false true (Some to) = export.Owes
stage_by false false (Some to) = export.HasTold

-- `owes` says of which nodes a Resolve is owed.
abbrev pub exporter_by : State → (Node → Bool) → Option Export → Exporter
exporter_by s owes None = export.Gone
exporter_by s owes (Some x) = export.Has x.count (stage_by (is_object x.node) (owes x.node) (link s x.node))

-- Between steps none is.
abbrev pub nothing_owed : Node → Bool
nothing_owed n = false

abbrev pub exporter_of : State → Option Export → Exporter
exporter_of s o = exporter_by s nothing_owed o

abbrev pub outs_in : ℕ → List Message → List Out
outs_in e [] = []
outs_in e (message.Plain m ∷ ms) = resolves_in e m ++ (gives_in e (descriptors_of_plain m) ++ outs_in e ms)
outs_in e (message.Unimplemented m ∷ ms) = outs_in e ms
