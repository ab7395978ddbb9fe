-- What a received message does, in parts that follow one another.
use Rattle.std.specs.Prelude.{◌≡◌, ℕ, Option, None, Some, List, false}
use Rattle.std.specs.FinMap as map
use Rattle.rpc_msg.specs.declared.ids.ExportId.{ExportId}
use Rattle.rpc_msg.specs.declared.message.Call.{Call}
use Rattle.rpc_machine.specs.declared.node.Node.{Node}
use Rattle.rpc_machine.specs.declared.calls.Request.{Request}
use Rattle.rpc_machine.specs.declared.calls.Caller.TheVariants as caller
use Rattle.rpc_machine.specs.declared.entries.Question.{Question}
use Rattle.rpc_machine.specs.declared.entries.Returned.{Returned}
use Rattle.rpc_machine.specs.State.{State}
use Rattle.rpc_machine.specs.Progress.{Progress, with_state}
use Rattle.rpc_machine.specs.Commands.{with_outcome}
use Rattle.rpc_machine.specs.Routing.{Routes}
use Rattle.rpc_machine.specs.Messages.{ComesBack, ComesFor, kept_returned, value_of_results}

-- An answer opens, with a new outcome, to a question that gave these imports.
abbrev pub opened_with : State → ℕ → ℕ → List ExportId → State
opened_with s q o taken = record (with_outcome s o (caller.Peer (record { 0 = q }))) {
  answers = map.insert s.answers q (record { outcome = o; taken = taken; returned = None; finished = false });
}

-- What a Call calls, with these nodes.
abbrev pub with_caps : Call → List Node → Request
with_caps c caps = record { stamp = c.stamp; interface = c.interface; method = c.method; payload = c.payload; caps = caps }

-- An answer opens, and its call is routed to a node.
abbrev pub OpensFor : Progress → ℕ → List ExportId → Request → Node → Progress → Type 0
OpensFor d q taken r n new =
    (o : ℕ) × (map.get d.state.outcomes o ≡ None)
    × Routes (with_state d (opened_with d.state q o taken)) (record { request = r; outcome = o }) n new

-- What was said comes back for a question that is there.
abbrev pub ComesBackFor : Progress → ℕ → Returned → Option Question → Progress → Type 0
ComesBackFor d q said None new = ⊥
ComesBackFor d q said (Some x) new = ComesBack d q x said x.finish new

-- The question keeps it, and who asked is told.
abbrev pub KeepsFor : Progress → ℕ → Returned → Option Question → Progress → Type 0
KeepsFor d q said None new = ⊥
KeepsFor d q said (Some x) new = ComesFor (kept_returned d q x said) x.role (value_of_results said) new
