-- A step in progress: the state so far, the effects so far, the outcomes that arose and are to be settled, in order,
-- and the imports that went, each with its whole count (docs/protocol.md, "What a step is").
use Rattle.std.specs.Prelude.{ℕ, ◌+◌, None, List, [], ◌∷◌, ◌++◌}
use Rattle.std.specs.FinMap as map
use Rattle.rpc_journal.specs.rpc_msg.specs.declared.ids.RefId.{RefId}
use Rattle.rpc_journal.specs.rpc_msg.specs.declared.ids.ExportId.{ExportId}
use Rattle.rpc_journal.specs.rpc_msg.specs.declared.message.PlainMessage.{PlainMessage}
use Rattle.rpc_journal.specs.rpc_msg.specs.declared.message.Message.TheVariants as message
use Rattle.rpc_journal.specs.declared.report.Outcome.{Outcome}
use Rattle.rpc_journal.specs.declared.report.Outcome.TheVariants as outcome
use Rattle.rpc_machine.specs.declared.node.Node.{Node}
use Rattle.rpc_machine.specs.declared.calls.Value.{Value}
use Rattle.rpc_machine.specs.declared.calls.Value.TheVariants as value
use Rattle.rpc_machine.specs.declared.command.Effects.{Effects}
use Rattle.rpc_journal.specs.declared.report.Delivery.{Delivery}
use Rattle.rpc_journal.specs.declared.report.Ended.{Ended}
use Rattle.finite_maps.specs.Tally.{Map}
use Rattle.rpc_machine.specs.State.{State}

pub record Progress : Type 0 where
  pub state : State
  pub effects : Effects
  pub arisen : List (ℕ × Value)
  pub released : Map ℕ

-- No effects.
abbrev pub quiet : Effects
quiet = record { sends = []; deliveries = []; answers = []; down = None }

abbrev pub begin : State → Progress
begin s = record { state = s; effects = quiet; arisen = []; released = map.empty }

abbrev pub with_state : Progress → State → Progress
with_state d s = record d { state = s }

abbrev pub send : Progress → PlainMessage → Progress
send d m = record d { effects = record (d.effects) { sends = d.effects.sends ++ message.Plain m ∷ [] } }

-- A message is sent back as not understood.
abbrev pub echo : Progress → PlainMessage → Progress
echo d m = record d { effects = record (d.effects) { sends = d.effects.sends ++ message.Unimplemented m ∷ [] } }

abbrev pub tell_delivery : Progress → Delivery → Progress
tell_delivery d x = record d { effects = record (d.effects) { deliveries = d.effects.deliveries ++ x ∷ [] } }

abbrev pub tell_ended : Progress → Ended → Progress
tell_ended d x = record d { effects = record (d.effects) { answers = d.effects.answers ++ x ∷ [] } }

abbrev pub arises : Progress → ℕ → Value → Progress
arises d o v = record d { arisen = d.arisen ++ (o, v) ∷ [] }

-- One new reference for each of these nodes, and their numbers.
abbrev pub with_refs : State → List Node → State
with_refs s [] = s
with_refs s (n ∷ ns) =
    with_refs (record s { refs = map.insert s.refs s.next_ref (record { head = n; embargo = None; made = 0 }); next_ref = s.next_ref + 1 }) ns

abbrev pub new_refs : ℕ → List Node → List RefId
new_refs next [] = []
new_refs next (n ∷ ns) = record { 0 = next } ∷ new_refs (next + 1) ns

abbrev pub export_id : ℕ → ExportId
export_id e = record { 0 = e }

abbrev pub export_ids : List ℕ → List ExportId
export_ids [] = []
export_ids (e ∷ es) = export_id e ∷ export_ids es

abbrev pub numbers : List ExportId → List ℕ
numbers [] = []
numbers (e ∷ es) = e.0 ∷ numbers es

abbrev pub outcome_of : Value → Outcome
outcome_of (value.Results payload caps) = outcome.Results payload
outcome_of (value.Exception exception) = outcome.Exception exception

abbrev pub caps_of : Value → List Node
caps_of (value.Results payload caps) = caps
caps_of (value.Exception exception) = []
