-- A Return in the making: what it says, and what is left when it is sent.
use Rattle.std.specs.Prelude.{◌≡◌, ℕ, Bool, List}
use Rattle.std.specs.FinMap as map
use Rattle.rpc_msg.specs.declared.ids.QuestionId.{QuestionId}
use Rattle.rpc_msg.specs.declared.ids.ExportId.{ExportId}
use Rattle.rpc_msg.specs.declared.parts.Descriptor.{Descriptor}
use Rattle.rpc_msg.specs.declared.message.ReturnBody.{ReturnBody}
use Rattle.rpc_msg.specs.declared.message.PlainMessage.TheVariants as plain
use Rattle.rpc_msg.specs.Messages.{given}
use Rattle.rpc_machine.specs.declared.calls.Value.{Value}
use Rattle.rpc_machine.specs.State.{State}
use Rattle.rpc_machine.specs.Flags.{flag_for, give_back}
use Rattle.rpc_machine.specs.Progress.{Progress, with_state, send, export_ids, numbers}
use Rattle.rpc_machine.specs.Settling.{SaysBack}
use Rattle.core_store_tables.specs.Peer.{return_answer}

-- A Return says so much of a value, and these are the ids of its sender descriptors.
abbrev pub Says : State → Bool → Value → ReturnBody → List ExportId → State → Type 0
Says s finished v said ids new = (ds : List Descriptor) × SaysBack s finished v said ds new × (ids ≡ export_ids (given ds))

-- The flag is made, what it lets go is given back, the answer has returned, and the Return is sent.
abbrev pub returned_with : Progress → QuestionId → List ℕ → ReturnBody → List ExportId → Progress
returned_with d q taken said ids =
    let s = give_back d.state taken in
    send (with_state d (return_answer s q.0 (numbers ids) (map.get s.answers q.0)))
    (plain.Return (record { answer = q; release_param_caps = flag_for d.state taken; body = said }))
