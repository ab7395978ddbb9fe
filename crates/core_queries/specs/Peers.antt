-- What places name of what the peer has (docs/protocol.md, "Places").
use Rattle.std.specs.Prelude.{Bool, nat_lt}
use Rattle.rpc_msg.specs.declared.ids.ExportId.{ExportId}
use Rattle.rpc_msg.specs.declared.ids.QuestionId.{QuestionId}
use Rattle.rpc_machine.specs.State.{State}
use Rattle.rpc_machine.specs.Nodes.{is_import, is_pipe}
use Rattle.rpc_machine.specs.Places.{names}

-- A place of the vat names the import.
abbrev pub names_import : State → ExportId → Bool
names_import s e = nat_lt 0 (names s (is_import e.0))

-- A place of the vat names something of the question's results.
abbrev pub names_question : State → QuestionId → Bool
names_question s q = nat_lt 0 (names s (is_pipe q.0))
