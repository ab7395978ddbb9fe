-- Own calls that are open: that were made, have not ended and were not let go.
use Rattle.std.specs.Prelude.{◌≡◌, ◌⊎◌, ℕ, ◌<◌, ◌==◌, List, [], ◌∷◌, ◌++◌, not, filter, codes, Option, Some, None, Result, Ok, Err}
use Rattle.std.specs.List.{AllPairs}
use Rattle.rpc_msg.specs.declared.exception.ExceptionKind.TheVariants as kind
use Rattle.rpc_msg.specs.declared.ids.CallId.{CallId}
use Rattle.rpc_journal.specs.declared.report.Ended.{Ended}
use Rattle.rpc_journal.specs.declared.report.Outcome.TheVariants as outcome
use Rattle.rpc_machine.specs.declared.command.Command.{Command}
use Rattle.rpc_machine.specs.declared.command.Command.TheVariants as command
use Rattle.rpc_machine.specs.declared.command.Granted.{Granted}
use Rattle.rpc_machine.specs.declared.command.Granted.TheVariants as granted
use Rattle.rpc_machine.specs.declared.command.Refusal.{Refusal}

-- these calls without one
abbrev pub without : CallId → List CallId → List CallId
without id = filter (λ c. not (c.0 == id.0))

-- The numbers rise.
abbrev pub Rise : List CallId → Type 0
Rise = AllPairs (λ c d. c.0 < d.0)

-- the call that a command lets go, if it does
abbrev pub finished_by : Command → Option CallId
finished_by (command.Finish id) = Some id
finished_by c = None

abbrev pub let_go : List CallId → Option CallId → List CallId
let_go calls (Some id) = without id calls
let_go calls None = calls

-- A call that was made stands behind the others.
abbrev pub followed : List CallId → Option CallId → Granted → List CallId
followed calls finished (granted.Call id) = calls ++ id ∷ []
followed calls finished g = let_go calls finished

-- the calls that are open once a command was answered
abbrev pub asked : List CallId → Command → Result Granted Refusal → List CallId
asked calls c (Ok g) = followed calls (finished_by c) g
asked calls c (Err r) = calls

-- what a call ends with whose vat went down
abbrev pub cut_off : CallId → List ℕ → Ended
cut_off id reason = record { call = id; outcome = outcome.Exception (record { kind = kind.Disconnected; reason = reason }); refs = [] }

-- A reason in words; or none, where memory is wanting for them.
abbrev pub IsReason : List ℕ → Type 0
IsReason reason = (reason ≡ codes "the connection ended") ⊎ (reason ≡ [])

abbrev pub IsCutOff : Ended → Type 0
IsCutOff ended = (reason : List ℕ) × IsReason reason × (ended ≡ cut_off ended.call reason)
