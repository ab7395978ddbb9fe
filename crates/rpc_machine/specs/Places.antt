-- The places of a vat: each node that its state names, once for each place that names it (docs/protocol.md, "Places").
-- What no place names goes.
use Rattle.std.specs.Prelude.{ℕ, Bool, Option, None, Some, List, [], ◌∷◌, ◌++◌}
use Rattle.rpc_journal.specs.rpc_msg.specs.declared.ids.ExportId.{ExportId}
use Rattle.rpc_journal.specs.rpc_msg.specs.declared.parts.Descriptor.{Descriptor}
use Rattle.rpc_machine.specs.declared.node.Node.{Node}
use Rattle.rpc_machine.specs.declared.node.Node.TheVariants as node
use Rattle.rpc_machine.specs.declared.calls.WaitingCall.{WaitingCall}
use Rattle.rpc_machine.specs.declared.calls.HeldCall.{HeldCall}
use Rattle.rpc_machine.specs.declared.calls.Promise.{Promise}
use Rattle.rpc_machine.specs.declared.calls.Promise.TheVariants as promise
use Rattle.rpc_machine.specs.declared.calls.Value.{Value}
use Rattle.rpc_machine.specs.declared.calls.Value.TheVariants as value
use Rattle.rpc_machine.specs.declared.entries.Returned.{Returned}
use Rattle.rpc_machine.specs.declared.entries.Returned.TheVariants as back
use Rattle.rpc_machine.specs.declared.entries.Resolution.{Resolution}
use Rattle.rpc_machine.specs.declared.entries.Resolution.TheVariants as resolution
use Rattle.rpc_machine.specs.declared.calls.KeptOutcome.{KeptOutcome}
use Rattle.rpc_machine.specs.declared.entries.Question.{Question}
use Rattle.rpc_machine.specs.declared.entries.AnswerEntry.{AnswerEntry}
use Rattle.rpc_machine.specs.declared.entries.Import.{Import}
use Rattle.rpc_machine.specs.declared.entries.Export.{Export}
use Rattle.rpc_machine.specs.declared.entries.Reference.{Reference}
use Rattle.rpc_machine.specs.declared.entries.Embargo.{Embargo}
use Rattle.rpc_machine.specs.Lists.{of_map, how_many}
use Rattle.rpc_machine.specs.State.{State}

-- The capabilities of calls that wait.
abbrev pub named_by_calls : List WaitingCall → List Node
named_by_calls [] = []
named_by_calls (c ∷ cs) = c.request.caps ++ named_by_calls cs

abbrev pub named_by_held : List HeldCall → List Node
named_by_held [] = []
named_by_held (h ∷ hs) = h.call.request.caps ++ named_by_held hs

-- A reference names its head.
abbrev pub named_by_reference : ℕ → Reference → List Node
named_by_reference r x = x.head ∷ []

-- An embargo names where its calls go, and they name their capabilities.
abbrev pub named_by_embargo : ℕ → Embargo → List Node
named_by_embargo e x = x.node ∷ named_by_calls x.waiting

-- The target of a settled promise; one that isn't settled names itself.
abbrev pub named_by_promise : ℕ → Promise → List Node
named_by_promise p (promise.Open calls) = node.Promise p ∷ named_by_calls calls
named_by_promise p (promise.Fixed to) = to ∷ []

abbrev pub named_by_value : Option Value → List Node
named_by_value None = []
named_by_value (Some (value.Results payload caps)) = caps
named_by_value (Some (value.Exception exception)) = []

-- A kept outcome names its capabilities, and those of the calls that wait for it.
abbrev pub named_by_outcome : ℕ → KeptOutcome → List Node
named_by_outcome o x = named_by_value x.value ++ named_by_held x.waiting

abbrev pub nodes : List (Descriptor × Node) → List Node
nodes [] = []
nodes (c ∷ cs) = c.1 ∷ nodes cs

abbrev pub named_by_returned : Option Returned → List Node
named_by_returned None = []
named_by_returned (Some (back.Results payload caps)) = nodes caps
named_by_returned (Some (back.Exception exception)) = []

-- A returned question names the capabilities of its Return.
abbrev pub named_by_question : ℕ → Question → List Node
named_by_question q x = named_by_returned x.returned

abbrev pub named_by_resolution : Option Resolution → List Node
named_by_resolution None = []
named_by_resolution (Some (resolution.To d n)) = n ∷ []
named_by_resolution (Some (resolution.Exception exception)) = []

-- An import names where its Resolve led.
abbrev pub named_by_import : ℕ → Import → List Node
named_by_import e x = named_by_resolution x.resolution

-- An export names its node.
abbrev pub named_by_export : ℕ → Export → List Node
named_by_export e x = x.node ∷ []

abbrev pub imports_of : List ExportId → List Node
imports_of [] = []
imports_of (e ∷ es) = node.Import e ∷ imports_of es

-- An answer whose Return was not sent names the imports that its Call gave, once for each descriptor.
abbrev pub named_by_taken : List ExportId → Option (List ExportId) → List Node
named_by_taken ids None = imports_of ids
named_by_taken ids (Some given) = []

abbrev pub named_by_answer : ℕ → AnswerEntry → List Node
named_by_answer q x = named_by_taken x.taken x.returned

abbrev pub places : State → List Node
places s =
    of_map named_by_reference s.refs
    ++ of_map named_by_embargo s.embargoes
    ++ of_map named_by_promise s.promises
    ++ of_map named_by_outcome s.outcomes
    ++ of_map named_by_question s.questions
    ++ of_map named_by_import s.imports
    ++ of_map named_by_export s.exports
    ++ of_map named_by_answer s.answers

-- How many places name a node of this kind.
abbrev pub names : State → (Node → Bool) → ℕ
names s test = how_many test (places s)
