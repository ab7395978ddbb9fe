-- What the names of a script stand for (docs/script.md, "Names").
use Rattle.std.specs.Prelude.{ℕ, ◌≡◌, List, [], ◌∷◌, length, Option, Some, None, Result, Ok, Err, slice_get}
use Rattle.std.specs.FinMap as map
use Rattle.rpc_msg.specs.declared.ids.Vat.{Vat}
use Rattle.rpc_msg.specs.declared.ids.Vat.TheVariants as vat
use Rattle.rpc_msg.specs.declared.ids.CallId.{CallId}
use Rattle.rpc_msg.specs.declared.ids.RefId.{RefId}
use Rattle.rpc_msg.specs.declared.ids.PromiseId.{PromiseId}
use Rattle.rpc_machine.specs.declared.command.Command.{Command}
use Rattle.rpc_machine.specs.declared.command.Command.TheVariants as command
use Rattle.rpc_machine.specs.declared.command.Granted.{Granted}
use Rattle.rpc_machine.specs.declared.command.Granted.TheVariants as granted
use Rattle.rpc_machine.specs.declared.command.Effects.{Effects}
use Rattle.rpc_journal.specs.declared.report.Delivery.{Delivery}
use Rattle.rpc_journal.specs.declared.report.Ended.{Ended}
use Rattle.script_language.specs.declared.line.LineCommand.{LineCommand}
use Rattle.script_language.specs.declared.line.LineCommand.TheVariants as said
use Rattle.script_language.specs.declared.line.TakeLine.{TakeLine}
use Rattle.script_language.specs.declared.line.GotLine.{GotLine}
use Rattle.script_language.specs.declared.names.Names.{Names}
use Rattle.script_language.specs.declared.names.VatNames.{VatNames}
use Rattle.script_language.specs.declared.fault.NameFault.{NameFault}
use Rattle.script_language.specs.declared.fault.NameFault.TheVariants as fault
use Rattle.script_language.specs.declared.fault.GiveFault.{GiveFault}
use Rattle.script_language.specs.declared.fault.GiveFault.TheVariants as gives
use Rattle.script_language.specs.Carried.{carrying, script_exception}

-- No name is bound.
abbrev pub unnamed : VatNames
unnamed = record { calls = map.empty; references = map.empty; promises = map.empty; tasks = map.empty; outcomes = map.empty }

abbrev pub no_names : Names
no_names = record { a = unnamed; b = unnamed }

-- Each vat has names of its own.
abbrev pub names_of : Vat → Names → VatNames
names_of vat.A names = names.a
names_of vat.B names = names.b

abbrev pub with_names_of : Vat → VatNames → Names → Names
with_names_of vat.A now names = record names { a = now }
with_names_of vat.B now names = record names { b = now }

-- What is bound, or that fault.
abbrev pub bound_or : {X : Type 0} → NameFault → Option X → Result X NameFault
bound_or e None = Err e
bound_or e (Some x) = Ok x

abbrev pub call_at : VatNames → List ℕ → Result CallId NameFault
call_at names name = bound_or fault.Call (map.get names.calls name)

abbrev pub reference_at : VatNames → List ℕ → Result RefId NameFault
reference_at names name = bound_or fault.Reference (map.get names.references name)

abbrev pub promise_at : VatNames → List ℕ → Result PromiseId NameFault
promise_at names name = bound_or fault.Promise (map.get names.promises name)

-- A reference in front of others, or the first fault.
abbrev pub ref_and : Result RefId NameFault → Result (List RefId) NameFault → Result (List RefId) NameFault
ref_and (Err e) rest = Err e
ref_and (Ok r) (Err e) = Err e
ref_and (Ok r) (Ok rs) = Ok (r ∷ rs)

-- The references of these names, in order.
abbrev pub references_at : VatNames → List (List ℕ) → Result (List RefId) NameFault
references_at names [] = Ok []
references_at names (n ∷ ns) = ref_and (reference_at names n) (references_at names ns)

-- What is made of one thing that is bound, or of two; or the first fault.
abbrev pub of_one : {X Y : Type 0} → (X → Y) → Result X NameFault → Result Y NameFault
of_one make (Err e) = Err e
of_one make (Ok x) = Ok (make x)

abbrev pub of_two : {X Y Z : Type 0} → (X → Y → Z) → Result X NameFault → Result Y NameFault → Result Z NameFault
of_two make (Err e) y = Err e
of_two make (Ok x) (Err e) = Err e
of_two make (Ok x) (Ok y) = Ok (make x y)

-- What a line asks of its vat.
abbrev pub command_for : VatNames → LineCommand → Result Command NameFault
command_for names (said.Host name object) = Ok (command.Host object)
command_for names (said.Bootstrap call) = Ok command.Bootstrap
command_for names (said.Field l) = of_one (λ (c : CallId). command.Field c l.path) (call_at names l.call)
command_for names (said.Call l) =
    of_two
    (λ (r : RefId) (refs : List RefId). command.Call (record { reference = r; interface = l.interface; method = l.method; payload = carrying (length refs); refs = refs }))
    (reference_at names l.reference) (references_at names l.caps)
command_for names (said.Answer task caps) = of_one (λ (refs : List RefId). command.Answer task (carrying (length refs)) refs) (references_at names caps)
command_for names (said.Fail task) = Ok (command.Fail task script_exception)
command_for names (said.Promise promise name) = Ok command.Promise
command_for names (said.Resolve promise name) = of_two (λ (p : PromiseId) (r : RefId). command.Resolve p r) (promise_at names promise) (reference_at names name)
command_for names (said.Reject promise) = of_one (λ (p : PromiseId). command.Reject p script_exception) (promise_at names promise)
command_for names (said.CloneRef name from) = of_one (λ (r : RefId). command.CloneRef r) (reference_at names from)
command_for names (said.DropRef name) = of_one (λ (r : RefId). command.DropRef r) (reference_at names name)
command_for names (said.Finish call) = of_one (λ (c : CallId). command.Finish c) (call_at names call)
command_for names (said.Advance name) = of_one (λ (r : RefId). command.Advance r) (reference_at names name)

-- What is answered where the names give this: the same, unless memory runs out.
abbrev pub Gives : {X : Type 0} → Result X NameFault → Result X GiveFault → Type 0
Gives given (Ok x) = given ≡ Ok x
Gives given (Err (gives.Name e)) = given ≡ Err e
Gives given (Err gives.Memory) = Unit {0}

-- The name that a line gives to a call, to a reference, and to a promise.
abbrev pub call_named : LineCommand → Option (List ℕ)
call_named (said.Bootstrap call) = Some call
call_named (said.Call l) = Some l.call
call_named other = None

abbrev pub reference_named : LineCommand → Option (List ℕ)
reference_named (said.Host name object) = Some name
reference_named (said.Field l) = Some l.name
reference_named (said.Promise promise name) = Some name
reference_named (said.CloneRef name from) = Some name
reference_named other = None

abbrev pub promise_named : LineCommand → Option (List ℕ)
promise_named (said.Promise promise name) = Some promise
promise_named other = None

-- What was bound to a name is forgotten.
abbrev pub bind_call : VatNames → Option (List ℕ) → CallId → VatNames
bind_call names None c = names
bind_call names (Some name) c = record names { calls = map.insert names.calls name c }

abbrev pub bind_reference : VatNames → Option (List ℕ) → RefId → VatNames
bind_reference names None r = names
bind_reference names (Some name) r = record names { references = map.insert names.references name r }

abbrev pub bind_promise : VatNames → Option (List ℕ) → PromiseId → VatNames
bind_promise names None p = names
bind_promise names (Some name) p = record names { promises = map.insert names.promises name p }

-- What a line binds by what its vat granted. A refusal binds nothing.
abbrev pub bindings : VatNames → LineCommand → Granted → VatNames
bindings names l granted.Done = names
bindings names l (granted.Reference r) = bind_reference names (reference_named l) r
bindings names l (granted.Call c) = bind_call names (call_named l) c
bindings names l (granted.Promise p r) = bind_reference (bind_promise names (promise_named l) p) (reference_named l) r
bindings names l (granted.Advanced how) = names

abbrev pub binds : Names → Vat → LineCommand → Granted → Names
binds names v l g = with_names_of v (bindings (names_of v names) l g) names

-- Where memory ran out: nothing is bound, or of a line `promise` the promise alone.
abbrev pub half_bound : VatNames → LineCommand → Granted → VatNames
half_bound names l (granted.Promise p r) = bind_promise names (promise_named l) p
half_bound names l other = names

-- One of the references that were handed over, or a fault.
abbrev pub one_of : NameFault → Option (List RefId) → ℕ → Result RefId NameFault
one_of e None i = Err e
one_of e (Some refs) i = bound_or fault.Index (slice_get refs i)

-- The reference that a line `take` speaks of.
abbrev pub taken : VatNames → TakeLine → Result RefId NameFault
taken names l = one_of fault.Task (map.get names.tasks l.task.0) l.index

-- The reference that a line `got` speaks of: its call is bound, and has its outcome.
abbrev pub got_from : VatNames → Result CallId NameFault → ℕ → Result RefId NameFault
got_from names (Err e) i = Err e
got_from names (Ok c) i = one_of fault.Outcome (map.get names.outcomes c.0) i

abbrev pub got : VatNames → GotLine → Result RefId NameFault
got names l = got_from names (call_at names l.call) l.index

-- What a vat's application was told is kept: the references of the calls delivered to it, and of the outcomes.
abbrev pub with_tasks : VatNames → List Delivery → VatNames
with_tasks names [] = names
with_tasks names (d ∷ ds) = with_tasks (record names { tasks = map.insert names.tasks d.task.0 d.refs }) ds

abbrev pub with_outcomes : VatNames → List Ended → VatNames
with_outcomes names [] = names
with_outcomes names (e ∷ es) = with_outcomes (record names { outcomes = map.insert names.outcomes e.call.0 e.refs }) es

abbrev pub with_tasks_of : Vat → List Delivery → Names → Names
with_tasks_of v ds names = with_names_of v (with_tasks (names_of v names) ds) names

abbrev pub with_outcomes_of : Vat → List Ended → Names → Names
with_outcomes_of v es names = with_names_of v (with_outcomes (names_of v names) es) names

-- The references that a vat's application was handed in a step are kept: those of its tasks, and of the outcomes of its calls.
abbrev pub handed : Names → Vat → Effects → Names
handed names v told = with_outcomes_of v told.answers (with_tasks_of v told.deliveries names)
