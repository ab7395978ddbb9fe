-- How what waits changes.
use Rattle.std.specs.Prelude.{◌≡◌, ℕ, ◌+◌, ◌-◌, Option, None, Some, List, [], ◌∷◌, ◌++◌}
use Rattle.std.specs.FinMap as map
use Rattle.rpc_msg.specs.Op.{Op}
use Rattle.rpc_msg.specs.declared.ids.RefId.{RefId}
use Rattle.rpc_machine.specs.declared.node.Node.{Node}
use Rattle.rpc_machine.specs.declared.calls.WaitingCall.{WaitingCall}
use Rattle.rpc_machine.specs.declared.calls.HeldCall.{HeldCall}
use Rattle.rpc_machine.specs.declared.calls.Caller.{Caller}
use Rattle.rpc_machine.specs.declared.calls.Value.{Value}
use Rattle.rpc_machine.specs.declared.calls.Promise.{Promise}
use Rattle.rpc_machine.specs.declared.calls.Promise.TheVariants as promise
use Rattle.rpc_machine.specs.declared.calls.KeptOutcome.{KeptOutcome}
use Rattle.rpc_machine.specs.declared.entries.Embargo.{Embargo}
use Rattle.core_waits.specs.Waiting.{Waiting, calls_of}

-- A call waits for an open promise, behind those that wait already.
abbrev pub HeldForPromise : Waiting → ℕ → WaitingCall → Option Promise → Waiting → Type 0
HeldForPromise old k call None new = ⊥
HeldForPromise old k call (Some (promise.Fixed to)) new = ⊥
HeldForPromise old k call (Some (promise.Open calls)) new =
    new ≡ record old { promises = map.insert old.promises k (promise.Open (calls ++ call ∷ [])); held = old.held + 1; room = old.room - 1 }

-- A call waits for what will stand at a path of an outcome.
abbrev pub HeldForField : Waiting → ℕ → List Op → WaitingCall → Option KeptOutcome → Waiting → Type 0
HeldForField old k path call None new = ⊥
HeldForField old k path call (Some x) new =
    new ≡ record old { outcomes = map.insert old.outcomes k (record x { waiting = x.waiting ++ record { path = path; call = call } ∷ [] }); held = old.held + 1; room = old.room - 1 }

-- A call waits for the end of an embargo.
abbrev pub HeldUnder : Waiting → ℕ → WaitingCall → Option Embargo → Waiting → Type 0
HeldUnder old k call None new = ⊥
HeldUnder old k call (Some x) new =
    new ≡ record old { embargoes = map.insert old.embargoes k (record x { waiting = x.waiting ++ call ∷ [] }); held = old.held + 1; room = old.room - 1 }

-- The promise is open, or the entry is there, so that a call can wait there.
abbrev pub IsOpen : Option Promise → Type 0
IsOpen None = ⊥
IsOpen (Some (promise.Fixed to)) = ⊥
IsOpen (Some (promise.Open calls)) = Unit {0}

-- The promise leads there from now on, and the calls that waited for it are taken out.
abbrev pub Fixes : Waiting → ℕ → Node → Option Promise → Waiting → Type 0
Fixes old k to None new = ⊥
Fixes old k to (Some (promise.Fixed before)) new = ⊥
Fixes old k to (Some (promise.Open calls)) new =
    (held : List HeldCall) × (calls_of held ≡ calls) × (new ≡ record old { promises = map.insert old.promises k (promise.Fixed to); taken = held })

-- The outcome is known.
abbrev pub Knows : Waiting → ℕ → Value → Option KeptOutcome → Waiting → Type 0
Knows old k value None new = ⊥
Knows old k value (Some x) new = new ≡ record old { outcomes = map.insert old.outcomes k (record x { value = Some value }) }

-- The calls that wait for an outcome are taken out.
abbrev pub TakesHeld : Waiting → ℕ → Option KeptOutcome → Waiting → Type 0
TakesHeld old k None new = ⊥
TakesHeld old k (Some x) new = new ≡ record old { outcomes = map.insert old.outcomes k (record x { waiting = [] }); taken = x.waiting }

-- Whose the outcome was, and what, where it is there.
abbrev pub outcome_parts : Option KeptOutcome → Option (Caller × Option Value)
outcome_parts None = None
outcome_parts (Some x) = Some (x.caller, x.value)

abbrev pub caller_of : Option KeptOutcome → Option Caller
caller_of None = None
caller_of (Some x) = Some x.caller

-- No call waits for the outcome.
abbrev pub HasNoneWaiting : Option KeptOutcome → Type 0
HasNoneWaiting None = Unit {0}
HasNoneWaiting (Some x) = x.waiting ≡ []

-- The embargo is lifted: it goes, and the calls that waited for that are taken out.
abbrev pub Lifts : Waiting → ℕ → RefId → Node → Option Embargo → Waiting → Type 0
Lifts old k reference node None new = ⊥
Lifts old k reference node (Some x) new =
    (x.reference ≡ reference) × (x.node ≡ node)
    × ((held : List HeldCall) × (calls_of held ≡ x.waiting) × (new ≡ record old { embargoes = map.remove old.embargoes k; taken = held }))

-- The first of the calls that were taken out.
abbrev pub TakesNext : Waiting → Option HeldCall → Waiting → Type 0
TakesNext old None new = (old.taken ≡ []) × (new ≡ old)
TakesNext old (Some call) new = (old.taken ≡ call ∷ new.taken) × (old.held ≡ new.held + 1) × (new ≡ record old { taken = new.taken; held = new.held })

-- The reference and the node of an embargo.
abbrev pub embargo_parts : Option Embargo → Option (RefId × Node)
embargo_parts None = None
embargo_parts (Some x) = Some (x.reference, x.node)
