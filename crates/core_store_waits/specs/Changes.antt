-- How a vat's state changes where calls are taken out of what they wait for, and where outcomes become known; by what
-- stands under the key before.
use Rattle.std.specs.Prelude.{◌≡◌, ℕ, Option, None, Some, List, [], ◌∷◌}
use Rattle.std.specs.FinMap as map
use Rattle.rpc_msg.specs.declared.ids.RefId.{RefId}
use Rattle.rpc_machine.specs.declared.node.Node.{Node}
use Rattle.rpc_machine.specs.declared.calls.HeldCall.{HeldCall}
use Rattle.rpc_machine.specs.declared.calls.Value.{Value}
use Rattle.rpc_machine.specs.declared.calls.Promise.{Promise}
use Rattle.rpc_machine.specs.declared.calls.Promise.TheVariants as promise
use Rattle.rpc_machine.specs.declared.calls.KeptOutcome.{KeptOutcome}
use Rattle.rpc_machine.specs.declared.entries.Embargo.{Embargo}
use Rattle.rpc_machine.specs.State.{State}
use Rattle.rpc_machine.specs.Settling.{known}
use Rattle.core_waits.specs.Waiting.{calls_of}

-- The promise leads there from now on, and the calls that waited for it are taken out.
abbrev pub Fixes : State → ℕ → Node → Option Promise → State → List HeldCall → Type 0
Fixes s p to None t taken = ⊥
Fixes s p to (Some (promise.Fixed before)) t taken = ⊥
Fixes s p to (Some (promise.Open calls)) t taken = (calls_of taken ≡ calls) × (t ≡ record s { promises = map.insert s.promises p (promise.Fixed to) })

-- The outcome is there, and is not known.
abbrev pub IsUnknown : Option KeptOutcome → Type 0
IsUnknown None = ⊥
IsUnknown (Some x) = x.value ≡ None

abbrev pub KnowsFrom : State → ℕ → Value → KeptOutcome → Option Value → State → Type 0
KnowsFrom s o v x (Some before) t = ⊥
KnowsFrom s o v x None t = t ≡ known s o x.caller x.waiting v

-- The outcome becomes known, once.
abbrev pub Knows : State → ℕ → Value → Option KeptOutcome → State → Type 0
Knows s o v None t = ⊥
Knows s o v (Some x) t = KnowsFrom s o v x x.value t

-- The calls that wait for an outcome are taken out.
abbrev pub TakesHeld : State → ℕ → Option KeptOutcome → State → List HeldCall → Type 0
TakesHeld s o None t taken = ⊥
TakesHeld s o (Some x) t taken = (taken ≡ x.waiting) × (t ≡ record s { outcomes = map.insert s.outcomes o (record x { waiting = [] }) })

-- The embargo goes, and the calls that waited for that are taken out.
abbrev pub Lifts : State → ℕ → RefId → Node → Option Embargo → State → List HeldCall → Type 0
Lifts s e reference node None t taken = ⊥
Lifts s e reference node (Some b) t taken = (b.reference ≡ reference) × (b.node ≡ node) × (calls_of taken ≡ b.waiting) × (t ≡ record s { embargoes = map.remove s.embargoes e })

-- The first of the calls that were taken out, if one is left.
abbrev pub TakesNext : List HeldCall → Option HeldCall → List HeldCall → Type 0
TakesNext old None new = (old ≡ []) × (new ≡ [])
TakesNext old (Some call) new = old ≡ call ∷ new
