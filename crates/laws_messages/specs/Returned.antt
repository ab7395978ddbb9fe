-- An answer and its outcome (rpc.capnp, Return; docs/protocol.md, "What a vat holds").
use Rattle.std.specs.Prelude.{◌≡◌, ◌↔◌, ℕ, Option, None, Some}
use Rattle.std.specs.FinMap as map
use Rattle.rpc_machine.specs.declared.calls.KeptOutcome.{KeptOutcome}
use Rattle.rpc_machine.specs.declared.entries.AnswerEntry.{AnswerEntry}
use Rattle.rpc_machine.specs.State.{State}
use Rattle.laws_steps.specs.Callers.{peer}
use Rattle.laws_steps.specs.NodesThere.{IsReached}

-- The outcome is there, the peer is told of it by that answer, and it has been told exactly where it is known.
abbrev pub IsToldOnceKnown : ℕ → AnswerEntry → Option KeptOutcome → Type 0
IsToldOnceKnown q a None = ⊥
IsToldOnceKnown q a (Some x) = (x.caller ≡ peer q) × ((a.returned ≡ None) ↔ (x.value ≡ None))

abbrev pub IsInStep : State → ℕ → Option AnswerEntry → Type 0
IsInStep s q None = Unit {0}
IsInStep s q (Some a) = IsToldOnceKnown q a (map.get s.outcomes a.outcome)

abbrev pub AnswersReturnOnceKnown : Type 0
AnswersReturnOnceKnown = (s : State) → IsReached s → (q : ℕ) → IsInStep s q (map.get s.answers q)
