-- A call of the application has no outcome and no question but its own (docs/protocol.md, "What a vat holds").
use Rattle.std.specs.Prelude.{◌≡◌, ℕ, ◌<◌, Option, None, Some}
use Rattle.std.specs.FinMap as map
use Rattle.rpc_machine.specs.declared.calls.Caller.TheVariants as caller
use Rattle.rpc_machine.specs.declared.calls.KeptOutcome.{KeptOutcome}
use Rattle.rpc_machine.specs.declared.calls.OwnCall.{OwnCall}
use Rattle.rpc_machine.specs.declared.calls.OwnCall.TheVariants as own
use Rattle.rpc_machine.specs.declared.entries.Question.{Question}
use Rattle.rpc_machine.specs.declared.entries.Role.TheVariants as role
use Rattle.rpc_machine.specs.State.{State}

-- The call's caller is told of the outcome.
abbrev pub IsOutcomeFor : ℕ → Option KeptOutcome → Type 0
IsOutcomeFor c None = ⊥
IsOutcomeFor c (Some x) = x.caller ≡ caller.Application (record { 0 = c })

-- The question was asked for the call.
abbrev pub IsQuestionFor : ℕ → Option Question → Type 0
IsQuestionFor c None = ⊥
IsQuestionFor c (Some x) = x.role ≡ role.Direct (record { 0 = c })

-- A call that is not finished has no outcome and no question but its own.
abbrev pub HasItsOwnAlone : State → ℕ → Option OwnCall → Type 0
HasItsOwnAlone s c None = Unit {0}
HasItsOwnAlone s c (Some from) =
    ((o : ℕ) → IsOutcomeFor c (map.get s.outcomes o) → from ≡ own.Kept o)
    × ((q : ℕ) → IsQuestionFor c (map.get s.questions q) → from ≡ own.Direct (record { 0 = q }))

-- Nor has a call that is still to come: each outcome and each question is of a call that was made.
pub record CallsHaveTheirOwn (s : State) : Type 0 where
  pub each : (c : ℕ) → HasItsOwnAlone s c (map.get s.calls c)
  pub outcomes : (c o : ℕ) → IsOutcomeFor c (map.get s.outcomes o) → c < s.next_call
  pub questions : (c q : ℕ) → IsQuestionFor c (map.get s.questions q) → c < s.next_call
