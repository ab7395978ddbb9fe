-- What a call of the application and an answer wait for is there (docs/protocol.md, "What a vat holds").
use Rattle.std.specs.Prelude.{◌≡◌, ℕ, Option, None, Some}
use Rattle.std.specs.FinMap as map
use Rattle.finite_maps.specs.Tally.{Map}
use Rattle.laws_acts.specs.rpc_machine.specs.declared.calls.Caller.{Caller}
use Rattle.laws_acts.specs.rpc_machine.specs.declared.calls.Caller.TheVariants as caller
use Rattle.laws_acts.specs.rpc_machine.specs.declared.calls.KeptOutcome.{KeptOutcome}
use Rattle.laws_acts.specs.rpc_machine.specs.declared.calls.OwnCall.{OwnCall}
use Rattle.laws_acts.specs.rpc_machine.specs.declared.calls.OwnCall.TheVariants as own
use Rattle.laws_acts.specs.rpc_machine.specs.declared.entries.Role.{Role}
use Rattle.laws_acts.specs.rpc_machine.specs.declared.entries.Role.TheVariants as role
use Rattle.laws_acts.specs.rpc_machine.specs.declared.entries.Question.{Question}
use Rattle.laws_acts.specs.rpc_machine.specs.declared.entries.AnswerEntry.{AnswerEntry}
use Rattle.laws_acts.specs.rpc_machine.specs.State.{State}
use Rattle.laws_acts.specs.rpc_machine.specs.Sweeping.{IsNotSent}

abbrev pub IsDirectFor : ℕ → Role → Type 0
IsDirectFor c (role.Direct k) = k.0 ≡ c
IsDirectFor c (role.Relay o) = ⊥

-- A question that was asked for that call of the application, and whose Finish was not sent.
abbrev pub IsAskedFor : ℕ → Option Question → Type 0
IsAskedFor c None = ⊥
IsAskedFor c (Some x) = IsDirectFor c x.role × IsNotSent x.finish

-- An outcome of which that caller is told.
abbrev pub IsFor : Caller → Option KeptOutcome → Type 0
IsFor who None = ⊥
IsFor who (Some x) = x.caller ≡ who

abbrev pub peer : ℕ → Caller
peer q = caller.Peer (record { 0 = q })

-- A call that is not finished has its question, or its outcome.
abbrev pub HasSource : State → ℕ → Option OwnCall → Type 0
HasSource s c None = Unit {0}
HasSource s c (Some (own.Direct q)) = IsAskedFor c (map.get s.questions q.0)
HasSource s c (Some (own.Kept o)) = IsFor (caller.Application (record { 0 = c })) (map.get s.outcomes o)

abbrev pub HasOutcome : Map KeptOutcome → ℕ → Option AnswerEntry → Type 0
HasOutcome os q None = Unit {0}
HasOutcome os q (Some a) = IsFor (peer q) (map.get os a.outcome)

-- An outcome that is not known yet, and of which the peer is told by that answer.
abbrev pub IsOpenFor : ℕ → Option KeptOutcome → Type 0
IsOpenFor q None = ⊥
IsOpenFor q (Some x) = (x.value ≡ None) × (x.caller ≡ peer q)

-- The answer is that outcome's, and was not returned.
abbrev pub AnswersWith : ℕ → Option AnswerEntry → Type 0
AnswersWith o None = ⊥
AnswersWith o (Some a) = (a.outcome ≡ o) × (a.returned ≡ None)

-- Each call and each answer has what it waits for, and each outcome that the peer waits for has its answer.
pub record CallersAreServed (s : State) : Type 0 where
  pub calls : (c : ℕ) → HasSource s c (map.get s.calls c)
  pub answers : (q : ℕ) → HasOutcome s.outcomes q (map.get s.answers q)
  pub outcomes : (o q : ℕ) → IsOpenFor q (map.get s.outcomes o) → AnswersWith o (map.get s.answers q)
