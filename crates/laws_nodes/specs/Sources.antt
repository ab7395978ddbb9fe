-- Each outcome that is not known yet has one source (docs/protocol.md, "What a vat holds").
use Rattle.std.specs.Prelude.{◌≡◌, ℕ, ◌+◌, ◌≤◌, nat_eq, Option, None, Some, List, [], ◌∷◌}
use Rattle.std.specs.FinMap as map
use Rattle.finite_maps.specs.Tally.{tally}
use Rattle.rpc_machine.specs.declared.calls.WaitingCall.{WaitingCall}
use Rattle.rpc_machine.specs.declared.calls.HeldCall.{HeldCall}
use Rattle.rpc_machine.specs.declared.calls.Promise.{Promise}
use Rattle.rpc_machine.specs.declared.calls.Promise.TheVariants as promise
use Rattle.rpc_machine.specs.declared.calls.KeptOutcome.{KeptOutcome}
use Rattle.rpc_machine.specs.declared.calls.Value.{Value}
use Rattle.rpc_machine.specs.declared.entries.Role.{Role}
use Rattle.rpc_machine.specs.declared.entries.Role.TheVariants as role
use Rattle.rpc_machine.specs.declared.entries.Returned.{Returned}
use Rattle.rpc_machine.specs.declared.entries.Finishing.{Finishing}
use Rattle.rpc_machine.specs.declared.entries.Question.{Question}
use Rattle.rpc_machine.specs.declared.entries.Embargo.{Embargo}
use Rattle.rpc_machine.specs.State.{State}
use Rattle.rpc_machine.specs.Sweeping.{IsNotSent}
use Rattle.laws_nodes.specs.Ones.{one_if}
use Rattle.laws_steps.specs.NodesThere.{IsReached}

-- That outcome's key: one or none.
abbrev pub is_key : ℕ → ℕ → ℕ
is_key o k = one_if (nat_eq o k)

abbrev pub calls_for : ℕ → List WaitingCall → ℕ
calls_for o [] = 0
calls_for o (c ∷ cs) = is_key o c.outcome + calls_for o cs

abbrev pub held_for : ℕ → List HeldCall → ℕ
held_for o [] = 0
held_for o (h ∷ hs) = is_key o h.call.outcome + held_for o hs

abbrev pub at_promise : ℕ → Promise → ℕ
at_promise o (promise.Open calls) = calls_for o calls
at_promise o (promise.Fixed to) = 0

abbrev pub at_outcome : ℕ → KeptOutcome → ℕ
at_outcome o x = held_for o x.waiting

abbrev pub at_embargo : ℕ → Embargo → ℕ
at_embargo o b = calls_for o b.waiting

abbrev pub relay_for : ℕ → Role → Option Returned → ℕ
relay_for o (role.Direct c) r = 0
relay_for o (role.Relay k) None = is_key o k
relay_for o (role.Relay k) (Some said) = 0

abbrev pub at_question : ℕ → Question → ℕ
at_question o x = relay_for o x.role x.returned

-- How many sources the outcome has.
abbrev pub sources : ℕ → State → ℕ
sources o s = tally (is_key o) s.tasks + tally (at_question o) s.questions + tally (at_promise o) s.promises + tally (at_outcome o) s.outcomes + tally (at_embargo o) s.embargoes

abbrev pub unknown : Option Value → ℕ
unknown None = 1
unknown (Some v) = 0

-- One, if the outcome is there and not known.
abbrev pub waits_for : Option KeptOutcome → ℕ
waits_for None = 0
waits_for (Some x) = unknown x.value

-- The Finish of a relay's question is not sent before its Return came, and then the question is gone.
abbrev pub RoleUnsent : Role → Finishing → Type 0
RoleUnsent (role.Direct c) f = Unit {0}
RoleUnsent (role.Relay o) f = IsNotSent f

abbrev pub IsUnsent : Option Question → Type 0
IsUnsent None = Unit {0}
IsUnsent (Some x) = RoleUnsent x.role x.finish

pub record HasOneSource (s : State) : Type 0 where
  pub each : (o : ℕ) → waits_for (map.get s.outcomes o) ≡ sources o s
  pub relays : (q : ℕ) → IsUnsent (map.get s.questions q)
  pub tasks : (k : ℕ) → s.next_task ≤ k → map.get s.tasks k ≡ None

abbrev pub EachHasOneSource : Type 0
EachHasOneSource = (s : State) → IsReached s → HasOneSource s
