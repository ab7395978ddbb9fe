-- No reference, call, task or promise gets a number that was another's before (docs/protocol.md, "What a
-- vat holds").
use Rattle.std.specs.Prelude.{◌≡◌, ℕ, ◌<◌, ◌≤◌, Option, None}
use Rattle.std.specs.FinMap as map
use Rattle.laws_acts.specs.rpc_msg.specs.declared.ids.Vat.{Vat}
use Rattle.laws_acts.specs.rpc_msg.specs.declared.ids.ObjectId.{ObjectId}
use Rattle.finite_maps.specs.Tally.{Map}
use Rattle.laws_acts.specs.rpc_machine.specs.declared.command.Level.{Level}
use Rattle.laws_acts.specs.rpc_machine.specs.declared.command.Effects.{Effects}
use Rattle.laws_acts.specs.rpc_machine.specs.State.{State, start}
use Rattle.laws_acts.specs.rpc_machine.specs.Laws.{OfEachStep}

-- No entry has that number, or a greater one.
abbrev pub AllBelow : {X : Type 0} → Map X → ℕ → Type 0
AllBelow m next = (k : ℕ) → next ≤ k → map.get m k ≡ None

-- So each next number is free.
pub record NoneToCome (s : State) : Type 0 where
  pub refs : AllBelow s.refs s.next_ref
  pub calls : AllBelow s.calls s.next_call
  pub tasks : AllBelow s.tasks s.next_task
  pub promises : AllBelow s.unsettled s.next_promise

-- A number that was given and has no entry has none from then on.
abbrev pub NoneAgain : {X : Type 0} → Map X → ℕ → Map X → Type 0
NoneAgain m next n = (k : ℕ) → k < next → map.get m k ≡ None → map.get n k ≡ None

pub record StaysGone (s t : State) : Type 0 where
  pub refs : NoneAgain s.refs s.next_ref t.refs
  pub calls : NoneAgain s.calls s.next_call t.calls
  pub tasks : NoneAgain s.tasks s.next_task t.tasks
  pub promises : NoneAgain s.unsettled s.next_promise t.unsettled

abbrev pub KeepsNext : State → Effects → State → Type 0
KeepsNext s effects t = NoneToCome s → NoneToCome t

abbrev pub KeepsGone : State → Effects → State → Type 0
KeepsGone s effects t = StaysGone s t

-- While a vat is up its next numbers only rise, so no number is given twice. (One that is down gives none.)
abbrev pub NumbersRise : State → Effects → State → Type 0
NumbersRise s effects t = t.down ≡ None → (s.next_ref ≤ t.next_ref) × (s.next_call ≤ t.next_call) × (s.next_task ≤ t.next_task) × (s.next_promise ≤ t.next_promise)

-- No number is used twice.
pub record NumbersUsedOnce : Type 0 where
  pub start : (vat : Vat) (level : Level) (bootstrap : Option ObjectId) → NoneToCome (start vat level bootstrap)
  pub free : OfEachStep KeepsNext
  pub gone : OfEachStep KeepsGone
