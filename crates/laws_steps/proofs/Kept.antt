-- What a new vat has, and every step and fall leaves, each state has to which a vat comes.
use Rattle.std.proofs.Common.{ℕ, Option}
use Rattle.laws_acts.specs.rpc_msg.specs.declared.ids.Vat.{Vat}
use Rattle.laws_acts.specs.rpc_msg.specs.declared.ids.ObjectId.{ObjectId}
use Rattle.laws_acts.specs.rpc_machine.specs.declared.command.Level.{Level}
use Rattle.laws_acts.specs.rpc_machine.specs.State.{State, start}
use Rattle.laws_acts.specs.rpc_machine.specs.Down.{fallen}
use Rattle.laws_acts.specs.rpc_machine.specs.Laws.{OfEachStep}
use Rattle.laws_steps.specs.NodesThere.{ComesTo, Stays, Commanded, Received, Fell, IsReached}

pub record IsKept (Q : State → Type 0) : Type 0 where
  pub starts : (vat : Vat) (level : Level) (bootstrap : Option ObjectId) → Q (start vat level bootstrap)
  pub steps : OfEachStep (λ s x t. Q s → Q t)
  pub falls : (s : State) (n : ℕ) → Q (fallen s n)

module _ {Q : State → Type 0} (law : IsKept Q) where
  comes : (last s : State) → ComesTo last s → Q s → Q last
  comes last s Stays h = h
  comes last s (Commanded {mid = mid} c a x o more) h = comes last mid more (law.steps.commands s c a x mid o h)
  comes last s (Received {mid = mid} m x o more) h = comes last mid more (law.steps.messages s m x mid o h)
  comes last s (Fell n more) h = comes last (fallen s n) more (law.falls s n)

  pub in_each : (s : State) → IsReached s → Q s
  in_each s h = comes s (start h.0 h.1 h.2) h.3 (law.starts h.0 h.1 h.2)
