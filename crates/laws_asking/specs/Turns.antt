-- A vat asks by an id and finishes that question, in turn (rpc.capnp, Call.questionId and Finish).
use Rattle.std.specs.Prelude.{◌≡◌, ℕ, Bool, true, false, nat_eq, Option, None, Some, List, [], ◌∷◌, Result}
use Rattle.std.specs.FinMap as map
use Rattle.rpc_msg.specs.declared.message.PlainMessage.{PlainMessage}
use Rattle.rpc_msg.specs.declared.message.PlainMessage.TheVariants as plain
use Rattle.rpc_msg.specs.declared.message.Message.{Message}
use Rattle.rpc_msg.specs.declared.message.Message.TheVariants as message
use Rattle.rpc_machine.specs.declared.command.Command.{Command}
use Rattle.rpc_machine.specs.declared.command.Granted.{Granted}
use Rattle.rpc_machine.specs.declared.command.Refusal.{Refusal}
use Rattle.rpc_machine.specs.declared.command.Effects.{Effects}
use Rattle.rpc_machine.specs.declared.entries.Finishing.{Finishing}
use Rattle.rpc_machine.specs.declared.entries.Finishing.TheVariants as finishing
use Rattle.rpc_machine.specs.declared.entries.Question.{Question}
use Rattle.rpc_machine.specs.State.{State}
use Rattle.rpc_machine.specs.Steps.{Obeys, Receives}

-- ---- One id, in the messages of its vat

-- It asks that question, if it is that: none is unfinished before.
abbrev pub Asks : Bool → Bool → Bool → Type 0
Asks true before after = (before ≡ false) × (after ≡ true)
Asks false before after = after ≡ before

-- It finishes that question, if it is that.
abbrev pub Ends : Bool → Bool → Bool → Type 0
Ends true before after = (before ≡ true) × (after ≡ false)
Ends false before after = after ≡ before

-- A message, with whether the question is unfinished before and after it.
abbrev pub TurnsPlain : ℕ → Bool → PlainMessage → Bool → Type 0
TurnsPlain q before (plain.Abort exception) after = after ≡ before
TurnsPlain q before (plain.Bootstrap p) after = Asks (nat_eq q p.0) before after
TurnsPlain q before (plain.Call c) after = Asks (nat_eq q c.question.0) before after
TurnsPlain q before (plain.Return r) after = after ≡ before
TurnsPlain q before (plain.Finish f) after = Ends (nat_eq q f.question.0) before after
TurnsPlain q before (plain.Resolve r) after = after ≡ before
TurnsPlain q before (plain.Release r) after = after ≡ before
TurnsPlain q before (plain.Disembargo d) after = after ≡ before
TurnsPlain q before (plain.Other n) after = after ≡ before

abbrev pub Turns : ℕ → Bool → Message → Bool → Type 0
Turns q before (message.Plain m) after = TurnsPlain q before m after
Turns q before (message.Unimplemented m) after = after ≡ before

-- messages in order
abbrev pub TurnsAll : ℕ → Bool → List Message → Bool → Type 0
TurnsAll q before [] after = after ≡ before
TurnsAll q before (m ∷ ms) after = (mid : Bool) × Turns q before m mid × TurnsAll q mid ms after

-- ---- A step

-- Its Finish was not sent, and is to be sent.
abbrev pub owes_finish : Finishing → Bool
owes_finish finishing.Owed = true
owes_finish finishing.Sent = false
owes_finish finishing.Waived = false

abbrev pub is_unfinished : Option Question → Bool
is_unfinished None = false
is_unfinished (Some x) = owes_finish x.finish

abbrev pub unfinished : ℕ → State → Bool
unfinished q s = is_unfinished (map.get s.questions q)

-- The vat asks and finishes in turn. One that goes down says no more.
abbrev pub AsksInTurn : State → Effects → State → Type 0
AsksInTurn s x t = (q : ℕ) → (after : Bool) × TurnsAll q (unfinished q s) x.sends after × (t.down ≡ None → after ≡ unfinished q t)

-- No question of the vat comes back as not understood: no Finish would go then (rpc.capnp, Message.unimplemented).
abbrev pub IsNoQuestion : PlainMessage → Type 0
IsNoQuestion (plain.Abort exception) = Unit {0}
IsNoQuestion (plain.Bootstrap p) = ⊥
IsNoQuestion (plain.Call c) = ⊥
IsNoQuestion (plain.Return r) = Unit {0}
IsNoQuestion (plain.Finish f) = Unit {0}
IsNoQuestion (plain.Resolve r) = Unit {0}
IsNoQuestion (plain.Release r) = Unit {0}
IsNoQuestion (plain.Disembargo d) = Unit {0}
IsNoQuestion (plain.Other n) = Unit {0}

abbrev pub BringsNoneBack : Message → Type 0
BringsNoneBack (message.Plain m) = Unit {0}
BringsNoneBack (message.Unimplemented m) = IsNoQuestion m

pub record StepsAskInTurn : Type 0 where
  pub commands : (s : State) (c : Command) (answer : Result Granted Refusal) (x : Effects) (t : State) → Obeys s c answer x t → AsksInTurn s x t
  pub messages : (s : State) (m : Message) (x : Effects) (t : State) → BringsNoneBack m → Receives s m x t → AsksInTurn s x t
