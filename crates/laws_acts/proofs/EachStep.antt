-- How a law of every step is proved by acts: it holds of the first act, each act keeps it, and it is read off the end.
use Rattle.std.proofs.Common.{◌≡◌, ℕ, Option, None, Some, Result}
use Rattle.rpc_machine.specs.rpc_msg.specs.declared.message.Message.{Message}
use Rattle.rpc_machine.specs.declared.command.Command.{Command}
use Rattle.rpc_machine.specs.declared.command.Granted.{Granted}
use Rattle.rpc_machine.specs.declared.command.Refusal.{Refusal}
use Rattle.rpc_machine.specs.declared.command.Effects.{Effects}
use Rattle.rpc_machine.specs.State.{State}
use Rattle.rpc_machine.specs.Progress.{quiet}
use Rattle.rpc_machine.specs.Numbers.{want_of_room}
use Rattle.rpc_machine.specs.Down.{IsUnchanged, ShutsFrom, fallen}
use Rattle.rpc_machine.specs.Refusals.{refused}
use Rattle.rpc_machine.specs.Faults.{fault_of}
use Rattle.rpc_machine.specs.Steps.{staying_up, Does, Handles, Obeys, Refuses, LacksMemory, GoesDown, Shuts, IsDone, Receives, WasDown, FaultsBy, LacksRoom, IsHandled}
use Rattle.rpc_machine.specs.Laws.{OfEachStep}
use Rattle.laws_acts.specs.Moments.{Moment, beginning}
use Rattle.laws_acts.specs.FirstActs.{Starts}
use Rattle.laws_acts.specs.MessageActs.{Consumes}
use Rattle.laws_acts.specs.SmallActs.{Act, Acts, NoMore, Then, IsEnd}
use Rattle.laws_acts.proofs.Commanded.{does}
use Rattle.laws_acts.proofs.Received.{handles}

-- What each act keeps, all keep.
pub kept : (P : Moment → Type 0) → ((d new : Moment) → P d → Act d new → P new) → (last d : Moment) → Acts last d → P d → P last
kept P f last d NoMore h = h
kept P f last d (Then {mid = mid} a rest) h = kept P f last mid rest (f d mid h a)

-- Where a step ended that was not refused and did not fall.
pub record Ended (P : Moment → Type 0) (x : Effects) (t : State) : Type 0 where
  pub last : Moment
  pub holds : P last
  pub ends : IsEnd last x t

-- For a law of one command, or of one message.
pub done : (P : Moment → Type 0) (s : State) (c : Command) (g : Granted) (x : Effects) (t : State) → ((new : Moment) → Starts (beginning s) c g new → P new) → ((d new : Moment) → P d → Act d new → P new) → Does s c g x t → Ended P x t
done P s c g x t first f h =
    let k = does s c g x t h in
    record { last = k.last; holds = kept P f k.last k.started k.acts (first k.started k.starts); ends = k.ends }

pub handled : (P : Moment → Type 0) (s : State) (m : Message) (x : Effects) (t : State) → fault_of s m ≡ None → ((new : Moment) → Consumes (beginning s) m new → P new) → ((d new : Moment) → P d → Act d new → P new) → Handles s m x t → Ended P x t
handled P s m x t free first f h =
    let k = handles s m x t free h in
    record { last = k.last; holds = kept P f k.last k.consumed k.acts (first k.consumed k.consumes); ends = k.ends }

-- What is so at the end is so of the step.
pub at_end : (Q : State → Effects → Type 0) (last : Moment) (x : Effects) (t : State) → IsEnd last x t → Q last.state (staying_up last.effects) → Q t x
at_end Q last x t h q = rw (h.state, h.effects) q

-- For one of every step: P says what holds of the moments of a step that began with a state, and R what holds of the step.
pub record IsLaw (P : State → Moment → Type 0) (R : State → Effects → State → Type 0) : Type 0 where
  pub starts : (s : State) (c : Command) (g : Granted) (new : Moment) → refused s c ≡ None → Starts (beginning s) c g new → P s new
  pub consumes : (s : State) (m : Message) (new : Moment) → fault_of s m ≡ None → Consumes (beginning s) m new → P s new
  pub act : (s : State) (d new : Moment) → P s d → Act d new → P s new
  pub ends : (s : State) (last : Moment) (x : Effects) (t : State) → P s last → IsEnd last x t → R s x t
  pub stays : (s : State) → R s quiet s
  pub falls : (s : State) (n : ℕ) (x : Effects) → R s x (fallen s n)

module _ {P : State → Moment → Type 0} {R : State → Effects → State → Type 0} (law : IsLaw P R) where
  unchanged : (s : State) (x : Effects) (t : State) → IsUnchanged s x t → R s x t
  unchanged s x t h = rw (h.effects_are, h.new_is) (law.stays s)

  fell : (s : State) (n : ℕ) (x : Effects) (t : State) → t ≡ fallen s n → R s x t
  fell s n x t h = rw h (law.falls s n x)

  shut : (s : State) (n : ℕ) (o : Option ℕ) (x : Effects) (t : State) → ShutsFrom s n o x t → R s x t
  shut s n None x t h = fell s n x t h.new_is
  shut s n (Some k) x t h = unchanged s x t h

  of_command : (s : State) (c : Command) (a : Result Granted Refusal) (x : Effects) (t : State) → Obeys s c a x t → R s x t
  of_command s c a x t (Refuses r f g u) = unchanged s x t u
  of_command s c a x t (LacksMemory f g k u) = unchanged s x t u
  of_command s c a x t (GoesDown f g k u) = fell s want_of_room x t u.new_is
  of_command s c a x t (Shuts n f g h) = shut s n s.down x t h
  of_command s c a x t (IsDone given f g h w) =
      let k = done (P s) s c given x t (λ new i. law.starts s c given new f i) (λ d new i j. law.act s d new i j) h in
      law.ends s k.last x t k.holds k.ends

  of_message : (s : State) (m : Message) (x : Effects) (t : State) → Receives s m x t → R s x t
  of_message s m x t (WasDown d u) = unchanged s x t u
  of_message s m x t (FaultsBy n d f g h) = fell s n x t h
  of_message s m x t (LacksRoom d f u) = fell s want_of_room x t u.new_is
  of_message s m x t (IsHandled d f h w) =
      let k = handled (P s) s m x t f (λ new i. law.consumes s m new f i) (λ a new i j. law.act s a new i j) h in
      law.ends s k.last x t k.holds k.ends

  pub of_each_step : OfEachStep R
  of_each_step = record { commands = of_command; messages = of_message }
