-- In each step what came is returned, or it is open then; and a vat that goes down returns no more.
use Rattle.std.proofs.Common.{◌≡◌, ℕ, ◌+◌, true, false, Option, None, Some, IsSome, Result, refl, ap, subst, ◌∙◌, arith}
use Rattle.std.specs.Ordering.{nat_cmp}
use Rattle.std.specs.FinMap as map
use Rattle.rpc_msg.specs.declared.message.PlainMessage.TheVariants as plain
use Rattle.rpc_msg.specs.declared.message.Message.{Message}
use Rattle.rpc_msg.specs.declared.message.Message.TheVariants as message
use Rattle.rpc_machine.specs.declared.command.Command.{Command}
use Rattle.rpc_machine.specs.declared.command.Granted.{Granted}
use Rattle.rpc_machine.specs.declared.command.Refusal.{Refusal}
use Rattle.rpc_machine.specs.declared.command.Effects.{Effects}
use Rattle.rpc_machine.specs.State.{State}
use Rattle.rpc_machine.specs.Numbers.{want_of_room}
use Rattle.rpc_machine.specs.Down.{IsUnchanged, Falls, ShutsFrom, fallen, falling_by}
use Rattle.rpc_machine.specs.Steps.{Obeys, Refuses, LacksMemory, GoesDown, Shuts, IsDone, Receives, WasDown, FaultsBy, LacksRoom, IsHandled}
use Rattle.laws_steps.specs.NodesThere.{IsReached, NodesAreThere}
use Rattle.laws_returns.specs.Counts.{asks, returns_in}
use Rattle.laws_returns.specs.Steps.{open_in, is_open, IsReturned, StepsReturn}
use Rattle.laws_returns.proofs.Returning.{by_command, by_message}

-- Nothing changes.
same : (s : State) (x : Effects) (t : State) (q : ℕ) → IsUnchanged s x t → IsReturned t (open_in q s) (returns_in q x.sends + open_in q t)
same s x t q h = rw (h.effects_are, h.new_is) (omega arith, λ up. omega arith)

-- The vat goes down.
fell : (s : State) (n came : ℕ) (x : Effects) (t : State) (q : ℕ) → returns_in q x.sends ≡ 0 → t ≡ fallen s n → IsReturned t came (returns_in q x.sends + open_in q t)
fell s n came x t q none h =
    rw h (let e = ap is_open (map.get-empty nat_cmp q) in omega (arith, e, none), λ up. absurd (let bad : Some n ≡ None = up in cc))

falls : (s : State) (n came : ℕ) (x : Effects) (t : State) (q : ℕ) → Falls s n x t → IsReturned t came (returns_in q x.sends + open_in q t)
falls s n came x t q h = fell s n came x t q (ap (λ (y : Effects). returns_in q y.sends) h.effects_are) h.new_is

shut : (s : State) (n : ℕ) (d : Option ℕ) (x : Effects) (t : State) (q : ℕ) → ShutsFrom s n d x t → IsReturned t (open_in q s) (returns_in q x.sends + open_in q t)
shut s n None x t q h = falls s n (open_in q s) x t q h
shut s n (Some k) x t q h = same s x t q h

alike : (t : State) (a b : ℕ) → a ≡ b → IsReturned t a b
alike t a b e = (omega (arith, e), λ up. e)

none_returned : (m : Message) (n q : ℕ) → returns_in q (falling_by m n).sends ≡ 0
none_returned (message.Plain (plain.Abort exception)) n q = refl
none_returned (message.Plain (plain.Bootstrap p)) n q = refl
none_returned (message.Plain (plain.Call c)) n q = refl
none_returned (message.Plain (plain.Return r)) n q = refl
none_returned (message.Plain (plain.Finish f)) n q = refl
none_returned (message.Plain (plain.Resolve r)) n q = refl
none_returned (message.Plain (plain.Release r)) n q = refl
none_returned (message.Plain (plain.Disembargo d)) n q = refl
none_returned (message.Plain (plain.Other k)) n q = refl
none_returned (message.Unimplemented p) n q = refl

-- At a vat that is down nothing comes of it.
was_down : (s : State) (m : Message) (x : Effects) (t : State) (q : ℕ) → IsSome s.down → IsUnchanged s x t → IsReturned t (asks q m + open_in q s) (returns_in q x.sends + open_in q t)
was_down s m x t q d h = rw (h.effects_are, h.new_is) (omega arith, λ up. absurd (let bad : false ≡ true = subst IsSome up d in cc))

module _ (there : NodesAreThere) where
  pub commands : (s : State) (c : Command) (a : Result Granted Refusal) (x : Effects) (t : State) → IsReached s → Obeys s c a x t → (q : ℕ) → IsReturned t (open_in q s) (returns_in q x.sends + open_in q t)
  commands s c a x t r (Refuses k f g u) q = same s x t q u
  commands s c a x t r (LacksMemory f g k u) q = same s x t q u
  commands s c a x t r (GoesDown f g k u) q = falls s want_of_room (open_in q s) x t q u
  commands s c a x t r (Shuts n f g h) q = shut s n s.down x t q h
  commands s c a x t r (IsDone given f g h w) q = alike t _ _ (by_command s (there s r).callers.outcomes c given x t h q)

  pub messages : (s : State) (m : Message) (x : Effects) (t : State) → IsReached s → Receives s m x t → (q : ℕ) → IsReturned t (asks q m + open_in q s) (returns_in q x.sends + open_in q t)
  messages s m x t r (WasDown d u) q = was_down s m x t q d u
  messages s m x t r (FaultsBy n d f g h) q = fell s n _ x t q (ap (λ (y : Effects). returns_in q y.sends) g ∙ none_returned m n q) h
  messages s m x t r (LacksRoom d f u) q = falls s want_of_room _ x t q u
  messages s m x t r (IsHandled d f h w) q = alike t _ _ (by_message s (there s r).callers.outcomes m x t f h q)

  pub steps_return : StepsReturn
  steps_return = record { commands = commands; messages = messages }
