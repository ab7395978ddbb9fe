-- A vat that is down stays as it is, and sends nothing.
use Rattle.std.proofs.Common.{◌≡◌, ℕ, Bool, true, false, not, ◌&&◌, List, [], ◌∷◌, ◌++◌, Option, None, Some, is_some, Result, refl}
use Rattle.rpc_journal.specs.rpc_msg.specs.declared.message.Message.{Message}
use Rattle.rpc_machine.specs.declared.command.Command.{Command}
use Rattle.rpc_machine.specs.declared.command.Command.TheVariants as command
use Rattle.rpc_machine.specs.declared.command.Granted.{Granted}
use Rattle.rpc_machine.specs.declared.command.Refusal.{Refusal}
use Rattle.rpc_machine.specs.declared.command.Refusal.TheVariants as refusal
use Rattle.rpc_machine.specs.declared.command.Effects.{Effects}
use Rattle.rpc_machine.specs.State.{State}
use Rattle.rpc_machine.specs.Progress.{Progress, begin}
use Rattle.rpc_journal.specs.History.{if_so}
use Rattle.rpc_machine.specs.Lists.{earliest}
use Rattle.rpc_machine.specs.Refusals.{refusals, is_shut, without_room}
use Rattle.rpc_machine.specs.Commands.{Acts}
use Rattle.rpc_machine.specs.Down.{IsUnchanged, ShutsFrom}
use Rattle.rpc_machine.specs.Steps.{MayFall, Obeys, Refuses, LacksMemory, GoesDown, Shuts, IsDone, Receives, WasDown, FaultsBy, LacksRoom, IsHandled}

pub acts_no_shut : (d : Progress) (c : Command) (g : Granted) (new : Progress) → Acts d c g new → is_shut c ≡ false
acts_no_shut d (command.Shut n) g new h = absurd h
acts_no_shut d (command.Host o) g new h = refl
acts_no_shut d (command.CloneRef r) g new h = refl
acts_no_shut d (command.DropRef r) g new h = refl
acts_no_shut d command.Bootstrap g new h = refl
acts_no_shut d (command.Call c) g new h = refl
acts_no_shut d (command.Field c path) g new h = refl
acts_no_shut d command.Promise g new h = refl
acts_no_shut d (command.Resolve p r) g new h = refl
acts_no_shut d (command.Reject p x) g new h = refl
acts_no_shut d (command.Answer t p rs) g new h = refl
acts_no_shut d (command.Fail t x) g new h = refl
acts_no_shut d (command.Finish c) g new h = refl
acts_no_shut d (command.Advance r) g new h = refl

pub falls_no_shut : (c : Command) → MayFall c → is_shut c ≡ false
falls_no_shut (command.Resolve p r) h = refl
falls_no_shut (command.Reject p x) h = refl
falls_no_shut (command.Answer t p rs) h = refl
falls_no_shut (command.Fail t x) h = refl
falls_no_shut c h = absurd h

pub not_open : (b c : Bool) (cs : List (Option Refusal)) → b ≡ true → c ≡ false → earliest (if_so (b && not c) refusal.Down ∷ cs) ≡ None → ⊥
not_open true false cs p q e = cc
not_open true true cs p q e = cc
not_open false c cs p q e = cc

shut : (s : State) (n : ℕ) (o : Option ℕ) (x : Effects) (new : State) → is_some o ≡ true → ShutsFrom s n o x new → IsUnchanged s x new
shut s n None x new e h = cc
shut s n (Some m) x new e h = h

pub command_down : (s : State) (c : Command) (a : Result Granted Refusal) (x : Effects) (new : State) → is_some s.down ≡ true → Obeys s c a x new → IsUnchanged s x new
command_down s c a x new e (Refuses r f g u) = u
command_down s c a x new e (LacksMemory f g k u) = u
command_down s c a x new e (GoesDown f g k u) = absurd (not_open (is_some s.down) (is_shut c) (refusals s c ++ without_room s c ∷ []) e (falls_no_shut c g) f)
command_down s c a x new e (Shuts n f g h) = shut s n s.down x new e h
command_down s c a x new e (IsDone given f g h w) = absurd (not_open (is_some s.down) (is_shut c) (refusals s c ++ without_room s c ∷ []) e (acts_no_shut (begin s) c given h.acted h.acts) f)

up : (o : Option ℕ) → is_some o ≡ true → o ≡ None → ⊥
up None e f = cc
up (Some n) e f = cc

pub receive_down : (s : State) (m : Message) (x : Effects) (new : State) → is_some s.down ≡ true → Receives s m x new → IsUnchanged s x new
receive_down s m x new e (WasDown d u) = u
receive_down s m x new e (FaultsBy n d f g h) = absurd (up s.down e d)
receive_down s m x new e (LacksRoom d f u) = absurd (up s.down e d)
receive_down s m x new e (IsHandled d f h w) = absurd (up s.down e d)
