-- In each step a vat asks and finishes in turn, and so in each run.
use Rattle.std.proofs.Common.{◌≡◌, ℕ, Bool, false, List, [], ◌++◌, Option, None, Some, IsSome, Result, refl, sym, ap, subst, ◌∙◌}
use Rattle.std.specs.Ordering.{nat_cmp}
use Rattle.std.specs.FinMap as map
use Rattle.rpc_msg.specs.declared.message.PlainMessage.TheVariants as plain
use Rattle.rpc_msg.specs.declared.message.Message.{Message}
use Rattle.rpc_msg.specs.declared.message.Message.TheVariants as message
use Rattle.rpc_machine.specs.declared.command.Command.{Command}
use Rattle.rpc_machine.specs.declared.command.Granted.{Granted}
use Rattle.rpc_machine.specs.declared.command.Refusal.{Refusal}
use Rattle.rpc_machine.specs.declared.command.Effects.{Effects}
use Rattle.rpc_machine.specs.State.{State}
use Rattle.rpc_machine.specs.Numbers.{want_of_room}
use Rattle.rpc_machine.specs.Down.{IsUnchanged, Falls, ShutsFrom, fallen, falling_by}
use Rattle.rpc_machine.specs.Steps.{Obeys, Refuses, LacksMemory, GoesDown, Shuts, IsDone, Receives, WasDown, FaultsBy, LacksRoom, IsHandled}
use Rattle.rpc_machine.proofs.StaysDown.{command_down, receive_down}
use Rattle.laws_asking.specs.Turns.{AsksInTurn, BringsNoneBack, StepsAskInTurn, TurnsAll, is_unfinished, unfinished}
use Rattle.laws_asking.specs.Heard.{Says, New, Commanded, Received, Fell}
use Rattle.laws_asking.proofs.Asking.{by_command, by_message, turns-append}

-- ---- Steps

same : (s : State) (x : Effects) (t : State) → IsUnchanged s x t → AsksInTurn s x t
same s x t h q = rw (h.effects_are, h.new_is) (unfinished q s, refl, λ up. refl)

-- It says nothing, or an Abort alone.
abbrev IsQuiet : List Message → Type 0
IsQuiet ms = (q : ℕ) (b : Bool) → TurnsAll q b ms b

fell : (s : State) (n : ℕ) (x : Effects) (t : State) → IsQuiet x.sends → t ≡ fallen s n → AsksInTurn s x t
fell s n x t quiet h q = (unfinished q s, quiet q (unfinished q s), λ up. absurd (let bad : Some n ≡ None = sym (ap (λ (w : State). w.down) h) ∙ up in cc))

falls : (s : State) (n : ℕ) (x : Effects) (t : State) → Falls s n x t → AsksInTurn s x t
falls s n x t h = fell s n x t (λ q b. subst (λ (y : Effects). TurnsAll q b y.sends b) (sym h.effects_are) (b, refl, refl)) h.new_is

shut : (s : State) (n : ℕ) (d : Option ℕ) (x : Effects) (t : State) → ShutsFrom s n d x t → AsksInTurn s x t
shut s n None x t h = falls s n x t h
shut s n (Some k) x t h = same s x t h

quiet_fall : (m : Message) (n : ℕ) → IsQuiet (falling_by m n).sends
quiet_fall (message.Plain (plain.Abort exception)) n q b = refl
quiet_fall (message.Plain (plain.Bootstrap p)) n q b = (b, refl, refl)
quiet_fall (message.Plain (plain.Call c)) n q b = (b, refl, refl)
quiet_fall (message.Plain (plain.Return r)) n q b = (b, refl, refl)
quiet_fall (message.Plain (plain.Finish f)) n q b = (b, refl, refl)
quiet_fall (message.Plain (plain.Resolve r)) n q b = (b, refl, refl)
quiet_fall (message.Plain (plain.Release r)) n q b = (b, refl, refl)
quiet_fall (message.Plain (plain.Disembargo d)) n q b = (b, refl, refl)
quiet_fall (message.Plain (plain.Other k)) n q b = (b, refl, refl)
quiet_fall (message.Unimplemented p) n q b = (b, refl, refl)

commands : (s : State) (c : Command) (a : Result Granted Refusal) (x : Effects) (t : State) → Obeys s c a x t → AsksInTurn s x t
commands s c a x t (Refuses k f g u) = same s x t u
commands s c a x t (LacksMemory f g k u) = same s x t u
commands s c a x t (GoesDown f g k u) = falls s want_of_room x t u
commands s c a x t (Shuts n f g h) = shut s n s.down x t h
commands s c a x t (IsDone given f g h w) = λ q. (unfinished q t, by_command s c given x t h q, λ up. refl)

messages : (s : State) (m : Message) (x : Effects) (t : State) → BringsNoneBack m → Receives s m x t → AsksInTurn s x t
messages s m x t none (WasDown d u) = same s x t u
messages s m x t none (FaultsBy n d f g h) = fell s n x t (λ q b. subst (λ (y : Effects). TurnsAll q b y.sends b) (sym g) (quiet_fall m n q b)) h
messages s m x t none (LacksRoom d f u) = falls s want_of_room x t u
messages s m x t none (IsHandled d f h w) = λ q. (unfinished q t, by_message s m x t none f h q, λ up. refl)

pub steps_ask_in_turn : StepsAskInTurn
steps_ask_in_turn = record { commands = commands; messages = messages }

-- ---- Runs

abbrev pub Turned : State → List Message → Type 0
Turned s said = (q : ℕ) → (after : Bool) × TurnsAll q false said after × (s.down ≡ None → after ≡ unfinished q s)

-- What a vat that is down says: nothing.
unchanged : (s : State) (x : Effects) (t : State) (said : List Message) → IsUnchanged s x t → Turned s said → Turned t (said ++ x.sends)
unchanged s x t said h k q = rw (h.effects_are, h.new_is) (let i = k q in (i.0, turns-append q false i.0 i.0 said [] i.1 refl, i.2))

further : (s : State) (x : Effects) (t : State) (said : List Message) → s.down ≡ None → AsksInTurn s x t → Turned s said → Turned t (said ++ x.sends)
further s x t said up step k q =
    let i = k q in
    let n = step q in
    (n.0, turns-append q false (unfinished q s) n.0 said x.sends (subst (λ (c : Bool). TurnsAll q false said c) (i.2 up) i.1) n.1, n.2)

by_down : (s : State) (x : Effects) (t : State) (said : List Message) (d : Option ℕ) → s.down ≡ d → (IsSome s.down → IsUnchanged s x t) → AsksInTurn s x t → Turned s said → Turned t (said ++ x.sends)
by_down s x t said None e down step k = further s x t said e step k
by_down s x t said (Some n) e down step k = unchanged s x t said (down (subst IsSome (sym e) refl)) k

pub turned : (s : State) (said : List Message) → Says s said → Turned s said
turned _ _ (New v l b) = λ q. (false, refl, λ up. sym (ap is_unfinished (map.get-empty nat_cmp q)))
turned t _ (Commanded {s = s} {said = said} c a x run o) = by_down s x t said s.down refl (λ d. command_down s c a x t d o) (commands s c a x t o) (turned s said run)
turned t _ (Received {s = s} {said = said} m x run none o) = by_down s x t said s.down refl (λ d. receive_down s m x t d o) (messages s m x t none o) (turned s said run)
turned _ _ (Fell {s = s} {said = said} n run) = λ q. let i = turned s said run q in (i.0, i.1, λ up. absurd (let bad : Some n ≡ None = up in cc))
