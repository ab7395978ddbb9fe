-- What received messages do.
use Rattle.std.proofs.Common.{◌≡◌, inl, inr, ℕ, Bool, true, false, None, Some, refl, sym, ap, subst, ◌∙◌}
use Rattle.rpc_msg.specs.declared.exception.Exception.{Exception}
use Rattle.rpc_msg.specs.declared.message.PlainMessage.TheVariants as plain
use Rattle.rpc_msg.specs.declared.message.Message.{Message}
use Rattle.rpc_msg.specs.declared.message.Message.TheVariants as message
use Rattle.rpc_machine.specs.declared.fault.Fault.{Fault}
use Rattle.rpc_machine.specs.declared.command.Level.{Level}
use Rattle.rpc_machine.specs.declared.command.Level.TheVariants.{Zero, One}
use Rattle.rpc_machine.specs.declared.command.Effects.{Effects}
use Rattle.rpc_machine.specs.State.{State}
use Rattle.rpc_machine.specs.Progress.{Progress, begin}
use Rattle.rpc_machine.specs.Numbers.{fault_number, peer_abort}
use Rattle.rpc_machine.specs.Down.{silent, falling, falling_by, fallen}
use Rattle.rpc_machine.specs.Faults.{is_foreign, unless_foreign, fault_of}
use Rattle.rpc_machine.specs.Messages.{Takes}
use Rattle.rpc_machine.specs.Settling.{Drains}
use Rattle.rpc_machine.specs.Limits.{IsWithin}
use Rattle.rpc_machine.specs.Steps.{Ends, Receives, IsHandled, MayLackRoom, FaultsBy, LacksRoom}
use Rattle.core_step_messages.specs.Stopping.{StopsBy}
use Rattle.core_steps.specs.Aborts.{is_abort}
use Rattle.core_steps.specs.Whole.{WasTaken}

-- A message that is no Abort may want room, and its fault is told the other vat.
others : (m : Message) → is_abort m ≡ false → MayLackRoom m × ((n : ℕ) → falling_by m n ≡ falling n)
others (message.Plain (plain.Abort e)) other = absurd (let bad : true ≡ false = other in cc)
others (message.Plain (plain.Bootstrap q)) other = (tt, λ n. refl)
others (message.Plain (plain.Call c)) other = (tt, λ n. refl)
others (message.Plain (plain.Return r)) other = (tt, λ n. refl)
others (message.Plain (plain.Finish f)) other = (tt, λ n. refl)
others (message.Plain (plain.Resolve r)) other = (tt, λ n. refl)
others (message.Plain (plain.Release r)) other = (tt, λ n. refl)
others (message.Plain (plain.Disembargo d)) other = (tt, λ n. refl)
others (message.Plain (plain.Other k)) other = (tt, λ n. refl)
others (message.Unimplemented m) other = (tt, λ n. refl)

-- An Abort is a fault at every level, and isn't answered.
own : (l : Level) (e : Exception) → is_foreign l (plain.Abort e) ≡ false
own Zero e = refl
own One e = refl

an_abort : (m : Message) → is_abort m ≡ true → ((s : State) → fault_of s m ≡ Some peer_abort) × ((n : ℕ) → falling_by m n ≡ silent n)
an_abort (message.Plain (plain.Abort e)) is = (λ s. ap (λ (b : Bool). unless_foreign b (Some peer_abort)) (own s.level e), λ n. refl)
an_abort (message.Plain (plain.Bootstrap q)) is = absurd (let bad : false ≡ true = is in cc)
an_abort (message.Plain (plain.Call c)) is = absurd (let bad : false ≡ true = is in cc)
an_abort (message.Plain (plain.Return r)) is = absurd (let bad : false ≡ true = is in cc)
an_abort (message.Plain (plain.Finish f)) is = absurd (let bad : false ≡ true = is in cc)
an_abort (message.Plain (plain.Resolve r)) is = absurd (let bad : false ≡ true = is in cc)
an_abort (message.Plain (plain.Release r)) is = absurd (let bad : false ≡ true = is in cc)
an_abort (message.Plain (plain.Disembargo d)) is = absurd (let bad : false ≡ true = is in cc)
an_abort (message.Plain (plain.Other k)) is = absurd (let bad : false ≡ true = is in cc)
an_abort (message.Unimplemented m) is = absurd (let bad : false ≡ true = is in cc)

pub aborted : (s new : State) (m : Message) (effects : Effects) → s.down ≡ None → is_abort m ≡ true → effects ≡ silent peer_abort → new ≡ fallen s peer_abort → Receives s m effects new
aborted s new m effects up is says leaves = FaultsBy peer_abort up ((an_abort m is).0 s) (says ∙ sym ((an_abort m is).1 peer_abort)) leaves

-- Any other fault, or want of room, is told the other vat.
pub fell : (s new : State) (m : Message) (effects : Effects) (f : Fault) → s.down ≡ None → is_abort m ≡ false → StopsBy s m f → effects ≡ falling (fault_number f) → new ≡ fallen s (fault_number f)
    → Receives s m effects new
fell s new m effects f up other (inl found) says leaves = FaultsBy (fault_number f) up found (says ∙ sym ((others m other).1 (fault_number f))) leaves
fell s new m effects f up other (inr lacks) says leaves =
    LacksRoom up lacks.1 (record { effects_are = says ∙ ap (λ (x : Fault). falling (fault_number x)) lacks.0; new_is = leaves ∙ ap (λ (x : Fault). fallen s (fault_number x)) lacks.0 })

-- The message is taken, from a step that just began, and what arose is settled.
pub settled : (s : State) (m : Message) (d taken now : Progress) → d ≡ begin s → Takes d m taken → Drains now taken → WasTaken s m now
settled s m d taken now began takes drains = (taken, subst (λ (x : Progress). Takes x m taken) began takes, drains)

-- The step ends then, within the limits.
pub ended : (s : State) (m : Message) (now : Progress) (effects : Effects) (new : State) → s.down ≡ None → fault_of s m ≡ None → WasTaken s m now → ((taken : Progress) → Drains now taken → Ends taken effects new) → IsWithin new → Receives s m effects new
ended s m now effects new up none (taken, takes, drains) ends within = IsHandled up none (record { taken = taken; takes = takes; ends = ends taken drains }) within
