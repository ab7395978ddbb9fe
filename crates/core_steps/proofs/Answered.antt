-- What whole commands answer.
use Rattle.std.proofs.Common.{◌≡◌, ℕ, Bool, true, false, not, ◌&&◌, is_some, [], ◌∷◌, ◌++◌, Option, None, Some, Ok, Err, refl, subst}
use Rattle.rpc_journal.specs.History.{if_so, or_rest}
use Rattle.rpc_machine.specs.declared.command.Command.{Command}
use Rattle.rpc_machine.specs.declared.command.Granted.{Granted}
use Rattle.rpc_machine.specs.declared.command.Granted.TheVariants as granted
use Rattle.rpc_machine.specs.declared.command.Refusal.{Refusal}
use Rattle.rpc_machine.specs.declared.command.Refusal.TheVariants as refusal
use Rattle.rpc_machine.specs.declared.command.Effects.{Effects}
use Rattle.rpc_machine.specs.State.{State}
use Rattle.rpc_machine.specs.Progress.{Progress, begin, quiet}
use Rattle.rpc_machine.specs.Numbers.{want_of_room}
use Rattle.rpc_machine.specs.Lists.{earliest}
use Rattle.rpc_machine.specs.Limits.{IsWithin}
use Rattle.rpc_machine.specs.Down.{falling, fallen}
use Rattle.rpc_machine.specs.Refusals.{is_shut, refusals, without_room, refused}
use Rattle.rpc_machine.specs.Commands.{Acts}
use Rattle.rpc_machine.specs.Settling.{Drains}
use Rattle.rpc_machine.specs.Steps.{Ends, Does, Obeys, GoesDown, LacksMemory, IsDone, MayFall, MayLackMemory}
use Rattle.core_steps.specs.Whole.{WasDone}

up_of : (o : Option ℕ) (b : Bool) (rest : Option Refusal) → b ≡ false → or_rest (if_so (is_some o && not b) refusal.Down) rest ≡ None → o ≡ None
up_of None b rest other free = refl
up_of (Some n) true rest other free = absurd (let bad : true ≡ false = other in cc)
up_of (Some n) false rest other free = absurd (let bad : Some refusal.Down ≡ None = free in cc)

-- A command that is not refused finds the vat up.
pub is_up : (s : State) (c : Command) → is_shut c ≡ false → refused s c ≡ None → s.down ≡ None
is_up s c other free = up_of s.down (is_shut c) (earliest (refusals s c ++ without_room s c ∷ [])) other free

-- The first act of a step that just began, and its end.
pub does : (s : State) (c : Command) (g : Granted) (d acted : Progress) (effects : Effects) (new : State) → d ≡ begin s → Acts d c g acted → Ends acted effects new → Does s c g effects new
does s c g d acted effects new began acts ends = record { acted = acted; acts = subst (λ (x : Progress). Acts x c g acted) began acts; ends = ends }

-- It is done, within the limits.
pub done : (s : State) (c : Command) (g : Granted) (effects : Effects) (new : State) → refused s c ≡ None → Does s c g effects new → IsWithin new → Obeys s c (Ok g) effects new
done s c g effects new free does within = IsDone g free refl does within

-- The first act of a step that just began, and what arose is settled.
pub settled : (s : State) (c : Command) (g : Granted) (d acted now : Progress) → d ≡ begin s → Acts d c g acted → Drains now acted → WasDone s c g now
settled s c g d acted now began acts drains = (acted, subst (λ (x : Progress). Acts x c g acted) began acts, drains)

-- The step of it ends then, within the limits.
pub ended : (s : State) (c : Command) (g : Granted) (now : Progress) (effects : Effects) (new : State) → refused s c ≡ None → WasDone s c g now → ((acted : Progress) → Drains now acted → Ends acted effects new) → IsWithin new → Obeys s c (Ok g) effects new
ended s c g now effects new free (acted, acts, drains) ends within = done s c g effects new free (record { acted = acted; acts = acts; ends = ends acted drains }) within

-- It takes the vat down.
pub fell : (s : State) (c : Command) (effects : Effects) (new : State) → refused s c ≡ None → MayFall c → effects ≡ falling want_of_room → new ≡ fallen s want_of_room → Obeys s c (Ok granted.Done) effects new
fell s c effects new free may says leaves = GoesDown free may refl (record { effects_are = says; new_is = leaves })

-- It is refused for want of memory.
pub lacked : (s : State) (c : Command) (new : State) → refused s c ≡ None → MayLackMemory c → new ≡ s → Obeys s c (Err refusal.Memory) quiet new
lacked s c new free may same = LacksMemory free may refl (record { effects_are = refl; new_is = same })
