-- Two hosts are two vats in one world.
use Rattle.std.specs.Prelude.{◌≡◌, ℕ, cond, Option, None, Some, Ok, List, [], ◌∷◌, ◌++◌, flat_map}
use Rattle.rpc_msg.specs.Vats.{other_vat}
use Rattle.rpc_msg.specs.declared.ids.ObjectId.{ObjectId}
use Rattle.rpc_msg.specs.declared.ids.Vat.{Vat}
use Rattle.rpc_msg.specs.declared.message.Message.{Message}
use Rattle.rpc_journal.specs.History.{same_vat}
use Rattle.rpc_machine.specs.declared.command.Effects.{Effects}
use Rattle.rpc_machine.specs.declared.event.Event.{Event as Happens}
use Rattle.rpc_machine.specs.declared.event.Event.TheVariants as happens
use Rattle.rpc_machine.specs.Progress.{quiet}
use Rattle.rpc_machine.specs.Journal.{journal}
use Rattle.rpc_machine.specs.World.{World, Happening, StepAnswer, Answered, Handled, Empty, Run, core, inbox, new_world}
use Rattle.rpc_machine.specs.Claims.{IsSound, history}
use Rattle.vat_host.specs.declared.event.Event.{Event}
use Rattle.vat_hosts.specs.Calls.{calls_told}
use Rattle.vat_hosts.specs.Hosts.{Act, ActsAll, Done, Hosts, done_by, host, in_hand, new_hosts, told_to}

-- ---- what is told of a run

abbrev pub vat_of : Happens → Vat
vat_of (happens.Command v c) = v
vat_of (happens.Deliver v) = v

abbrev pub effects_of : StepAnswer → Effects
effects_of (Answered answer effects) = effects
effects_of (Handled effects) = effects
effects_of Empty = quiet

-- the calls to serve of that vat, and its own calls that ended
abbrev pub told_in : Vat → Happening → List Event
told_in v x = cond (same_vat v (vat_of x.event)) (calls_told (effects_of x.answer)) []

abbrev pub done_by_answer : Happens → StepAnswer → List Done
done_by_answer (happens.Command v c) (Answered (Ok granted) effects) = record { vat = v; command = c; granted = granted } ∷ []
done_by_answer e answer = []

-- the command, if one was done
abbrev pub done_in : Happening → List Done
done_in x = done_by_answer x.event x.answer

-- ---- the run that two hosts are

-- What is on its way to a vat: what it will be handed. A vat that is down drops what it is handed; in a world it stays on its way.
abbrev pub IsOnWay : Option ℕ → List Message → List Message → Type 0
IsOnWay None inbox ms = inbox ≡ ms
IsOnWay (Some n) inbox ms = (dropped : List Message) × (inbox ≡ dropped ++ ms)

-- A run of two vats in one world, of which all holds that is promised: of those commands, in their order, with these answers; it leads
-- to where both hosts are; and what each application was told of calls, or is still to be told, is what the run tells of its vat.
pub record AreOneWorld (root_a root_b : Option ObjectId) (xs : List Act) (p : Hosts) : Type 0 where
  pub happened : List Happening
  pub world : World
  pub ran : Run (new_world root_a root_b) happened world
  pub sound : IsSound (history root_a root_b (journal happened)) happened world
  pub done : flat_map done_in happened ≡ flat_map done_by xs
  pub told : (v : Vat) → told_to p xs v ≡ flat_map (told_in v) happened
  pub cores : (v : Vat) → core world v ≡ (host p v).core
  pub on_way : (v : Vat) → IsOnWay (host p v).core.down (inbox world v) (in_hand p v ++ (host p (other_vat v)).messages)

-- Whatever is done with two new hosts.
abbrev pub HostsAreWorlds : Type 0
HostsAreWorlds = (root_a root_b : Option ObjectId) (xs : List Act) (p : Hosts) → ActsAll (new_hosts root_a root_b) xs p → AreOneWorld root_a root_b xs p
