-- Each step of a core leads to a state to which a vat comes.
use Rattle.std.proofs.Common.{◌≡◌, [], Option, Result, sym, ap, subst}
use Rattle.rpc_msg.specs.declared.ids.Vat.{Vat}
use Rattle.rpc_msg.specs.declared.ids.ObjectId.{ObjectId}
use Rattle.rpc_msg.specs.declared.message.Message.{Message}
use Rattle.rpc_machine.specs.declared.command.Level.{Level}
use Rattle.rpc_machine.specs.declared.command.Command.{Command}
use Rattle.rpc_machine.specs.declared.command.Granted.{Granted}
use Rattle.rpc_machine.specs.declared.command.Refusal.{Refusal}
use Rattle.rpc_machine.specs.declared.command.Effects.{Effects}
use Rattle.rpc_machine.specs.State.{State, start}
use Rattle.rpc_machine.specs.Steps.{Obeys, Receives}
use Rattle.laws_steps.specs.NodesThere.{ComesTo, Stays, Commanded, Received, Fell, IsReached}
use Rattle.core_outbox.specs.Outgoing.{Outgoing, nothing_said}
use Rattle.core_store.specs.Holding.{state_of, IsSound}
use Rattle.core_steps.specs.declared.machine.Machine.{Machine}
use Rattle.core_steps.specs.Whole.{IsResting}
use Rattle.vat_core.specs.Standing.{IsStanding}

-- What leads on from the last state leads on from the first.
goes_on : {s t u : State} → ComesTo t s → ComesTo s u → ComesTo t u
goes_on last Stays = last
goes_on last (Commanded c answer effects obeys rest) = Commanded c answer effects obeys (goes_on last rest)
goes_on last (Received m effects receives rest) = Received m effects receives (goes_on last rest)
goes_on last (Fell n rest) = Fell n (goes_on last rest)

pub begins : (vat : Vat) (level : Level) (bootstrap : Option ObjectId) → IsReached (start vat level bootstrap)
begins vat level bootstrap = (vat, level, bootstrap, Stays)

pub obeyed : (s t : State) (c : Command) (answer : Result Granted Refusal) (effects : Effects) → Obeys s c answer effects t → IsReached s → IsReached t
obeyed s t c answer effects obeys reached = (reached.0, reached.1, reached.2, goes_on (Commanded c answer effects obeys Stays) reached.3)

pub received : (s t : State) (m : Message) (effects : Effects) → Receives s m effects t → IsReached s → IsReached t
received s t m effects receives reached = (reached.0, reached.1, reached.2, goes_on (Received m effects receives Stays) reached.3)

-- So a core that stands and takes a step stands again.
pub stands : (x y : Machine) (c : Command) (answer : Result Granted Refusal) (effects : Effects) → Obeys (state_of x.step.store) c answer effects (state_of y.step.store) → IsResting y → IsStanding x → IsStanding y
stands x y c answer effects obeys resting before =
    record { resting = resting; reached = obeyed (state_of x.step.store) (state_of y.step.store) c answer effects obeys before.reached }

pub stands_received : (x y : Machine) (m : Message) (effects : Effects) → Receives (state_of x.step.store) m effects (state_of y.step.store) → IsResting y → IsStanding x → IsStanding y
stands_received x y m effects receives resting before =
    record { resting = resting; reached = received (state_of x.step.store) (state_of y.step.store) m effects receives before.reached }

-- A new vat stands.
pub begins_standing : (vat : Vat) (level : Level) (bootstrap : Option ObjectId) (x : Machine) → state_of x.step.store ≡ start vat level bootstrap → IsSound x.step.store → x.step.store.waits.taken ≡ []
    → x.step.outbox ≡ nothing_said → x.step.arisen.0 ≡ [] → x.spare ≡ nothing_said → IsStanding x
begins_standing vat level bootstrap x state sound none_taken said arisen spare = record {
  resting = record {
    sound = sound;
    none_taken = none_taken;
    up = λ alive. record {
      idle = record {
        sound = sound;
        said = ap (λ (o : Outgoing). o.said) said;
        arisen = arisen;
        finishes = ap (λ (o : Outgoing). o.finishes) said;
        releases = ap (λ (o : Outgoing). o.releases) said;
        can_abort = ap (λ (o : Outgoing). o.can_abort) said;
      };
      can_abort = ap (λ (o : Outgoing). o.can_abort) spare;
    };
  };
  reached = subst IsReached (sym state) (begins vat level bootstrap);
}
