-- No act changes which vat it is, its level or its bootstrap object.
use Rattle.std.proofs.Common.{◌≡◌, refl}
use Rattle.rpc_msg.specs.declared.message.Message.{Message}
use Rattle.rpc_machine.specs.declared.command.Command.{Command}
use Rattle.rpc_machine.specs.declared.command.Granted.{Granted}
use Rattle.rpc_machine.specs.State.{State}
use Rattle.rpc_machine.specs.Laws.{OfEachStep}
use Rattle.laws_acts.specs.Moments.{Moment, beginning}
use Rattle.laws_acts.specs.FirstActs.{Starts}
use Rattle.laws_acts.specs.FirstActs as first
use Rattle.laws_acts.specs.MessageActs.{Consumes}
use Rattle.laws_acts.specs.MessageActs as heard
use Rattle.laws_acts.specs.SmallActs.{Act}
use Rattle.laws_acts.specs.SmallActs as act
use Rattle.laws_acts.proofs.EachStep.{IsLaw, of_each_step}
use Rattle.laws_ends.specs.Names.{KeepsNames}

abbrev Fine : State → Moment → Type 0
Fine s d = (d.state.vat ≡ s.vat) × (d.state.level ≡ s.level) × (d.state.bootstrap ≡ s.bootstrap)

module _ (s : State) where
  acted : (d new : Moment) → Fine s d → Act d new → Fine s new
  acted d new i (act.Relays c n rest p t ds es e f j k u) = rw u i
  acted d new i (act.SendsReturn x y e f j u) = rw u i
  acted d new i (act.SendsResolve x rest k es e w f u) = rw u i
  acted d new i (act.SendsBroken x rest reason e f u) = rw u i
  acted d new i (act.SendsFinish p x rest e f j k l u) = rw u i
  acted d new i (act.Closes p x rest e f j k l u) = rw u i
  acted d new i (act.Releases w e f u) = rw u i
  acted d new i (act.Delivers c n rest u e f k) = rw k i
  acted d new i (act.Waits c n rest p calls e f j k) = rw k i
  acted d new i (act.Holds c n rest u path x e f j k) = rw k i
  acted d new i (act.Breaks c n rest reason e f u) = rw u i
  acted d new i (act.NextArisen o w rest e f u) = rw u i
  acted d new i (act.Knows u w fit x ps e f j k z) = rw z i
  acted d new i (act.Reports c w from e f u) = rw u i
  acted d new i (act.TellsNobody c w e f u) = rw u i
  acted d new i (act.MakesReturn p w x y ds es e f j k u) = rw u i
  acted d new i (act.Clears x e f u) = rw u i
  acted d new i (act.Lists x e u) = rw u i
  acted d new i (act.PromiseGoes p to w e f u) = rw u i
  acted d new i (act.OutcomeGoes o x w z e f j k l u) = rw u i
  acted d new i (act.ImportGoes k x w e f u) = rw u i
  acted d new i (act.Sweeps over e f j u) = rw u i

  started : (c : Command) (g : Granted) (new : Moment) → Starts (beginning s) c g new → Fine s new
  started c g new (first.AsksRoot p e f a u) = rw u (refl, refl, refl)
  started c g new (first.CallsOut y x p t ds es e f j l m o a u) = rw u (refl, refl, refl)
  started c g new (first.CallsHere y x o e f j l m a u) = rw u (refl, refl, refl)
  started c g new (first.CallsLater y x o z w e f j l m a u) = rw u (refl, refl, refl)
  started c g new (first.Hosts o e a u) = rw u (refl, refl, refl)
  started c g new (first.Clones y x e f a u) = rw u (refl, refl, refl)
  started c g new (first.NamesField y path from e f a u) = rw u (refl, refl, refl)
  started c g new (first.Promises p e f a u) = rw u (refl, refl, refl)
  started c g new (first.Drops y x e f a u) = rw u (refl, refl, refl)
  started c g new (first.Fixes p y x key calls e f j l a u) = rw u (refl, refl, refl)
  started c g new (first.Rejects p why key calls e f j a u) = rw u (refl, refl, refl)
  started c g new (first.Answers t payload refs o e f a u) = rw u (refl, refl, refl)
  started c g new (first.Fails t why o e f a u) = rw u (refl, refl, refl)
  started c g new (first.Finishes y from e f a u) = rw u (refl, refl, refl)
  started c g new (first.StaysPut y x e f a u) = rw u (refl, refl, refl)
  started c g new (first.Breaks y x reason e f j l a u) = rw u (refl, refl, refl)
  started c g new (first.Switches y x by n0 e f j l m o a u) = rw u (refl, refl, refl)
  started c g new (first.Turns y x by n0 t z e f j l m o w p a u) = rw u (refl, refl, refl)

  consumed : (m : Message) (new : Moment) → Consumes (beginning s) m new → Fine s new
  consumed m new (heard.OpensRoot p o e f j u) = rw u (refl, refl, refl)
  consumed m new (heard.OpensCall c o e f j u) = rw u (refl, refl, refl)
  consumed m new (heard.Loses y x e f j k u) = rw u (refl, refl, refl)
  consumed m new (heard.ComesToCall y x c e f j k l u) = rw u (refl, refl, refl)
  consumed m new (heard.ComesToRelay y x o e f j k l u) = rw u (refl, refl, refl)
  consumed m new (heard.IsFinished x z e f j u) = rw u (refl, refl, refl)
  consumed m new (heard.IsResolved x e u) = rw u (refl, refl, refl)
  consumed m new (heard.IsReleased x e u) = rw u (refl, refl, refl)
  consumed m new (heard.SendsBack t to x e f u) = rw u (refl, refl, refl)
  consumed m new (heard.Lifts t x y e f u) = rw u (refl, refl, refl)
  consumed m new (heard.SendsForeign p e f u) = rw u (refl, refl, refl)
  consumed m new (heard.SendsOther k e u) = rw u (refl, refl, refl)
  consumed m new (heard.TakesBack x e u) = rw u (refl, refl, refl)
  consumed m new (heard.Ignores x e u) = rw u (refl, refl, refl)

law : IsLaw Fine KeepsNames
law = record {
  starts = λ s c g new f h. started s c g new h;
  consumes = λ s m new f h. consumed s m new h;
  act = λ s d new i h. acted s d new i h;
  ends = λ s last x t i h. rw h.state (record { vat = i.0; level = i.1; bootstrap = i.2 });
  stays = λ s. record { vat = refl; level = refl; bootstrap = refl };
  falls = λ s n x. record { vat = refl; level = refl; bootstrap = refl };
}

pub names_stay : OfEachStep KeepsNames
names_stay = of_each_step law
