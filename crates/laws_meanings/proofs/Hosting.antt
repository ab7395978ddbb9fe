-- No act changes a vat's bootstrap object.
use Rattle.std.proofs.Common.{◌≡◌, Option, None}
use Rattle.rpc_msg.specs.declared.ids.ObjectId.{ObjectId}
use Rattle.rpc_msg.specs.declared.message.Message.{Message}
use Rattle.rpc_machine.specs.declared.command.Command.{Command}
use Rattle.rpc_machine.specs.declared.command.Granted.{Granted}
use Rattle.rpc_machine.specs.declared.command.Effects.{Effects}
use Rattle.rpc_machine.specs.State.{State}
use Rattle.rpc_machine.specs.Faults.{fault_of}
use Rattle.rpc_machine.specs.Steps.{Does, Handles}
use Rattle.laws_acts.specs.Moments.{Moment, beginning}
use Rattle.laws_acts.specs.FirstActs.{Starts}
use Rattle.laws_acts.specs.FirstActs as first
use Rattle.laws_acts.specs.MessageActs.{Consumes}
use Rattle.laws_acts.specs.MessageActs as heard
use Rattle.laws_acts.specs.SmallActs.{Act}
use Rattle.laws_acts.specs.SmallActs as act
use Rattle.laws_acts.proofs.EachStep.{done, handled, at_end}

module _ (b : Option ObjectId) where
  abbrev Fine : Moment → Type 0
  Fine d = d.state.bootstrap ≡ b

  acted : (d new : Moment) → Fine d → Act d new → Fine new
  acted d new i (act.Relays c n rest p t ds es e f j k u) = rw u i
  acted d new i (act.SendsReturn x y e f j u) = rw u i
  acted d new i (act.SendsResolve x rest k es e w f u) = rw u i
  acted d new i (act.SendsBroken x rest reason e f u) = rw u i
  acted d new i (act.SendsFinish p x rest e f j k l u) = rw u i
  acted d new i (act.Closes p x rest e f j k l u) = rw u i
  acted d new i (act.Releases w e f u) = rw u i
  acted d new i (act.Delivers c n rest u e f k) = rw k i
  acted d new i (act.Waits c n rest p calls e f j k) = rw k i
  acted d new i (act.Holds c n rest u path x e f j k) = rw k i
  acted d new i (act.Breaks c n rest reason e f u) = rw u i
  acted d new i (act.NextArisen o w rest e f u) = rw u i
  acted d new i (act.Knows u w fit x ps e f j k z) = rw z i
  acted d new i (act.Reports c w from e f u) = rw u i
  acted d new i (act.TellsNobody c w e f u) = rw u i
  acted d new i (act.MakesReturn p w x y ds es e f j k u) = rw u i
  acted d new i (act.Clears x e f u) = rw u i
  acted d new i (act.Lists x e u) = rw u i
  acted d new i (act.PromiseGoes p to w e f u) = rw u i
  acted d new i (act.OutcomeGoes o x w z e f j k l u) = rw u i
  acted d new i (act.ImportGoes k x w e f u) = rw u i
  acted d new i (act.Sweeps over e f j u) = rw u i

  started : (s : State) (c : Command) (g : Granted) (new : Moment) → s.bootstrap ≡ b → Starts (beginning s) c g new → Fine new
  started s c g new i (first.AsksRoot p e f a u) = rw u i
  started s c g new i (first.CallsOut y x p t ds es e f j l m o a u) = rw u i
  started s c g new i (first.CallsHere y x o e f j l m a u) = rw u i
  started s c g new i (first.CallsLater y x o z w e f j l m a u) = rw u i
  started s c g new i (first.Hosts o e a u) = rw u i
  started s c g new i (first.Clones y x e f a u) = rw u i
  started s c g new i (first.NamesField y path from e f a u) = rw u i
  started s c g new i (first.Promises p e f a u) = rw u i
  started s c g new i (first.Drops y x e f a u) = rw u i
  started s c g new i (first.Fixes p y x key calls e f j l a u) = rw u i
  started s c g new i (first.Rejects p why key calls e f j a u) = rw u i
  started s c g new i (first.Answers t payload refs o e f a u) = rw u i
  started s c g new i (first.Fails t why o e f a u) = rw u i
  started s c g new i (first.Finishes y from e f a u) = rw u i
  started s c g new i (first.StaysPut y x e f a u) = rw u i
  started s c g new i (first.Breaks y x reason e f j l a u) = rw u i
  started s c g new i (first.Switches y x by n0 e f j l m o a u) = rw u i
  started s c g new i (first.Turns y x by n0 t z e f j l m o w p a u) = rw u i

  consumed : (s : State) (m : Message) (new : Moment) → s.bootstrap ≡ b → Consumes (beginning s) m new → Fine new
  consumed s m new i (heard.OpensRoot p o e f j u) = rw u i
  consumed s m new i (heard.OpensCall c o e f j u) = rw u i
  consumed s m new i (heard.Loses y x e f j k u) = rw u i
  consumed s m new i (heard.ComesToCall y x c e f j k l u) = rw u i
  consumed s m new i (heard.ComesToRelay y x o e f j k l u) = rw u i
  consumed s m new i (heard.IsFinished x z e f j u) = rw u i
  consumed s m new i (heard.IsResolved x e u) = rw u i
  consumed s m new i (heard.IsReleased x e u) = rw u i
  consumed s m new i (heard.SendsBack t to x e f u) = rw u i
  consumed s m new i (heard.Lifts t x y e f u) = rw u i
  consumed s m new i (heard.SendsForeign p e f u) = rw u i
  consumed s m new i (heard.SendsOther k e u) = rw u i
  consumed s m new i (heard.TakesBack x e u) = rw u i
  consumed s m new i (heard.Ignores x e u) = rw u i

  pub commands : (s : State) (c : Command) (g : Granted) (x : Effects) (t : State) → s.bootstrap ≡ b → Does s c g x t → t.bootstrap ≡ b
  commands s c g x t i d =
      let k = done Fine s c g x t (λ new j. started s c g new i j) acted d in
      at_end (λ u y. u.bootstrap ≡ b) k.last x t k.ends k.holds

  pub messages : (s : State) (m : Message) (x : Effects) (t : State) → fault_of s m ≡ None → s.bootstrap ≡ b → Handles s m x t → t.bootstrap ≡ b
  messages s m x t f i d =
      let k = handled Fine s m x t f (λ new j. consumed s m new i j) acted d in
      at_end (λ u y. u.bootstrap ≡ b) k.last x t k.ends k.holds
