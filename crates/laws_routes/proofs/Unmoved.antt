-- The level of a vat and its name stay as they are within a step.
use Rattle.std.proofs.Common.{◌≡◌, ℕ, refl}
use Rattle.rpc_msg.specs.declared.ids.Vat.{Vat}
use Rattle.rpc_machine.specs.declared.command.Command.{Command}
use Rattle.rpc_machine.specs.declared.command.Granted.{Granted}
use Rattle.rpc_machine.specs.declared.command.Level.{Level}
use Rattle.rpc_machine.specs.declared.calls.Value.{Value}
use Rattle.rpc_machine.specs.State.{State}
use Rattle.rpc_machine.specs.Commands as commands
use Rattle.rpc_machine.specs.Progress.{Progress, begin}
use Rattle.rpc_machine.specs.Settling.{SettlesOutcome}
use Rattle.laws_acts.specs.FirstActs.{Starts}
use Rattle.laws_acts.specs.FirstActs as first
use Rattle.laws_acts.specs.Moments.{Moment, beginning, at_rest}
use Rattle.laws_acts.specs.SmallActs.{Act, Acts}
use Rattle.laws_acts.specs.SmallActs as act
use Rattle.laws_acts.proofs.Commanded.{begun}
use Rattle.laws_acts.proofs.EachStep.{kept}
use Rattle.laws_acts.proofs.Pieces.{settles}

module _ (v : Vat) (l : Level) where
  abbrev pub Is : Moment → Type 0
  Is d = (d.state.vat ≡ v) × (d.state.level ≡ l)

  acted : (d new : Moment) → Is d → Act d new → Is new
  acted d new i (act.Delivers c n rest u e f h) = rw h i
  acted d new i (act.Waits c n rest p calls e f j h) = rw h i
  acted d new i (act.Holds c n rest u path x e f j h) = rw h i
  acted d new i (act.Relays c n rest q t ds es e f j k h) = rw h i
  acted d new i (act.Breaks c n rest reason e f h) = rw h i
  acted d new i (act.NextArisen u v rest e f h) = rw h i
  acted d new i (act.Knows u v fit x ps e f j k h) = rw h i
  acted d new i (act.Reports c v from e f h) = rw h i
  acted d new i (act.TellsNobody c v e f h) = rw h i
  acted d new i (act.MakesReturn q v x b ds es e f j k h) = rw h i
  acted d new i (act.SendsReturn x y e f j h) = rw h i
  acted d new i (act.Clears x e f h) = rw h i
  acted d new i (act.Lists x e h) = rw h i
  acted d new i (act.SendsResolve x rest k es e w f h) = rw h i
  acted d new i (act.SendsBroken x rest reason e f h) = rw h i
  acted d new i (act.PromiseGoes p to w e f h) = rw h i
  acted d new i (act.OutcomeGoes u x v w e f j k l h) = rw h i
  acted d new i (act.ImportGoes k x w e f h) = rw h i
  acted d new i (act.Sweeps over e f j h) = rw h i
  acted d new i (act.SendsFinish q x rest e f j k l h) = rw h i
  acted d new i (act.Closes q x rest e f j k l h) = rw h i
  acted d new i (act.Releases w e f h) = rw h i

  pub all : (last d : Moment) → Acts last d → Is d → Is last
  all last d h i = kept Is acted last d h i

  pub settled_is : (d : Progress) (o : ℕ) (u : Value) (new : Progress) → SettlesOutcome d o u new → Is (at_rest d) → Is (at_rest new)
  settled_is d o u new h i = all (at_rest new) _ (settles d o u new h) i

started : (s : State) (c : Command) (g : Granted) (new : Moment) → Starts (beginning s) c g new → Is s.vat s.level new
started s c g new (first.Hosts o e a h) = rw h (refl, refl)
started s c g new (first.Clones r x e f a h) = rw h (refl, refl)
started s c g new (first.Drops r x e f a h) = rw h (refl, refl)
started s c g new (first.AsksRoot q e f a h) = rw h (refl, refl)
started s c g new (first.CallsOut k x q t ds es e f j w l m a h) = rw h (refl, refl)
started s c g new (first.CallsHere k x u e f j w l a h) = rw h (refl, refl)
started s c g new (first.CallsLater k x u z b e f j l m a h) = rw h (refl, refl)
started s c g new (first.NamesField k path from e f a h) = rw h (refl, refl)
started s c g new (first.Promises p e f a h) = rw h (refl, refl)
started s c g new (first.Fixes p r x key calls e f j k a h) = rw h (refl, refl)
started s c g new (first.Rejects p why key calls e f j a h) = rw h (refl, refl)
started s c g new (first.Answers t payload refs u e f a h) = rw h (refl, refl)
started s c g new (first.Fails t why u e f a h) = rw h (refl, refl)
started s c g new (first.Finishes k from e f a h) = rw h (refl, refl)
started s c g new (first.StaysPut r x e f a h) = rw h (refl, refl)
started s c g new (first.Breaks r x reason e f j k a h) = rw h (refl, refl)
started s c g new (first.Switches r x by n e f j k l m a h) = rw h (refl, refl)
started s c g new (first.Turns r x by n t k e f j l m w u v a h) = rw h (refl, refl)

pub begun_is : (s : State) (c : Command) (g : Granted) (new : Progress) → commands.Acts (begin s) c g new → Is s.vat s.level (at_rest new)
begun_is s c g new h = let k = begun s c g new h in all s.vat s.level (at_rest new) k.0 k.2 (started s c g k.0 k.1)
