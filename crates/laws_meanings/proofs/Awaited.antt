-- A question that waits for its Return waits still after each step in which that does not come; and is not wanted again.
use Rattle.std.proofs.Common.{◌≡◌, ℕ, Option, None, Some, refl, sym, ap, subst, ◌∙◌}
use Rattle.std.specs.FinMap as map
use Rattle.finite_maps.specs.Tally.{Map}
use Rattle.finite_maps.proofs.Tested.{at_put, at_cut}
use Rattle.rpc_msg.specs.declared.message.Message.{Message}
use Rattle.rpc_machine.specs.declared.command.Command.{Command}
use Rattle.rpc_machine.specs.declared.command.Granted.{Granted}
use Rattle.rpc_machine.specs.declared.command.Effects.{Effects}
use Rattle.rpc_machine.specs.declared.entries.Finishing.TheVariants as finishing
use Rattle.rpc_machine.specs.declared.entries.Question.{Question}
use Rattle.rpc_machine.specs.declared.entries.Returned.{Returned}
use Rattle.rpc_machine.specs.State.{State}
use Rattle.rpc_machine.specs.Faults.{fault_of}
use Rattle.rpc_machine.specs.Steps.{Does, Handles}
use Rattle.rpc_machine.specs.Sweeping.{IsNotSent, closed_map}
use Rattle.laws_acts.specs.Moments.{Moment, beginning}
use Rattle.laws_acts.specs.FirstActs.{Starts}
use Rattle.laws_acts.specs.FirstActs as first
use Rattle.laws_acts.specs.MessageActs.{Back, Brings, Consumes}
use Rattle.laws_acts.specs.MessageActs as heard
use Rattle.laws_acts.specs.SmallActs.{Act}
use Rattle.laws_acts.specs.SmallActs as act
use Rattle.laws_acts.proofs.EachStep.{done, handled, at_end}

-- It waits for its Return, and its Finish was not sent.
abbrev pub IsWanted : Option Question → Type 0
IsWanted None = ⊥
IsWanted (Some x) = (x.returned ≡ None) × IsNotSent x.finish

-- It waits, and is wanted only if it was.
abbrev pub Waits : Type 0 → Option Question → Type 0
Waits W None = ⊥
Waits W (Some x) = (x.returned ≡ None) × (IsNotSent x.finish → W)

module _ (q : ℕ) (W : Type 0) where
  abbrev Fine : Moment → Type 0
  Fine d = Waits W (map.get d.state.questions q)

  -- Another question changes.
  puts : (m : Map Question) (p : ℕ) (x : Question) → map.get m p ≡ None → Waits W (map.get m q) → Waits W (map.get (map.insert m p x) q)
  puts m p x e i = at_put (λ j o. j ≡ q → Waits W o) m p x (λ f. absurd (subst (Waits W) (ap (map.get m) (sym f) ∙ e) i)) (λ j n f. subst (λ (k : ℕ). Waits W (map.get m k)) (sym f) i) q refl

  closes : (m : Map Question) (p : ℕ) (x : Question) (r : Option Returned) → x.returned ≡ r → map.get m p ≡ Some x → Waits W (map.get m q) → Waits W (map.get (closed_map m p x r) q)
  closes m p x None e f i = at_put (λ j o. j ≡ q → Waits W o) m p (record x { finish = finishing.Sent }) (λ g. (e, λ w. absurd w)) (λ j n g. subst (λ (k : ℕ). Waits W (map.get m k)) (sym g) i) q refl
  closes m p x (Some said) e f i =
      at_cut (λ j o. j ≡ q → Waits W o) m p (λ g. absurd (let w : Waits W (Some x) = subst (Waits W) (ap (map.get m) (sym g) ∙ f) i in let bad : Some said ≡ None = sym e ∙ w.0 in cc)) (λ j n g. subst (λ (k : ℕ). Waits W (map.get m k)) (sym g) i) q refl

  acted : (d new : Moment) → Fine d → Act d new → Fine new
  acted d new i (act.Relays c n rest p t ds es e f j k u) = rw u (puts d.state.questions p _ j i)
  acted d new i (act.SendsFinish p x rest e f j k l u) = rw u (closes d.state.questions p x x.returned refl f i)
  acted d new i (act.Closes p x rest e f j k l u) = rw u (closes d.state.questions p x x.returned refl f i)
  acted d new i (act.SendsReturn x y e f j u) = rw u i
  acted d new i (act.SendsResolve x rest k es e w f u) = rw u i
  acted d new i (act.SendsBroken x rest reason e f u) = rw u i
  acted d new i (act.Releases w e f u) = rw u i
  acted d new i (act.Delivers c n rest u e f k) = rw k i
  acted d new i (act.Waits c n rest p calls e f j k) = rw k i
  acted d new i (act.Holds c n rest u path x e f j k) = rw k i
  acted d new i (act.Breaks c n rest reason e f u) = rw u i
  acted d new i (act.NextArisen o w rest e f u) = rw u i
  acted d new i (act.Knows u w fit x ps e f j k z) = rw z i
  acted d new i (act.Reports c w from e f u) = rw u i
  acted d new i (act.TellsNobody c w e f u) = rw u i
  acted d new i (act.MakesReturn p w x y ds es e f j k u) = rw u i
  acted d new i (act.Clears x e f u) = rw u i
  acted d new i (act.Lists x e u) = rw u i
  acted d new i (act.PromiseGoes p to w e f u) = rw u i
  acted d new i (act.OutcomeGoes o x w z e f j k l u) = rw u i
  acted d new i (act.ImportGoes k x w e f u) = rw u i
  acted d new i (act.Sweeps over e f j u) = rw u i

  module _ (s : State) (here : Waits W (map.get s.questions q)) where
    started : (c : Command) (g : Granted) (new : Moment) → Starts (beginning s) c g new → Fine new
    started c g new (first.AsksRoot p e f a u) = rw u (puts s.questions p _ f here)
    started c g new (first.CallsOut y x p t ds es e f j l m o a u) = rw u (puts s.questions p _ m here)
    started c g new (first.CallsHere y x o e f j l m a u) = rw u here
    started c g new (first.CallsLater y x o z w e f j l m a u) = rw u here
    started c g new (first.Hosts o e a u) = rw u here
    started c g new (first.Clones y x e f a u) = rw u here
    started c g new (first.NamesField y path from e f a u) = rw u here
    started c g new (first.Promises p e f a u) = rw u here
    started c g new (first.Drops y x e f a u) = rw u here
    started c g new (first.Fixes p y x key calls e f j l a u) = rw u here
    started c g new (first.Rejects p why key calls e f j a u) = rw u here
    started c g new (first.Answers t payload refs o e f a u) = rw u here
    started c g new (first.Fails t why o e f a u) = rw u here
    started c g new (first.Finishes y from e f a u) = rw u here
    started c g new (first.StaysPut y x e f a u) = rw u here
    started c g new (first.Breaks y x reason e f j l a u) = rw u here
    started c g new (first.Switches y x by n0 e f j l m o a u) = rw u here
    started c g new (first.Turns y x by n0 t z e f j l m o w p a u) = rw u here

    -- The message brings nothing for it.
    abbrev IsFree : Message → Type 0
    IsFree m = (b : Back) → Brings s m b → ¬ (b.question ≡ q)

    other_put : (b : Back) (x : Question) → ¬ (b.question ≡ q) → Waits W (map.get (map.insert s.questions b.question x) q)
    other_put b x n = at_put (λ j o. j ≡ q → Waits W o) s.questions b.question x (λ f. absurd (n f)) (λ j l f. subst (λ (k : ℕ). Waits W (map.get s.questions k)) (sym f) here) q refl

    other_cut : (b : Back) → ¬ (b.question ≡ q) → Waits W (map.get (map.remove s.questions b.question) q)
    other_cut b n = at_cut (λ j o. j ≡ q → Waits W o) s.questions b.question (λ f. absurd (n f)) (λ j l f. subst (λ (k : ℕ). Waits W (map.get s.questions k)) (sym f) here) q refl

    consumed : (m : Message) (new : Moment) → IsFree m → Consumes (beginning s) m new → Fine new
    consumed m new free (heard.Loses y x e f j k u) = rw u (other_cut y (free y e))
    consumed m new free (heard.ComesToCall y x c e f j k l u) = rw u (other_put y (heard.answered x y.waives y.said) (free y e))
    consumed m new free (heard.ComesToRelay y x o e f j k l u) = rw u (other_put y (heard.answered x y.waives y.said) (free y e))
    consumed m new free (heard.OpensRoot p o e f j u) = rw u here
    consumed m new free (heard.OpensCall c o e f j u) = rw u here
    consumed m new free (heard.IsFinished x z e f j u) = rw u here
    consumed m new free (heard.IsResolved x e u) = rw u here
    consumed m new free (heard.IsReleased x e u) = rw u here
    consumed m new free (heard.SendsBack t to x e f u) = rw u here
    consumed m new free (heard.Lifts t x y e f u) = rw u here
    consumed m new free (heard.SendsForeign p e f u) = rw u here
    consumed m new free (heard.SendsOther k e u) = rw u here
    consumed m new free (heard.TakesBack x e u) = rw u here
    consumed m new free (heard.Ignores x e u) = rw u here

    pub commands : (c : Command) (g : Granted) (x : Effects) (t : State) → Does s c g x t → Waits W (map.get t.questions q)
    commands c g x t d =
        let k = done Fine s c g x t (λ new j. started c g new j) acted d in
        at_end (λ u y. Waits W (map.get u.questions q)) k.last x t k.ends k.holds

    pub messages : (m : Message) (x : Effects) (t : State) → fault_of s m ≡ None → IsFree m → Handles s m x t → Waits W (map.get t.questions q)
    messages m x t f free d =
        let k = handled Fine s m x t f (λ new j. consumed m new free j) acted d in
        at_end (λ u y. Waits W (map.get u.questions q)) k.last x t k.ends k.holds
