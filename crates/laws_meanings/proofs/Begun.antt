-- Behind the first act of each step in a scene nodes mean what the history says.
use Rattle.std.proofs.Common.{◌≡◌, ◌⊎◌, inl, inr, ℕ, Option, sym, subst}
use Rattle.rpc_msg.specs.declared.ids.Vat.{Vat}
use Rattle.rpc_msg.specs.declared.message.Message.{Message}
use Rattle.rpc_journal.specs.Meaning.{History}
use Rattle.rpc_machine.specs.declared.command.Command.{Command}
use Rattle.rpc_machine.specs.declared.command.Granted.{Granted}
use Rattle.rpc_machine.specs.State.{State}
use Rattle.rpc_machine.specs.Progress.{quiet}
use Rattle.rpc_machine.specs.World.{core}
use Rattle.rpc_machine.specs.Claims.{history}
use Rattle.laws_acts.specs.Moments.{Moment, beginning}
use Rattle.laws_acts.specs.FirstActs.{Starts}
use Rattle.laws_acts.specs.MessageActs.{Consumes}
use Rattle.laws_runs.specs.Scenes as scenes
use Rattle.laws_meanings.specs.CommandMeanings.{OpensNothing, IsWritten, IsWrittenOpen, FirstActsMean, FirstOpeningsMean}
use Rattle.laws_meanings.specs.NodeMeanings.{Meant}
use Rattle.laws_meanings.specs.NodeLabels.{Labels, Places, MomentMeans}
use Rattle.laws_meanings.specs.MessageMeanings.{IsHeard, ImportsKept, with_imports, ConsumingMeans}
use Rattle.laws_meanings.specs.FirstActs.{FirstActsFollow}
use Rattle.laws_meanings.specs.FitCores.{IsFit, CoresAreFit}

abbrev Behind : History → Vat → Moment → Type 0
Behind h v d = (l : Labels) × MomentMeans h v l d

module _ (plain : FirstActsMean) (opens : FirstOpeningsMean) (hears : ConsumingMeans) where
  commanded : (h : History) (l : Labels) (s : State) (c : Command) (g : Granted) (d : Moment) → IsFit s.vat s → Places h s.vat l quiet s → (OpensNothing c × IsWritten h s.vat s c) ⊎ IsWrittenOpen h s.vat s c → Starts (beginning s) c g d → Behind h s.vat d
  commanded h l s c g d k w (inl i) e = (l, plain h s.vat l s c g d i.0 i.1 k.questions w e)
  commanded h l s c g d k w (inr i) e = let z = opens h l s c g d i k.whole k.one_source k.questions k.paired w e in (z.0, z.2)

  heard : (h : History) (l : Labels) (s : State) (m : Message) (d : Moment) → IsFit s.vat s → Places h s.vat l quiet s → (is : ℕ → Option Meant) → ImportsKept l s is → IsHeard h s.vat (with_imports l is) s m → Consumes (beginning s) m d → Behind h s.vat d
  heard h l s m d k w is j i e = let z = hears h l s is m d j i k.whole k.one_source k.questions w e in (record l { import = is; outcome = z.0 }, z.3)

  pub first_acts_follow : CoresAreFit → FirstActsFollow
  first_acts_follow fit a b ready x new (scenes.Commanded v c g told s o up r d w e) u m i p q n =
      let z = ready x new (scenes.Commanded v c g told s o up r d w e) i p q in
      let h = history a b z.0 in
      let k = subst (λ (y : Vat). Behind h y m) (sym n.0) (by (core x.world v) v (fit a b x i v).vat (fit a b x i v) h z.3 n.1) in
      (z.0, z.1, z.2, k.0, k.1)
    where
      by : (t : State) (y : Vat) → t.vat ≡ y → IsFit y t → (h : History) → (l : Labels) × Places h y l quiet t × ((OpensNothing c × IsWritten h y t c) ⊎ IsWrittenOpen h y t c) → Starts (beginning t) c g m → Behind h y m
      by t y f k h z n = subst (λ (y : Vat). IsFit y t → (l : Labels) × Places h y l quiet t × ((OpensNothing c × IsWritten h y t c) ⊎ IsWrittenOpen h y t c) → Behind h y m) f (λ k z. commanded h z.0 t c g m k z.1 z.2 n) k z
  first_acts_follow fit a b ready x new (scenes.Received v y ms told s o up j f d w e) u m i p q n =
      let z = ready x new (scenes.Received v y ms told s o up j f d w e) i p q in
      let h = history a b z.0 in
      let k = subst (λ (y : Vat). Behind h y m) (sym n.0) (by (core x.world v) v (fit a b x i v).vat (fit a b x i v) h z.3 n.1) in
      (z.0, z.1, z.2, k.0, k.1)
    where
      by : (t : State) (z : Vat) → t.vat ≡ z → IsFit z t → (h : History) → (l : Labels) × Places h z l quiet t × ((is : ℕ → Option Meant) × ImportsKept l t is × IsHeard h z (with_imports l is) t y) → Consumes (beginning t) y m → Behind h z m
      by t z f k h r n = subst (λ (z : Vat). IsFit z t → (l : Labels) × Places h z l quiet t × ((is : ℕ → Option Meant) × ImportsKept l t is × IsHeard h z (with_imports l is) t y) → Behind h z m) f (λ k r. heard h r.0 t y m k r.1 r.2.0 r.2.1 r.2.2 n) k r
  first_acts_follow fit a b ready x new (scenes.GivesUp v c o r f e) u m i p q n = absurd n
  first_acts_follow fit a b ready x new (scenes.Stops v o e) u m i p q n = absurd n
