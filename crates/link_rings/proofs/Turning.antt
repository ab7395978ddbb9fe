-- A turn of an end that is up.
use Rattle.std.proofs.Common.{◌≡◌, ℕ, Option, None, List, [], ◌∷◌, ◌++◌, sym, subst}
use Rattle.rtrb.specs.Ring.{sent, received}
use Rattle.laws_merge.specs.Machine.{Input}
use Rattle.link_rings.specs.declared.frame.Frame.{Frame}
use Rattle.link_rings.specs.declared.turn.Turn.TheVariants.{Handled, Down}
use Rattle.link_rings.specs.Entries.{Takes, Falls}
use Rattle.link_rings.specs.Ends.{Ended, place, Turns}

module _ {P S C M N : Type 0} (state : P → S) (down : S → Option ℕ) (input : N → Input C M) (sends : N → List M) (step : S → N → S → Type 0) where
  pub turn_takes : {E : Type 0} (tells : N → E → Type 0) (d : Option ℕ) (old new : Ended P M N) (f : Frame M) (fx : E) → d ≡ None
      → received new.consumer ≡ received old.consumer ++ f ∷ [] → sent new.producer ≡ sent old.producer
      → Takes down input sends step tells (place state old) f fx (place state new) → Turns state down input sends step tells d old (Handled fx) new
  turn_takes tells d old new f fx up popped pushed h =
      subst (λ d. Turns state down input sends step tells d old (Handled fx) new) (sym up) (record { frame = f; popped = popped; pushed = pushed; happens = h })

  pub turn_falls : {E : Type 0} (tells : N → E → Type 0) (d : Option ℕ) (old new : Ended P M N) (f : Frame M) (n : ℕ) → d ≡ None
      → received new.consumer ≡ received old.consumer ++ f ∷ [] → sent new.producer ≡ sent old.producer
      → Falls down input sends step (place state old) f n (place state new) → Turns state down input sends step tells d old (Down n) new
  turn_falls tells d old new f n up popped pushed h =
      subst (λ d. Turns state down input sends step tells d old (Down n) new) (sym up) (record { frame = f; popped = popped; pushed = pushed; happens = h })
