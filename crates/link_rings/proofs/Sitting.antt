-- What holds of a seat, with its frames in a list or laid out as a queue.
use Rattle.std.proofs.Common.{◌≡◌, ℕ, Option, List, sym, subst}
use Rattle.laws_merge.specs.Machine.{Input}
use Rattle.link_rings.specs.declared.logged_side.LoggedSide.{LoggedSide}
use Rattle.link_rings.specs.LoggedSides.{at, IsReady}
use Rattle.link_rings.specs.Seats.{Sits}
use Rattle.link_rings.specs.Waiting.{Held}

module _ {P S C M N : Type 0} (state : P → S) (down : S → Option ℕ) (input : N → Input C M) (sends : N → List M) (step : S → N → S → Type 0) where
  pub laid_out : (start : S) (d : LoggedSide P N M) (queue made : Held M) → queue ≡ made → Sits input sends step start (at state (record d { waiting = made })) → Sits input sends step start (at state (record d { waiting = queue }))
  laid_out start d queue made e s = subst (λ w. Sits input sends step start (at state (record d { waiting = w }))) (sym e) s

  pub taken_back : (start : S) (d : LoggedSide P N M) (made : Held M) → made ≡ d.waiting → Sits input sends step start (at state d) → IsReady state down d
      → Sits input sends step start (at state (record d { waiting = made })) × IsReady state down (record d { waiting = made })
  taken_back start d made e s r = subst (λ w. Sits input sends step start (at state (record d { waiting = w })) × IsReady state down (record d { waiting = w })) (sym e) (s, r)
