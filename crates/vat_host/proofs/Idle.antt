-- Whether anything is to be done.
use Rattle.std.proofs.Common.{◌≡◌, ◌==◌, Bool, true, false, not, List, [], ◌∷◌, length, MatchBool, refl, sym, ap, ◌∙◌}
use Rattle.std.proofs.Math.Dec.{eqb-suc-zero}
use Rattle.vat_host.specs.Hosting.{HasCancelled, Hosted, IsIdle, has_only_down, has_released}

none : {T : Type 0} (xs : List T) → (length xs == 0) ≡ true → xs ≡ []
none [] e = refl
none (x ∷ xs) e = absurd (let f : ◌≡◌ {A = Bool} false true = sym (eqb-suc-zero (length xs)) ∙ e in cc)

some : {T : Type 0} (xs : List T) → (length xs == 0) ≡ false → xs ≡ [] → ⊥
some {T} xs e is = let f : ◌≡◌ {A = Bool} true false = ap (λ (l : List T). length l == 0) (sym is) ∙ e in absurd cc

apart : (b : Bool) → b ≡ true → b ≡ false → ⊥
apart b t f = let e : ◌≡◌ {A = Bool} true false = sym t ∙ f in absurd cc

module _ (h : Hosted) where
  pub not_idle_messages : (length h.messages == 0) ≡ false → ¬ (IsIdle h)
  not_idle_messages e i = some h.messages e i.messages

  pub not_idle_events : (length h.events == 0) ≡ false → ¬ (IsIdle h)
  not_idle_events e i = some h.events e i.events

  pub not_idle_down : has_only_down h ≡ true → ¬ (IsIdle h)
  not_idle_down e i = apart (has_only_down h) e i.down

  pub not_idle_released : has_released h ≡ true → ¬ (IsIdle h)
  not_idle_released e i = apart (has_released h) e i.released

  -- All else is done.
  pub idle_unless_cancelled : (c : Bool) → (length h.messages == 0) ≡ true → (length h.events == 0) ≡ true → has_only_down h ≡ false → has_released h ≡ false
      → MatchBool c (HasCancelled h) (¬ (HasCancelled h)) → MatchBool (not c) (IsIdle h) (¬ (IsIdle h))
  idle_unless_cancelled true m e d r is = λ i. i.cancelled is
  idle_unless_cancelled false m e d r is = record { messages = none h.messages m; events = none h.events e; down = d; released = r; cancelled = is }
