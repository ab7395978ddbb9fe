-- The rows of a session: what happens leads from row to row, and to each of them.
use Rattle.std.proofs.Common.{Option, None, List, [], ◌∷◌, ◌++◌, refl, subst}
use Rattle.laws_runs.specs.Questions.{Asker, NotAsked, Asked, Back, Early, Odd, Answerer, NotOpen, Working, Unwanted, Answered, Strange, Out, Open, Fin, Ret, Return, IsJust, Sends, Asks, GivesUp, IsDone, Returns, Answers, Cancels, hear_one, tell_one, Row, Idle, Closing, Sent, SentBehind, Held, Returning, Returned, EarlySent, EarlyBehind, EarlyHeld, EarlyCrossed, EarlyWaits, EarlyReturning, Goes, AskerSends, AnswererReturns, AnswererHears, AskerIsTold, ComesAbout, AtStart, Behind}

module _ {X Y : Type 0} where
  asks : (x : X) (out : List (Out X Y)) (u : Answerer X Y) (back : List (Ret X Y)) → Row NotAsked out u back → Row (Asked x) (out ++ Open x ∷ []) u back
  asks x out u back Idle = Sent x
  asks x out u back (Closing y l j) = SentBehind y l x j

  gives_up : (x : X) (out : List (Out X Y)) (u : Answerer X Y) (back : List (Ret X Y)) → Row (Asked x) out u back → Row (Early x) (out ++ Fin None ∷ []) u back
  gives_up x out u back (Sent z) = EarlySent z
  gives_up x out u back (SentBehind y l z j) = EarlyBehind y l z j
  gives_up x out u back (Held z) = EarlyHeld z
  gives_up x out u back (Returning z y l j) = EarlyCrossed z y l j

  is_done : (y : Y) (l : Option Y) → IsJust l y → (out : List (Out X Y)) (u : Answerer X Y) (back : List (Ret X Y)) → Row (Back y) out u back → Row NotAsked (out ++ Fin l ∷ []) u back
  is_done y l j out u back (Returned z) = Closing z l j

  pub sends : (v w : Asker X Y) (m : Out X Y) (out : List (Out X Y)) (u : Answerer X Y) (back : List (Ret X Y)) → Row v out u back → Sends v m w → Row w (out ++ m ∷ []) u back
  sends v w m out u back r (Asks x) = asks x out u back r
  sends v w m out u back r (GivesUp x) = gives_up x out u back r
  sends v w m out u back r (IsDone y l j) = is_done y l j out u back r

  answers : (x : X) (y : Y) (l : Option X) → IsJust l x → (v : Asker X Y) (out : List (Out X Y)) (back : List (Ret X Y)) → Row v out (Working x) back → Row v out (Answered y) (back ++ Return y l ∷ [])
  answers x y l j v out back (Held z) = Returning z y l j
  answers x y l j v out back (EarlyHeld z) = EarlyCrossed z y l j

  cancels : (x : X) (y : Y) (l : Option X) → IsJust l x → (v : Asker X Y) (out : List (Out X Y)) (back : List (Ret X Y)) → Row v out (Unwanted x) back → Row v out NotOpen (back ++ Return y l ∷ [])
  cancels x y l j v out back (EarlyWaits z) = EarlyReturning z y l j

  pub returns : (v : Asker X Y) (out : List (Out X Y)) (u x : Answerer X Y) (m : Ret X Y) (back : List (Ret X Y)) → Row v out u back → Returns u m x → Row v out x (back ++ m ∷ [])
  returns v out u x m back r (Answers z y l j) = answers z y l j v out back r
  returns v out u x m back r (Cancels z y l j) = cancels z y l j v out back r

  pub heard : (v : Asker X Y) (m : Out X Y) (out : List (Out X Y)) (u : Answerer X Y) (back : List (Ret X Y)) → Row v (m ∷ out) u back → Row v out (hear_one u m) back
  heard v m out u back (Closing y l j) = Idle
  heard v m out u back (Sent x) = Held x
  heard v m out u back (SentBehind y l x j) = Sent x
  heard v m out u back (EarlySent x) = EarlyHeld x
  heard v m out u back (EarlyBehind y l x j) = EarlySent x
  heard v m out u back (EarlyHeld x) = EarlyWaits x
  heard v m out u back (EarlyCrossed x y l j) = EarlyReturning x y l j

  pub told : (v : Asker X Y) (out : List (Out X Y)) (u : Answerer X Y) (m : Ret X Y) (back : List (Ret X Y)) → Row v out u (m ∷ back) → Row (tell_one v m) out u back
  told v out u m back (Returning x y l j) = Returned y
  told v out u m back (EarlyCrossed x y l j) = Closing y None tt
  told v out u m back (EarlyReturning x y l j) = Idle

  pub not_odd : (out : List (Out X Y)) (u : Answerer X Y) (back : List (Ret X Y)) → ¬ (Row Odd out u back)
  not_odd out u back r = elim r [ ]

  pub not_strange : (v : Asker X Y) (out : List (Out X Y)) (back : List (Ret X Y)) → ¬ (Row v out Strange back)
  not_strange v out back r = elim r [ ]

  -- ---- Nothing else comes about

  goes : (v : Asker X Y) (out : List (Out X Y)) (u : Answerer X Y) (back : List (Ret X Y)) (w : Asker X Y) (outs : List (Out X Y)) (x : Answerer X Y) (backs : List (Ret X Y)) → Row v out u back → Goes v out u back w outs x backs → Row w outs x backs
  goes v out u back w outs x backs r (AskerSends m s a b c) = rw (a, b, c) (sends v w m out u back r s)
  goes v out u back w outs x backs r (AnswererReturns m s a b c) = rw (a, b, c) (returns v out u x m back r s)
  goes v out u back w outs x backs r (AnswererHears m a b c d) = rw (b, c, d) (heard v m outs u back (subst (λ (o : List (Out X Y)). Row v o u back) a r))
  goes v out u back w outs x backs r (AskerIsTold m a b c d) = rw (b, c, d) (told v out u m backs (subst (λ (o : List (Ret X Y)). Row v out u o) a r))

  pub only : (v : Asker X Y) (out : List (Out X Y)) (u : Answerer X Y) (back : List (Ret X Y)) → ComesAbout v out u back → Row v out u back
  only v out u back AtStart = Idle
  only v out u back (Behind {v = w} {out = outs} {u = x} {back = backs} h g) = goes w outs x backs v out u back (only w outs x backs h) g

  -- ---- Each row comes about

  now_sends : (v w : Asker X Y) (m : Out X Y) (out : List (Out X Y)) (u : Answerer X Y) (back : List (Ret X Y)) → Sends v m w → ComesAbout v out u back → ComesAbout w (out ++ m ∷ []) u back
  now_sends v w m out u back s h = Behind h (AskerSends m s refl refl refl)

  now_returns : (v : Asker X Y) (out : List (Out X Y)) (u x : Answerer X Y) (m : Ret X Y) (back : List (Ret X Y)) → Returns u m x → ComesAbout v out u back → ComesAbout v out x (back ++ m ∷ [])
  now_returns v out u x m back s h = Behind h (AnswererReturns m s refl refl refl)

  now_heard : (v : Asker X Y) (m : Out X Y) (out : List (Out X Y)) (u : Answerer X Y) (back : List (Ret X Y)) → ComesAbout v (m ∷ out) u back → ComesAbout v out (hear_one u m) back
  now_heard v m out u back h = Behind h (AnswererHears m refl refl refl refl)

  now_told : (v : Asker X Y) (out : List (Out X Y)) (u : Answerer X Y) (m : Ret X Y) (back : List (Ret X Y)) → ComesAbout v out u (m ∷ back) → ComesAbout (tell_one v m) out u back
  now_told v out u m back h = Behind h (AskerIsTold m refl refl refl refl)

  sent : (x : X) → ComesAbout {X = X} {Y = Y} (Asked x) (Open x ∷ []) NotOpen []
  sent x = now_sends NotAsked (Asked x) (Open x) [] NotOpen [] (Asks x) AtStart

  held : (x : X) → ComesAbout {X = X} {Y = Y} (Asked x) [] (Working x) []
  held x = now_heard (Asked x) (Open x) [] NotOpen [] (sent x)

  returning : (x : X) (y : Y) (l : Option X) → IsJust l x → ComesAbout {X = X} {Y = Y} (Asked x) [] (Answered y) (Return y l ∷ [])
  returning x y l j = now_returns (Asked x) [] (Working x) (Answered y) (Return y l) [] (Answers x y l j) (held x)

  closing : X → (y : Y) (l : Option Y) → IsJust l y → ComesAbout {X = X} {Y = Y} NotAsked (Fin l ∷ []) (Answered y) []
  closing x y l j = now_sends (Back y) NotAsked (Fin l) [] (Answered y) [] (IsDone y l j) (now_told (Asked x) [] (Answered y) (Return y None) [] (returning x y None tt))

  sent_behind : X → (y : Y) (l : Option Y) (x : X) → IsJust l y → ComesAbout {X = X} {Y = Y} (Asked x) (Fin l ∷ Open x ∷ []) (Answered y) []
  sent_behind z y l x j = now_sends NotAsked (Asked x) (Open x) (Fin l ∷ []) (Answered y) [] (Asks x) (closing z y l j)

  early_held : (x : X) → ComesAbout {X = X} {Y = Y} (Early x) (Fin None ∷ []) (Working x) []
  early_held x = now_sends (Asked x) (Early x) (Fin None) [] (Working x) [] (GivesUp x) (held x)

  early_waits : (x : X) → ComesAbout {X = X} {Y = Y} (Early x) [] (Unwanted x) []
  early_waits x = now_heard (Early x) (Fin None) [] (Working x) [] (early_held x)

  pub each : X → (v : Asker X Y) (out : List (Out X Y)) (u : Answerer X Y) (back : List (Ret X Y)) → Row v out u back → ComesAbout v out u back
  each z v out u back Idle = AtStart
  each z v out u back (Closing y l j) = closing z y l j
  each z v out u back (Sent x) = sent x
  each z v out u back (SentBehind y l x j) = sent_behind z y l x j
  each z v out u back (Held x) = held x
  each z v out u back (Returning x y l j) = returning x y l j
  each z v out u back (Returned y) = now_told (Asked z) [] (Answered y) (Return y None) [] (returning z y None tt)
  each z v out u back (EarlySent x) = now_sends (Asked x) (Early x) (Fin None) (Open x ∷ []) NotOpen [] (GivesUp x) (sent x)
  each z v out u back (EarlyBehind y l x j) = now_sends (Asked x) (Early x) (Fin None) (Fin l ∷ Open x ∷ []) (Answered y) [] (GivesUp x) (sent_behind z y l x j)
  each z v out u back (EarlyHeld x) = early_held x
  each z v out u back (EarlyCrossed x y l j) = now_sends (Asked x) (Early x) (Fin None) [] (Answered y) (Return y l ∷ []) (GivesUp x) (returning x y l j)
  each z v out u back (EarlyWaits x) = early_waits x
  each z v out u back (EarlyReturning x y l j) = now_returns (Early x) [] (Unwanted x) NotOpen (Return y l) [] (Cancels x y l j) (early_waits x)
