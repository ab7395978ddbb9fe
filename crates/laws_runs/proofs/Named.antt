-- What names an answer finds it.
use Rattle.std.proofs.Common.{◌≡◌, None, List, [], ◌∷◌, ◌++◌, refl, sym, subst}
use Rattle.laws_runs.specs.Questions.{Asker, Answerer, hear_one, NotOpen, Working, Unwanted, Answered, Out, Fin, Ret, Returns, Answers, Cancels, Row, Idle, Closing, Sent, SentBehind, Held, Returning, Returned, EarlySent, EarlyBehind, EarlyHeld, EarlyCrossed, EarlyWaits, EarlyReturning}
use Rattle.laws_runs.specs.Names.{Mark, Says, Names, outs, IsHere, Met, IsAsking}

module _ {X Y : Type 0} where
  abbrev hear : Answerer X Y → List (Out X Y) → Answerer X Y
  hear u [] = u
  hear u (m ∷ ms) = hear (hear_one u m) ms

  here : (v : Asker X Y) (out : List (Out X Y)) (u : Answerer X Y) (back : List (Ret X Y)) → Row v out u back → IsAsking v → IsHere (hear u out)
  here v out u back Idle a = absurd a
  here v out u back (Closing y l j) a = absurd a
  here v out u back (Sent x) a = tt
  here v out u back (SentBehind y l x j) a = tt
  here v out u back (Held x) a = tt
  here v out u back (Returning x y l j) a = tt
  here v out u back (Returned y) a = tt
  here v out u back (EarlySent x) a = absurd a
  here v out u back (EarlyBehind y l x j) a = absurd a
  here v out u back (EarlyHeld x) a = absurd a
  here v out u back (EarlyCrossed x y l j) a = absurd a
  here v out u back (EarlyWaits x) a = absurd a
  here v out u back (EarlyReturning x y l j) a = absurd a

  at_end : (u : Answerer X Y) (ms : List (Mark X Y)) → Met u ms → IsHere (hear u (outs ms)) → Met u (ms ++ Names ∷ [])
  at_end u [] h i = (i, tt)
  at_end u (Says m ∷ ms) h i = at_end (hear_one u m) ms h i
  at_end u (Names ∷ ms) h i = (h.0, at_end u ms h.1 i)

  pub names : (v : Asker X Y) (ms : List (Mark X Y)) (u : Answerer X Y) (back : List (Ret X Y)) → Row v (outs ms) u back → IsAsking v → Met u ms → Met u (ms ++ Names ∷ [])
  names v ms u back r a h = at_end u ms h (here v (outs ms) u back r a)

  pub sends : (u : Answerer X Y) (ms : List (Mark X Y)) (m : Out X Y) → Met u ms → Met u (ms ++ Says m ∷ [])
  sends u [] m h = tt
  sends u (Says k ∷ ms) m h = sends (hear_one u k) ms m h
  sends u (Names ∷ ms) m h = (h.0, sends u ms m h.1)

  -- Where no message of the session is on the way.
  with_none : (ms : List (Mark X Y)) (u x : Answerer X Y) → outs ms ≡ [] → (IsHere u → IsHere x) → Met u ms → Met x ms
  with_none [] u x e f h = tt
  with_none (Says m ∷ ms) u x e f h = absurd (let bad : m ∷ outs ms ≡ [] = e in cc)
  with_none (Names ∷ ms) u x e f h = (f h.0, with_none ms u x e f h.1)

  -- Where a Finish alone is.
  with_fin : (ms : List (Mark X Y)) (z : X) (y : Y) → outs ms ≡ Fin None ∷ [] → Met (Working z) ms → Met (Answered y) ms
  with_fin [] z y e h = tt
  with_fin (Says m ∷ ms) z y e h =
      let first : m ≡ Fin None = cc in
      let rest : outs ms ≡ [] = cc in
      subst (λ (k : Out X Y). Met (hear_one (Answered y) k) ms) (sym first) (with_none ms (Unwanted z) NotOpen rest (λ i. i) (subst (λ (k : Out X Y). Met (hear_one (Working z) k) ms) first h))
  with_fin (Names ∷ ms) z y e h = (tt, with_fin ms z y e h.1)

  answers : (z : X) (y : Y) (v : Asker X Y) (ms : List (Mark X Y)) (out : List (Out X Y)) (back : List (Ret X Y)) → Row v out (Working z) back → outs ms ≡ out → Met (Working z) ms → Met (Answered y) ms
  answers z y v ms out back (Held x) e h = with_none ms (Working z) (Answered y) e (λ i. tt) h
  answers z y v ms out back (EarlyHeld x) e h = with_fin ms z y e h

  cancels : (z : X) (v : Asker X Y) (ms : List (Mark X Y)) (out : List (Out X Y)) (back : List (Ret X Y)) → Row v out (Unwanted z) back → outs ms ≡ out → Met (Unwanted z) ms → Met NotOpen ms
  cancels z v ms out back (EarlyWaits x) e h = with_none ms (Unwanted z) NotOpen e (λ i. i) h

  pub returns : (v : Asker X Y) (ms : List (Mark X Y)) (u x : Answerer X Y) (m : Ret X Y) (back : List (Ret X Y)) → Row v (outs ms) u back → Returns u m x → Met u ms → Met x ms
  returns v ms u x m back r (Answers z y l j) h = answers z y v ms (outs ms) back r refl h
  returns v ms u x m back r (Cancels z y l j) h = cancels z v ms (outs ms) back r refl h
