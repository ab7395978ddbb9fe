-- What a session says of the oldest message on its way.
use Rattle.std.proofs.Common.{◌≡◌, None, List, [], ◌∷◌, ◌++◌, refl}
use Rattle.laws_acts.specs.Sent.{Ids}
use Rattle.laws_runs.specs.Questions.{Asker, NotAsked, Asked, Back, Early, Odd, Answerer, NotOpen, Working, Unwanted, Answered, Strange, Out, Open, Fin, Ret, Return, IsJust, Row, Closing, Sent, SentBehind, Returning, EarlySent, EarlyBehind, EarlyHeld, EarlyCrossed, EarlyReturning}

-- The answerer is there for it: for a new question none is open; one that is finished is at work, or is answered.
abbrev pub OutFound : Answerer Ids Ids → Out Ids Ids → Type 0
OutFound NotOpen (Open x) = Unit {0}
OutFound NotOpen (Fin l) = ⊥
OutFound (Working x) (Open z) = ⊥
OutFound (Working x) (Fin l) = l ≡ None
OutFound (Unwanted x) m = ⊥
OutFound (Answered y) (Open x) = ⊥
OutFound (Answered y) (Fin l) = IsJust l y
OutFound Strange m = ⊥

-- The asker waits for it.
abbrev pub RetFound : Asker Ids Ids → Ret Ids Ids → Type 0
RetFound NotAsked m = ⊥
RetFound (Asked x) (Return y l) = IsJust l x
RetFound (Back y) m = ⊥
RetFound (Early x) (Return y l) = IsJust l x
RetFound Odd m = ⊥

-- the first one
abbrev pub OutsFound : Answerer Ids Ids → List (Out Ids Ids) → Type 0
OutsFound u [] = Unit {0}
OutsFound u (m ∷ ms) = OutFound u m

abbrev pub RetsFound : Asker Ids Ids → List (Ret Ids Ids) → Type 0
RetsFound v [] = Unit {0}
RetsFound v (m ∷ ms) = RetFound v m

out_found : (v : Asker Ids Ids) (m : Out Ids Ids) (out : List (Out Ids Ids)) (u : Answerer Ids Ids) (back : List (Ret Ids Ids)) → Row v (m ∷ out) u back → OutFound u m
out_found v m out u back (Closing y l j) = j
out_found v m out u back (Sent x) = tt
out_found v m out u back (SentBehind y l x j) = j
out_found v m out u back (EarlySent x) = tt
out_found v m out u back (EarlyBehind y l x j) = j
out_found v m out u back (EarlyHeld x) = refl
out_found v m out u back (EarlyCrossed x y l j) = tt

ret_found : (v : Asker Ids Ids) (out : List (Out Ids Ids)) (u : Answerer Ids Ids) (m : Ret Ids Ids) (back : List (Ret Ids Ids)) → Row v out u (m ∷ back) → RetFound v m
ret_found v out u m back (Returning x y l j) = j
ret_found v out u m back (EarlyCrossed x y l j) = j
ret_found v out u m back (EarlyReturning x y l j) = j

pub outs_found : (v : Asker Ids Ids) (ms out : List (Out Ids Ids)) (u : Answerer Ids Ids) (back : List (Ret Ids Ids)) → Row v (ms ++ out) u back → OutsFound u ms
outs_found v [] out u back r = tt
outs_found v (m ∷ ms) out u back r = out_found v m (ms ++ out) u back r

pub rets_found : (v : Asker Ids Ids) (out : List (Out Ids Ids)) (u : Answerer Ids Ids) (ms back : List (Ret Ids Ids)) → Row v out u (ms ++ back) → RetsFound v ms
rets_found v out u [] back r = tt
rets_found v out u (m ∷ ms) back r = ret_found v out u m (ms ++ back) r
