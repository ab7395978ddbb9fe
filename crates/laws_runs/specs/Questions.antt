-- The session of one question id between two vats: what each of them may do, and how the two then stand (rpc.capnp, Call,
-- Return and Finish; docs/protocol.md, "Sessions of ids"). X is what a Call gave with it and Y what a Return gave:
-- the export ids of their sender descriptors.
use Rattle.std.specs.Prelude.{◌≡◌, Option, None, Some, List, [], ◌∷◌, ◌++◌}

-- The question of the vat that asks. Odd is an entry that no session has.
pub data Asker (X Y : Type 0) : Type 0 where
  NotAsked : Asker X Y
  Asked : (gave : X) → Asker X Y
  Back : (got : Y) → Asker X Y
  Early : (gave : X) → Asker X Y
  Odd : Asker X Y

-- The answer of the other. Strange is an entry that no session has.
pub data Answerer (X Y : Type 0) : Type 0 where
  NotOpen : Answerer X Y
  Working : (got : X) → Answerer X Y
  Unwanted : (got : X) → Answerer X Y
  Answered : (gave : Y) → Answerer X Y
  Strange : Answerer X Y

-- On the way to the answerer: a Bootstrap or a Call, and a Finish. A true flag comes with what it lets go.
pub data Out (X Y : Type 0) : Type 0 where
  Open : (gave : X) → Out X Y
  Fin : (lets : Option Y) → Out X Y

-- On the way to the asker.
pub data Ret (X Y : Type 0) : Type 0 where
  Return : (gave : Y) (lets : Option X) → Ret X Y

-- What is let go is nothing, or just that.
abbrev pub IsJust : {A : Type 0} → Option A → A → Type 0
IsJust None a = Unit {0}
IsJust (Some b) a = b ≡ a

-- What the asker does by itself: it asks; it finishes before the Return, or after.
pub data Sends {X Y : Type 0} : Asker X Y → Out X Y → Asker X Y → Type 0 where
  Asks : (x : X) → Sends NotAsked (Open x) (Asked x)
  GivesUp : (x : X) → Sends (Asked x) (Fin None) (Early x)
  IsDone : (y : Y) (l : Option Y) → IsJust l y → Sends (Back y) (Fin l) NotAsked

-- What the answerer does by itself: it returns.
pub data Returns {X Y : Type 0} : Answerer X Y → Ret X Y → Answerer X Y → Type 0 where
  Answers : (x : X) (y : Y) (l : Option X) → IsJust l x → Returns (Working x) (Return y l) (Answered y)
  Cancels : (x : X) (y : Y) (l : Option X) → IsJust l x → Returns (Unwanted x) (Return y l) NotOpen

-- What a received message does to the answer. Where it would be refused the answer is Strange.
abbrev pub hear_one : {X Y : Type 0} → Answerer X Y → Out X Y → Answerer X Y
hear_one NotOpen (Open x) = Working x
hear_one NotOpen (Fin l) = Strange
hear_one (Working x) (Open z) = Strange
hear_one (Working x) (Fin l) = Unwanted x
hear_one (Unwanted x) m = Strange
hear_one (Answered y) (Open x) = Strange
hear_one (Answered y) (Fin l) = NotOpen
hear_one Strange m = Strange

-- What a Return does to the question. Where it would be refused the question is Odd.
abbrev pub tell_one : {X Y : Type 0} → Asker X Y → Ret X Y → Asker X Y
tell_one NotAsked (Return y l) = Odd
tell_one (Asked x) (Return y l) = Back y
tell_one (Back z) (Return y l) = Odd
tell_one (Early x) (Return y l) = NotAsked
tell_one Odd (Return y l) = Odd

-- The thirteen ways in which a session stands.
pub data Row {X Y : Type 0} : Asker X Y → List (Out X Y) → Answerer X Y → List (Ret X Y) → Type 0 where
  Idle : Row NotAsked [] NotOpen []
  Closing : (y : Y) (l : Option Y) → IsJust l y → Row NotAsked (Fin l ∷ []) (Answered y) []
  Sent : (x : X) → Row (Asked x) (Open x ∷ []) NotOpen []
  SentBehind : (y : Y) (l : Option Y) (x : X) → IsJust l y → Row (Asked x) (Fin l ∷ Open x ∷ []) (Answered y) []
  Held : (x : X) → Row (Asked x) [] (Working x) []
  Returning : (x : X) (y : Y) (l : Option X) → IsJust l x → Row (Asked x) [] (Answered y) (Return y l ∷ [])
  Returned : (y : Y) → Row (Back y) [] (Answered y) []
  EarlySent : (x : X) → Row (Early x) (Open x ∷ Fin None ∷ []) NotOpen []
  EarlyBehind : (y : Y) (l : Option Y) (x : X) → IsJust l y → Row (Early x) (Fin l ∷ Open x ∷ Fin None ∷ []) (Answered y) []
  EarlyHeld : (x : X) → Row (Early x) (Fin None ∷ []) (Working x) []
  EarlyCrossed : (x : X) (y : Y) (l : Option X) → IsJust l x → Row (Early x) (Fin None ∷ []) (Answered y) (Return y l ∷ [])
  EarlyWaits : (x : X) → Row (Early x) [] (Unwanted x) []
  EarlyReturning : (x : X) (y : Y) (l : Option X) → IsJust l x → Row (Early x) [] NotOpen (Return y l ∷ [])

-- One thing that happens in a session.
pub data Goes {X Y : Type 0} (v : Asker X Y) (out : List (Out X Y)) (u : Answerer X Y) (back : List (Ret X Y)) (w : Asker X Y) (outs : List (Out X Y)) (x : Answerer X Y) (backs : List (Ret X Y)) : Type 0 where
  AskerSends : (m : Out X Y) → Sends v m w → outs ≡ out ++ m ∷ [] → x ≡ u → backs ≡ back → Goes v out u back w outs x backs
  AnswererReturns : (m : Ret X Y) → Returns u m x → backs ≡ back ++ m ∷ [] → w ≡ v → outs ≡ out → Goes v out u back w outs x backs
  AnswererHears : (m : Out X Y) → out ≡ m ∷ outs → x ≡ hear_one u m → w ≡ v → backs ≡ back → Goes v out u back w outs x backs
  AskerIsTold : (m : Ret X Y) → back ≡ m ∷ backs → w ≡ tell_one v m → outs ≡ out → x ≡ u → Goes v out u back w outs x backs

-- How a session may come to stand, from one that is idle.
pub data ComesAbout {X Y : Type 0} : Asker X Y → List (Out X Y) → Answerer X Y → List (Ret X Y) → Type 0 where
  AtStart : ComesAbout NotAsked [] NotOpen []
  Behind : {v : Asker X Y} {out : List (Out X Y)} {u : Answerer X Y} {back : List (Ret X Y)} {w : Asker X Y} {outs : List (Out X Y)} {x : Answerer X Y} {backs : List (Ret X Y)} → ComesAbout v out u back → Goes v out u back w outs x backs → ComesAbout w outs x backs

-- The table is just what comes about; and as no row has an odd or a strange entry, what is received is never refused.
pub record SessionsAreRows (X Y : Type 0) : Type 0 where
  pub only : (v : Asker X Y) (out : List (Out X Y)) (u : Answerer X Y) (back : List (Ret X Y)) → ComesAbout v out u back → Row v out u back
  pub each : X → (v : Asker X Y) (out : List (Out X Y)) (u : Answerer X Y) (back : List (Ret X Y)) → Row v out u back → ComesAbout v out u back
  pub not_odd : (out : List (Out X Y)) (u : Answerer X Y) (back : List (Ret X Y)) → ¬ (Row Odd out u back)
  pub not_strange : (v : Asker X Y) (out : List (Out X Y)) (back : List (Ret X Y)) → ¬ (Row v out Strange back)
