-- The logs of the two sides, and when they fit (docs/threads.md).
use Rattle.std.specs.Prelude.{◌≡◌, ℕ, suc, ◌+◌, ◌≤◌, List, [], ◌∷◌, ◌++◌, length, Option, None, Some}
use Rattle.laws_merge.specs.Machine.{Input, Command, Shut, Receive, Side, Move}

-- A message with its number, and how many frames of the other side its maker acknowledges.
pub record Frame (M : Type 0) : Type 0 where
  pub seq : ℕ
  pub ack : ℕ
  pub message : M

abbrev pub messages : {M : Type 0} → List (Frame M) → List M
messages [] = []
messages (f ∷ fs) = f.message ∷ messages fs

-- What an entry is of: a command, a shut, or a frame that was received.
pub data Cause (C I : Type 0) : Type 0 where
  Commanded : C → Cause C I
  WasShut : Cause C I
  Received : Frame I → Cause C I

abbrev pub input_of : {C I : Type 0} → Cause C I → Input C I
input_of (Commanded c) = Command c
input_of WasShut = Shut
input_of (Received f) = Receive f.message

-- The frames that it received, one or none.
abbrev pub got : {C I : Type 0} → Cause C I → List (Frame I)
got (Commanded c) = []
got WasShut = []
got (Received f) = f ∷ []

-- The number of frames received, with this cause; r were received before it.
abbrev pub counted : {C I : Type 0} → ℕ → Cause C I → ℕ
counted r (Commanded c) = r
counted r WasShut = r
counted r (Received f) = suc r

-- The number of the frame that it received.
abbrev pub number_of : {C I : Type 0} → Cause C I → Option ℕ
number_of (Commanded c) = None
number_of WasShut = None
number_of (Received f) = Some f.seq

-- An entry of a log, with the frames that it made.
pub record Entry {I O : Type 0} (S : Side I O) : Type 0 where
  pub cause : Cause S.Command I
  pub note : S.Note
  pub made : List (Frame O)

-- The step that an entry is of.
abbrev pub move_of : {I O : Type 0} {S : Side I O} → Entry S → Move S
move_of e = record { input = input_of e.cause; note = e.note; sends = messages e.made }

abbrev pub received : {I O : Type 0} {S : Side I O} → List (Entry S) → List (Frame I)
received [] = []
received (e ∷ es) = got e.cause ++ received es

abbrev pub made_by : {I O : Type 0} {S : Side I O} → List (Entry S) → List (Frame O)
made_by [] = []
made_by (e ∷ es) = e.made ++ made_by es

-- These frames have the numbers from seq on, and this ack.
abbrev pub Numbered : {M : Type 0} → ℕ → ℕ → List (Frame M) → Type 0
Numbered seq ack [] = Unit {0}
Numbered seq ack (f ∷ fs) = (f.seq ≡ seq) × (f.ack ≡ ack) × Numbered (suc seq) ack fs

-- The entries are steps from the state old to the state new. Before them r frames were received and k made.
-- A made frame's number is the number of frames made before it, and its ack the number of frames received up to
-- and with its entry.
abbrev pub Lawful : {I O : Type 0} (S : Side I O) → S.State → ℕ → ℕ → List (Entry S) → S.State → Type 0
Lawful S old r k [] new = new ≡ old
Lawful S old r k (e ∷ es) new =
    (mid : S.State)
    × S.Step old (input_of e.cause) e.note (messages e.made) mid
    × Numbered k (counted r e.cause) e.made
    × Lawful S mid (counted r e.cause) (k + length e.made) es new

-- As Numbered and Lawful, but an ack may be higher, as where it is written when the frame leaves and not when it
-- is made.
abbrev pub NumberedLate : {M : Type 0} → ℕ → ℕ → List (Frame M) → Type 0
NumberedLate seq ack [] = Unit {0}
NumberedLate seq ack (f ∷ fs) = (f.seq ≡ seq) × (ack ≤ f.ack) × NumberedLate (suc seq) ack fs

abbrev pub LawfulLate : {I O : Type 0} (S : Side I O) → S.State → ℕ → ℕ → List (Entry S) → S.State → Type 0
LawfulLate S old r k [] new = new ≡ old
LawfulLate S old r k (e ∷ es) new =
    (mid : S.State)
    × S.Step old (input_of e.cause) e.note (messages e.made) mid
    × NumberedLate k (counted r e.cause) e.made
    × LawfulLate S mid (counted r e.cause) (k + length e.made) es new

-- A frame that came acknowledges no more than k.
abbrev pub AckWithin : {C I : Type 0} → ℕ → Cause C I → Type 0
AckWithin k (Commanded c) = Unit {0}
AckWithin k WasShut = Unit {0}
AckWithin k (Received f) = f.ack ≤ k

-- Each frame that came acknowledges no more than was made before its entry; k were made before all.
abbrev pub Acked : {I O : Type 0} {S : Side I O} → ℕ → List (Entry S) → Type 0
Acked k [] = Unit {0}
Acked k (e ∷ es) = AckWithin k e.cause × Acked (k + length e.made) es

abbrev pub IsBeginningOf : {M : Type 0} → List M → List M → Type 0
IsBeginningOf xs ys = (rest : List _) × (xs ++ rest ≡ ys)

-- What each log received is a beginning of what the other made, and no ack that came is too high.
pub record Fit {X Y : Type 0} {A : Side Y X} {B : Side X Y} (xs : List (Entry A)) (ys : List (Entry B)) : Type 0 where
  pub to_a : IsBeginningOf (received xs) (made_by ys)
  pub to_b : IsBeginningOf (received ys) (made_by xs)
  pub acks_a : Acked 0 xs
  pub acks_b : Acked 0 ys
