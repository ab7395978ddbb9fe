-- The session of one export id between two vats: what each of them may do, how the two then stand, and what follows
-- (rpc.capnp, CapDescriptor, Release and Resolve; docs/protocol.md, "Sessions of ids").
use Rattle.std.specs.Prelude.{◌≡◌, ℕ, ◌+◌, ◌<◌, ◌≤◌, List, [], ◌∷◌, ◌++◌}

-- As what it was given.
pub data Kind : Type 0 where
  Hosted : Kind
  Promised : Kind

-- How far its node is: an object; an open promise or field; settled, with the Resolve still to be sent; with it sent.
pub data Stage : Type 0 where
  IsObject : Stage
  IsOpen : Stage
  Owes : Stage
  HasTold : Stage

-- The export of the vat that gives.
pub data Exporter : Type 0 where
  Gone : Exporter
  Has : (count : ℕ) (stage : Stage) → Exporter

-- What its Resolve did at the other.
pub data Said : Type 0 where
  Nothing : Said
  Resolved : Said

-- The import of the other.
pub data Importer : Type 0 where
  Absent : Importer
  Holds : (count : ℕ) (kind : Kind) (said : Said) → Importer

-- On the way to the importer: each sender descriptor of the id, and each Resolve of it. A message may be several of
-- these: a Resolve comes before the descriptor in it, since its receiver looks the import up before it takes that.
pub data Out : Type 0 where
  Give : (kind : Kind) → Out
  Resolve : Out

-- On the way to the exporter: each target or receiver descriptor that names it; and what a Release, or a true flag, lets
-- go of it. A flag doesn't say how many: the number is what its sender let go.
-- What a message names comes before what it takes off, since its receiver checks before it changes.
pub data Back : Type 0 where
  Mention : Back
  Take : (count : ℕ) → Back

-- ---- What each does by itself

-- The exporter gives it: at a free id, or once more while it's an object or open. It tells once what it was settled to.
pub data Sends : Exporter → Out → Exporter → Type 0 where
  GivesObject : Sends Gone (Give Hosted) (Has 1 IsObject)
  GivesPromise : Sends Gone (Give Promised) (Has 1 IsOpen)
  GivesObjectAgain : (n : ℕ) → Sends (Has n IsObject) (Give Hosted) (Has (n + 1) IsObject)
  GivesPromiseAgain : (n : ℕ) → Sends (Has n IsOpen) (Give Promised) (Has (n + 1) IsOpen)
  Tells : (n : ℕ) → Sends (Has n Owes) Resolve (Has n HasTold)

-- Its node is settled.
pub data Settles : Exporter → Exporter → Type 0 where
  IsSettled : (n : ℕ) → Settles (Has n IsOpen) (Has n Owes)

-- The importer names it while it holds it, and lets go of no more than it holds.
pub data Answers : Importer → Back → Importer → Type 0 where
  Mentions : (n : ℕ) (k : Kind) (s : Said) → Answers (Holds n k s) Mention (Holds n k s)
  LetsSome : (n m : ℕ) (k : Kind) (s : Said) → 0 < n → 0 < m → Answers (Holds (n + m) k s) (Take n) (Holds m k s)
  LetsAll : (n : ℕ) (k : Kind) (s : Said) → 0 < n → Answers (Holds n k s) (Take n) Absent

-- ---- What a received message does where it is no fault

pub data Hears : Exporter → Back → Exporter → Type 0 where
  IsThere : (n : ℕ) (s : Stage) → Hears (Has n s) Mention (Has n s)
  Lowers : (n m : ℕ) (s : Stage) → 0 < n → 0 < m → Hears (Has (n + m) s) (Take n) (Has m s)
  Goes : (n : ℕ) (s : Stage) → 0 < n → Hears (Has n s) (Take n) Gone

pub data Told : Importer → Out → Importer → Type 0 where
  Comes : (k : Kind) → Told Absent (Give k) (Holds 1 k Nothing)
  ComesAgain : (n : ℕ) (k : Kind) → Told (Holds n k Nothing) (Give k) (Holds (n + 1) k Nothing)
  IsLate : Told Absent Resolve Absent
  IsResolved : (n : ℕ) → Told (Holds n Promised Nothing) Resolve (Holds n Promised Resolved)

-- ---- How a session stands

abbrev pub count : Exporter → ℕ
count Gone = 0
count (Has n s) = n

abbrev pub held : Importer → ℕ
held Absent = 0
held (Holds n k s) = n

abbrev pub gives : List Out → ℕ
gives [] = 0
gives (Give k ∷ ms) = 1 + gives ms
gives (Resolve ∷ ms) = gives ms

abbrev pub takes : List Back → ℕ
takes [] = 0
takes (Mention ∷ ms) = takes ms
takes (Take n ∷ ms) = n + takes ms

-- From a count n these messages leave the rest. Where one names the export, something is left.
abbrev pub Leaves : ℕ → List Back → ℕ → Type 0
Leaves n [] rest = n ≡ rest
Leaves n (Mention ∷ ms) rest = (0 < n) × Leaves n ms rest
Leaves n (Take k ∷ ms) rest = (m : ℕ) × (0 < k) × (n ≡ k + m) × Leaves m ms rest

-- What an importer knows of it: nothing, its kind, or that it was resolved.
pub data Seen : Type 0 where
  Unknown : Seen
  Known : (kind : Kind) → Seen
  Over : Seen

abbrev pub seen_by : Kind → Said → Seen
seen_by k Nothing = Known k
seen_by k Resolved = Over

abbrev pub seen : Importer → Seen
seen Absent = Unknown
seen (Holds n k s) = seen_by k s

-- What it knows once one more message has come. Of an import that isn't there a Resolve is not kept.
pub data Learns : Seen → Out → Seen → Type 0 where
  First : (k : Kind) → Learns Unknown (Give k) (Known k)
  Again : (k : Kind) → Learns (Known k) (Give k) (Known k)
  Late : Learns Unknown Resolve Unknown
  Last : Learns (Known Promised) Resolve Over

-- Once all have come.
abbrev pub LearnsAll : Seen → List Out → Seen → Type 0
LearnsAll a [] last = a ≡ last
LearnsAll a (m ∷ ms) last = (b : Seen) × Learns a m b × LearnsAll b ms last

-- What the importer will know fits the exporter's stage.
pub data Fits : Seen → Exporter → Type 0 where
  Free : (x : Exporter) → Fits Unknown x
  Object : (n : ℕ) → Fits (Known Hosted) (Has n IsObject)
  Open : (n : ℕ) → Fits (Known Promised) (Has n IsOpen)
  Owing : (n : ℕ) → Fits (Known Promised) (Has n Owes)
  Done : (n : ℕ) → Fits Over (Has n HasTold)

abbrev pub IsEntry : Exporter → Type 0
IsEntry Gone = Unit {0}
IsEntry (Has n s) = 0 < n

abbrev pub IsHeld : Importer → Type 0
IsHeld Absent = Unit {0}
IsHeld (Holds n k s) = 0 < n

-- What was given as an object is not resolved.
abbrev pub IsRight : Importer → Type 0
IsRight Absent = Unit {0}
IsRight (Holds n k Nothing) = Unit {0}
IsRight (Holds n Hosted Resolved) = ⊥
IsRight (Holds n Promised Resolved) = Unit {0}

pub record Stands (x : Exporter) (out : List Out) (y : Importer) (back : List Back) : Type 0 where
  pub entry : IsEntry x
  pub import : IsHeld y
  pub right : IsRight y
  pub counts : Leaves (count x) back (held y + gives out)
  pub last : Seen
  pub learns : LearnsAll (seen y) out last
  pub fits : Fits last x

-- ---- What is proved

-- Each thing that happens keeps it; and what is received is never a fault.
pub record ExportSessionsHold : Type 0 where
  pub start : Stands Gone [] Absent []
  pub sends : (x z : Exporter) (m : Out) (out : List Out) (y : Importer) (back : List Back) → Stands x out y back → Sends x m z → Stands z (out ++ m ∷ []) y back
  pub settles : (x z : Exporter) (out : List Out) (y : Importer) (back : List Back) → Stands x out y back → Settles x z → Stands z out y back
  pub answers : (x : Exporter) (out : List Out) (y z : Importer) (m : Back) (back : List Back) → Stands x out y back → Answers y m z → Stands x out z (back ++ m ∷ [])
  pub heard : (x : Exporter) (out : List Out) (y : Importer) (m : Back) (back : List Back) → Stands x out y (m ∷ back) → (z : Exporter) × Hears x m z × Stands z out y back
  pub told : (x : Exporter) (m : Out) (out : List Out) (y : Importer) (back : List Back) → Stands x (m ∷ out) y back → (z : Importer) × Told y m z × Stands x out z back

abbrev pub kind_of : Stage → Kind
kind_of IsObject = Hosted
kind_of IsOpen = Promised
kind_of Owes = Promised
kind_of HasTold = Promised

abbrev pub HasKind : Kind → Exporter → Type 0
HasKind k Gone = ⊥
HasKind k (Has n s) = kind_of s ≡ k

abbrev pub ImportHasKind : Importer → Exporter → Type 0
ImportHasKind Absent x = Unit {0}
ImportHasKind (Holds n k s) x = HasKind k x

-- The Resolve is live: the importer holds the id, or will when that Resolve comes.
abbrev pub IsLive : Importer → List Out → Type 0
IsLive y ahead = 0 < held y + gives ahead

abbrev pub IsUnresolved : Importer → Type 0
IsUnresolved Absent = Unit {0}
IsUnresolved (Holds n k s) = s ≡ Nothing

abbrev pub HasBeenTold : Exporter → Type 0
HasBeenTold Gone = ⊥
HasBeenTold (Has n s) = s ≡ HasTold

pub record ExportSays : Type 0 where
  -- the count is what is held, what is given on the way and what is let go on the way
  pub count_is : (x : Exporter) (out : List Out) (y : Importer) (back : List Back) → Stands x out y back → count x ≡ held y + (gives out + takes back)
  -- where a message names it, more is there than those ahead of it let go
  pub is_met : (x : Exporter) (out : List Out) (y : Importer) (ahead behind : List Back) → Stands x out y (ahead ++ Mention ∷ behind) → takes ahead < count x
  -- no more is let go than is there
  pub is_enough : (x : Exporter) (out : List Out) (y : Importer) (n : ℕ) (ahead behind : List Back) → Stands x out y (ahead ++ Take n ∷ behind) → takes ahead + n ≤ count x
  -- descriptors on the way, and the import, are of its kind
  pub kinds : (x : Exporter) (y : Importer) (back : List Back) (k : Kind) (ahead behind : List Out) → Stands x (ahead ++ Give k ∷ behind) y back → HasKind k x
  pub import_kind : (x : Exporter) (out : List Out) (y : Importer) (back : List Back) → Stands x out y back → ImportHasKind y x
  -- a Resolve that is live is the last that is on the way, and finds the import as it came
  pub resolved_once : (x : Exporter) (y : Importer) (back : List Back) (ahead behind : List Out) → Stands x (ahead ++ Resolve ∷ behind) y back → IsLive y ahead → HasBeenTold x × IsUnresolved y × (behind ≡ [])
  -- behind an import that was resolved nothing of it is on the way
  pub after_resolve : (x : Exporter) (out : List Out) (y : Importer) (back : List Back) (n : ℕ) (k : Kind) → y ≡ Holds n k Resolved → Stands x out y back → HasBeenTold x × (out ≡ [])
