-- Bytes that come to a vat: they are parted into frames, and each is heard in its turn. A frame waits unheard while the vat's load is
-- above what is allowed.
use Rattle.std.specs.Prelude.{◌≡◌, ℕ, Bool, true, false, List, [], ◌∷◌, ◌++◌, length, Option, Some, None, IsSome, ◌⊎◌, refl}
use Rattle.std.specs.Coded.{Coded, code_by, coded×, coded_ℕ, coded_list, coded_option}
use Rattle.std.specs.List.{concat}
use Rattle.capn_trees.specs.Numbers.{number_of}
use Rattle.capn_trees.specs.declared.faults.PayloadFault.{PayloadFault}
use Rattle.capn_trees.specs.declared.faults.PayloadFault.TheVariants.{Short}
use Rattle.capn_fronts.specs.Laws.{AreKept, IsNone, Stands}
use Rattle.capn_fronts.specs.Parts.{IsHeld, IsShort, IsWhole, Part, front_of, nothing, part_code}
use Rattle.vat_connection.specs.Load.{is_within}
use Rattle.vat_connection.specs.declared.load.Limits.{Limits}
use Rattle.vat_connection.specs.Speaking.{Speaking, Falls, HearsUp, Says, want_of_room}

-- ---- what waits

-- These bytes begin a frame, of which more has to come, and this is kept of them.
pub record IsBegun (bytes : List ℕ) (waiting : Part) : Type 0 where
  pub stands : Stands bytes waiting
  pub held : IsHeld waiting
  pub short : IsShort (front_of waiting)

abbrev pub ends_by : List ℕ → ℕ
ends_by [] = 0
ends_by (b ∷ bytes) = number_of Short

-- the number with which a vat goes down if the stream ends behind what waits
abbrev pub ends_with : Part → ℕ
ends_with waiting = ends_by waiting.kept

-- ---- what came and was not heard

-- What is kept of whole frames, the oldest first, and of the beginning of the next one; and, once the stream is over, the number with
-- which the vat goes down behind the frames.
pub record Inflow : Type 0 where
  pub unheard : List Part
  pub waiting : Part
  pub over : Option ℕ

abbrev pub inflow_code : Coded Inflow
inflow_code =
    code_by (List Part × (Part × Option ℕ))
    (coded× (coded_list part_code) (coded× part_code (coded_option coded_ℕ)))
    (λ i. (i.unheard, (i.waiting, i.over)))
    (λ p. record { unheard = p.0; waiting = p.1.0; over = p.1.1 })
    (λ _. refl)

abbrev pub nothing_in : Inflow
nothing_in = record { unheard = []; waiting = nothing; over = None }

-- ---- frames in their turn

-- Whether one more frame is heard.
abbrev pub may_hear : Limits → Speaking → Bool
may_hear l s = is_within l s.heard.words (length s.out.bytes)

-- A vat hears frames in turn, each once all went out that it has to say, and some are left.
pub data HearsInTurn (l : Limits) (new : Speaking) (left : List Part) : Speaking → List Part → Type 0 where
  -- None is left.
  All : {s : Speaking} → new ≡ s → left ≡ [] → HearsInTurn l new left s []
  -- All goes out that it has to say.
  Saying : {s said : Speaking} (frame : Part) (frames : List Part) → s.host.core.down ≡ None → Says s said → HearsInTurn l new left said (frame ∷ frames)
      → HearsInTurn l new left s (frame ∷ frames)
  -- The oldest is heard.
  Oldest : {s mid : Speaking} (frame : Part) (frames : List Part) → s.host.core.down ≡ None → s.host.messages ≡ [] → may_hear l s ≡ true → IsWhole frame → HearsUp s frame mid
      → HearsInTurn l new left mid frames → HearsInTurn l new left s (frame ∷ frames)
  -- Its load is above the limits, and they wait.
  Above : {s : Speaking} (frame : Part) (frames : List Part) → s.host.core.down ≡ None → s.host.messages ≡ [] → may_hear l s ≡ false → new ≡ s → left ≡ frame ∷ frames
      → HearsInTurn l new left s (frame ∷ frames)
  -- The vat is down, and drops them.
  Down : {s : Speaking} (frame : Part) (frames : List Part) → IsSome s.host.core.down → new ≡ s → left ≡ [] → HearsInTurn l new left s (frame ∷ frames)
  -- Memory is wanting, and it goes down.
  Lacking : {s : Speaking} (frame : Part) (frames : List Part) → s.host.core.down ≡ None → Falls s want_of_room new → left ≡ [] → HearsInTurn l new left s (frame ∷ frames)

-- The stream is over: a vat of which no frame waits goes down with its number.
abbrev pub IsOver : Speaking → List Part → Part → ℕ → Speaking → Inflow → Type 0
IsOver mid [] waiting n new later = Falls mid n new × (later ≡ nothing_in)
IsOver mid (frame ∷ frames) waiting n new later = (new ≡ mid) × (later ≡ record { unheard = frame ∷ frames; waiting = waiting; over = Some n })

-- The frames that are left wait, with the beginning of the next one, if the stream goes on.
abbrev pub Rests : Speaking → List Part → Part → Option ℕ → Speaking → Inflow → Type 0
Rests mid left waiting None new later = (new ≡ mid) × (later ≡ record { unheard = left; waiting = waiting; over = None })
Rests mid left waiting (Some n) new later = IsOver mid left waiting n new later

-- A vat that went down drops all.
abbrev pub Leaves : Option ℕ → Speaking → List Part → Part → Option ℕ → Speaking → Inflow → Type 0
Leaves (Some n) mid left waiting over new later = (new ≡ mid) × (later ≡ nothing_in)
Leaves None mid left waiting over new later = Rests mid left waiting over new later

-- The frames that wait are heard, as far as the load allows it.
abbrev pub Proceeds : Limits → Speaking → Inflow → Speaking → Inflow → Type 0
Proceeds l old inflow new later =
    (mid : Speaking) × (left : List Part) × HearsInTurn l mid left old inflow.unheard × Leaves mid.host.core.down mid left inflow.waiting inflow.over new later

-- ---- bytes come

-- What stands behind the last frame: the beginning of a frame waits; or what begins with no frame ends the stream with the fault's
-- number.
abbrev pub EndsUp : Speaking → List Part → List ℕ → Speaking → Inflow → Type 0
EndsUp mid left rest new later =
    ((waiting : Part) × IsBegun rest waiting × Rests mid left waiting None new later) ⊎ ((f : PayloadFault) × IsNone rest f × IsOver mid left nothing (number_of f) new later)

-- A vat that went down drops it. Else it is kept; or memory is wanting for it, and the vat goes down.
abbrev pub Ends : Option ℕ → Speaking → List Part → List ℕ → Speaking → Inflow → Type 0
Ends (Some n) mid left rest new later = (new ≡ mid) × (later ≡ nothing_in)
Ends None mid left rest new later = EndsUp mid left rest new later ⊎ (Falls mid want_of_room new × (later ≡ nothing_in))

-- The bytes are these frames, each whole and in order, and a rest, and this is kept of each frame.
pub record IsSplit (bytes : List ℕ) (frames : List (List ℕ)) (kept : List Part) (rest : List ℕ) : Type 0 where
  pub joined : bytes ≡ concat frames ++ rest
  pub are_kept : AreKept frames kept

-- These bytes come behind frames that wait: they are some frames, and a rest.
abbrev pub Comes : Limits → Speaking → List Part → List ℕ → Speaking → Inflow → Type 0
Comes l old unheard bytes new later =
    (frames : List (List ℕ)) × (kept : List Part) × (rest : List ℕ) × IsSplit bytes frames kept rest
    × ((mid : Speaking) × (left : List Part) × HearsInTurn l mid left old (unheard ++ kept) × Ends mid.host.core.down mid left rest new later)

-- The same behind what waits of a frame, whatever the bytes were of which this is kept; and it is kept of some.
abbrev pub ComesBehind : Limits → Speaking → Inflow → List ℕ → Speaking → Inflow → Type 0
ComesBehind l old inflow bytes new later =
    ((came : List ℕ) × IsBegun came inflow.waiting) × ((came : List ℕ) → IsBegun came inflow.waiting → Comes l old inflow.unheard (came ++ bytes) new later)

-- More bytes come behind those that wait. A vat that is down drops them, and so does one whose stream is over.
abbrev pub FollowsBy : Option ℕ → Option ℕ → Limits → Speaking → Inflow → List ℕ → Speaking → Inflow → Type 0
FollowsBy (Some n) over l old inflow bytes new later = (new ≡ old) × (later ≡ inflow)
FollowsBy None (Some n) l old inflow bytes new later = (new ≡ old) × (later ≡ inflow)
FollowsBy None None l old inflow bytes new later = ComesBehind l old inflow bytes new later

abbrev pub Follows : Limits → Speaking → Inflow → List ℕ → Speaking → Inflow → Type 0
Follows l old inflow bytes new later = FollowsBy old.host.core.down inflow.over l old inflow bytes new later

-- ---- for the functions that do it

-- Bytes that come are parted: what is kept of whole frames waits behind the others, and behind them that of the beginning of the next; or
-- the stream is over.
abbrev pub PartedUp : Inflow → List Part → List ℕ → Inflow → Type 0
PartedUp old kept rest new =
    ((waiting : Part) × IsBegun rest waiting × (new ≡ record { unheard = old.unheard ++ kept; waiting = waiting; over = None }))
    ⊎ ((f : PayloadFault) × IsNone rest f × (new ≡ record { unheard = old.unheard ++ kept; waiting = nothing; over = Some (number_of f) }))

abbrev pub IsParted : Inflow → List ℕ → Inflow → Type 0
IsParted old bytes new = (came : List ℕ) → IsBegun came old.waiting → (frames : List (List ℕ)) × (kept : List Part) × (rest : List ℕ) × IsSplit (came ++ bytes) frames kept rest × PartedUp old kept rest new

-- The same of the rest of a piece: a stream that is over takes no more.
abbrev pub PartsBy : Option ℕ → Inflow → List ℕ → Inflow → Type 0
PartsBy (Some n) old bytes new = new ≡ old
PartsBy None old bytes new = IsParted old bytes new

abbrev pub PartsOn : Inflow → List ℕ → Inflow → Type 0
PartsOn old bytes new = PartsBy old.over old bytes new

-- what is left of frames that wait: a vat that is down drops them
abbrev pub left_by : Option ℕ → List Part → List Part
left_by (Some n) frames = []
left_by None frames = frames

-- A vat is asked to hear one more frame: all goes out that it has to say, and it may hear it, or not.
abbrev pub IsReady : Limits → Speaking → Bool → Speaking → Type 0
IsReady l old true new = (old.host.core.down ≡ None) × (Says old new × (new.host.core.down ≡ None) × (may_hear l new ≡ true))
IsReady l old false new =
    (IsSome old.host.core.down × (new ≡ old)) ⊎ ((old.host.core.down ≡ None) × (Says old new × (IsSome new.host.core.down ⊎ ((new.host.core.down ≡ None) × (may_hear l new ≡ false)))))
