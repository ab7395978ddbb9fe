-- The reader of an end, by the calls that it had.
use Rattle.std.proofs.Common.{◌≡◌, ℕ, ◌+◌, ◌-◌, ◌<◌, ◌⊎◌, Bool, true, false, IsTrue, is_some, List, [], ◌∷◌, ◌++◌, length, take, drop, Option, Some, None, Result, Ok, Err, refl, sym, ap, subst, ◌∙◌, append_assoc, append-nil, take-append-drop, arith, inl, inr}
use Rattle.std.proofs.lemmas.List.{drop_all}
use Rattle.std.proofs.Math.Seq.{take-append-add}
use Rattle.capn_trees.specs.declared.faults.PayloadFault.{PayloadFault}
use Rattle.capn_stream.specs.declared.error.StreamError.{StreamError}
use Rattle.capn_stream.specs.declared.error.StreamError.TheVariants as error
use Rattle.capn_stream.specs.declared.front.Front.{Front}
use Rattle.capn_stream.specs.declared.front.Front.TheVariants.{Complete, Need, Fault}
use Rattle.capn_stream.specs.Fronts.{front_of, IsFrame, IsShort, IsHeldAt}
use Rattle.capn_stream.specs.Readers.{Reader, Pushed, PushedBy, Taken, TakenBy, IsWaiting}
use Rattle.capn_stream.specs.Streams.{Call, Push, Take, Answers, Reads}
use Rattle.capn_stream.specs.Laws.{FramesAreTheBytes}
use Rattle.rpc_look_lib.specs.Streams.{Waits, waits_of, IsBegun, IsOpen, IsKept, GivesBy, Gives}

-- ---- calls

-- one call more
pub reads_more : (old mid new : Reader) (calls : List Call) (call : Call) → Reads old calls mid → Answers mid call new → Reads old (calls ++ call ∷ []) new
reads_more old mid new [] call e a = (new, subst (λ (r : Reader). Answers r call new) e a, refl)
reads_more old mid new (c ∷ calls) call r a = (r.0, r.1, reads_more r.0 mid new calls call r.2 a)

begun_by : (len : ℕ) (f : Front) → IsHeldAt len f → IsShort f → IsBegun f
begun_by len (Complete n) held short = absurd short
begun_by len (Need n) held short = tt
begun_by len (Fault f) held short = absurd held

-- what waits has begun
pub begun_of : FramesAreTheBytes → (calls : List Call) (held : List ℕ) → Reads (Ok []) calls (Ok held) → IsShort (front_of held) → IsBegun (front_of held)
begun_of law calls held r short = begun_by (length held) (front_of held) (law calls (Ok held) r).2.1 short

-- ---- what a reader does with a part

err_of : (e f : StreamError) → ◌≡◌ {A = Result ℕ StreamError} (Err e) (Err f) → e ≡ f
err_of e f h = cc

ok_of : (m n : ℕ) → ◌≡◌ {A = Result ℕ StreamError} (Ok m) (Ok n) → m ≡ n
ok_of m n h = cc

fault_of : (f g : PayloadFault) → error.Fault f ≡ error.Fault g → f ≡ g
fault_of f g h = cc

fault_by : (held part : List ℕ) (front : Front) (f : PayloadFault) (new : Reader) → PushedBy held part front (Err (error.Fault f)) new → front ≡ Fault f
fault_by held part (Complete n) f new by = let h : ◌≡◌ {A = Result ℕ StreamError} (Err (error.Fault f)) (Ok (n - length held)) = by.0 in cc
fault_by held part (Need n) f new by = let h : ◌≡◌ {A = Result ℕ StreamError} (Err (error.Fault f)) (Ok (length part)) = by.0 in cc
fault_by held part (Fault g) f new by = ap Fault (sym (fault_of f g (err_of (error.Fault f) (error.Fault g) by.0)))

-- no frame comes next
pub push_fault : (held part : List ℕ) (f : PayloadFault) (new : Reader) → Pushed (Ok held) part (Err (error.Fault f)) new → front_of (held ++ part) ≡ Fault f
push_fault held part f new (inl by) = fault_by held part (front_of (held ++ part)) f new by
push_fault held part f new (inr none) = let h : error.Fault f ≡ error.Memory = err_of (error.Fault f) error.Memory none.0 in cc

kept_by : (held part : List ℕ) (f : Front) (taken : ℕ) (new : Reader) → 0 < taken → PushedBy held part f (Ok taken) new
    → (next : List ℕ) × (new ≡ Ok next) × (next ++ drop taken part ≡ held ++ part)
kept_by held part (Complete n) taken new some by =
    let size : taken ≡ n - length held = ok_of taken (n - length held) by.0 in
    let more : n ≡ length held + taken = omega arith in (
      take n (held ++ part),
      by.1,
      ap (λ (k : ℕ). take k (held ++ part) ++ drop taken part) more ∙ ap (λ (t : List ℕ). t ++ drop taken part) (take-append-add held part taken)
          ∙ append_assoc held (take taken part) (drop taken part) ∙ ap (λ (t : List ℕ). held ++ t) (take-append-drop taken part),
    )
kept_by held part (Need n) taken new some by =
    let size : taken ≡ length part = ok_of taken (length part) by.0 in
    let none : drop taken part ≡ [] = drop_all taken part (omega arith) in
    (held ++ part, by.1, ap (λ (t : List ℕ). (held ++ part) ++ t) none ∙ append-nil (held ++ part))
kept_by held part (Fault f) taken new some by = let h : ◌≡◌ {A = Result ℕ StreamError} (Ok taken) (Err (error.Fault f)) = by.0 in cc

-- what waits and what is left of the part are what they were
pub push_kept : (held part : List ℕ) (taken : ℕ) (new : Reader) → 0 < taken → Pushed (Ok held) part (Ok taken) new
    → (next : List ℕ) × (new ≡ Ok next) × (next ++ drop taken part ≡ held ++ part)
push_kept held part taken new some (inl by) = kept_by held part (front_of (held ++ part)) taken new some by
push_kept held part taken new some (inr none) = let h : ◌≡◌ {A = Result ℕ StreamError} (Ok taken) (Err error.Memory) = none.0 in cc

none_by : (held : List ℕ) (f : Front) (new : Reader) → TakenBy held f None new → new ≡ Ok held
none_by held (Complete n) new by = let h : ◌≡◌ {A = Option (List ℕ)} None (Some held) = by.0 in cc
none_by held (Need n) new by = by.1
none_by held (Fault f) new by = by.1

-- no frame is taken
pub none_taken : (held : List ℕ) (new : Reader) → Taken (Ok held) None new → new ≡ Ok held
none_taken held new taken = none_by held (front_of held) new taken

frame_by : (held frame : List ℕ) (f : Front) (new : Reader) → TakenBy held f (Some frame) new → (held ≡ frame) × (new ≡ Ok [])
frame_by held frame (Complete n) new by = let same : held ≡ frame = let h : ◌≡◌ {A = Option (List ℕ)} (Some frame) (Some held) = by.0 in cc in (same, by.1)
frame_by held frame (Need n) new by = let h : ◌≡◌ {A = Option (List ℕ)} (Some frame) None = by.0 in cc
frame_by held frame (Fault f) new by = let h : ◌≡◌ {A = Option (List ℕ)} (Some frame) None = by.0 in cc

-- a frame is taken
pub frame_taken : (held frame : List ℕ) (new : Reader) → Taken (Ok held) (Some frame) new → (held ≡ frame) × (new ≡ Ok [])
frame_taken held frame new taken = frame_by held frame (front_of held) new taken

-- ---- what a part gives

given_by : (held part : List ℕ) (count : ℕ) (next : List ℕ) (frame : Option (List ℕ)) (new : Reader) → next ++ drop count part ≡ held ++ part → Taken (Ok next) frame new
    → (waits : List ℕ) × (new ≡ Ok waits) × GivesBy held part count frame waits
given_by held part count next None new kept taken = (next, none_taken next new taken, sym kept)
given_by held part count next (Some frame) new kept taken =
    let given = frame_taken next frame new taken in
    ([], given.1, (refl, sym kept ∙ ap (λ (t : List ℕ). t ++ drop count part) given.0))

given_new : (held part : List ℕ) (count : ℕ) (frame : Option (List ℕ)) (mid new : Reader) → 0 < count → Pushed (Ok held) part (Ok count) mid → Taken mid frame new
    → (waits : List ℕ) × (new ≡ Ok waits) × GivesBy held part count frame waits
given_new held part count frame mid new some pushed taken =
    let kept = push_kept held part count mid some pushed in
    given_by held part count kept.0 frame new kept.2 (subst (λ (r : Reader). Taken r frame new) kept.1 taken)

two_more : (old mid new : Reader) (calls : List Call) (part : List ℕ) (count : ℕ) (frame : Option (List ℕ)) → Reads (Ok []) calls old → Pushed old part (Ok count) mid → Taken mid frame new
    → Reads (Ok []) ((calls ++ Push part (Ok count) ∷ []) ++ Take frame ∷ []) new
two_more old mid new calls part count frame r pushed taken =
    reads_more (Ok []) mid new (calls ++ Push part (Ok count) ∷ []) (Take frame) (reads_more (Ok []) old mid calls (Push part (Ok count)) r pushed) taken

-- what holds of the reader behind it
pub kept_new : (old mid new : Reader) (sound : Bool) (part : List ℕ) (count : ℕ) (frame : Option (List ℕ)) → IsKept old sound → (IsWaiting old → 0 < length part → 0 < count) → 0 < length part
    → Pushed old part (Ok count) mid → Taken mid frame new → IsWaiting new → IsKept new sound
kept_new old mid new false part count frame kept some within pushed taken waits = tt
kept_new (Err f) mid new true part count frame kept some within pushed taken waits = absurd kept.2
kept_new (Ok held) mid new true part count frame kept some within pushed taken waits =
    let given = given_new held part count frame mid new (some kept.2 within) pushed taken in (
      (kept.0 ++ Push part (Ok count) ∷ []) ++ Take frame ∷ [],
      two_more (Ok held) mid new kept.0 part count frame kept.1 pushed taken,
      subst IsOpen (sym given.1) (subst IsWaiting given.1 waits),
    )

none_waits : (r : Reader) → waits_of r false ≡ None
none_waits (Ok held) = refl
none_waits (Err f) = refl

pub no_truth : false ≡ true → ⊥
no_truth h = subst (λ (b : Bool). elim b as (λ _. Type 0) [ true ↦ ⊥ | false ↦ Unit {0} ]) h tt

no_waits : (self : Waits) → None ≡ self → IsTrue (is_some self) → ⊥
no_waits self e some = no_truth (subst (λ (w : Waits). IsTrue (is_some w)) (sym e) some)

-- a frame, or what waits
pub stream_gives : FramesAreTheBytes → (old mid new : Reader) (sound : Bool) (part : List ℕ) (count : ℕ) (frame : Option (List ℕ)) (self : Waits) → waits_of old sound ≡ self → IsTrue (is_some self) → IsKept old sound
    → (IsWaiting old → 0 < length part → 0 < count) → 0 < length part → Pushed old part (Ok count) mid → Taken mid frame new → IsWaiting new
    → Gives self part (Ok (record { count = count; frame = frame })) (waits_of new sound)
stream_gives law (Err f) mid new sound part count frame self e is kept some within pushed taken waits = absurd (no_waits self e is)
stream_gives law (Ok held) mid new false part count frame self e is kept some within pushed taken waits = absurd (no_waits self e is)
stream_gives law (Ok held) mid new true part count frame self e is kept some within pushed taken waits =
    let given = given_new held part count frame mid new (some kept.2 within) pushed taken in
    let reads = two_more (Ok held) mid new kept.0 part count frame kept.1 pushed taken in
    let calls = (kept.0 ++ Push part (Ok count) ∷ []) ++ Take frame ∷ [] in
    let begun = begun_of law calls given.0 (subst (λ (r : Reader). Reads (Ok []) calls r) given.1 reads) (subst IsWaiting given.1 waits) in
    subst (λ (w : Waits). Gives w part (Ok (record { count = count; frame = frame })) (waits_of new true)) e
    (given.0, ap (λ (r : Reader). waits_of r true) given.1, begun, given.2)

-- no frame comes next
pub stream_fails : (old mid : Reader) (sound : Bool) (part : List ℕ) (f : PayloadFault) (self : Waits) → waits_of old sound ≡ self → IsTrue (is_some self)
    → Pushed old part (Err (error.Fault f)) mid → Gives self part (Err (error.Fault f)) (waits_of mid false)
stream_fails (Err g) mid sound part f self e is pushed = absurd (no_waits self e is)
stream_fails (Ok held) mid false part f self e is pushed = absurd (no_waits self e is)
stream_fails (Ok held) mid true part f self e is pushed =
    subst (λ (w : Waits). Gives w part (Err (error.Fault f)) (waits_of mid false)) e (none_waits mid, push_fault held part f mid pushed)

-- nothing came
pub kept_start : (r : Reader) → r ≡ Ok [] → IsKept r true
unfolding front_of
kept_start r e = ([], e, subst IsOpen (sym e) tt)
