-- A piece is handed to a reader, and a frame is asked for: what is parted of the bytes.
use Rattle.std.proofs.Common.{◌≡◌, ℕ, zero, suc, ◌+◌, ◌-◌, List, [], ◌∷◌, ◌++◌, length, take, drop, Bool, true, false, is_some, Option, Some, None, Result, Ok, Err, inl, inr, refl, sym, ap, subst, ◌∙◌, append_assoc, arith}
use Rattle.std.proofs.lemmas.List.{append-nil, drop-drop, length-drop, take_all, take-append-drop}
use Rattle.std.specs.List.{concat}
use Rattle.capn_trees.specs.declared.faults.PayloadFault.{PayloadFault}
use Rattle.capn_trees.specs.Numbers.{number_of}
use Rattle.capn_stream.specs.declared.error.StreamError.{StreamError}
use Rattle.capn_stream.specs.declared.error.StreamError.TheVariants as error
use Rattle.capn_stream.specs.declared.front.Front.{Front}
use Rattle.capn_stream.specs.declared.front.Front.TheVariants as front
use Rattle.capn_fronts.specs.Laws.{PiecesStand, Stands}
use Rattle.capn_fronts.specs.Parts.{IsHeld, IsShort, IsWhole, Part, count_of, front_of, keeps_of, nothing}
use Rattle.capn_fronts.specs.Readers.{Given, GivenBy, Pushed, PushedBy, TakesBy, added}
use Rattle.vat_connection.specs.Hearing.{Inflow, IsBegun, IsParted, PartedUp, PartsBy, PartsOn}

-- ---- what waits

pub none_short : IsShort (front_of nothing)
unfolding front_of
none_short = tt

none_held : IsHeld nothing
unfolding front_of keeps_of
none_held = record { held = tt; few = omega arith; full = inl refl }

none_begun : IsBegun [] nothing
none_begun = record { stands = ([], refl, refl); held = none_held; short = none_short }

-- as many bytes as that
bytes_of : ℕ → List ℕ
bytes_of zero = []
bytes_of (suc n) = 0 ∷ bytes_of n

so_many : (n : ℕ) → length (bytes_of n) ≡ n
unfolding bytes_of
so_many zero = refl
so_many (suc n) = ap suc (so_many n)

-- What waits is kept of some bytes.
pub some_begun : (p : Part) → IsHeld p → IsShort (front_of p) → (came : List ℕ) × IsBegun came p
some_begun p held short = (p.kept ++ bytes_of p.dropped, record { stands = (bytes_of p.dropped, refl, so_many p.dropped); held = held; short = short })

-- ---- a reader

-- No frame is given: it stays.
stays_by : (old new : Part) (f : Front) → GivenBy f old None new → new ≡ old
stays_by old new (front.Complete n) by = let e : ◌≡◌ {A = Option Part} None (Some old) = by.0 in cc
stays_by old new (front.Need n) by = by.1
stays_by old new (front.Fault f) by = absurd by

pub stays : (old new : Part) → Given old None new → new ≡ old
stays old new given = stays_by old new (front_of old) given

-- A frame is given: it is what was held.
given_by : (old new frame : Part) (f : Front) → GivenBy f old (Some frame) new → (frame ≡ old) × (new ≡ nothing)
given_by old new frame (front.Complete n) by = let same : frame ≡ old = let e = by.0 in cc in (same, by.1)
given_by old new frame (front.Need n) by = let e : ◌≡◌ {A = Option Part} (Some frame) None = by.0 in cc
given_by old new frame (front.Fault f) by = absurd by

pub given : (old new frame : Part) → Given old (Some frame) new → (frame ≡ old) × (new ≡ nothing)
given old new frame is = given_by old new frame (front_of old) is

-- What is at fault isn't kept.
takes_none : (f : Front) (count : ℕ) (grown new : Part) (e : PayloadFault) → TakesBy f count grown (Err (error.Fault e)) new → new ≡ nothing
takes_none (front.Complete n) count grown new e by = let k : ◌≡◌ {A = Result ℕ StreamError} (Err (error.Fault e)) (Ok count) = by.0 in cc
takes_none (front.Need n) count grown new e by = let k : ◌≡◌ {A = Result ℕ StreamError} (Err (error.Fault e)) (Ok count) = by.0 in cc
takes_none (front.Fault g) count grown new e by = by.1

refused_by : (f : Front) (old new : Part) (piece : List ℕ) (e : PayloadFault) → PushedBy f old piece (Err (error.Fault e)) new → new ≡ nothing
refused_by (front.Complete n) old new piece e by = let k : ◌≡◌ {A = Result ℕ StreamError} (Err (error.Fault e)) (Ok 0) = by.0 in cc
refused_by (front.Need n) old new piece e by =
    let more = take (n - count_of old) piece in
    takes_none (front_of (added old more)) (length more) (added old more) new e by
refused_by (front.Fault f) old new piece e by = absurd by

pub refused : (old new : Part) (piece : List ℕ) (e : PayloadFault) → Pushed old piece (Err (error.Fault e)) new → new ≡ nothing
refused old new piece e (inl by) = refused_by (front_of old) old new piece e by
refused old new piece e (inr none) = let k : ◌≡◌ {A = Result ℕ StreamError} (Err (error.Fault e)) (Err error.Memory) = none.0 in cc

pub refused_short : (old new : Part) (piece : List ℕ) (e : PayloadFault) → Pushed old piece (Err (error.Fault e)) new → IsShort (front_of new)
refused_short old new piece e push = subst (λ (p : Part). IsShort (front_of p)) (sym (refused old new piece e push)) none_short

-- ---- what is parted of a piece

-- What begins with no frame ends the stream.
pub no_frame : PiecesStand → (old new : Inflow) (after : Part) (piece : List ℕ) (e : PayloadFault) → Pushed old.waiting piece (Err (error.Fault e)) after
    → new ≡ record { unheard = old.unheard; waiting = nothing; over = Some (number_of e) } → IsParted old piece new
no_frame law old new after piece e push same came begun = (
  [],
  [],
  came ++ piece,
  record { joined = refl; are_kept = tt },
  inr (e, law.refused came piece old.waiting after e begun.stands begun.held push, same ∙ ap (λ (us : List Part). record { unheard = us; waiting = nothing; over = Some (number_of e) }) (sym (append-nil old.unheard))),
)

parted_again : (came piece : List ℕ) (taken : ℕ) → came ++ piece ≡ (came ++ take taken piece) ++ drop taken piece
parted_again came piece taken = ap (λ (t : List ℕ). came ++ t) (sym (take-append-drop taken piece)) ∙ sym (append_assoc came (take taken piece) (drop taken piece))

-- A frame is whole: it waits behind the others.
more_by : (old mid new : Inflow) (frame : Part) (kept : List Part) (rest : List ℕ) → mid.unheard ≡ old.unheard ++ frame ∷ [] → PartedUp mid kept rest new → PartedUp old (frame ∷ kept) rest new
more_by old mid new frame kept rest is (inl (waiting, begun, same)) =
    inl (waiting, begun, same ∙ ap (λ (us : List Part). record { unheard = us; waiting = waiting; over = None }) (ap (λ (us : List Part). us ++ kept) is ∙ append_assoc old.unheard (frame ∷ []) kept))
more_by old mid new frame kept rest is (inr (f, none, same)) =
    inr (f, none, same ∙ ap (λ (us : List Part). record { unheard = us; waiting = nothing; over = Some (number_of f) }) (ap (λ (us : List Part). us ++ kept) is ∙ append_assoc old.unheard (frame ∷ []) kept))

pub one_more : PiecesStand → (old mid new : Inflow) (reader frame : Part) (piece : List ℕ) (taken : ℕ) → Pushed old.waiting piece (Ok taken) reader → frame ≡ reader → IsWhole frame
    → mid.unheard ≡ old.unheard ++ frame ∷ [] → mid.waiting ≡ nothing → IsParted mid (drop taken piece) new → IsParted old piece new
one_more law old mid new reader frame piece taken push same whole is none parted came begun =
    let first = came ++ take taken piece in
    let stands : Stands first frame = subst (λ (p : Part). Stands first p) (sym same) (law.taken came piece old.waiting reader taken begun.stands begun.held push).0 in
    let (frames, kept, rest, split, by) = parted [] (subst (λ (p : Part). IsBegun [] p) (sym none) none_begun) in (
      first ∷ frames,
      frame ∷ kept,
      rest,
      record {
        joined = parted_again came piece taken ∙ ap (λ (t : List ℕ). first ++ t) split.joined ∙ sym (append_assoc first (concat frames) rest);
        are_kept = ((stands, whole), split.are_kept);
      },
      more_by old mid new frame kept rest is by,
    )

same_by : (old mid new : Inflow) (kept : List Part) (rest : List ℕ) → mid.unheard ≡ old.unheard → PartedUp mid kept rest new → PartedUp old kept rest new
same_by old mid new kept rest is (inl (waiting, begun, same)) = inl (waiting, begun, same ∙ ap (λ (us : List Part). record { unheard = us ++ kept; waiting = waiting; over = None }) is)
same_by old mid new kept rest is (inr (f, none, same)) = inr (f, none, same ∙ ap (λ (us : List Part). record { unheard = us ++ kept; waiting = nothing; over = Some (number_of f) }) is)

-- No frame is whole: all waits.
pub no_more : PiecesStand → (old mid new : Inflow) (piece : List ℕ) (taken : ℕ) → Pushed old.waiting piece (Ok taken) mid.waiting → IsShort (front_of mid.waiting) → mid.unheard ≡ old.unheard
    → IsParted mid (drop taken piece) new → IsParted old piece new
no_more law old mid new piece taken push short is parted came begun =
    let first = came ++ take taken piece in
    let stood = law.taken came piece old.waiting mid.waiting taken begun.stands begun.held push in
    let (frames, kept, rest, split, by) = parted first (record { stands = stood.0; held = stood.1; short = short }) in (
      frames,
      kept,
      rest,
      record { joined = parted_again came piece taken ∙ split.joined; are_kept = split.are_kept },
      same_by old mid new kept rest is by,
    )

-- Nothing more comes.
none_by : (i : Inflow) (o : Option ℕ) → i.over ≡ o → PartsBy o i [] i
none_by i (Some n) is = refl
none_by i None is = λ came begun. (
  [],
  [],
  came,
  record { joined = append-nil came; are_kept = tt },
  inl (i.waiting, begun, ap (λ (o : Option ℕ). record i { over = o }) is ∙ ap (λ (us : List Part). record { unheard = us; waiting = i.waiting; over = None }) (sym (append-nil i.unheard))),
)

pub none_more : (i : Inflow) → PartsOn i [] i
none_more i = none_by i i.over refl

up_by : (d : Option ℕ) → is_some d ≡ false → d ≡ None
up_by None is = refl
up_by (Some n) is = absurd (let e : ◌≡◌ {A = Bool} true false = is in cc)

-- the rest of a piece
abbrev pub rest_of : ℕ → List ℕ → List ℕ
rest_of at bytes = take (length bytes - at) (drop at bytes)

pub rest_is : (at : ℕ) (bytes : List ℕ) → rest_of at bytes ≡ drop at bytes
rest_is at bytes = take_all (length bytes - at) (drop at bytes) (let size = length-drop at bytes in omega (arith, size))

pub rest_length : (at : ℕ) (bytes : List ℕ) → length (rest_of at bytes) ≡ length bytes - at
rest_length at bytes = ap length (rest_is at bytes) ∙ length-drop at bytes

-- Bytes of it were taken, and what is left makes of it what all does.
pub one_part : (old mid new : Inflow) (bytes : List ℕ) (at taken : ℕ) → is_some old.over ≡ false → ((new : Inflow) → PartsOn mid (drop taken (rest_of at bytes)) new → IsParted old (rest_of at bytes) new)
    → PartsOn mid (drop (at + taken) bytes) new → PartsOn old (drop at bytes) new
one_part old mid new bytes at taken still parts on =
    let left : drop (at + taken) bytes ≡ drop taken (rest_of at bytes) = sym (drop-drop taken at bytes) ∙ ap (λ (t : List ℕ). drop taken t) (sym (rest_is at bytes)) in
    subst (λ (o : Option ℕ). PartsBy o old (drop at bytes) new) (sym (up_by old.over still))
    (subst (λ (t : List ℕ). IsParted old t new) (rest_is at bytes) (parts new (subst (λ (t : List ℕ). PartsOn mid t new) left on)))
