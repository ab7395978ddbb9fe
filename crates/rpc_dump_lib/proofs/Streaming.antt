-- A stream whose bytes come in pieces.
use Rattle.std.proofs.Common.{◌≡◌, ℕ, ◌+◌, ◌-◌, ◌^◌, ◌<◌, ◌⊎◌, min, List, [], ◌∷◌, ◌++◌, length, take, drop, Option, Some, None, Result, Ok, Err, refl, sym, ap, subst, ◌∙◌, append_assoc, append-nil, length-drop, take-append-drop, arith, inl, inr}
use Rattle.std.specs.Io.KnownBytes.{Appends}
use Rattle.std.proofs.lemmas.List.{take_all, drop_all, drop-drop}
use Rattle.std.proofs.Math.Seq.{take-append-add, take-append_seam}
use Rattle.capn_trees.specs.Numbers.{number_of}
use Rattle.capn_trees.specs.declared.faults.PayloadFault.{PayloadFault}
use Rattle.capn_trees.specs.declared.faults.PayloadFault.TheVariants.{Short}
use Rattle.capn_stream.specs.declared.error.StreamError.{StreamError}
use Rattle.capn_stream.specs.declared.error.StreamError.TheVariants as error
use Rattle.capn_stream.specs.declared.front.Front.{Front}
use Rattle.capn_stream.specs.declared.front.Front.TheVariants.{Complete, Need, Fault}
use Rattle.capn_stream.specs.Fronts.{front_of, IsFrame, IsShort}
use Rattle.capn_stream.specs.Readers.{Reader, Pushed, PushedBy, Taken, TakenBy, IsWaiting, end_at, end_of}
use Rattle.capn_stream.specs.Streams.{IsSplit}
use Rattle.capn_stream.specs.Laws.{Stays, FrontsStay}
use Rattle.program_files.specs.declared.fault.ProgramFailure.TheVariants as program
use Rattle.rpc_dump_lib.specs.declared.failure.Failure.{Failure}
use Rattle.rpc_dump_lib.specs.declared.failure.Failure.TheVariants as failure
use Rattle.rpc_dump_lib.specs.declared.form.Form.{Form}
use Rattle.rpc_dump_lib.specs.Conversations.{what_in, IsFault, IsNone, StreamStops, frame_line}
use Rattle.rpc_dump_lib.specs.Failures.{of_stream}
use Rattle.rpc_dump_lib.specs.Reading.{held_of, IsSound, IsOpen, SaidTo, GoesOn}
use Rattle.rpc_dump_lib.proofs.Parts.{said_more, frame_cut}

-- ---- fronts that stay

frame_front : FrontsStay → (frame left : List ℕ) → IsFrame frame → front_of (frame ++ left) ≡ Complete (length frame)
frame_front stay frame left is = subst (λ (f : Front). Stays f (front_of (frame ++ left))) is (stay frame left)

fault_front : FrontsStay → (bytes left : List ℕ) (f : PayloadFault) → front_of bytes ≡ Fault f → front_of (bytes ++ left) ≡ Fault f
fault_front stay bytes left f is = subst (λ (g : Front). Stays g (front_of (bytes ++ left))) is (stay bytes left)

-- a frame that says nothing
pub frame_stops : FrontsStay → (frame left : List ℕ) (number fault : ℕ) → IsFrame frame → IsFault (what_in frame) fault
    → StreamStops (frame ++ left) number (failure.Message number fault)
frame_stops stay frame left number fault is why = (
  refl,
  subst (λ (f : Front). IsNone (frame ++ left) f fault) (sym (frame_front stay frame left is)) (subst (λ (t : List ℕ). IsFault (what_in t) fault) (sym (take-append_seam frame left)) why),
)

-- ---- what a reader does with a piece

err_of : (e f : StreamError) → ◌≡◌ {A = Result ℕ StreamError} (Err e) (Err f) → e ≡ f
err_of e f h = cc

ok_of : (m n : ℕ) → ◌≡◌ {A = Result ℕ StreamError} (Ok m) (Ok n) → m ≡ n
ok_of m n h = cc

pushed_fault : FrontsStay → (held piece left : List ℕ) (number : ℕ) (f : Front) (e : StreamError) (new : Reader) → front_of (held ++ piece) ≡ f → PushedBy held piece f (Err e) new
    → StreamStops (held ++ (piece ++ left)) number (of_stream e number)
pushed_fault stay held piece left number (Complete n) e new is by = let h : ◌≡◌ {A = Result ℕ StreamError} (Err e) (Ok (n - length held)) = by.0 in cc
pushed_fault stay held piece left number (Need n) e new is by = let h : ◌≡◌ {A = Result ℕ StreamError} (Err e) (Ok (length piece)) = by.0 in cc
pushed_fault stay held piece left number (Fault f) e new is by =
    let later : front_of (held ++ (piece ++ left)) ≡ Fault f = ap front_of (sym (append_assoc held piece left)) ∙ fault_front stay (held ++ piece) left f is in
    subst (λ (g : StreamError). StreamStops (held ++ (piece ++ left)) number (of_stream g number)) (sym (err_of e (error.Fault f) by.0))
    (refl, subst (λ (g : Front). IsNone (held ++ (piece ++ left)) g (number_of f)) (sym later) refl)

pub push_stops : FrontsStay → (old new : Reader) (piece left : List ℕ) (number : ℕ) (e : StreamError) → IsOpen old → Pushed old piece (Err e) new
    → StreamStops (held_of old ++ (piece ++ left)) number (of_stream e number)
push_stops stay (Err f) new piece left number e sound pushed = absurd sound
push_stops stay (Ok held) new piece left number e sound (inl by) = pushed_fault stay held piece left number (front_of (held ++ piece)) e new refl by
push_stops stay (Ok held) new piece left number e sound (inr none) =
    subst (λ (g : StreamError). StreamStops (held ++ (piece ++ left)) number (of_stream g number)) (sym (err_of e error.Memory none.0)) tt

pushed_kept : (held piece : List ℕ) (f : Front) (taken : ℕ) (new : Reader) → 0 < taken → PushedBy held piece f (Ok taken) new
    → IsSound new × (held_of new ++ drop taken piece ≡ held ++ piece)
pushed_kept held piece (Complete n) taken new some by =
    let size : taken ≡ n - length held = ok_of taken (n - length held) by.0 in
    let more : n ≡ length held + taken = omega arith in (
      subst IsSound (sym by.1) tt,
      ap (λ (r : Reader). held_of r ++ drop taken piece) by.1 ∙ ap (λ (k : ℕ). take k (held ++ piece) ++ drop taken piece) more ∙ ap (λ (t : List ℕ). t ++ drop taken piece) (take-append-add held piece taken)
          ∙ append_assoc held (take taken piece) (drop taken piece) ∙ ap (λ (t : List ℕ). held ++ t) (take-append-drop taken piece),
    )
pushed_kept held piece (Need n) taken new some by =
    let size : taken ≡ length piece = ok_of taken (length piece) by.0 in
    let none : drop taken piece ≡ [] = drop_all taken piece (omega arith) in
    (subst IsSound (sym by.1) tt, ap (λ (r : Reader). held_of r ++ drop taken piece) by.1 ∙ ap (λ (t : List ℕ). held ++ piece ++ t) none ∙ append-nil (held ++ piece))
pushed_kept held piece (Fault f) taken new some by = let h : ◌≡◌ {A = Result ℕ StreamError} (Ok taken) (Err (error.Fault f)) = by.0 in cc

pub push_kept : (old new : Reader) (piece : List ℕ) (taken : ℕ) → IsOpen old → 0 < taken → Pushed old piece (Ok taken) new
    → IsSound new × (held_of new ++ drop taken piece ≡ held_of old ++ piece)
push_kept (Err f) new piece taken sound some pushed = absurd sound
push_kept (Ok held) new piece taken sound some (inl by) = pushed_kept held piece (front_of (held ++ piece)) taken new some by
push_kept (Ok held) new piece taken sound some (inr none) = let h : ◌≡◌ {A = Result ℕ StreamError} (Ok taken) (Err error.Memory) = none.0 in cc

pub open_waits : (r : Reader) → IsOpen r → IsWaiting r
open_waits (Ok held) sound = sound
open_waits (Err f) sound = absurd sound

-- ---- frames that a reader gives

pub open_of : (r : Reader) → IsSound r → IsWaiting r → IsOpen r
open_of (Ok held) sound waits = waits
open_of (Err f) sound waits = sound

none_by : (held : List ℕ) (f : Front) (new : Reader) → TakenBy held f None new → new ≡ Ok held
none_by held (Complete n) new by = let h : ◌≡◌ {A = Option (List ℕ)} None (Some held) = by.0 in cc
none_by held (Need n) new by = by.1
none_by held (Fault f) new by = by.1

pub none_taken : (old new : Reader) → Taken old None new → new ≡ old
none_taken (Err f) new taken = taken.1
none_taken (Ok held) new taken = none_by held (front_of held) new taken

frame_by : (held frame : List ℕ) (f : Front) (new : Reader) → TakenBy held f (Some frame) new → (held ≡ frame) × (new ≡ Ok [])
frame_by held frame (Complete n) new by = let same : held ≡ frame = let h : ◌≡◌ {A = Option (List ℕ)} (Some frame) (Some held) = by.0 in cc in (same, by.1)
frame_by held frame (Need n) new by = let h : ◌≡◌ {A = Option (List ℕ)} (Some frame) None = by.0 in cc
frame_by held frame (Fault f) new by = let h : ◌≡◌ {A = Option (List ℕ)} (Some frame) None = by.0 in cc

pub frame_taken : (old new : Reader) (frame : List ℕ) → Taken old (Some frame) new → (held_of old ≡ frame) × (new ≡ Ok [])
frame_taken (Err f) new frame taken = let h : ◌≡◌ {A = Option (List ℕ)} (Some frame) None = taken.0 in cc
frame_taken (Ok held) new frame taken = frame_by held frame (front_of held) new taken

-- it is said
pub whole_said : (form : Form) (input left frame bytes text : List ℕ) (old new : Reader) (number next : ℕ) (base before after : Option (List ℕ)) → Taken old (Some frame) new → bytes ≡ frame → IsFrame bytes
    → frame_line form bytes ≡ Some text → Appends before after text → next ≡ min (number + 1) (2 ^ 64 - 1)
    → SaidTo form input (held_of old ++ left) number base before → SaidTo form input (held_of new ++ left) next base after
whole_said form input left frame bytes text old new number next base before after taken same whole one wrote is s =
    let given = frame_taken old new frame taken in
    let rest : SaidTo form input (bytes ++ left) number base before = subst (λ (held : List ℕ). SaidTo form input (held ++ left) number base before) (given.0 ∙ sym same) s in
    subst (λ (r : Reader). SaidTo form input (held_of r ++ left) next base after) (sym given.1)
    (said_more {IsCut = IsSplit input} {line = frame_line form} bytes (bytes ++ left) left text number next base before after (λ parts. frame_cut input bytes left parts whole) one wrote is rest)

-- it is not said
pub whole_ends : {W : Type 0} (contents : W → Option (List ℕ)) (form : Form) (input left frame bytes : List ℕ) (old new : Reader) (number : ℕ) (base : Option (List ℕ)) (before after : W) (why : Failure)
    → Taken old (Some frame) new → bytes ≡ frame → (why ≡ failure.Program program.Unwritten) ⊎ ((after ≡ before) × ((more : List ℕ) → StreamStops (bytes ++ more) number why))
    → SaidTo form input (held_of old ++ left) number base (contents before) → GoesOn form input (held_of new ++ left) base (contents after) (Err why)
whole_ends contents form input left frame bytes old new number base before after why taken same (inl e) s = inl e
whole_ends contents form input left frame bytes old new number base before after why taken same (inr fails) s =
    let given = frame_taken old new frame taken in
    inr (record {
      rest = held_of old ++ left;
      number = number;
      said = subst (λ (out : Option (List ℕ)). SaidTo form input (held_of old ++ left) number base out) (ap contents (sym fails.0)) s;
      stops = subst (λ (held : List ℕ). StreamStops (held ++ left) number why) (same ∙ sym given.0) (fails.1 left);
    })

pub all_behind : (at : ℕ) (piece : List ℕ) → take (length piece - at) (drop at piece) ≡ drop at piece
all_behind at piece = let size = length-drop at piece in take_all (length piece - at) (drop at piece) (omega arith)

-- what is left of a piece where some of it was taken
pub kept_on : (held more piece left : List ℕ) (at taken : ℕ) → more ++ drop taken (drop at piece) ≡ held ++ drop at piece
    → held ++ (drop at piece ++ left) ≡ more ++ (drop (at + taken) piece ++ left)
kept_on held more piece left at taken kept =
    sym (append_assoc held (drop at piece) left) ∙ ap (λ (t : List ℕ). t ++ left) (sym kept) ∙ append_assoc more (drop taken (drop at piece)) left
    ∙ ap (λ (t : List ℕ). more ++ (t ++ left)) (drop-drop taken at piece)

-- ---- the end of a stream

end_by : (held : List ℕ) (g : Front) (f : PayloadFault) → IsShort g → end_at held g ≡ Err f → IsNone held g (number_of f)
end_by held (Complete n) f short e = absurd short
end_by [] (Need n) f short e = let h : ◌≡◌ {A = Result (Unit {0}) PayloadFault} (Ok tt) (Err f) = e in cc
end_by (b ∷ held) (Need n) f short e =
    let same : Short ≡ f = let h : ◌≡◌ {A = Result (Unit {0}) PayloadFault} (Err Short) (Err f) = e in cc in
    (omega arith, ap number_of (sym same))
end_by held (Fault g) f short e =
    let same : g ≡ f = let h : ◌≡◌ {A = Result (Unit {0}) PayloadFault} (Err g) (Err f) = e in cc in
    ap number_of (sym same)

pub end_stops : (r : Reader) (f : PayloadFault) (number : ℕ) → IsOpen r → end_of r ≡ Err f → StreamStops (held_of r) number (failure.Message number (number_of f))
end_stops (Err g) f number sound e = absurd sound
end_stops (Ok held) f number sound e = (refl, end_by held (front_of held) f sound e)

whole_by : (held : List ℕ) (g : Front) → IsShort g → end_at held g ≡ Ok tt → held ≡ []
whole_by held (Complete n) short e = absurd short
whole_by [] (Need n) short e = refl
whole_by (b ∷ held) (Need n) short e = let h : ◌≡◌ {A = Result (Unit {0}) PayloadFault} (Err Short) (Ok tt) = e in cc
whole_by held (Fault g) short e = let h : ◌≡◌ {A = Result (Unit {0}) PayloadFault} (Err g) (Ok tt) = e in cc

pub end_whole : (r : Reader) → IsOpen r → end_of r ≡ Ok tt → held_of r ≡ []
end_whole (Err g) sound e = absurd sound
end_whole (Ok held) sound e = whole_by held (front_of held) sound e
