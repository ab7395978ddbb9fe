-- What is said of an input, where its bytes are known or not.
use Rattle.std.proofs.Common.{◌≡◌, ℕ, ◌⊎◌, List, [], ◌++◌, Option, Some, None, Result, Ok, Err, OnOk, IfErr, refl, sym, ap, subst, ◌∙◌, append_assoc, append-nil, inl, inr}
use Rattle.std.specs.Option.{unwrap_or}
use Rattle.std.specs.Io.KnownBytes.{Consumes, IsAtEnd}
use Rattle.std.proofs.KnownBytes.{Consumes-nil, Consumes-trans}
use Rattle.capn_stream.specs.Fronts.{front_of}
use Rattle.capn_stream.specs.Readers.{Reader}
use Rattle.capn_stream.specs.Streams.{IsSplit}
use Rattle.program_files.specs.declared.fault.ProgramFailure.TheVariants as program
use Rattle.rpc_dump_lib.specs.declared.failure.Failure.{Failure}
use Rattle.rpc_dump_lib.specs.declared.failure.Failure.TheVariants as failure
use Rattle.program_files.specs.Texts.{IsInput}
use Rattle.rpc_dump_lib.specs.declared.form.Form.{Form}
use Rattle.rpc_dump_lib.specs.Conversations.{StreamStops, LinesStop, Says, frame_line}
use Rattle.rpc_dump_lib.specs.Reading.{held_of, IsOpen, SaidTo, GoesOn, Begun}
use Rattle.rpc_dump_lib.proofs.Parts.{said_none}

input_of : (known left : Option (List ℕ)) (came : List ℕ) → Consumes known left came → IsInput known (came ++ unwrap_or left [])
input_of None left came c = tt
input_of (Some xs) None came c = absurd c
input_of (Some xs) (Some ys) came c = sym c

-- nothing is said of an input, of which nothing was read
pub nothing_said : {IsCut : List ℕ → List (List ℕ) → List ℕ → Type 0} {line : List ℕ → Option (List ℕ)} {Stops : List ℕ → ℕ → Failure → Type 0} (known old : Option (List ℕ)) (why : Failure)
    → ((input : List ℕ) → IsCut input [] input) → ((rest : List ℕ) → Stops rest 1 why) → (input : List ℕ) × IsInput known input × Says (IsCut input) line Stops old old (Err why)
nothing_said known old why none stops =
    let input = unwrap_or known [] in
    (input, input_of known known [] (Consumes-nil known), inr (record { rest = input; number = 1; said = said_none input old (none input); stops = stops input }))

-- it can't be read
pub lines_lost : (rest : List ℕ) (number : ℕ) (why : Failure) → (why ≡ failure.Program program.Memory) ⊎ (why ≡ failure.Program program.Unreadable) → LinesStop rest number why
lines_lost rest number why (inl e) = subst (λ (w : Failure). LinesStop rest number w) (sym e) tt
lines_lost rest number why (inr e) = subst (λ (w : Failure). LinesStop rest number w) (sym e) tt

pub stream_lost : (rest : List ℕ) (number : ℕ) (why : Failure) → (why ≡ failure.Program program.Memory) ⊎ (why ≡ failure.Program program.Unreadable) → StreamStops rest number why
stream_lost rest number why (inl e) = subst (λ (w : Failure). StreamStops rest number w) (sym e) tt
stream_lost rest number why (inr e) = subst (λ (w : Failure). StreamStops rest number w) (sym e) tt

-- ---- streams

-- nothing came yet
pub begun_none : (form : Form) (known old : Option (List ℕ)) (r : Reader) → r ≡ Ok [] → Begun form known known (held_of r) 1 old old
begun_none form known old r e = record {
  came = [];
  consumed = Consumes-nil known;
  said = λ rest. subst (λ (s : Reader). SaidTo form rest (held_of s ++ rest) 1 old old) (sym e) (said_none rest old (record { whole = tt; joined = refl }));
}

pub open_none : (r : Reader) → r ≡ Ok [] → IsOpen r
unfolding front_of
open_none r e = subst IsOpen (sym e) tt

abbrev pub Dumped : Form → Option (List ℕ) → Option (List ℕ) → Option (List ℕ) → Result (Unit {0}) Failure → Type 0
Dumped form known old new result = (input : List ℕ) × IsInput known input × Says (IsSplit input) (frame_line form) StreamStops old new result

module _ (form : Form) (known left : Option (List ℕ)) (held : List ℕ) (number : ℕ) (old now : Option (List ℕ)) (b : Begun form known left held number old now) where
  -- the reader fails
  pub begun_stops : (why : Failure) → ((rest : List ℕ) → StreamStops rest number why) → Dumped form known old now (Err why)
  begun_stops why stops =
      let rest = unwrap_or left [] in
      (b.came ++ rest, input_of known left b.came b.consumed, inr (record { rest = held ++ rest; number = number; said = b.said rest; stops = stops (held ++ rest) }))

  -- another piece came
  pub begun_more : (piece more : List ℕ) (next : ℕ) (later new : Option (List ℕ)) → Consumes left later piece
      → ((input rest : List ℕ) → SaidTo form input (held ++ (piece ++ rest)) number old now → SaidTo form input (more ++ rest) next old new)
      → Begun form known later more next old new
  begun_more piece more next later new c on = record {
    came = b.came ++ piece;
    consumed = Consumes-trans known left later b.came piece b.consumed c;
    said = λ rest. subst (λ (input : List ℕ). SaidTo form input (more ++ rest) next old new) (sym (append_assoc b.came piece rest)) (on (b.came ++ (piece ++ rest)) rest (b.said (piece ++ rest)));
  }

  -- another piece came, and something of it is not said
  pub begun_ends : (piece more : List ℕ) (later new : Option (List ℕ)) (why : Failure) → Consumes left later piece
      → ((input rest : List ℕ) → SaidTo form input (held ++ (piece ++ rest)) number old now → GoesOn form input (more ++ rest) old new (Err why))
      → Dumped form known old new (Err why)
  begun_ends piece more later new why c on =
      let rest = unwrap_or later [] in
      let input : IsInput known (b.came ++ (piece ++ rest)) = subst (IsInput known) (append_assoc b.came piece rest) (input_of known later (b.came ++ piece) (Consumes-trans known left later b.came piece b.consumed c)) in
      (b.came ++ (piece ++ rest), input, on (b.came ++ (piece ++ rest)) rest (b.said (piece ++ rest)))

  nothing_left : (l later : Option (List ℕ)) (piece : List ℕ) → piece ≡ [] → Consumes l later piece → IsAtEnd later → unwrap_or l [] ≡ []
  nothing_left None later piece none c end = refl
  nothing_left (Some xs) None piece none c end = absurd c
  nothing_left (Some xs) (Some ys) piece none c end = c ∙ ap (λ (t : List ℕ). t ++ ys) none ∙ end

  -- the reader is at its end
  pub begun_done : (piece : List ℕ) (later : Option (List ℕ)) (result : Result (Unit {0}) Failure) → piece ≡ [] → Consumes left later piece → IsAtEnd later
      → OnOk result (held ≡ []) → IfErr result (λ why. StreamStops held number why) → Dumped form known old now result
  begun_done piece later (Ok done) none c end whole fails =
      let rest = unwrap_or left [] in
      let all : held ++ rest ≡ [] = ap (λ (t : List ℕ). held ++ t) (nothing_left left later piece none c end) ∙ append-nil held ∙ whole in
      (b.came ++ rest, input_of known left b.came b.consumed, (number, subst (λ (r : List ℕ). SaidTo form (b.came ++ rest) r number old now) all (b.said rest)))
  begun_done piece later (Err why) none c end whole fails =
      let rest = unwrap_or left [] in
      let all : held ++ rest ≡ held = ap (λ (t : List ℕ). held ++ t) (nothing_left left later piece none c end) ∙ append-nil held in
      (b.came ++ rest, input_of known left b.came b.consumed, inr (record { rest = held ++ rest; number = number; said = b.said rest; stops = subst (λ (r : List ℕ). StreamStops r number why) (sym all) fails }))
