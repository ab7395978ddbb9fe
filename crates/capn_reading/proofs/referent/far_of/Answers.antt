use Rattle.std.proofs.Common.{◌≡◌, ℕ, ◌+◌, ◌<◌, ◌≤◌, Bool, true, false, cond, ltb, List, length, Option, Some, None, Result, Ok, Err, sym, ap, ◌∙◌, arith}
use Rattle.std.proofs.lemmas.Bool.{lt-ltb, le-ltb}
use Rattle.std.proofs.lemmas.Result.{err_from_is_err_and}
use Rattle.capn_trees.specs.declared.faults.PayloadFault.{PayloadFault}
use Rattle.capn_trees.specs.declared.faults.PayloadFault.TheVariants.{OutOfBounds}
use Rattle.capn_reading.specs.declared.referent.Referent.{Referent}
use Rattle.capn_reading.specs.Segments.{segment_of, size_of}
use Rattle.capn_reading.specs.Following.{◌>>=◌, visit, pad_words, pad_at, far}
use Rattle.capn_reading.proofs.referent.far_of.Goals as goal
use Rattle.capn_reading.proofs.referent.far_of.Goals.{then-is_double, else-is_double}

abbrev Found : Type 0
Found = Result (Referent × ℕ) PayloadFault

abbrev unless_short : Bool → Found → Found
unless_short is_short found = cond is_short (Err OutOfBounds) found

abbrev padded : Result ℕ PayloadFault → Result Referent PayloadFault → Found
padded visited pad = visited >>= λ after. pad >>= λ content. Ok (content, after)

-- a pad of so many words in a segment of that size
module _ (m : List (List ℕ)) (d : Bool) (s i v size words : ℕ) (o : Option ℕ) (is_o : o ≡ Some size) (is_words : words ≡ pad_words d) where
  far_is : far m d s o i v ≡ unless_short (ltb size (i + words)) (padded (visit v words) (pad_at m d s i))
  unfolding far
  far_is =
      ap (λ (x : Option ℕ). far m d s x i v) is_o
      ∙ ap (λ (w : ℕ). unless_short (ltb size (i + w)) (padded (visit v w) (pad_at m d s i))) (sym is_words)

  far_short : size < i + words → Err OutOfBounds ≡ far m d s o i v
  far_short lt = sym (far_is ∙ ap (λ (b : Bool). unless_short b (padded (visit v words) (pad_at m d s i))) (lt-ltb size (i + words) lt))

  far_room : i + words ≤ size → padded (visit v words) (pad_at m d s i) ≡ far m d s o i v
  far_room le = sym (far_is ∙ ap (λ (b : Bool). unless_short b (padded (visit v words) (pad_at m d s i))) (le-ltb size (i + words) le))

size_by : (n k : ℕ) (b : Bool) → Some n ≡ cond b (Some k) None → n ≡ k
size_by n k true e = cc
size_by n k false e = absurd cc

pub returns-in_default : goal.returns-in_default
unfolding far
returns-in_default c =
    ap (λ (o : Option ℕ). far c.args.message.now c.args.is_double c.args.segment o c.args.index c.args.visited) c.in_default.ensures.size

pub overflow_add-from : goal.overflow_add-from
overflow_add-from c =
    elim c.if-is_double.branch [
      | then-is_double w ↦ let is = w.words-is in let index = c.from-2.ensures in let fits = c.ranges.index.fits in omega (arith, is, index, fits)
      | else-is_double w ↦ let is = w.words-is in let index = c.from-2.ensures in let fits = c.ranges.index.fits in omega (arith, is, index, fits)
    ]

pub visited_after-requires : goal.visited_after-requires
visited_after-requires c =
    elim c.if-is_double.branch [
      | then-is_double w ↦ let is = w.words-is in omega (arith, is)
      | else-is_double w ↦ let is = w.words-is in omega (arith, is)
    ]

pub returns-then-from-words : goal.returns-then-from-words
returns-then-from-words c =
    let pad : c.if-is_double.words ≡ pad_words c.args.is_double = elim c.if-is_double.branch [
      | then-is_double w ↦ w.words-is ∙ sym (ap pad_words w.if-is_double.true)
      | else-is_double w ↦ w.words-is ∙ sym (ap pad_words w.if-is_double.false)
    ] in
    far_short c.args.message.now c.args.is_double c.args.segment c.args.index c.args.visited c.in-Some.size c.if-is_double.words (size_of c.args.message.now c.args.segment) (sym c.in-Some.ensures.size) pad
    (rw (c.from.ensures, c.from-2.ensures) at c.if-from-words.true)

pub returns-in_err-visited : goal.returns-in_err-visited
returns-in_err-visited c =
    let pad : c.if-is_double.words ≡ pad_words c.args.is_double = elim c.if-is_double.branch [
      | then-is_double w ↦ w.words-is ∙ sym (ap pad_words w.if-is_double.true)
      | else-is_double w ↦ w.words-is ∙ sym (ap pad_words w.if-is_double.false)
    ] in
    let p = err_from_is_err_and c.from_residual.result c.from_residual.ensures.1 in
    rw (p.1, p.2)
    (ap (λ (after : Result ℕ PayloadFault). padded after (pad_at c.args.message.now c.args.is_double c.args.segment c.args.index)) c.in_err-visited.ensures
    ∙ far_room c.args.message.now c.args.is_double c.args.segment c.args.index c.args.visited c.in-Some.size c.if-is_double.words (size_of c.args.message.now c.args.segment) (sym c.in-Some.ensures.size) pad
    (rw (c.from.ensures, c.from-2.ensures) at c.if-from-words.false))

pub pad_of-requires : goal.pad_of-requires
pad_of-requires c =
    let pad : c.if-is_double.words ≡ pad_words c.args.is_double = elim c.if-is_double.branch [
      | then-is_double w ↦ w.words-is ∙ sym (ap pad_words w.if-is_double.true)
      | else-is_double w ↦ w.words-is ∙ sym (ap pad_words w.if-is_double.false)
    ] in
    let room : c.args.index + c.if-is_double.words ≤ c.in-Some.size = rw (c.from.ensures, c.from-2.ensures) at c.if-from-words.false in
    let size = size_by c.in-Some.size (length (segment_of c.args.message.now c.args.segment)) (ltb c.args.segment (length c.args.message.now)) c.in-Some.ensures.size in
    let short = c.in-Some.ensures.short in
    record { inside = omega (arith, pad, room, size); fits = omega (arith, pad, room, short) }

pub returns-in_err-referent : goal.returns-in_err-referent
returns-in_err-referent c =
    let pad : c.if-is_double.words ≡ pad_words c.args.is_double = elim c.if-is_double.branch [
      | then-is_double w ↦ w.words-is ∙ sym (ap pad_words w.if-is_double.true)
      | else-is_double w ↦ w.words-is ∙ sym (ap pad_words w.if-is_double.false)
    ] in
    let p = err_from_is_err_and c.from_residual-in_err-referent.result c.from_residual-in_err-referent.ensures.1 in
    rw (p.1, p.2)
    (ap (padded (Ok c.in_ok-visited.visited)) c.in_err-referent.ensures
    ∙ ap (λ (after : Result ℕ PayloadFault). padded after (pad_at c.args.message.now c.args.is_double c.args.segment c.args.index)) c.in_ok-visited.ensures
    ∙ far_room c.args.message.now c.args.is_double c.args.segment c.args.index c.args.visited c.in-Some.size c.if-is_double.words (size_of c.args.message.now c.args.segment) (sym c.in-Some.ensures.size) pad
    (rw (c.from.ensures, c.from-2.ensures) at c.if-from-words.false))

pub returns : goal.returns
returns c =
    let pad : c.if-is_double.words ≡ pad_words c.args.is_double = elim c.if-is_double.branch [
      | then-is_double w ↦ w.words-is ∙ sym (ap pad_words w.if-is_double.true)
      | else-is_double w ↦ w.words-is ∙ sym (ap pad_words w.if-is_double.false)
    ] in
    ap (padded (Ok c.in_ok-visited.visited)) c.in_ok-referent.ensures
    ∙ ap (λ (after : Result ℕ PayloadFault). padded after (pad_at c.args.message.now c.args.is_double c.args.segment c.args.index)) c.in_ok-visited.ensures
    ∙ far_room c.args.message.now c.args.is_double c.args.segment c.args.index c.args.visited c.in-Some.size c.if-is_double.words (size_of c.args.message.now c.args.segment) (sym c.in-Some.ensures.size) pad
    (rw (c.from.ensures, c.from-2.ensures) at c.if-from-words.false)
