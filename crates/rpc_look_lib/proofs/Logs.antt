-- A log, of which parts came.
use Rattle.std.proofs.Common.{◌≡◌, ℕ, Bool, true, false, List, [], ◌∷◌, ◌++◌, Option, Some, None, Result, Ok, Err, OnOk, refl, sym, ap, subst, ◌∙◌, append_assoc, append-nil}
use Rattle.std.specs.List.{AllByRecursion}
use Rattle.std.specs.Option.{unwrap_or}
use Rattle.std.specs.Io.KnownBytes.{Consumes, IsAtEnd}
use Rattle.std.proofs.KnownBytes.{Consumes-nil, Consumes-trans}
use Rattle.program_files.specs.Texts.{IsInput}
use Rattle.look_pieces.specs.Pieces.{State, end_of}
use Rattle.rpc_look_lib.specs.declared.failure.Failure.{Failure}
use Rattle.rpc_look_lib.specs.Talking.{is_done}
use Rattle.rpc_look_lib.specs.Capturing.{Scene}
use Rattle.rpc_look_lib.specs.Reading.{IsLine, joined, Looking, LinesCome, LastComes, Front, IsAll, PartComes, EndsBy, LooksAt, Reads}

-- a reader of lines to which none came
abbrev pub log_start : State
log_start = (record { begun = None; client = 0; server = 0; day = None; lines = 0 }, [])

-- ---- lines, and then others

all_append : {X : Type 0} (P : X → Type 0) (xs ys : List X) → AllByRecursion P xs → AllByRecursion P ys → AllByRecursion P (xs ++ ys)
all_append P [] ys all more = more
all_append P (x ∷ xs) ys all more = (all.0, all_append P xs ys all.1 more)

joined_append : (lines more : List (List ℕ)) → joined (lines ++ more) ≡ joined lines ++ joined more
joined_append [] more = refl
joined_append (l ∷ lines) more = ap (λ (t : List ℕ). l ++ 10 ∷ t) (joined_append lines more) ∙ sym (append_assoc l (10 ∷ joined lines) (joined more))

come_append : (at : Option ℕ) (old mid new : Looking) (lines more : List (List ℕ)) → LinesCome at old lines mid → LinesCome at mid more new → LinesCome at old (lines ++ more) new
come_append at old mid new [] more e come = subst (λ (x : Looking). LinesCome at x more new) e come
come_append at old mid new (l ∷ lines) more a come = (a.0, a.1, a.2, come_append at a.1 mid new lines more a.3 come)

front_append : (at : Option ℕ) (text part left : List ℕ) (old : Looking) (begun : List ℕ) (mid new : Looking) → Front at text old begun mid → Front at (begun ++ part) mid left new → Front at (text ++ part) old left new
front_append at text part left old begun mid new f g = record {
  lines = f.lines ++ g.lines;
  parted = ap (λ (t : List ℕ). t ++ part) f.parted ∙ append_assoc (joined f.lines) begun part ∙ ap (λ (t : List ℕ). joined f.lines ++ t) g.parted
      ∙ sym (append_assoc (joined f.lines) (joined g.lines) left) ∙ ap (λ (t : List ℕ). t ++ left) (sym (joined_append f.lines g.lines));
  whole = all_append IsLine f.lines g.lines f.whole g.whole;
  come = come_append at old mid new f.lines g.lines f.come g.come;
}

-- with what was not read
front_behind : (at : Option ℕ) (text left rest : List ℕ) (old new : Looking) → Front at text old left new → Front at (text ++ rest) old (left ++ rest) new
front_behind at text left rest old new f = record {
  lines = f.lines;
  parted = ap (λ (t : List ℕ). t ++ rest) f.parted ∙ append_assoc (joined f.lines) left rest;
  whole = f.whole;
  come = f.come;
}

-- ---- a log

input_of : (known left : Option (List ℕ)) (came : List ℕ) → Consumes known left came → IsInput known (came ++ unwrap_or left [])
input_of None left came c = tt
input_of (Some xs) None came c = absurd c
input_of (Some xs) (Some ys) came c = sym c

all_of : (done : Bool) (line : List ℕ) → IsLine line → IsAll done line line
all_of true line is = tt
all_of false line is = (refl, is)

-- Of what a reader gave so far these lines came, and the beginning of a line waits.
pub record Begun (at : Option ℕ) (known rest : Option (List ℕ)) (start : Looking) (begun : List ℕ) (now : Looking) : Type 0 where
  pub came : List ℕ
  pub consumed : Consumes known rest came
  pub left : List ℕ
  pub front : Front at came start left now
  pub all : IsAll (is_done at now.1.stand) left begun

pub begun_none : (at : Option ℕ) (known : Option (List ℕ)) (start : Looking) → Begun at known known start [] start
begun_none at known start = record {
  came = [];
  consumed = Consumes-nil known;
  left = [];
  front = record { lines = []; parted = refl; whole = tt; come = refl };
  all = all_of (is_done at start.1.stand) [] refl;
}

module _ (at : Option ℕ) (known rest : Option (List ℕ)) (start : Looking) (begun : List ℕ) (now : Looking) (b : Begun at known rest start begun now) where
  pub begun_line : is_done at now.1.stand ≡ false → (b.left ≡ begun) × IsLine begun
  begun_line going = subst (λ (done : Bool). IsAll done b.left begun) going b.all

  -- another part came
  pub begun_more : (part waits : List ℕ) (later : Option (List ℕ)) (new : Looking) → is_done at now.1.stand ≡ false → Consumes rest later part → PartComes at begun part now waits new
      → Begun at known later start waits new
  begun_more part waits later new going c p = record {
    came = b.came ++ part;
    consumed = Consumes-trans known rest later b.came part b.consumed c;
    left = p.0;
    front = front_append at b.came part p.0 start begun now new (subst (λ (t : List ℕ). Front at b.came start t now) (begun_line going).0 b.front) p.1;
    all = p.2;
  }

  -- the last message came that is asked for
  pub begun_done : is_done at now.1.stand ≡ true → start.0 ≡ log_start → Reads at known start.1 now.1
  begun_done done first =
      let more = unwrap_or rest [] in (
        b.came ++ more,
        input_of known rest b.came b.consumed,
        record {
          begin = start;
          log = first;
          scene = refl;
          left = b.left ++ more;
          mid = now;
          front = front_behind at b.came b.left more start now b.front;
          ends = subst (λ (d : Bool). EndsBy at d (b.left ++ more) now now.1) (sym done) refl;
        },
      )

  nothing_left : (l later : Option (List ℕ)) (part : List ℕ) → part ≡ [] → Consumes l later part → IsAtEnd later → unwrap_or l [] ≡ []
  nothing_left None later part none c end = refl
  nothing_left (Some xs) None part none c end = absurd c
  nothing_left (Some xs) (Some ys) part none c end = c ∙ ap (λ (t : List ℕ). t ++ ys) none ∙ end

  -- the reader is at its end
  pub begun_ends : (part : List ℕ) (later : Option (List ℕ)) (log : State) (new : Scene) → is_done at now.1.stand ≡ false → start.0 ≡ log_start → part ≡ [] → Consumes rest later part → IsAtEnd later
      → LastComes at begun now (log, new) → end_of log ≡ Ok tt → Reads at known start.1 new
  begun_ends part later log new going first none c end last whole =
      let line = begun_line going in
      let all : b.came ++ unwrap_or rest [] ≡ b.came = ap (λ (t : List ℕ). b.came ++ t) (nothing_left rest later part none c end) ∙ append-nil b.came in (
        b.came ++ unwrap_or rest [],
        input_of known rest b.came b.consumed,
        record {
          begin = start;
          log = first;
          scene = refl;
          left = begun;
          mid = now;
          front = subst (λ (t : List ℕ). Front at t start begun now) (sym all) (subst (λ (t : List ℕ). Front at b.came start t now) line.0 b.front);
          ends = subst (λ (d : Bool). EndsBy at d begun now new) (sym going) (line.1, log, last, whole);
        },
      )

-- what holds at an Ok of two facts
pub on_ok_both : {A B C : Type 0} (r : Result (Unit {0}) Failure) → (A → B → C) → OnOk r A → OnOk r B → OnOk r C
on_ok_both (Ok done) f a b = f a b
on_ok_both (Err why) f a b = a
