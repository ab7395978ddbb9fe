-- The lines of a log, of which parts came.
use Rattle.std.proofs.Common.{◌≡◌, ℕ, ◌+◌, ◌<◌, ◌≤◌, ◌==◌, ◌||◌, not, cond, nat_lt, Bool, true, false, suc, List, [], ◌∷◌, ◌++◌, length, get_or, take, drop, Option, Some, None, refl, sym, ap, subst, ◌∙◌, append_assoc, append-nil, take-append-drop, arith}
use Rattle.std.specs.List.{AllByRecursion, position_or_len}
use Rattle.std.proofs.lemmas.Bool.Decides.{nat_tests}
use Rattle.std.proofs.lemmas.List.{take_all, drop_more, drop-drop}
use Rattle.std.proofs.lemmas.List.Sums.{passes_at_first}
use Rattle.rpc_look_lib.specs.Talking.{is_done}
use Rattle.rpc_look_lib.specs.Reading.{is_newline, has_newline, IsLine, joined, Looking, LineComes, LinesCome, LastComes, Front, IsAll}
use Rattle.rpc_look_lib.proofs.Pieces.{all_more}

-- ---- newlines

or_left : (a b : Bool) → (a || b) ≡ false → a ≡ false
or_left true b h = h
or_left false b h = refl

or_right : (a b : Bool) → (a || b) ≡ false → b ≡ false
or_right true b h = let e : true ≡ false = h in cc
or_right false b h = h

or_none : (a b : Bool) → a ≡ false → b ≡ false → (a || b) ≡ false
or_none true b h k = h
or_none false b h k = k

pub line_append : (xs ys : List ℕ) → IsLine xs → IsLine ys → IsLine (xs ++ ys)
line_append [] ys h k = k
line_append (x ∷ xs) ys h k = or_none (is_newline x) (has_newline (xs ++ ys)) (or_left (is_newline x) (has_newline xs) h) (line_append xs ys (or_right (is_newline x) (has_newline xs) h) k)

take_step : (x : ℕ) (xs : List ℕ) (n : ℕ) → take (1 + n) (x ∷ xs) ≡ x ∷ take n xs
take_step x xs n = let e : 1 + n ≡ suc n = omega arith in ap (λ (k : ℕ). take k (x ∷ xs)) e

first_step : (x : ℕ) (xs : List ℕ) (n : ℕ) (b : Bool) → is_newline x ≡ b → IsLine (take n xs) → IsLine (take (cond (not b) (1 + n) 0) (x ∷ xs))
first_step x xs n true e h = refl
first_step x xs n false e h = ap has_newline (take_step x xs n) ∙ or_none (is_newline x) (has_newline (take n xs)) e h

-- no newline stands before the first one
pub line_first : (text : List ℕ) → IsLine (take (position_or_len is_newline text) text)
line_first [] = refl
line_first (x ∷ xs) = first_step x xs (position_or_len is_newline xs) (is_newline x) refl (line_first xs)

is_ten : (c : ℕ) → is_newline c ≡ true → c ≡ 10
is_ten c h = grind (arith, nat_tests)

found : (n len at : ℕ) → cond (nat_lt n len) (Some n) None ≡ Some at → n ≡ at
found n len at e = grind (arith, nat_tests)

missing : (n len : ℕ) → ◌≡◌ {A = Option ℕ} (cond (nat_lt n len) (Some n) None) None → len ≤ n
missing n len e = grind (arith, nat_tests)

-- the first newline, and the line before it
pub newline_at : (text : List ℕ) (at : ℕ) → at < length text → cond (nat_lt (position_or_len is_newline text) (length text)) (Some (position_or_len is_newline text)) None ≡ Some at
    → IsLine (take at text) × (drop at text ≡ 10 ∷ drop (at + 1) text)
newline_at text at within e =
    let same : position_or_len is_newline text ≡ at = found (position_or_len is_newline text) (length text) at e in
    let ten : is_newline (get_or text at 0) ≡ true = subst (λ (k : ℕ). k < length text → is_newline (get_or text k 0) ≡ true) same (passes_at_first is_newline text 0) within in (
      subst (λ (k : ℕ). IsLine (take k text)) same (line_first text),
      drop_more text at 0 within ∙ ap (λ (c : ℕ). c ∷ drop (at + 1) text) (is_ten (get_or text at 0) ten),
    )

pub newline_none : (text : List ℕ) → ◌≡◌ {A = Option ℕ} (cond (nat_lt (position_or_len is_newline text) (length text)) (Some (position_or_len is_newline text)) None) None → IsLine text
newline_none text e = subst IsLine (take_all (position_or_len is_newline text) text (missing (position_or_len is_newline text) (length text) e)) (line_first text)

-- ---- lines

joined_more : (lines : List (List ℕ)) (line : List ℕ) → joined (lines ++ line ∷ []) ≡ joined lines ++ (line ++ 10 ∷ [])
joined_more [] line = refl
joined_more (l ∷ lines) line = ap (λ (t : List ℕ). l ++ 10 ∷ t) (joined_more lines line) ∙ sym (append_assoc l (10 ∷ joined lines) (line ++ 10 ∷ []))

lines_more : (at : Option ℕ) (old mid new : Looking) (lines : List (List ℕ)) (line : List ℕ) → LinesCome at old lines mid → is_done at mid.1.stand ≡ false
    → LineComes at line mid new → LinesCome at old (lines ++ line ∷ []) new
lines_more at old mid new [] line e going c = (subst (λ (x : Looking). is_done at x.1.stand ≡ false) e going, new, subst (λ (x : Looking). LineComes at line x new) e c, refl)
lines_more at old mid new (l ∷ lines) line a going c = (a.0, a.1, a.2, lines_more at a.1 mid new lines line a.3 going c)

pub front_none : (at : Option ℕ) (text : List ℕ) (old : Looking) → Front at text old text old
front_none at text old = record { lines = []; parted = refl; whole = tt; come = refl }

-- the line before a newline
split_newline : (begun rest : List ℕ) (count : ℕ) → drop count rest ≡ 10 ∷ drop (count + 1) rest → begun ++ rest ≡ (begun ++ take count rest) ++ 10 ∷ drop (count + 1) rest
split_newline begun rest count e =
    ap (λ (t : List ℕ). begun ++ t) (sym (take-append-drop count rest) ∙ ap (λ (t : List ℕ). take count rest ++ t) e) ∙ sym (append_assoc begun (take count rest) (10 ∷ drop (count + 1) rest))

seam : (xs line rest : List ℕ) → xs ++ (line ++ 10 ∷ rest) ≡ (xs ++ (line ++ 10 ∷ [])) ++ rest
seam xs line rest = ap (λ (t : List ℕ). xs ++ t) (sym (append_assoc line (10 ∷ []) rest)) ∙ sym (append_assoc xs (line ++ 10 ∷ []) rest)

-- one line more
pub front_more : (at : Option ℕ) (text : List ℕ) (old : Looking) (begun rest : List ℕ) (now new : Looking) (count : ℕ) (left : List ℕ) → Front at text old (begun ++ rest) now → is_done at now.1.stand ≡ false
    → IsLine begun → IsLine (take count rest) → drop count rest ≡ 10 ∷ drop (count + 1) rest → left ≡ drop (count + 1) rest → LineComes at (begun ++ take count rest) now new
    → Front at text old left new
front_more at text old begun rest now new count left f going line first ten behind c = record {
  lines = f.lines ++ (begun ++ take count rest) ∷ [];
  parted = f.parted ∙ ap (λ (t : List ℕ). joined f.lines ++ t) (split_newline begun rest count ten ∙ ap (λ (t : List ℕ). (begun ++ take count rest) ++ 10 ∷ t) (sym behind))
      ∙ seam (joined f.lines) (begun ++ take count rest) left ∙ ap (λ (t : List ℕ). t ++ left) (sym (joined_more f.lines (begun ++ take count rest)));
  whole = all_more IsLine f.lines (begun ++ take count rest) f.whole (line_append begun (take count rest) line first);
  come = lines_more at old now new f.lines (begun ++ take count rest) f.come going c;
}

-- ---- the end of a part, and of the log

all_of : (done : Bool) (left waits : List ℕ) → left ≡ waits → IsLine waits → IsAll done left waits
all_of true left waits e is = tt
all_of false left waits e is = (e, is)

-- the beginning of a line waits
pub part_waits : (at : Option ℕ) (text : List ℕ) (old : Looking) (begun rest waits : List ℕ) (now : Looking) → Front at text old (begun ++ rest) now → IsLine begun → IsLine rest → waits ≡ begun ++ rest
    → (left : List ℕ) × Front at text old left now × IsAll (is_done at now.1.stand) left waits
part_waits at text old begun rest waits now f line behind e =
    (begun ++ rest, f, all_of (is_done at now.1.stand) (begun ++ rest) waits (sym e) (subst IsLine (sym e) (line_append begun rest line behind)))

-- nothing is left of the part
pub part_ends : (at : Option ℕ) (text : List ℕ) (old : Looking) (begun rest : List ℕ) (now : Looking) → Front at text old (begun ++ rest) now → IsLine begun → rest ≡ []
    → (left : List ℕ) × Front at text old left now × IsAll (is_done at now.1.stand) left begun
part_ends at text old begun rest now f line none =
    let all : begun ++ rest ≡ begun = ap (λ (t : List ℕ). begun ++ t) none ∙ append-nil begun in
    (begun, subst (λ (t : List ℕ). Front at text old t now) all f, all_of (is_done at now.1.stand) begun begun refl line)

-- the last message came that is asked for
pub part_done : (at : Option ℕ) (text : List ℕ) (old : Looking) (left begun : List ℕ) (now : Looking) → Front at text old left now → is_done at now.1.stand ≡ true
    → (rest : List ℕ) × Front at text old rest now × IsAll (is_done at now.1.stand) rest begun
part_done at text old left begun now f done = (left, f, subst (λ (d : Bool). IsAll d left begun) (sym done) tt)

is_zero : (n : ℕ) → (n == 0) ≡ true → n ≡ 0
is_zero n h = grind (arith, nat_tests)

is_some_number : (n : ℕ) → (n == 0) ≡ false → 0 < n
is_some_number n h = grind (arith, nat_tests)

none_of : (xs : List ℕ) → length xs ≡ 0 → xs ≡ []
none_of [] e = refl
none_of (x ∷ xs) e = absurd (omega arith)

-- no line has begun
pub last_none : (at : Option ℕ) (begun : List ℕ) (old : Looking) → (length begun == 0) ≡ true → LastComes at begun old old
last_none at begun old e = subst (λ (t : List ℕ). LastComes at t old old) (sym (none_of begun (is_zero (length begun) e))) refl

last_by : (at : Option ℕ) (begun : List ℕ) (old new : Looking) → 0 < length begun → LineComes at begun old new → LastComes at begun old new
last_by at [] old new some c = absurd (omega arith)
last_by at (x ∷ xs) old new some c = c

-- the last line has no newline
pub last_some : (at : Option ℕ) (begun : List ℕ) (old new : Looking) → (length begun == 0) ≡ false → LineComes at (begun ++ []) old new → LastComes at begun old new
last_some at begun old new e c = last_by at begun old new (is_some_number (length begun) e) (subst (λ (t : List ℕ). LineComes at t old new) (append-nil begun) c)
