-- The words of a line, read one after the other.
use Rattle.std.proofs.Common.{◌≡◌, ◌≢◌, ◌==◌, ◌||◌, All, Bool, true, false, ℕ, ◌+◌, ◌<◌, List, [], ◌∷◌, ◌++◌, length, take, refl, sym, ap, ◌∙◌, append_assoc, arith}
use Rattle.std.specs.List.{slice_split}
use Rattle.std.proofs.lemmas.Bool.Decides.{nat_tests}
use Rattle.std.proofs.lemmas.List.{length-append}
use Rattle.std.proofs.lemmas.List.Elements.{All-nil, All-append, All-cons, All-same, All-weaker}
use Rattle.std.proofs.lemmas.List.Splits.{slice_split_at, slice_split_none}
use Rattle.std.proofs.Math.Seq.{take-append_seam}
use Rattle.script_language.specs.Lines.{is_gap, is_comment, is_skipped}
use Rattle.script_language.specs.Scripts.{texts_of, AreWordsOf}

-- a byte that ends no line
abbrev InLine : ℕ → Type 0
InLine c = (c == 10) ≡ false

abbrev pub words_of : List ℕ → List (List ℕ)
words_of line = slice_split (λ c. c == 32) line

-- The text was read so far, up to a space of its first line, which has these words.
pub record HasRead (text : List ℕ) (read : ℕ) (rest : List ℕ) (words : List (List ℕ)) : Type 0 where
  pub before : List ℕ
  pub whole : text ≡ before ++ rest
  pub long : length before ≡ read
  pub line : All (λ c. (c == 10) ≡ false) before
  pub parted : (more : List ℕ) → words_of (before ++ more) ≡ words ++ words_of more

neither : (a b : Bool) → (a || b) ≡ false → (a ≡ false) × (b ≡ false)
neither true b h = let f : ◌≡◌ {A = Bool} true false = h in cc
neither false b h = (refl, h)

the_first : (a b : Bool) → (a || b) ≡ true → b ≡ false → a ≡ true
the_first true b h none = refl
the_first false b h none = let f : ◌≡◌ {A = Bool} true false = sym h ∙ none in cc

another : (c : ℕ) → c ≢ 10 → (c == 10) ≡ false
another c other = grind (arith, nat_tests)

no_space : (word : List ℕ) → All (λ c. is_gap c ≡ false) word → All (λ c. (c == 32) ≡ false) word
no_space word h = All-weaker (λ c. is_gap c ≡ false) (λ c. (c == 32) ≡ false) (λ c none. (neither (c == 32) (c == 10) none).0) word h

no_newline : (word : List ℕ) → All (λ c. is_gap c ≡ false) word → All (λ c. (c == 10) ≡ false) word
no_newline word h = All-weaker (λ c. is_gap c ≡ false) (λ c. (c == 10) ≡ false) (λ c none. (neither (c == 32) (c == 10) none).1) word h

pub nothing_read : (text : List ℕ) → HasRead text 0 text []
nothing_read text = record { before = []; whole = refl; long = refl; line = All-nil InLine; parted = λ more. refl }

-- One word more, and the space behind it.
pub word_read : (text : List ℕ) (read : ℕ) (rest word behind : List ℕ) (gap : ℕ) (words : List (List ℕ)) → HasRead text read rest words
    → rest ≡ word ++ gap ∷ behind → All (λ c. is_gap c ≡ false) word → is_gap gap ≡ true → gap ≢ 10
    → HasRead text (read + (length word + 1)) behind (words ++ word ∷ [])
word_read text read rest word behind gap words h split none is other = record {
  before = h.before ++ (word ++ gap ∷ []);
  whole =
      h.whole
      ∙ ap (λ (bytes : List ℕ). h.before ++ bytes) (split ∙ sym (append_assoc word (gap ∷ []) behind))
      ∙ sym (append_assoc h.before (word ++ gap ∷ []) behind);
  long =
      length-append h.before (word ++ gap ∷ [])
      ∙ ap (λ (n : ℕ). length h.before + n) (length-append word (gap ∷ []))
      ∙ ap (λ (n : ℕ). n + (length word + 1)) h.long;
  line = All-append InLine h.before (word ++ gap ∷ []) h.line (All-append InLine word (gap ∷ []) (no_newline word none) (All-cons InLine gap [] (another gap other) (All-nil InLine)));
  parted = λ more.
      ap words_of (append_assoc h.before (word ++ gap ∷ []) more)
      ∙ ap (λ (bytes : List ℕ). words_of (h.before ++ bytes)) (append_assoc word (gap ∷ []) more)
      ∙ h.parted (word ++ gap ∷ more)
      ∙ ap (λ (ws : List (List ℕ)). words ++ ws) (slice_split_at (λ c. c == 32) word gap more (no_space word none) (the_first (gap == 32) (gap == 10) is (another gap other)))
      ∙ sym (append_assoc words (word ∷ []) (words_of more));
}

-- A word, and the newline behind it: so much of the text is its first line.
pub line_read : (text : List ℕ) (read : ℕ) (rest word behind line : List ℕ) (gap : ℕ) (words : List (List ℕ)) → HasRead text read rest words
    → rest ≡ word ++ gap ∷ behind → All (λ c. is_gap c ≡ false) word → gap ≡ 10 → line ≡ take (read + length word) text
    → (texts_of text ≡ line ∷ texts_of behind) × (length behind < length text) × AreWordsOf line (words ++ word ∷ [])
line_read text read rest word behind line gap words h split none newline first =
    let all : text ≡ (h.before ++ word) ++ gap ∷ behind = h.whole ∙ ap (λ (bytes : List ℕ). h.before ++ bytes) split ∙ sym (append_assoc h.before word (gap ∷ behind)) in
    let long : length (h.before ++ word) ≡ read + length word = length-append h.before word ∙ ap (λ (n : ℕ). n + length word) h.long in
    let is : line ≡ h.before ++ word =
    first ∙ ap (λ (n : ℕ). take n text) (sym long) ∙ ap (take (length (h.before ++ word))) all ∙ take-append_seam (h.before ++ word) (gap ∷ behind) in
    let far : length text ≡ length (h.before ++ word) + length (gap ∷ behind) = ap length all ∙ length-append (h.before ++ word) (gap ∷ behind) in (
      ap texts_of all
          ∙ slice_split_at (λ c. c == 10) (h.before ++ word) gap behind (All-append InLine h.before word h.line (no_newline word none)) (ap (λ (c : ℕ). c == 10) newline)
          ∙ ap (λ (l : List ℕ). l ∷ texts_of behind) (sym is),
      omega (arith, far),
      λ says. sym (ap words_of is ∙ h.parted word ∙ ap (λ (ws : List (List ℕ)). words ++ ws) (slice_split_none (λ c. c == 32) word (no_space word none))),
    )

-- The last word: the text is one line.
pub text_read : (text : List ℕ) (read : ℕ) (rest : List ℕ) (words : List (List ℕ)) → HasRead text read rest words → All (λ c. is_gap c ≡ false) rest
    → (texts_of text ≡ text ∷ []) × AreWordsOf text (words ++ rest ∷ [])
text_read text read rest words h none = (
  slice_split_none (λ c. c == 10) text (All-same InLine text (h.before ++ rest) h.whole (All-append InLine h.before rest h.line (no_newline rest none))),
  λ says. sym (ap words_of h.whole ∙ h.parted rest ∙ ap (λ (ws : List (List ℕ)). words ++ ws) (slice_split_none (λ c. c == 32) rest (no_space rest none))),
)

comment_skipped : (line behind text : List ℕ) → is_comment text ≡ true → text ≡ line ++ 10 ∷ behind → is_skipped line ≡ true
comment_skipped [] behind text is e = refl
comment_skipped (c ∷ cs) behind text is e = ap is_comment (sym e) ∙ is

all_skipped : (text : List ℕ) → is_comment text ≡ true → is_skipped text ≡ true
all_skipped [] is = refl
all_skipped (c ∷ cs) is = is

no_words : (line : List ℕ) (words : List (List ℕ)) → is_skipped line ≡ true → AreWordsOf line words
no_words line words skipped says = let f : ◌≡◌ {A = Bool} true false = sym skipped ∙ says in cc

-- The first line of a text that begins with a comment is one.
pub comment_read : (text line behind : List ℕ) (words : List (List ℕ)) → is_comment text ≡ true → text ≡ line ++ 10 ∷ behind → All (λ c. (c == 10) ≡ false) line
    → (texts_of text ≡ line ∷ texts_of behind) × (length behind < length text) × AreWordsOf line words
comment_read text line behind words is e none =
    let far : length text ≡ length line + length (10 ∷ behind) = ap length e ∙ length-append line (10 ∷ behind) in (
      ap texts_of e ∙ slice_split_at (λ c. c == 10) line 10 behind none refl,
      omega (arith, far),
      no_words line words (comment_skipped line behind text is e),
    )

pub last_comment_read : (text : List ℕ) (words : List (List ℕ)) → is_comment text ≡ true → All (λ c. (c == 10) ≡ false) text → (texts_of text ≡ text ∷ []) × AreWordsOf text words
last_comment_read text words is none = (slice_split_none (λ c. c == 10) text none, no_words text words (all_skipped text is))
