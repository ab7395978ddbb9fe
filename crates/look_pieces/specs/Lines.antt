-- What a line of a log is (docs/looking.md): the head of a piece, bytes of a piece, or neither.
use Rattle.std.specs.Prelude.{ℕ, ◌+◌, ◌-◌, ◌*◌, ◌==◌, ◌&&◌, ◌||◌, not, nat_lt, Bool, true, false, if◌then◌else◌, Option, Some, None, List, [], ◌∷◌, length, codes}
use Rattle.std.specs.Str.{all_ascii_digits, bytes_eq}
use Rattle.look_pieces.specs.declared.piece.Side.{Side}
use Rattle.look_pieces.specs.declared.piece.Side.TheVariants as side
use Rattle.look_pieces.specs.declared.line.Head.{Head}
use Rattle.look_pieces.specs.Words.{and_then, only_if, before, behind, clock_of, labelled, hex_of}

abbrev pub is_empty : List ℕ → Bool
is_empty xs = length xs == 0

-- `>` marks what the client sent, and `<` what the server sent.
abbrev pub side_of : List ℕ → Option Side
side_of word = if bytes_eq word (codes ">") then Some side.Client else if bytes_eq word (codes "<") then Some side.Server else None

-- year, month and day: four, two and two digits
abbrev pub is_day : List ℕ → List ℕ → List ℕ → Bool
is_day year month day =
    (length year == 4) && (length month == 2) && (length day == 2) && all_ascii_digits year && all_ascii_digits month && all_ascii_digits day

abbrev pub is_date : List ℕ → Bool
is_date word = is_day (before 47 word) (before 47 (behind 47 word)) (behind 47 (behind 47 word))

-- A piece has a byte at least, and `to` is the place of its last one.
abbrev pub reaches : ℕ → ℕ → ℕ → Bool
reaches length from to = not (nat_lt to from || not (to - from == length - 1) || (length == 0))

abbrev pub head_at : Side → ℕ → ℕ → ℕ → ℕ → Option Head
head_at s clock length from to = only_if (reaches length from to) (Some (record { side = s; clock = clock; length = length; from = from }))

abbrev pub head_by : Option Side → Option ℕ → Option ℕ → Option ℕ → Option ℕ → Option Head
head_by s clock length from to =
    and_then s (λ s. and_then clock (λ c. and_then length (λ l. and_then from (λ f. and_then to (λ t. head_at s c l f t)))))

-- The words of a head: mark, date, time, nothing, and three numbers with their labels.
abbrev pub head_words : List ℕ → List ℕ → List ℕ → List ℕ → List ℕ → List ℕ → List ℕ → Option Head
head_words mark date clock gap length from to =
    if not (is_empty gap) || not (is_date date) then None
    else head_by (side_of mark) (clock_of clock) (labelled (codes "length=") length) (labelled (codes "from=") from) (labelled (codes "to=") to)

-- the same, behind the words up to the time
abbrev pub head_behind : List ℕ → List ℕ → List ℕ → List ℕ → Option Head
head_behind mark date clock rest =
    head_words mark date clock (before 32 rest) (before 32 (behind 32 rest)) (before 32 (behind 32 (behind 32 rest))) (behind 32 (behind 32 (behind 32 rest)))

-- The head of a piece, with a blank between its words: `> 2026/11/29 06:51:34.000213334  length=48 from=0 to=47`.
unfoldable pub head_of : List ℕ → Option Head
head_of line =
    head_behind (before 32 line) (before 32 (behind 32 line)) (before 32 (behind 32 (behind 32 line))) (behind 32 (behind 32 (behind 32 line)))

-- ---- bytes

abbrev pub byte_of : Option ℕ → Option ℕ → Option ℕ
byte_of high low = and_then high (λ h. and_then low (λ l. Some (16 * h + l)))

-- a blank and two digits
abbrev pub pair_of : ℕ → ℕ → ℕ → Option ℕ
pair_of blank high low = if blank == 32 then byte_of (hex_of high) (hex_of low) else None

abbrev pub with_pair : ℕ → List ℕ × List ℕ → List ℕ × List ℕ
with_pair byte p = (byte ∷ p.0, p.1)

abbrev pub pairs_by : Option ℕ → List ℕ → List ℕ × List ℕ → List ℕ × List ℕ
pairs_by None text rest = ([], text)
pairs_by (Some byte) text rest = with_pair byte rest

-- The bytes at the front of a text, each a blank and two digits, and what stands behind them.
abbrev pub pairs_of : List ℕ → List ℕ × List ℕ
pairs_of (c ∷ h ∷ l ∷ rest) = pairs_by (pair_of c h l) (c ∷ h ∷ l ∷ rest) (pairs_of rest)
pairs_of (c ∷ h ∷ []) = ([], c ∷ h ∷ [])
pairs_of (c ∷ []) = ([], c ∷ [])
pairs_of [] = ([], [])

-- Behind the bytes a line ends, or it goes on with two blanks and the same bytes as text.
abbrev pub is_end : List ℕ → Bool
is_end [] = true
is_end (c ∷ []) = false
is_end (c ∷ d ∷ rest) = (c == 32) && (d == 32)

abbrev pub bytes_in : List ℕ × List ℕ → Option (List ℕ)
bytes_in p = if is_empty p.0 || not (is_end p.1) then None else Some p.0

-- the bytes of a line, at least one
abbrev pub bytes_of : List ℕ → Option (List ℕ)
bytes_of line = bytes_in (pairs_of line)
