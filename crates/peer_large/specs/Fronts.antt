-- What is read in the front of a frame: the question that a Call asks, or that a Return answers (`Message`, `Call` and `Return` of
-- rpc.capnp). The pointers that lead there are those of structs in segment 0, behind them.
use Rattle.std.specs.Prelude.{ℕ, ◌+◌, ◌*◌, ◌/◌, ◌%◌, ◌^◌, ◌<◌, ◌≤◌, ◌==◌, if◌then◌else◌, nat_lt, List, [], ◌∷◌, length, drop, Option, Some, None}
use Rattle.byteorder.specs.Endian.{little_number}
use Rattle.capn_reading.specs.Framing.{segment_count, table_words}
use Rattle.capn_reading.specs.Pointers.{middle, upper}
use Rattle.capn_reading.specs.Reading.{element}
use Rattle.peer_large.specs.declared.front.Spot.{Spot}
use Rattle.peer_large.specs.declared.front.Large.{Large}
use Rattle.peer_large.specs.declared.front.Large.TheVariants as large

infixl 10 ◌>>=◌
abbrev pub ◌>>=◌ : {A B : Type 0} → Option A → (A → Option B) → Option B
(Some x) >>= f = f x
None >>= f = None

-- the byte at which a word of segment 0 begins
abbrev pub place_of : List ℕ → ℕ → ℕ
place_of bytes i = 8 * (table_words (segment_count bytes) + i)

abbrev pub word_from : List ℕ → ℕ → Option ℕ
word_from bytes at = if nat_lt (length bytes) (at + 8) then None else Some (little_number 8 (drop at bytes))

-- A word of segment 0, which has so many, if it is in the bytes.
unfoldable pub word_at : List ℕ → ℕ → Option ℕ
word_at bytes i =
    if nat_lt (length bytes) 8 then None
    else if nat_lt i (little_number 4 (drop 4 bytes)) then word_from bytes (place_of bytes i)
    else None

-- A pointer at a word that leads to a struct behind it. The offset counts from the pointer's end, and is not negative.
abbrev pub spot_by : ℕ → ℕ → Option Spot
spot_by i word =
    if word == 0 then None
    else if word % 4 == 0 then (if nat_lt (middle word) (2 ^ 29) then Some (record { start = i + 1 + middle word; data_words = upper word % 2 ^ 16; pointer_words = upper word / 2 ^ 16 }) else None)
    else None

-- It begins not far behind that word, and its data is not long.
abbrev pub IsNear : ℕ → Spot → Type 0
IsNear i s = (s.start ≤ i + 2 ^ 29) × (s.data_words < 2 ^ 16)

-- the struct that the pointer at a word leads to
abbrev pub spot_at : List ℕ → ℕ → Option Spot
spot_at bytes i = word_at bytes i >>= λ word. spot_by i word

-- its first word of data, if it has one
abbrev pub first_of : List ℕ → Spot → Option ℕ
first_of bytes s = if s.data_words == 0 then None else word_at bytes s.start

-- the struct that its first pointer leads to, if it has one
abbrev pub led_by : List ℕ → Spot → Option Spot
led_by bytes s = if s.pointer_words == 0 then None else spot_at bytes (s.start + s.data_words)

-- A Call: questionId @0, sendResultsTo: to the caller @5.
abbrev pub call_in : List ℕ → Option Large
call_in words = if element words 16 3 == 0 then Some (large.Call (record { 0 = element words 32 0 })) else None

-- A Return: answerId @0, releaseParamCaps @1, whose default is true; results @2, an exception @3 or canceled @4.
abbrev pub return_in : List ℕ → Option Large
return_in words =
    if nat_lt 2 (element words 16 3) then None
    else Some (large.Return (record { 0 = element words 32 0 }) (element words 1 32 == 0))

-- the message by the union's number, and its first word
abbrev pub large_by : ℕ → List ℕ → Option Large
large_by which words =
    if which == 2 then call_in words  -- call @2
    else if which == 3 then return_in words  -- return @3
    else None

-- what is read in these bytes
unfoldable pub large_in : List ℕ → Option Large
large_in bytes =
    spot_at bytes 0 >>= λ root.
    first_of bytes root >>= λ first.
    led_by bytes root >>= λ message.
    first_of bytes message >>= λ word.
    large_by (element (first ∷ []) 16 0) (word ∷ [])
