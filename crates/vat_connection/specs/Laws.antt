-- The laws of connections.
use Rattle.std.specs.Prelude.{◌≡◌, ℕ, ◌+◌, ◌≤◌, List, ◌++◌, None, ◌⊎◌}
use Rattle.vat_connection.specs.Connecting.{Connected, Receives, WorksOn, down}

-- What comes of two pieces, one after the other, may come of both as one.
abbrev pub PiecesAreOne : Type 0
PiecesAreOne = (piece more : List ℕ) (old mid new : Connected) → Receives old piece mid → Receives mid more new → Receives old (piece ++ more) new

-- the most words that are held of a frame: the table of 16 segments, and as many words as a message may have
abbrev pub most_frame_words : ℕ
most_frame_words = 65545

-- The words of what is held are at most the limit and what one frame adds, if they were: whatever comes of the peer, and however the vat
-- goes on, as long as it is up.
abbrev pub LoadIsBounded : Type 0
LoadIsBounded =
    (bound : ℕ) (bytes : List ℕ) (old new : Connected) → old.limits.words + most_frame_words ≤ bound → old.speaker.heard.words ≤ bound → Receives old bytes new ⊎ WorksOn old new
    → down new ≡ None → new.speaker.heard.words ≤ bound
