-- The limits on a message and on what reading it visits: docs/encoding.md.
use Rattle.std.specs.Prelude.{ℕ}

-- the limit on the words of all segments
abbrev pub most_words : ℕ
most_words = 65536

-- the limit on the words that are visited, those of a content each time that a pointer leads to it
abbrev pub most_visited : ℕ
most_visited = 65536

-- the limit on the nesting of contents
abbrev pub most_levels : ℕ
most_levels = 64
