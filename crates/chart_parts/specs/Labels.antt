-- How a label stands in a picture (docs/trace.md, "A picture of a trace"; docs/looking.md, "A picture").
use Rattle.std.specs.Prelude.{ℕ, ◌≡◌, ◌==◌, ◌<◌, ◌≤◌, ◌⊎◌, ◌++◌, ◌&&◌, ◌||◌, nat_le, Bool, if◌then◌else◌, List, map, length, take, codes, encode_utf8, suc}
use Rattle.std.specs.List.{list_any, sum}
use Rattle.chart_parts.specs.Escapes.{escaped}

abbrev pub is_in : List ℕ → ℕ → Bool
is_in cs c = list_any (λ d. d == c) cs

-- About how wide a character is at a size of 12, in tenths of a pixel.
abbrev pub width : ℕ → ℕ
width c =
    if is_in (codes " .,:;/|'ijl") c then 42
    else (if is_in (codes "()[]-!ftrI") c then 50
    else (if is_in (codes "mwMW@%") c then 120
    else (if (nat_le 65 c && nat_le c 90) || is_in (codes "#&<>=+~") c then 100
    else (if nat_le 33 c && nat_le c 126 then 77 else 120))))

abbrev pub widths : List ℕ → ℕ
widths cs = sum (map width cs)

-- There is place for the first n characters, and for no more; the place is in tenths of a pixel.
abbrev pub IsCutAt : ℕ → List ℕ → ℕ → Type 0
IsCutAt place cs n = (n < length cs) × (widths (take n cs) ≤ place) × (place < widths (take (suc n) cs))

-- All of a label, or as much as there is place for, and a sign that it is cut.
abbrev pub IsShown : ℕ → List ℕ → List ℕ → Type 0
IsShown place cs shown = ((widths cs ≤ place) × (shown ≡ escaped cs)) ⊎ ((n : ℕ) × IsCutAt place cs n × (shown ≡ escaped (take n cs) ++ encode_utf8 8230))
