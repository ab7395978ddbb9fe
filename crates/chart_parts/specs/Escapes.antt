-- How a text stands in SVG (the Extensible Markup Language 1.0, "Characters" and "Character Data and Markup").
use Rattle.std.specs.Prelude.{ℕ, ◌==◌, ◌||◌, ◌&&◌, nat_lt, nat_le, Bool, if◌then◌else◌, List, codes, encode_utf8}
use Rattle.std.specs.List.{flat_map}

-- A character that XML has no place for. Tabs and ends of lines, for which it has, are taken with the other controls.
abbrev pub is_barred : ℕ → Bool
is_barred c = nat_lt c 32 || (nat_le 65534 c && nat_le c 65535)

abbrev pub letter_text : ℕ → List ℕ
letter_text c =
    if c == 60 then codes "&lt;"
    else (if c == 62 then codes "&gt;"
    else (if c == 38 then codes "&amp;"
    else (if c == 34 then codes "&quot;"
    else (if is_barred c then codes " " else encode_utf8 c))))

-- What SVG has for those characters.
abbrev pub escaped : List ℕ → List ℕ
escaped cs = flat_map letter_text cs
