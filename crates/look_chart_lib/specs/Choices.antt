-- What the options of the program say (docs/looking.md, "A picture").
use Rattle.std.specs.Prelude.{ℕ, ◌^◌, ◌+◌, ◌-◌, ◌&&◌, nat_le, min, Bool, if◌then◌else◌, List, Option, Some, None, option_map, codes}
use Rattle.std.specs.Str.{bytes_eq}
use Rattle.chart_parts.specs.Decimals.{number_of}
use Rattle.look_chart_lib.specs.declared.options.Options.{Options}

-- The first 60 messages.
abbrev pub unchosen : Options
unchosen = record { from = 1; to = None }

-- The options with one more.
abbrev pub with_choice : Options → List ℕ → List ℕ → Option Options
with_choice o word value =
    if bytes_eq word (codes "--from") then option_map (λ n. record o { from = n }) (number_of value)
    else (if bytes_eq word (codes "--to") then option_map (λ n. record o { to = Some n }) (number_of value) else None)

-- The number of the last message that is drawn.
abbrev pub last_of : ℕ → Option ℕ → ℕ
last_of from None = min (from + 59) (2 ^ 64 - 1)
last_of from (Some to) = to

abbrev pub last_drawn : Options → ℕ
last_drawn o = last_of o.from o.to

abbrev pub is_drawn : Options → ℕ → Bool
is_drawn o number = nat_le o.from number && nat_le number (last_drawn o)
