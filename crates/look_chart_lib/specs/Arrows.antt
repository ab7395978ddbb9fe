-- Which arrows a picture has (docs/looking.md, "A picture").
use Rattle.std.specs.Prelude.{ℕ, Bool, if◌then◌else◌, List, [], ◌∷◌}
use Rattle.std.specs.List.{flat_map}
use Rattle.look_pieces.specs.declared.piece.Side.{Side}
use Rattle.look_books.specs.declared.books.Moment.{Moment}
use Rattle.rpc_look_lib.specs.declared.watch.Told.{Told}
use Rattle.rpc_look_lib.specs.Watching.{breaks}
use Rattle.look_chart_lib.specs.declared.chart.Row.{Row}
use Rattle.look_chart_lib.specs.declared.chart.Sign.{Sign}
use Rattle.look_chart_lib.specs.declared.chart.Sign.TheVariants as sign
use Rattle.look_chart_lib.specs.declared.options.Options.{Options}
use Rattle.look_chart_lib.specs.Choices.{is_drawn}

-- An arrow goes from the end that said a message to the other. It has the message's number, and is red if that breaks the protocol.
pub record Arrow : Type 0 where
  pub side : Side
  pub number : ℕ
  pub is_red : Bool

-- A row of a message has its arrow, and no other row has one.
abbrev pub arrow_of : Side → Sign → List Arrow
arrow_of s (sign.Message passed) = record { side = s; number = passed.number; is_red = passed.is_broken } ∷ []
arrow_of s (sign.Breach number) = []
arrow_of s (sign.End number) = []
arrow_of s (sign.Pause micros) = []

abbrev pub arrow_in : Row → List Arrow
arrow_in row = arrow_of row.side row.sign

-- The arrows of rows, from above.
abbrev pub arrows_of : List Row → List Arrow
arrows_of rows = flat_map arrow_in rows

-- The arrow of a message.
abbrev pub arrow_for : Side → Moment → Told → List Arrow
arrow_for s m told = record { side = s; number = m.number; is_red = breaks told } ∷ []

-- A message has one arrow if it is drawn, and else none.
abbrev pub arrows_for : Options → Side → Moment → Told → List Arrow
arrows_for o s m told = if is_drawn o m.number then arrow_for s m told else []
