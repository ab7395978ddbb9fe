-- What the program says of a failure, and what it writes where help is asked for (docs/looking.md, "A picture").
use Rattle.std.specs.Prelude.{ℕ, Option, List, [], ◌∷◌, ◌++◌, codes}
use Rattle.std.specs.Io.KnownBytes.{Appends}
use Rattle.rpc_look_lib.specs.declared.failure.Failure.{Failure}
use Rattle.rpc_look_lib.specs.declared.failure.Failure.TheVariants as failure

-- What is written where help is asked for.
abbrev pub help_text : List ℕ
help_text = codes "usage: look_chart [--schema FILE] [--from N] [--to N] [LOG]\n\nDraws the conversation of a log of `socat -x` as a sequence diagram, in SVG on standard output.\nWithout a name the log is read from standard input.\n\n  --schema FILE  methods and places by the names of a schema, as `capnp compile -o-` writes it\n  --from N       the first message that is drawn, counted from 1\n  --to N         the last one; without it 60 messages are drawn\n\nThe status is 0 where nothing breaks the protocol, 1 where something does, 2 where nothing is drawn.\n"

-- What is said of a failure where the file has that name; of an output that failed nothing. Which words are said of a log or a
-- schema that is none is left open.
abbrev pub TellsOf : List ℕ → Failure → Option (List ℕ) → Option (List ℕ) → Type 0
TellsOf name failure.Usage old new = Appends old new (codes "usage: look_chart [--schema FILE] [--from N] [--to N] [LOG]" ++ 10 ∷ [])
TellsOf name failure.Memory old new = Appends old new (codes "out of memory" ++ 10 ∷ [])
TellsOf name failure.Unreadable old new = Appends old new (codes "cannot read " ++ (name ++ 10 ∷ []))
TellsOf name (failure.NoLog fault) old new = Unit {0}
TellsOf name (failure.NoSchema error) old new = Unit {0}
TellsOf name failure.Unwritten old new = Appends old new []
