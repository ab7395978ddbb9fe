-- What the program's words ask for: docs/messages.md.
use Rattle.std.specs.Prelude.{ℕ, true, cond, Option, Some, None, List, codes}
use Rattle.std.specs.Str.{bytes_eq}
use Rattle.rpc_dump_lib.specs.declared.options.Options.{Options}

abbrev pub asked : Options → List ℕ → Option Options
asked options word =
    cond (bytes_eq word (codes "--hex")) (Some (record { hex = true; payloads = options.payloads }))
    (cond (bytes_eq word (codes "--payloads")) (Some (record { hex = options.hex; payloads = true })) None)
