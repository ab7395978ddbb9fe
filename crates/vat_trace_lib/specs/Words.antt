-- The program's words.
use Rattle.std.specs.Prelude.{ℕ, Bool, cond, Option, Some, None, List, codes}
use Rattle.std.specs.Str.{bytes_eq}
use Rattle.vat_trace_lib.specs.declared.words.Word.{Word}
use Rattle.vat_trace_lib.specs.declared.words.Word.TheVariants.{Run, Check, Show, Upgrade}

abbrev pub word_of : List ℕ → Option Word
word_of word =
    cond (bytes_eq word (codes "run")) (Some Run)
    (cond (bytes_eq word (codes "check")) (Some Check)
    (cond (bytes_eq word (codes "show")) (Some Show)
    (cond (bytes_eq word (codes "upgrade")) (Some Upgrade) None)))
