use Rattle.std.proofs.Common.{◌≡◌, ◌++◌, string_bytes}
use Rattle.trace_file.specs.Shown.{rows_text}
use Rattle.trace_file.proofs.rows.Rows.write.Given as goal

abbrev pub invariant-loop-number : goal.invariant-loop-number
invariant-loop-number l = string_bytes l.text ++ rows_text l.vat l.number-iterator ≡ string_bytes l.fn.text ++ rows_text l.vat l.self.tree.entries
