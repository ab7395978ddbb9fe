use Rattle.std.proofs.Common.{sym, ◌∙◌}
use Rattle.trace_file.proofs.Ends.{last_empty, last_full}
use Rattle.trace_file.proofs.lines.whole_lines.Goals as goal

pub returns-then-is_empty : goal.returns-then-is_empty
returns-then-is_empty c =
    last_empty (λ text. text.now) c.args.texts.now c.in-Some.before.now c.in-Some.last.now (c.in-Some.ensures.cases.0) (sym c.is_empty.ensures ∙ c.if-is_empty.true)

pub returns-in-Some : goal.returns-in-Some
returns-in-Some c =
    last_full (λ text. text.now) c.args.texts.now c.in-Some.before.now c.in-Some.last.now (c.in-Some.ensures.cases.0) (sym c.is_empty.ensures ∙ c.if-is_empty.false)
