use Rattle.std.proofs.Common.{◌++◌, ap, ◌∙◌, string_bytes}
use Rattle.trace_file.specs.Shown.{rows_text}
use Rattle.trace_file.proofs.TableText.{rows_more, rows_done}
use Rattle.trace_file.proofs.rows.Rows.write.Goals as goal

pub loop-number-init : goal.loop-number-init
loop-number-init c =
    ap (λ rs. string_bytes c.args.text.now ++ rows_text c.args.vat rs) (c.into_iter-number-iterator.ensures.into_iter_gives ∙ c.iter-number-items.ensures.rest)

pub loop-number-preserved : goal.loop-number-preserved
loop-number-preserved c = rows_more c.args.vat _ _ _ _ _ _ _ c.in-Some.ensures.steps c.in_ok-write_calls.ensures c.loop-number.invariant

pub returns-clause-written : goal.returns-clause-written
returns-clause-written c = rows_done c.args.vat _ _ _ c.in-None.ensures.steps.0 c.loop-number.invariant
