use Rattle.std.proofs.Common.{◌≤◌, Some, ap, subst, sym, ◌∙◌}
use Rattle.serde_json.specs.Data.{Data, depth}
use Rattle.serde_json.specs.Written.{has_float, compact_text}
use Rattle.trace_write.specs.Parts.{in_base64}
use Rattle.trace_write.proofs.Depths.{shallow}
use Rattle.trace_write.proofs.Floats.{in_value}
use Rattle.trace_write.proofs.line.line_of.Goals as goal

pub returns-clause-text : goal.returns-clause-text
returns-clause-text c =
    let e = c.in_ok-value.ensures.is in
    c.in_ok-line.ensures.text (ap has_float e ∙ in_value c.args.version in_base64 c.args.entry.now) ∙ ap compact_text e

pub returns-clause-reads_back : goal.returns-clause-reads_back
returns-clause-reads_back c =
    let e = c.in_ok-value.ensures.is in
    c.in_ok-line.ensures.reads_back (subst (λ (d : Data). depth d ≤ 127) (sym e) (shallow c.args.version in_base64 c.args.entry.now)) ∙ ap Some e
