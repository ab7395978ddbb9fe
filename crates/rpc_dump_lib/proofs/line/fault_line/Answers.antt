use Rattle.std.proofs.Common.{ap, ◌∙◌}
use Rattle.serde_json.specs.Written.{has_float, compact_text}
use Rattle.rpc_dump_lib.proofs.line.fault_line.Goals as goal

pub returns : goal.returns
returns c =
    let e = c.in_ok-value.ensures.is in
    c.in_ok-line.ensures.text (ap has_float e) ∙ ap compact_text e
