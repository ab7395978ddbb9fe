use Rattle.std.proofs.Common.{ap, ◌∙◌}
use Rattle.serde_json.specs.Written.{has_float, compact_text}
use Rattle.rpc_codec.specs.Envelopes.{seen_envelope}
use Rattle.rpc_dump_lib.proofs.Floats.{in_line}
use Rattle.rpc_dump_lib.proofs.line.line_of.Goals as goal

pub returns : goal.returns
returns c =
    let e = c.in_ok-value.ensures c.requires.named in
    c.in_ok-line.ensures.text (ap has_float e ∙ in_line c.args.form.now (seen_envelope c.args.envelope.now)) ∙ ap compact_text e
