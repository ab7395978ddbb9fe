use Rattle.rpc_codec_parts.proofs.Texts.{readable_good, readable_bad}
use Rattle.rpc_codec_parts.proofs.exceptions.readable_text.Goals as goal

pub returns-in-Ok : goal.returns-in-Ok
returns-in-Ok c =
    let found = c.in-Ok.ensures.cases in
    rw (readable_good c.args.bytes.now found.1, ← found.0) c.new.ensures

pub returns-in-Err : goal.returns-in-Err
returns-in-Err c = rw (readable_bad c.args.bytes.now c.in-Err.ensures.cases.0) c.text_in_ascii.ensures
