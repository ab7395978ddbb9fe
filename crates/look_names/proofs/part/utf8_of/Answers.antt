use Rattle.std.proofs.lemmas.Str.{is_utf8-from_IsUtf8}
use Rattle.look_names.proofs.Utf8.{not_utf8}
use Rattle.look_names.proofs.part.utf8_of.Goals as goal

pub returns-in-Ok : goal.returns-in-Ok
returns-in-Ok c = (is_utf8-from_IsUtf8 c.args.bytes.now c.in-Ok.ensures.cases.1, c.in-Ok.ensures.cases.0)

pub returns-in-Err : goal.returns-in-Err
returns-in-Err c = not_utf8 c.args.bytes.now c.in-Err.ensures.cases.0
