use Rattle.std.proofs.lemmas.Result.{err_from_is_err_and}
use Rattle.rpc_dump_lib.proofs.Streaming.{whole_said, whole_ends}
use Rattle.rpc_dump_lib.proofs.pieces.say_whole.Goals as goal

pub returns-in_err-say_frame-clause-said : goal.returns-in_err-say_frame-clause-said
returns-in_err-say_frame-clause-said g c input left base said =
    let p = err_from_is_err_and c.from_residual.result c.from_residual.ensures.1 in
    rw (p.1, p.2)
    (whole_ends g.W.Write.contents c.args.form.now input left c.in-Some.frame c.bytes.result.now c.args.frames.now c.take_frame.new.self c.args.number base c.args.out.now c.say_frame.new.out c.in_err-say_frame.field-0.0
    c.in-Some.ensures.taken c.bytes.ensures.bytes c.in_err-say_frame.ensures.fails said)

pub returns-clause-said : goal.returns-clause-said
returns-clause-said g c input left base said =
    let line = c.in_ok-say_frame.ensures.said in
    whole_said c.args.form.now input left c.in-Some.frame c.bytes.result.now line.0 c.args.frames.now c.take_frame.new.self c.args.number c.saturating_add.result base
    (g.W.Write.contents c.args.out.now) (g.W.Write.contents c.say_frame.new.out) c.in-Some.ensures.taken c.bytes.ensures.bytes (rw c.bytes.ensures.bytes c.bytes.ensures.whole) line.1 line.2 c.saturating_add.ensures said
