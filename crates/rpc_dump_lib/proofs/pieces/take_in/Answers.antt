use Rattle.rpc_dump_lib.proofs.Streaming.{open_waits, push_kept}
use Rattle.rpc_dump_lib.proofs.pieces.take_in.Goals as goal

pub returns-in-Ok-clause-kept : goal.returns-in-Ok-clause-kept
returns-in-Ok-clause-kept c =
    (push_kept c.args.frames.now c.push.new.self c.args.piece.now c.in-Ok.taken c.requires.opened (c.in-Ok.ensures.some (open_waits c.args.frames.now c.requires.opened) c.requires.some) c.in-Ok.ensures.pushed).1
