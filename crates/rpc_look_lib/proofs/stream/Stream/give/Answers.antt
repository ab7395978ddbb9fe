use Rattle.rpc_look_lib.proofs.Frames.{kept_new, stream_gives}
use Rattle.rpc_look_lib.proofs.stream.Stream.give.Goals as goal

pub invariant_of-self : goal.invariant_of-self
invariant_of-self c =
    kept_new c.self.inside.frames c.push.new.self c.take_frame-frame.new.self c.self.inside.is_sound c.args.part.now c.in-Ok.count c.take_frame-frame.result
    c.self.invariant c.in-Ok.ensures.some c.requires.some c.in-Ok.ensures.pushed c.take_frame-frame.ensures.taken c.take_frame-frame.ensures.waits

pub returns-in-Ok-clause-gives : goal.returns-in-Ok-clause-gives
returns-in-Ok-clause-gives c =
    stream_gives c.frames_are_the_bytes.ensures c.self.inside.frames c.push.new.self c.take_frame-frame.new.self c.self.inside.is_sound c.args.part.now c.in-Ok.count c.take_frame-frame.result c.args.self.now
    c.self.view_is c.requires.read c.self.invariant c.in-Ok.ensures.some c.requires.some c.in-Ok.ensures.pushed c.take_frame-frame.ensures.taken c.take_frame-frame.ensures.waits
