use Rattle.link_sides.proofs.Queueing.{queues_more, room_more}
use Rattle.link_sides.proofs.sends.queue_all.Goals as goal

pub loop-message-preserved : goal.loop-message-preserved
loop-message-preserved c =
    let i = c.loop-message.invariant in (
      queues_more _ _ _ c.loop-message.yielded c.in-Some.message i.0 c.push.ensures.frames c.push.ensures.made c.push.ensures.heard,
      room_more c.loop-message.yielded c.in-Some.message _ _ _ i.1 c.push.ensures.room,
    )
