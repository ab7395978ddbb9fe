use Rattle.std.proofs.Common.{◌≡◌, ◌+◌, length}
use Rattle.link_sides.specs.Rooms.{Queues}
use Rattle.link_sides.proofs.sends.queue_all.Given as goal

abbrev pub invariant-loop-message : goal.invariant-loop-message
invariant-loop-message l = Queues l.fn.waiting l.yielded l.waiting × (l.fn.waiting.room ≡ l.waiting.room + length l.yielded)
