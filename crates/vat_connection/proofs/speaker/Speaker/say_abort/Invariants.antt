use Rattle.std.proofs.Common.{length}
use Rattle.vat_connection.specs.Speaking.{Speaking, Passes}
use Rattle.vat_connection.proofs.Saying.{speaking}
use Rattle.vat_connection.proofs.speaker.Speaker.say_abort.Given as goal

abbrev pub invariant-loop-message : goal.invariant-loop-message
invariant-loop-message l = (new : Speaking) → Passes (speaking l.self-inside.host l.self-inside.out l.self-inside.adapter l.self-inside.heard) new → Passes l.fn.self new

abbrev pub decreases-loop-message : goal.decreases-loop-message
decreases-loop-message l = length l.self-inside.host.messages
