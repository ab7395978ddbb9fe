use Rattle.vat_connection.specs.Speaking.{Speaking, Says}
use Rattle.vat_connection.proofs.speaker.Speaker.say_all.Given as goal

abbrev pub invariant-loop-message : goal.invariant-loop-message
invariant-loop-message l = (new : Speaking) → Says l.self new → Says l.fn.self new

abbrev pub decreases-loop-message : goal.decreases-loop-message
decreases-loop-message l = l.left
