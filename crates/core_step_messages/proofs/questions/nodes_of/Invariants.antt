use Rattle.std.proofs.Common.{◌≡◌, take}
use Rattle.rpc_machine.specs.Places.{nodes}
use Rattle.core_step_messages.proofs.questions.nodes_of.Given as goal

abbrev pub invariant-loop-cap : goal.invariant-loop-cap
invariant-loop-cap l = l.found ≡ nodes (take l.cap-index l.caps)
