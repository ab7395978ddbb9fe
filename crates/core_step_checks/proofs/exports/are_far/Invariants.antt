use Rattle.std.proofs.Common.{length, take}
use Rattle.core_store.specs.Holding.{state_of}
use Rattle.core_step_checks.specs.Sending.{sent_out, AreFar}
use Rattle.core_step_checks.proofs.exports.are_far.Given as goal

abbrev pub invariant-loop-id : goal.invariant-loop-id
invariant-loop-id l = AreFar (length l.refs) (state_of l.store) (sent_out (state_of l.store) (take l.id-index l.refs))
