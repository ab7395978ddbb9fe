use Rattle.std.proofs.Common.{◌∷◌, [], sym}
use Rattle.core_store.specs.Holding.{state_of}
use Rattle.rpc_machine.specs.Fullness.{count_of}
use Rattle.core_step_checks.specs.Sending.{sent_out}
use Rattle.core_step_checks.proofs.Outgoing.{has_count, far_one}
use Rattle.core_step_checks.proofs.exports.is_far.Goals as goal

pub returns : goal.returns
returns c = λ yes.
    let s = state_of c.args.store.now in
    far_one s c.in-Some.node c.args.more c.in-Some-size_after._next (sent_out s (c.args.id ∷ [])) (sym c.in-Some.ensures.sent) c.requires.more
    (c.in-Some-size_after.ensures.limit (count_of s c.in-Some.node) (has_count s c.in-Some.node c.in-Some.ensures.exportable))
