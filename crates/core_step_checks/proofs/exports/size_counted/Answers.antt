use Rattle.std.proofs.Common.{List, [], ◌∷◌, sym, ◌∙◌}
use Rattle.rpc_machine.specs.declared.node.Node.{Node}
use Rattle.rpc_machine.specs.Fullness.{count_of}
use Rattle.core_store.specs.Holding.{state_of}
use Rattle.core_step_checks.specs.Sending.{sent_out}
use Rattle.core_step_checks.specs.Counted.{Counts}
use Rattle.core_step_checks.proofs.Outgoing.{has_count}
use Rattle.core_step_checks.proofs.Counting.{counts_more, leaves_counted}
use Rattle.core_step_checks.proofs.exports.size_counted.Goals as goal

pub returns-clause-leaves : goal.returns-clause-leaves
returns-clause-leaves c = λ (before : List Node) (h : Counts c.args.times.now before).
    let s = state_of c.args.store.now in
    let n = c.in-Some.node in
    leaves_counted s before (sent_out s (c.args.id ∷ [])) n c.args.size c.in_ok-before.before c.size_after-found.result (sym c.in-Some.ensures.sent) c.requires.size
    (c.in_ok-before.ensures.before ∙ h n c.in-Some.ensures.exportable)
    (c.size_after-found.ensures.limit (count_of s n) (has_count s n c.in-Some.ensures.exportable))

pub returns-clause-counts : goal.returns-clause-counts
returns-clause-counts c = λ (before : List Node) (h : Counts c.args.times.now before).
    counts_more c.args.times.now c.count.new.self before (sent_out (state_of c.args.store.now) (c.args.id ∷ [])) c.in-Some.node (sym c.in-Some.ensures.sent) c.in_ok-before.ensures.more h
