use Rattle.std.proofs.Common.{◌≡◌, ℕ, true, sym, subst}
use Rattle.core_store.specs.Holding.{state_of}
use Rattle.rpc_machine.specs.Fullness.{count_of}
use Rattle.vat_tables.specs.Exports.{is_name_limit, added, Passes}
use Rattle.core_step_checks.specs.Sending.{sent_out}
use Rattle.core_step_checks.proofs.Outgoing.{has_count, leaves_none, leaves_some}
use Rattle.core_step_checks.proofs.exports.size_behind.Goals as goal

pub returns-in_default-size_after-clause-leaves : goal.returns-in_default-size_after-clause-leaves
returns-in_default-size_after-clause-leaves c =
    let s = state_of c.args.store.now in
    let n = c.in-Some.node in
    let limit = c.in_default-size_after.ensures.limit (count_of s n) (has_count s n c.in-Some.ensures.exportable) in
    leaves_none s (sent_out s c.args.before.now) n c.args.size c.requires.size _ (sym c.in-Some.ensures.sent)
    (subst (λ (k : ℕ). is_name_limit c.args.size (added (count_of s n) k) ≡ true) c.times_sent-times.ensures.times limit)

pub returns-clause-leaves : goal.returns-clause-leaves
returns-clause-leaves c =
    let s = state_of c.args.store.now in
    let n = c.in-Some.node in
    let limit = c.in-Some-size_after.ensures.limit (count_of s n) (has_count s n c.in-Some.ensures.exportable) in
    leaves_some s (sent_out s c.args.before.now) n c.args.size c.requires.size _ c.in-Some-size_after.next (sym c.in-Some.ensures.sent)
    (subst (λ (k : ℕ). Passes c.args.size (added (count_of s n) k) c.in-Some-size_after.next) c.times_sent-times.ensures.times limit)
