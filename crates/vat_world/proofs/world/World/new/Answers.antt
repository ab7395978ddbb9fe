use Rattle.std.proofs.Common.{◌≡◌}
use Rattle.vat_world.specs.World.{Seen, new_seen}
use Rattle.vat_world.proofs.Beginning.{seen_new, begun, none_made}
use Rattle.vat_world.proofs.world.World.new.Goals as goal

pub invariant_of-result : goal.invariant_of-result
invariant_of-result c =
    begun c.in_ok-a.a c.in_ok-b.b c.in_ok-journal.journal c.args.bootstrap_a c.args.bootstrap_b
    (seen_new c.in_ok-a.a c.in_ok-b.b c.in_ok-journal.journal c.args.bootstrap_a c.args.bootstrap_b c.in_ok-a.ensures.new c.in_ok-b.ensures.new c.in_ok-journal.ensures.empty c.in_ok-a.ensures.was_shut c.in_ok-b.ensures.was_shut)
    c.in_ok-a.ensures.room c.in_ok-b.ensures.room c.in_ok-journal.ensures.room

pub returns : goal.returns
returns c =
    seen_new c.in_ok-a.a c.in_ok-b.b c.in_ok-journal.journal c.args.bootstrap_a c.args.bootstrap_b c.in_ok-a.ensures.new c.in_ok-b.ensures.new c.in_ok-journal.ensures.empty c.in_ok-a.ensures.was_shut c.in_ok-b.ensures.was_shut

pub returns-in_err-b : goal.returns-in_err-b
returns-in_err-b c = none_made _ c.from_residual-in_err-b.result (λ (world : Seen). world ≡ new_seen c.args.bootstrap_a c.args.bootstrap_b) c.from_residual-in_err-b.ensures.1

pub returns-in_err-journal : goal.returns-in_err-journal
returns-in_err-journal c = none_made _ c.from_residual-in_err-journal.result (λ (world : Seen). world ≡ new_seen c.args.bootstrap_a c.args.bootstrap_b) c.from_residual-in_err-journal.ensures.1
