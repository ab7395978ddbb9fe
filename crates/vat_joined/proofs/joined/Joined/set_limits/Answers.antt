use Rattle.std.proofs.Common.{refl, subst}
use Rattle.rpc_msg.specs.declared.ids.Vat.TheVariants.{A, B}
use Rattle.vat_connections.specs.OneConnection.Act.{SetsLimits}
use Rattle.vat_joined.specs.Recorded.{Recorded}
use Rattle.vat_joined.specs.Doing.{DoesSetLimits}
use Rattle.vat_joined.proofs.Acting.{seen, unnoted_at}
use Rattle.vat_joined.proofs.Reaching.{goes_on}
use Rattle.vat_joined.proofs.joined.Joined.set_limits.Goals as goal

pub invariant_of-self : goal.invariant_of-self
invariant_of-self c = goes_on _ (tt, tt) c.self.invariant
    (unnoted_at c.args.vat A c.in-A.is (seen c.self.inside.a c.self.inside.b c.self.inside.to_a c.self.inside.to_b c.self.inside.journal.items) (SetsLimits c.args.limits) c.set_limits.new.self tt refl c.set_limits.ensures)

pub returns-in-A : goal.returns-in-A
returns-in-A c =
    subst (λ (w : Recorded). DoesSetLimits w c.args.vat c.args.limits (seen c.set_limits.new.self c.self.inside.b c.self.inside.to_a c.self.inside.to_b c.self.inside.journal.items)) c.self.view_is
    (unnoted_at c.args.vat A c.in-A.is (seen c.self.inside.a c.self.inside.b c.self.inside.to_a c.self.inside.to_b c.self.inside.journal.items) (SetsLimits c.args.limits) c.set_limits.new.self tt refl c.set_limits.ensures)

pub invariant_of-self-in-B : goal.invariant_of-self-in-B
invariant_of-self-in-B c = goes_on _ (tt, tt) c.self.invariant
    (unnoted_at c.args.vat B c.in-B.is (seen c.self.inside.a c.self.inside.b c.self.inside.to_a c.self.inside.to_b c.self.inside.journal.items) (SetsLimits c.args.limits) c.set_limits-in-B.new.self tt refl c.set_limits-in-B.ensures)

pub returns-in-B : goal.returns-in-B
returns-in-B c =
    subst (λ (w : Recorded). DoesSetLimits w c.args.vat c.args.limits (seen c.self.inside.a c.set_limits-in-B.new.self c.self.inside.to_a c.self.inside.to_b c.self.inside.journal.items)) c.self.view_is
    (unnoted_at c.args.vat B c.in-B.is (seen c.self.inside.a c.self.inside.b c.self.inside.to_a c.self.inside.to_b c.self.inside.journal.items) (SetsLimits c.args.limits) c.set_limits-in-B.new.self tt refl c.set_limits-in-B.ensures)
