use Rattle.std.proofs.Common.{subst}
use Rattle.rpc_msg.specs.declared.ids.Vat.TheVariants.{A, B}
use Rattle.vat_joined.specs.Recorded.{Recorded, on_way}
use Rattle.vat_joined.specs.Doing.{DoesGive}
use Rattle.vat_joined.proofs.Acting.{given_at, if_ok, reached_given, seen}
use Rattle.vat_joined.proofs.joined.Joined.give.Goals as goal

pub invariant_of-self : goal.invariant_of-self
invariant_of-self c =
    reached_given (seen c.self.inside.a c.self.inside.b c.self.inside.to_a c.self.inside.to_b c.self.inside.journal.items) A c.hand_out.new.from (on_way c.hand_out.new.stream) c.hand_out.result c.self.invariant c.hand_out.ensures.given c.hand_out.ensures.err

pub returns-in-A-clause-given : goal.returns-in-A-clause-given
returns-in-A-clause-given c = if_ok c.hand_out.result
    (λ count k. subst (λ (w : Recorded). DoesGive w c.args.vat count (seen c.hand_out.new.from c.self.inside.b c.self.inside.to_a c.hand_out.new.stream c.self.inside.journal.items)) c.self.view_is
    (given_at c.args.vat A c.in-A.is (seen c.self.inside.a c.self.inside.b c.self.inside.to_a c.self.inside.to_b c.self.inside.journal.items) c.hand_out.new.from count (on_way c.hand_out.new.stream) k))
    c.hand_out.ensures.given

pub invariant_of-self-in-B : goal.invariant_of-self-in-B
invariant_of-self-in-B c =
    reached_given (seen c.self.inside.a c.self.inside.b c.self.inside.to_a c.self.inside.to_b c.self.inside.journal.items) B c.hand_out-in-B.new.from (on_way c.hand_out-in-B.new.stream) c.hand_out-in-B.result c.self.invariant c.hand_out-in-B.ensures.given c.hand_out-in-B.ensures.err

pub returns-in-B-clause-given : goal.returns-in-B-clause-given
returns-in-B-clause-given c = if_ok c.hand_out-in-B.result
    (λ count k. subst (λ (w : Recorded). DoesGive w c.args.vat count (seen c.self.inside.a c.hand_out-in-B.new.from c.hand_out-in-B.new.stream c.self.inside.to_b c.self.inside.journal.items)) c.self.view_is
    (given_at c.args.vat B c.in-B.is (seen c.self.inside.a c.self.inside.b c.self.inside.to_a c.self.inside.to_b c.self.inside.journal.items) c.hand_out-in-B.new.from count (on_way c.hand_out-in-B.new.stream) k))
    c.hand_out-in-B.ensures.given
