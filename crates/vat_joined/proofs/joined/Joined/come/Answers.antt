use Rattle.std.proofs.Common.{subst}
use Rattle.rpc_msg.specs.declared.ids.Vat.TheVariants.{A, B}
use Rattle.vat_joined.specs.Recorded.{Recorded, on_way}
use Rattle.vat_joined.specs.Doing.{DoesCome}
use Rattle.vat_joined.proofs.Acting.{come_at, if_ok, reached_come, seen}
use Rattle.vat_joined.proofs.joined.Joined.come.Goals as goal

pub invariant_of-self : goal.invariant_of-self
invariant_of-self c =
    reached_come (seen c.self.inside.a c.self.inside.b c.self.inside.to_a c.self.inside.to_b c.self.inside.journal.items) A c.args.most c.take_in.new.to (on_way c.take_in.new.stream) c.take_in.result c.self.invariant c.take_in.ensures.came c.take_in.ensures.err

pub returns-in-A-clause-came : goal.returns-in-A-clause-came
returns-in-A-clause-came c = if_ok c.take_in.result
    (λ count k. subst (λ (w : Recorded). DoesCome w c.args.vat c.args.most count (seen c.take_in.new.to c.self.inside.b c.take_in.new.stream c.self.inside.to_b c.self.inside.journal.items)) c.self.view_is
    (come_at c.args.vat A c.in-A.is (seen c.self.inside.a c.self.inside.b c.self.inside.to_a c.self.inside.to_b c.self.inside.journal.items) c.args.most c.take_in.new.to count (on_way c.take_in.new.stream) k))
    c.take_in.ensures.came

pub invariant_of-self-in-B : goal.invariant_of-self-in-B
invariant_of-self-in-B c =
    reached_come (seen c.self.inside.a c.self.inside.b c.self.inside.to_a c.self.inside.to_b c.self.inside.journal.items) B c.args.most c.take_in-in-B.new.to (on_way c.take_in-in-B.new.stream) c.take_in-in-B.result c.self.invariant c.take_in-in-B.ensures.came c.take_in-in-B.ensures.err

pub returns-in-B-clause-came : goal.returns-in-B-clause-came
returns-in-B-clause-came c = if_ok c.take_in-in-B.result
    (λ count k. subst (λ (w : Recorded). DoesCome w c.args.vat c.args.most count (seen c.self.inside.a c.take_in-in-B.new.to c.self.inside.to_a c.take_in-in-B.new.stream c.self.inside.journal.items)) c.self.view_is
    (come_at c.args.vat B c.in-B.is (seen c.self.inside.a c.self.inside.b c.self.inside.to_a c.self.inside.to_b c.self.inside.journal.items) c.args.most c.take_in-in-B.new.to count (on_way c.take_in-in-B.new.stream) k))
    c.take_in-in-B.ensures.came
