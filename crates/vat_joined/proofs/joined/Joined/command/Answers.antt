use Rattle.std.proofs.Common.{subst}
use Rattle.rpc_msg.specs.declared.ids.Vat.TheVariants.{A, B}
use Rattle.vat_connection.specs.Calling.{answered}
use Rattle.vat_connections.specs.OneConnection.Act.{Commands}
use Rattle.vat_joined.specs.Recorded.{Recorded}
use Rattle.vat_joined.specs.Doing.{DoesCommand}
use Rattle.vat_joined.proofs.Acting.{noted_at, seen}
use Rattle.vat_joined.proofs.Reaching.{goes_on}
use Rattle.vat_joined.proofs.joined.Joined.command.Goals as goal

pub invariant_of-self : goal.invariant_of-self
invariant_of-self c = goes_on _ (tt, tt) c.self.invariant
    (noted_at c.args.vat A c.in-A.is (seen c.self.inside.a c.self.inside.b c.self.inside.to_a c.self.inside.to_b c.self.inside.journal.items) (Commands c.args.command (answered c.give_command.result (λ g. g) (λ e. e.refusal))) c.give_command.new.connection c.give_command.new.journal.items tt c.give_command.ensures.acts c.give_command.ensures.noted)

pub returns-in-A-clause-done : goal.returns-in-A-clause-done
returns-in-A-clause-done c =
    subst (λ (w : Recorded). DoesCommand w c.args.vat c.args.command (answered c.give_command.result (λ g. g) (λ e. e.refusal)) (seen c.give_command.new.connection c.self.inside.b c.self.inside.to_a c.self.inside.to_b c.give_command.new.journal.items)) c.self.view_is
    (noted_at c.args.vat A c.in-A.is (seen c.self.inside.a c.self.inside.b c.self.inside.to_a c.self.inside.to_b c.self.inside.journal.items) (Commands c.args.command (answered c.give_command.result (λ g. g) (λ e. e.refusal))) c.give_command.new.connection c.give_command.new.journal.items tt c.give_command.ensures.acts c.give_command.ensures.noted)

pub invariant_of-self-in-B : goal.invariant_of-self-in-B
invariant_of-self-in-B c = goes_on _ (tt, tt) c.self.invariant
    (noted_at c.args.vat B c.in-B.is (seen c.self.inside.a c.self.inside.b c.self.inside.to_a c.self.inside.to_b c.self.inside.journal.items) (Commands c.args.command (answered c.give_command-in-B.result (λ g. g) (λ e. e.refusal))) c.give_command-in-B.new.connection c.give_command-in-B.new.journal.items tt c.give_command-in-B.ensures.acts c.give_command-in-B.ensures.noted)

pub returns-in-B-clause-done : goal.returns-in-B-clause-done
returns-in-B-clause-done c =
    subst (λ (w : Recorded). DoesCommand w c.args.vat c.args.command (answered c.give_command-in-B.result (λ g. g) (λ e. e.refusal)) (seen c.self.inside.a c.give_command-in-B.new.connection c.self.inside.to_a c.self.inside.to_b c.give_command-in-B.new.journal.items)) c.self.view_is
    (noted_at c.args.vat B c.in-B.is (seen c.self.inside.a c.self.inside.b c.self.inside.to_a c.self.inside.to_b c.self.inside.journal.items) (Commands c.args.command (answered c.give_command-in-B.result (λ g. g) (λ e. e.refusal))) c.give_command-in-B.new.connection c.give_command-in-B.new.journal.items tt c.give_command-in-B.ensures.acts c.give_command-in-B.ensures.noted)
