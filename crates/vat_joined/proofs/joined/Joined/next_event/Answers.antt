use Rattle.std.proofs.Common.{◌≡◌, ◌⊎◌, Some, OnErr, subst}
use Rattle.rpc_msg.specs.declared.ids.Vat.TheVariants.{A, B}
use Rattle.vat_host.specs.declared.event.Event.{Event}
use Rattle.vat_joined.specs.Recorded.{Recorded}
use Rattle.vat_joined.specs.Doing.{DoesAsk}
use Rattle.vat_joined.proofs.Acting.{if_ok, reached_told, seen, told_at, untold_at}
use Rattle.vat_joined.proofs.joined.Joined.next_event.Goals as goal

pub invariant_of-self : goal.invariant_of-self
invariant_of-self c =
    reached_told c.args.vat A c.in-A.is (seen c.self.inside.a c.self.inside.b c.self.inside.to_a c.self.inside.to_b c.self.inside.journal.items) c.tell_noted.new.connection c.tell_noted.new.journal.items c.tell_noted.result c.self.invariant c.tell_noted.ensures.told c.tell_noted.ensures.err

pub returns-in-A-clause-told : goal.returns-in-A-clause-told
returns-in-A-clause-told c = if_ok c.tell_noted.result
    (λ event k. subst (λ (w : Recorded). DoesAsk w c.args.vat event (seen c.tell_noted.new.connection c.self.inside.b c.self.inside.to_a c.self.inside.to_b c.tell_noted.new.journal.items)) c.self.view_is
    (told_at c.args.vat A c.in-A.is (seen c.self.inside.a c.self.inside.b c.self.inside.to_a c.self.inside.to_b c.self.inside.journal.items) event c.tell_noted.new.connection c.tell_noted.new.journal.items k))
    c.tell_noted.ensures.told

pub returns-in-A-clause-err : goal.returns-in-A-clause-err
returns-in-A-clause-err c =
    subst (λ (w : Recorded). OnErr c.tell_noted.result (((seen c.tell_noted.new.connection c.self.inside.b c.self.inside.to_a c.self.inside.to_b c.tell_noted.new.journal.items) ≡ w) ⊎ ((event : Event) × DoesAsk w c.args.vat (Some event) (seen c.tell_noted.new.connection c.self.inside.b c.self.inside.to_a c.self.inside.to_b c.tell_noted.new.journal.items)))) c.self.view_is
    (untold_at c.args.vat A c.in-A.is (seen c.self.inside.a c.self.inside.b c.self.inside.to_a c.self.inside.to_b c.self.inside.journal.items) c.tell_noted.new.connection c.tell_noted.new.journal.items c.tell_noted.result c.tell_noted.ensures.err)

pub invariant_of-self-in-B : goal.invariant_of-self-in-B
invariant_of-self-in-B c =
    reached_told c.args.vat B c.in-B.is (seen c.self.inside.a c.self.inside.b c.self.inside.to_a c.self.inside.to_b c.self.inside.journal.items) c.tell_noted-in-B.new.connection c.tell_noted-in-B.new.journal.items c.tell_noted-in-B.result c.self.invariant c.tell_noted-in-B.ensures.told c.tell_noted-in-B.ensures.err

pub returns-in-B-clause-told : goal.returns-in-B-clause-told
returns-in-B-clause-told c = if_ok c.tell_noted-in-B.result
    (λ event k. subst (λ (w : Recorded). DoesAsk w c.args.vat event (seen c.self.inside.a c.tell_noted-in-B.new.connection c.self.inside.to_a c.self.inside.to_b c.tell_noted-in-B.new.journal.items)) c.self.view_is
    (told_at c.args.vat B c.in-B.is (seen c.self.inside.a c.self.inside.b c.self.inside.to_a c.self.inside.to_b c.self.inside.journal.items) event c.tell_noted-in-B.new.connection c.tell_noted-in-B.new.journal.items k))
    c.tell_noted-in-B.ensures.told

pub returns-in-B-clause-err : goal.returns-in-B-clause-err
returns-in-B-clause-err c =
    subst (λ (w : Recorded). OnErr c.tell_noted-in-B.result (((seen c.self.inside.a c.tell_noted-in-B.new.connection c.self.inside.to_a c.self.inside.to_b c.tell_noted-in-B.new.journal.items) ≡ w) ⊎ ((event : Event) × DoesAsk w c.args.vat (Some event) (seen c.self.inside.a c.tell_noted-in-B.new.connection c.self.inside.to_a c.self.inside.to_b c.tell_noted-in-B.new.journal.items)))) c.self.view_is
    (untold_at c.args.vat B c.in-B.is (seen c.self.inside.a c.self.inside.b c.self.inside.to_a c.self.inside.to_b c.self.inside.journal.items) c.tell_noted-in-B.new.connection c.tell_noted-in-B.new.journal.items c.tell_noted-in-B.result c.tell_noted-in-B.ensures.err)
