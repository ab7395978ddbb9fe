use Rattle.std.proofs.Common.{subst}
use Rattle.rpc_machine.specs.declared.event.Event.TheVariants as event
use Rattle.vat_world.specs.World.{Seen, Steps}
use Rattle.vat_world.specs.Rooms.{seen_of}
use Rattle.vat_world.proofs.Reaching.{reached_more, promised}
use Rattle.vat_world.proofs.Standing.{turned, deliver_a, deliver_b}
use Rattle.vat_world.proofs.world.World.deliver.Goals as goal

pub invariant_of-self : goal.invariant_of-self
invariant_of-self c = (
  c.deliver.ensures.room,
  reached_more _ _ _ _ c.self.invariant.1
      (deliver_a c.args.vat c.self.inside.a c.self.inside.b c.deliver.new.acting c.deliver.new.peer c.self.inside.journal c.deliver.new.journal c.deliver.result c.in-A.is c.deliver.ensures.delivers c.deliver.ensures.was_shut c.deliver.ensures.peer_shut),
)

pub returns-in-A-clause-steps : goal.returns-in-A-clause-steps
returns-in-A-clause-steps c =
    subst (λ (w : Seen). Steps w (event.Deliver c.args.vat) c.deliver.result (seen_of c.deliver.new.acting c.deliver.new.peer c.deliver.new.journal)) c.self.view_is
    (deliver_a c.args.vat c.self.inside.a c.self.inside.b c.deliver.new.acting c.deliver.new.peer c.self.inside.journal c.deliver.new.journal c.deliver.result c.in-A.is c.deliver.ensures.delivers c.deliver.ensures.was_shut c.deliver.ensures.peer_shut)

pub invariant_of-self-in-B : goal.invariant_of-self-in-B
invariant_of-self-in-B c = (
  turned c.deliver-in-B.new.acting c.deliver-in-B.new.peer c.deliver-in-B.new.journal c.deliver-in-B.ensures.room,
  reached_more _ _ _ _ c.self.invariant.1
      (deliver_b c.args.vat c.self.inside.a c.self.inside.b c.deliver-in-B.new.peer c.deliver-in-B.new.acting c.self.inside.journal c.deliver-in-B.new.journal c.deliver-in-B.result c.in-B.is c.deliver-in-B.ensures.delivers c.deliver-in-B.ensures.was_shut c.deliver-in-B.ensures.peer_shut),
)

pub returns-in-B-clause-steps : goal.returns-in-B-clause-steps
returns-in-B-clause-steps c =
    subst (λ (w : Seen). Steps w (event.Deliver c.args.vat) c.deliver-in-B.result (seen_of c.deliver-in-B.new.peer c.deliver-in-B.new.acting c.deliver-in-B.new.journal)) c.self.view_is
    (deliver_b c.args.vat c.self.inside.a c.self.inside.b c.deliver-in-B.new.peer c.deliver-in-B.new.acting c.self.inside.journal c.deliver-in-B.new.journal c.deliver-in-B.result c.in-B.is c.deliver-in-B.ensures.delivers c.deliver-in-B.ensures.was_shut c.deliver-in-B.ensures.peer_shut)

pub returns-in-A-clause-promised : goal.returns-in-A-clause-promised
returns-in-A-clause-promised c = promised _ c.worlds_keep_promises.ensures
    (reached_more _ _ _ _ c.self.invariant.1
    (deliver_a c.args.vat c.self.inside.a c.self.inside.b c.deliver.new.acting c.deliver.new.peer c.self.inside.journal c.deliver.new.journal c.deliver.result c.in-A.is c.deliver.ensures.delivers c.deliver.ensures.was_shut c.deliver.ensures.peer_shut))

pub returns-in-B-clause-promised : goal.returns-in-B-clause-promised
returns-in-B-clause-promised c = promised _ c.worlds_keep_promises.ensures
    (reached_more _ _ _ _ c.self.invariant.1
    (deliver_b c.args.vat c.self.inside.a c.self.inside.b c.deliver-in-B.new.peer c.deliver-in-B.new.acting c.self.inside.journal c.deliver-in-B.new.journal c.deliver-in-B.result c.in-B.is c.deliver-in-B.ensures.delivers c.deliver-in-B.ensures.was_shut c.deliver-in-B.ensures.peer_shut))
