use Rattle.std.proofs.Common.{subst}
use Rattle.rpc_machine.specs.declared.event.Event.TheVariants as event
use Rattle.vat_world.specs.World.{Seen, Steps}
use Rattle.vat_world.specs.Rooms.{seen_of}
use Rattle.vat_world.proofs.Reaching.{reached_more, promised}
use Rattle.vat_world.proofs.Standing.{turned, counts_a, counts_b, command_a, command_b}
use Rattle.vat_world.proofs.world.World.command.Goals as goal

pub obey-requires-clause-counts : goal.obey-requires-clause-counts
obey-requires-clause-counts c = counts_a c.args.vat c.self.inside.a c.self.inside.b c.self.inside.journal c.in-A.is c.calls_are_counted.ensures.runs c.self.invariant.1

pub obey-requires-in-B-clause-counts : goal.obey-requires-in-B-clause-counts
obey-requires-in-B-clause-counts c = counts_b c.args.vat c.self.inside.a c.self.inside.b c.self.inside.journal c.in-B.is c.calls_are_counted.ensures.runs c.self.invariant.1

pub invariant_of-self : goal.invariant_of-self
invariant_of-self c = (
  c.obey.ensures.room,
  reached_more _ _ _ _ c.self.invariant.1
      (command_a c.args.vat c.self.inside.a c.self.inside.b c.obey.new.acting c.obey.new.peer c.self.inside.journal c.obey.new.journal c.args.command c.obey.result c.in-A.is c.obey.ensures.obeys c.obey.ensures.was_shut c.obey.ensures.peer_shut),
)

pub returns-in-A-clause-steps : goal.returns-in-A-clause-steps
returns-in-A-clause-steps c =
    subst (λ (w : Seen). Steps w (event.Command c.args.vat c.args.command) c.obey.result (seen_of c.obey.new.acting c.obey.new.peer c.obey.new.journal)) c.self.view_is
    (command_a c.args.vat c.self.inside.a c.self.inside.b c.obey.new.acting c.obey.new.peer c.self.inside.journal c.obey.new.journal c.args.command c.obey.result c.in-A.is c.obey.ensures.obeys c.obey.ensures.was_shut c.obey.ensures.peer_shut)

pub invariant_of-self-in-B : goal.invariant_of-self-in-B
invariant_of-self-in-B c = (
  turned c.obey-in-B.new.acting c.obey-in-B.new.peer c.obey-in-B.new.journal c.obey-in-B.ensures.room,
  reached_more _ _ _ _ c.self.invariant.1
      (command_b c.args.vat c.self.inside.a c.self.inside.b c.obey-in-B.new.peer c.obey-in-B.new.acting c.self.inside.journal c.obey-in-B.new.journal c.args.command c.obey-in-B.result c.in-B.is c.obey-in-B.ensures.obeys c.obey-in-B.ensures.was_shut c.obey-in-B.ensures.peer_shut),
)

pub returns-in-B-clause-steps : goal.returns-in-B-clause-steps
returns-in-B-clause-steps c =
    subst (λ (w : Seen). Steps w (event.Command c.args.vat c.args.command) c.obey-in-B.result (seen_of c.obey-in-B.new.peer c.obey-in-B.new.acting c.obey-in-B.new.journal)) c.self.view_is
    (command_b c.args.vat c.self.inside.a c.self.inside.b c.obey-in-B.new.peer c.obey-in-B.new.acting c.self.inside.journal c.obey-in-B.new.journal c.args.command c.obey-in-B.result c.in-B.is c.obey-in-B.ensures.obeys c.obey-in-B.ensures.was_shut c.obey-in-B.ensures.peer_shut)

pub returns-in-A-clause-promised : goal.returns-in-A-clause-promised
returns-in-A-clause-promised c = promised _ c.worlds_keep_promises.ensures
    (reached_more _ _ _ _ c.self.invariant.1
    (command_a c.args.vat c.self.inside.a c.self.inside.b c.obey.new.acting c.obey.new.peer c.self.inside.journal c.obey.new.journal c.args.command c.obey.result c.in-A.is c.obey.ensures.obeys c.obey.ensures.was_shut c.obey.ensures.peer_shut))

pub returns-in-B-clause-promised : goal.returns-in-B-clause-promised
returns-in-B-clause-promised c = promised _ c.worlds_keep_promises.ensures
    (reached_more _ _ _ _ c.self.invariant.1
    (command_b c.args.vat c.self.inside.a c.self.inside.b c.obey-in-B.new.peer c.obey-in-B.new.acting c.self.inside.journal c.obey-in-B.new.journal c.args.command c.obey-in-B.result c.in-B.is c.obey-in-B.ensures.obeys c.obey-in-B.ensures.was_shut c.obey-in-B.ensures.peer_shut))
