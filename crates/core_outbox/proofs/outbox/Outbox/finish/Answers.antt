use Rattle.std.proofs.Common.{None, is_some}
use Rattle.core_outbox.specs.Outgoing.{Outgoing}
use Rattle.core_outbox.proofs.Messages.{finish_last}
use Rattle.core_outbox.proofs.outbox.Outbox.finish.Goals as goal

pub returns-clause-last : goal.returns-clause-last
returns-clause-last c =
    let before : Outgoing = record {
      said = record { sends = c.self.inside.sends.items; deliveries = c.self.inside.deliveries.items; answers = c.self.inside.answers.items; down = None };
      finishes = c.self.inside.finishes.0;
      releases = c.self.inside.releases.0;
      can_abort = is_some c.self.inside.abort;
      room = c.self.inside.room;
      finish_room = c.self.inside.finish_room;
      release_room = c.self.inside.release_room;
    } in
    rw (← c.self.view_is) (finish_last before _ c.args.question.0 c.args.release_result_caps c.put.ensures.put)
