-- A's end, with what its thread is to do, may go to another thread.
use denote.Param.Send.{IsSend, sendable}
use denote.Param.SendFields.{declared_send}
use Rattle.std.proofs.Crossing.{crosses}
use Rattle.bench_ends.specs.contracts.threads.Asker as Asker
use Rattle.link_ends.proofs.Crossing.{end_a_send}

pub asker_send : IsSend Asker.the_row
asker_send =
    declared_send Asker.the_type
    (end_a_send, (search (sendable, crosses) depth 40, (search (sendable, crosses) depth 40, (search sendable, (search sendable, (search sendable, tt))))))
