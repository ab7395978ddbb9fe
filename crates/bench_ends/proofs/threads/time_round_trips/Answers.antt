use denote.Param.Send.{sendable}
use Rattle.bench_ends.proofs.Crossing.{asker_send}
use Rattle.bench_ends.proofs.threads.time_round_trips.Goals as goal

pub at_once-asker-requires-send-A : goal.at_once-asker-requires-send-A
at_once-asker-requires-send-A g c κs within = search (sendable, asker_send) depth 20
