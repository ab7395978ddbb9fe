use Rattle.std.proofs.Common.{Result, Ok, Err, IfOk}
use Rattle.peer_adapter.proofs.peer.PeerAdapter.ask.Goals as goal

-- What holds anyway holds of each result.
anyway : {X E P : Type 0} (r : Result X E) → P → IfOk r (λ x. P)
anyway (Ok x) h = h
anyway (Err e) h = tt

pub returns-clause-laid : goal.returns-clause-laid
returns-clause-laid c = anyway c.if_asked.result c.in_ok-outbound.ensures.laid
