use Rattle.std.proofs.Common.{Ok, Err, subst}
use Rattle.rpc_codec.specs.Envelopes.{seen_envelope}
use Rattle.peer_finishes.specs.Finishing as finishes
use Rattle.peer_adapter.specs.Peering.{Peering, Comes, comes}
use Rattle.peer_adapter.proofs.Behind.{behind_ok, behind_err}
use Rattle.peer_adapter.proofs.peer.PeerAdapter.inbound.Goals as goal

pub returns-in-Ok : goal.returns-in-Ok
returns-in-Ok g c =
    λ t full standing broken finished.
    let start : Peering = record { overload = c.self.inside.overload; names = c.self.inside.names; tails = c.self.inside.tails; finishes = c.self.inside.finishes } in
    let came : finishes.Coming = record { state = c.inbound-finish.new.self; told = c.inbound-finish.result } in
    subst (λ (s : Peering). Comes (comes t s (seen_envelope c.args.came)) (Ok c.finish_behind.result) c.admit.new.self) c.self.view_is
    (behind_ok t start (seen_envelope c.args.came) came c.inbound-finish.ensures c.in-Ok.inbound c.finish_behind.result c.admit.new.self (c.in-Ok.ensures t full standing broken finished) c.finish_behind.ensures.aside c.finish_behind.ensures.heard)

pub returns-in-Err : goal.returns-in-Err
returns-in-Err g c =
    λ t full standing broken finished.
    let start : Peering = record { overload = c.self.inside.overload; names = c.self.inside.names; tails = c.self.inside.tails; finishes = c.self.inside.finishes } in
    let came : finishes.Coming = record { state = c.inbound-finish.new.self; told = c.inbound-finish.result } in
    subst (λ (s : Peering). Comes (comes t s (seen_envelope c.args.came)) (Err c.in-Err.refused) c.admit.new.self) c.self.view_is
    (behind_err t start (seen_envelope c.args.came) came c.inbound-finish.ensures c.in-Err.refused c.admit.new.self (c.in-Err.ensures t full standing broken finished))
