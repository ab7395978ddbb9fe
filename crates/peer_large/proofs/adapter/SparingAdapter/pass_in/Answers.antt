use Rattle.std.proofs.Common.{Ok, Err, subst}
use Rattle.rpc_codec.specs.Envelopes.{seen_envelope}
use Rattle.peer_large.specs.Opening.{envelope}
use Rattle.peer_large.specs.Sparing.{Comes, Sparing, comes}
use Rattle.peer_large.proofs.Spared.{passed_err, passed_ok}
use Rattle.peer_large.proofs.adapter.SparingAdapter.pass_in.Goals as goal

pub returns-in-Ok : goal.returns-in-Ok
returns-in-Ok g c =
    λ t full standing broken finished.
    let start : Sparing = record { peering = c.self.inside.adapter; returned = c.self.inside.returned } in
    let new : Sparing = record { peering = c.inbound.new.self; returned = c.self.inside.returned } in
    subst (λ (s : Sparing). Comes (comes t s (envelope (seen_envelope c.args.came))) (Ok c.in-Ok.inbound) new) c.self.view_is
    (passed_ok start t (seen_envelope c.args.came) c.in-Ok.inbound c.inbound.new.self (c.in-Ok.ensures t full standing broken finished))

pub returns-in-Err : goal.returns-in-Err
returns-in-Err g c =
    λ t full standing broken finished.
    let start : Sparing = record { peering = c.self.inside.adapter; returned = c.self.inside.returned } in
    let new : Sparing = record { peering = c.inbound.new.self; returned = c.self.inside.returned } in
    subst (λ (s : Sparing). Comes (comes t s (envelope (seen_envelope c.args.came))) (Err c.in-Err.refused) new) c.self.view_is
    (passed_err start t (seen_envelope c.args.came) c.in-Err.refused c.inbound.new.self new (c.in-Err.ensures t full standing broken finished))
