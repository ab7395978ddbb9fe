use Rattle.std.proofs.Common.{Ok, Err, refl, subst}
use Rattle.peer_large.specs.Sparing.{Comes, Sparing, fails}
use Rattle.peer_large.proofs.Spared.{fails_err, fails_ok, full}
use Rattle.peer_large.proofs.adapter.SparingAdapter.fail.Goals as goal

pub returns-in-Ok : goal.returns-in-Ok
returns-in-Ok g c =
    λ t standing broken finished.
    let start : Sparing = record { peering = c.self.inside.adapter; returned = c.self.inside.returned } in
    let new : Sparing = record { peering = c.inbound.new.self; returned = c.self.inside.returned } in
    subst (λ (s : Sparing). Comes (fails t s c.args.question c.args.limit) (Ok c.tells.result) new) c.self.view_is
    (fails_ok start t c.args.question c.args.limit c.inbound.new.self c.in-Ok._taken c.tells.result c.in_ok-said.said (c.in-Ok.ensures (full t) refl standing broken finished) c.in_ok-said.ensures
    c.tells.ensures.aside c.tells.ensures.heard)

pub returns-in-Err : goal.returns-in-Err
returns-in-Err g c =
    λ t standing broken finished.
    let start : Sparing = record { peering = c.self.inside.adapter; returned = c.self.inside.returned } in
    let new : Sparing = record { peering = c.inbound.new.self; returned = c.self.inside.returned } in
    subst (λ (s : Sparing). Comes (fails t s c.args.question c.args.limit) (Err c.in-Err.refused) new) c.self.view_is
    (fails_err start t c.args.question c.args.limit c.in-Err.refused c.inbound.new.self new (c.in-Err.ensures (full t) refl standing broken finished))
