use Rattle.std.proofs.Common.{subst}
use Rattle.peer_kinds.specs.Kinds as kinds
use Rattle.peer_adapter.specs.Peering.{Comes, kinds_by}
use Rattle.peer_adapter.proofs.peer.PeerAdapter.turn.Goals as goal

pub returns : goal.returns
returns g c = λ t standing broken finished.
    subst (λ (o : kinds.Outcome). Comes (kinds_by t c.args.self.now o) c.hear_outcome.result c.hear_outcome.new.self)
    (c.in_ok-kinds.ensures t.standing standing) (c.hear_outcome.ensures t broken finished)
