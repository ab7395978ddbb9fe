use Rattle.std.proofs.Common.{sym, subst}
use Rattle.peer_kinds.specs.declared.outcome.Kinds.{Kinds}
use Rattle.peer_kinds.specs.Kinds.{seen_kinds}
use Rattle.peer_adapter.specs.Peering.{Comes, kinds_by}
use Rattle.peer_adapter.proofs.peer.PeerAdapter.hear_outcome.Goals as goal

pub returns-in-SetAside : goal.returns-in-SetAside
returns-in-SetAside g c =
    λ t broken finished.
    subst (λ (k : Kinds). Comes (kinds_by t c.args.self.now (seen_kinds k)) c.set_aside.result c.set_aside.new.self) (sym c.in-SetAside.is) (c.set_aside.ensures t)
