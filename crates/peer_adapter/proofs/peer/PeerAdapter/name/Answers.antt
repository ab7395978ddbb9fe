use Rattle.std.proofs.Common.{sym, subst}
use Rattle.rpc_codec.specs.Envelopes.{seen_envelope}
use Rattle.peer_broken.specs.Naming as names
use Rattle.peer_adapter.specs.Peering.{Peering, Comes, names_by}
use Rattle.peer_adapter.proofs.peer.PeerAdapter.name.Goals as goal

pub returns : goal.returns
returns g c =
    λ t broken finished.
    let start : Peering = record { overload = c.self.inside.overload; names = c.self.inside.names; tails = c.self.inside.tails; finishes = c.self.inside.finishes } in
    subst (λ (s : Peering). Comes (names_by s (names.comes t.broken t.finished s.names (seen_envelope c.args.came))) c.hear.result c.hear.new.self) c.self.view_is
    (subst (λ (n : names.Coming). Comes (names_by start n) c.hear.result c.hear.new.self) (sym (c.in_ok-named.ensures.ok t.broken t.finished broken finished)) c.hear.ensures)
