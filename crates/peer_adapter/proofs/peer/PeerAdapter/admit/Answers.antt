use Rattle.std.proofs.Common.{Bool, Result, sym, subst}
use Rattle.rpc_codec.specs.Envelopes.{seen_envelope}
use Rattle.peer_overload.specs.declared.admission.Admission.{Admission}
use Rattle.peer_overload.specs.declared.errors.OverloadFault.{OverloadFault}
use Rattle.peer_overload.specs.Overloading.{seen_admission}
use Rattle.peer_overload.specs.Overloading as overload
use Rattle.peer_adapter.specs.Peering.{Peering, Comes, admits, admits_by, hears}
use Rattle.peer_adapter.proofs.peer.PeerAdapter.admit.Goals as goal

pub returns-in-Ok-Admitted : goal.returns-in-Ok-Admitted
returns-in-Ok-Admitted g c =
    λ t full standing broken finished.
    let start : Peering = record { overload = c.self.inside.overload; names = c.self.inside.names; tails = c.self.inside.tails; finishes = c.self.inside.finishes } in
    let admitting : Peering = record { overload = c.inbound.new.self; names = c.self.inside.names; tails = c.self.inside.tails; finishes = c.self.inside.finishes } in
    subst (λ (s : Peering). Comes (hears t s (seen_envelope c.args.came)) c.turn.result c.turn.new.self) c.self.view_is
    (subst (λ (b : Bool). Comes (admits_by t start (overload.comes start.overload b (seen_envelope c.args.came))) c.turn.result c.turn.new.self) full
    (subst (λ (r : Result overload.Coming OverloadFault). Comes (admits_by t start r) c.turn.result c.turn.new.self) (sym c.in-Ok-Admitted.ensures)
    (subst (λ (a : Admission). Comes (admits t admitting (seen_admission a)) c.turn.result c.turn.new.self) (sym c.in-Ok-Admitted.field-0-is) (c.turn.ensures t standing broken finished))))
