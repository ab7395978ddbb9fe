use Rattle.std.proofs.Common.{◌≡◌, [], Result, Ok, Err, refl}
use Rattle.std.specs.Prelude.{IfOk}
use Rattle.rpc_msg.specs.declared.ids.QuestionId.{QuestionId}
use Rattle.peer_adapter.specs.declared.errors.PeerFault.{PeerFault}
use Rattle.peer_adapter.specs.Peering as peer
use Rattle.peer_large.specs.declared.limit.Limit.{Limit}
use Rattle.peer_large.specs.Sparing.{Coming, Sparing, failed, fails_by, told_alone}
use Rattle.peer_large.proofs.Spared.{asked, full}
use Rattle.peer_large.proofs.laws.calls_fail.Goals as goal

by : (s : Sparing) (q : QuestionId) (l : Limit) (r : Result peer.Coming PeerFault)
    → IfOk (fails_by s q l r) (λ (c : Coming). (c.besides ≡ told_alone (failed q l)) × (c.heard ≡ []))
by s q l (Ok c) = (refl, refl)
by s q l (Err f) = tt

pub returns : goal.returns
returns c t s q l = by s q l (peer.comes (full t) s.peering (asked q))
