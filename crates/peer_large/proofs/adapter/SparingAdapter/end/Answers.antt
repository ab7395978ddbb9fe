use Rattle.std.proofs.Common.{◌≡◌, Ok, Err, subst}
use Rattle.rpc_msg.specs.declared.message.PlainMessage.{PlainMessage}
use Rattle.rpc_msg.specs.declared.message.Message.TheVariants as message
use Rattle.rpc_codec.specs.Envelopes.{profile}
use Rattle.peer_adapter.specs.Peering as peer
use Rattle.peer_large.specs.Sparing.{Comes, Sparing, ends}
use Rattle.peer_large.proofs.Spared.{ends_err, ends_ok}
use Rattle.peer_large.proofs.adapter.SparingAdapter.end.Goals as goal

pub returns-in-Ok : goal.returns-in-Ok
returns-in-Ok g c =
    λ t full standing broken finished.
    let start : Sparing = record { peering = c.self.inside.adapter; returned = c.self.inside.returned } in
    let new : Sparing = record { peering = c.inbound.new.self; returned = c.note.new.self } in
    subst (λ (s : Sparing). Comes (ends t s c.args.ending.0 c.args.ending.1 c.args.ending.2) (Ok c.giving_back.result) new) c.self.view_is
    (ends_ok start t c.args.ending.0 c.args.ending.1 c.args.ending.2 c.inbound.new.self c.in-Ok.inbound c.giving_back.result c.is_finished-went.result c.note.new.self
    (subst (λ (m : PlainMessage). peer.comes t c.self.inside.adapter (profile (message.Plain m)) ≡ Ok (peer.seen_inbound c.inbound.new.self c.in-Ok.inbound)) c.in_ok-heard.ensures (c.in-Ok.ensures t full standing broken finished))
    (finished c.args.ending.0 c.is_finished-went.result c.is_finished-went.ensures) c.in_ok-note-in-Ok.ensures
    c.giving_back.ensures.aside c.giving_back.ensures.heard)

pub returns-in-Err : goal.returns-in-Err
returns-in-Err g c =
    λ t full standing broken finished.
    let start : Sparing = record { peering = c.self.inside.adapter; returned = c.self.inside.returned } in
    let new : Sparing = record { peering = c.inbound.new.self; returned = c.self.inside.returned } in
    subst (λ (s : Sparing). Comes (ends t s c.args.ending.0 c.args.ending.1 c.args.ending.2) (Err c.in-Err.refused) new) c.self.view_is
    (ends_err start t c.args.ending.0 c.args.ending.1 c.args.ending.2 c.in-Err.refused c.inbound.new.self new
    (subst (λ (m : PlainMessage). peer.Comes (peer.comes t c.self.inside.adapter (profile (message.Plain m))) (Err c.in-Err.refused) c.inbound.new.self) c.in_ok-heard.ensures
    (c.in-Err.ensures t full standing broken finished)))
