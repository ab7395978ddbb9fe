use Rattle.std.proofs.Common.{sym, subst, ◌∙◌}
use Rattle.rpc_codec.specs.Decoding as codec
use Rattle.rpc_codec.specs.Decoding.{Decodes}
use Rattle.peer_large.specs.Opening.{Came, seen}
use Rattle.vat_connection.proofs.Framed.{came_large, came_small}
use Rattle.vat_connection.proofs.frame.opened_in.Goals as goal

pub returns-then-is_large : goal.returns-then-is_large
returns-then-is_large c =
    subst (λ (came : codec.Came Came). Decodes seen c.open_front.result came)
    (came_large c.args.stamp c.args.frame.now c.bytes-bytes.result.now (sym c.is_large.ensures ∙ c.if-is_large.true) c.bytes-bytes.ensures.bytes) c.open_front.ensures

pub returns : goal.returns
returns c =
    subst (λ (came : codec.Came Came). Decodes seen c.«open».result came)
    (came_small c.args.stamp c.args.frame.now c.bytes-bytes.result.now (sym c.is_large.ensures ∙ c.if-is_large.false) c.bytes-bytes.ensures.bytes) c.«open».ensures
