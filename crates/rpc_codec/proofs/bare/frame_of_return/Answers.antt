use Rattle.std.proofs.Common.{sym, subst}
use Rattle.rpc_msg.specs.declared.message.Return.{Return}
use Rattle.rpc_msg.specs.declared.message.PlainMessage.TheVariants as plain
use Rattle.rpc_msg.specs.declared.message.Message.TheVariants as message
use Rattle.rpc_codec.specs.Bares.{bare_return, returned, SaysMessage}
use Rattle.rpc_codec.proofs.BareFrames.{return_can, return_tree_is, frame_says}
use Rattle.rpc_codec.proofs.bare.frame_of_return.Goals as goal

pub returns : goal.returns
returns c =
    subst (λ (x : Return). SaysMessage (message.Plain (plain.Return x)) c.in_ok-frame.frame) (sym c.in-Some.ensures)
    (frame_says (message.Plain (plain.Return (returned c.in-Some.bare))) (bare_return c.in-Some.bare) c.in_ok-frame.frame (return_tree_is c.in-Some.bare) (return_can c.in-Some.bare) c.in_ok-frame.ensures)
