use Rattle.std.proofs.Common.{sym, subst}
use Rattle.rpc_msg.specs.declared.message.Call.{Call}
use Rattle.rpc_msg.specs.declared.message.PlainMessage.TheVariants as plain
use Rattle.rpc_msg.specs.declared.message.Message.TheVariants as message
use Rattle.rpc_codec.specs.Bares.{bare_call, called, SaysMessage}
use Rattle.rpc_codec.proofs.BareFrames.{call_can, call_tree_is, frame_says}
use Rattle.rpc_codec.proofs.bare.frame_of_call.Goals as goal

pub returns : goal.returns
returns c =
    subst (λ (x : Call). SaysMessage (message.Plain (plain.Call x)) c.in_ok-frame.frame) (sym c.in-Some.ensures)
    (frame_says (message.Plain (plain.Call (called c.args.call.now.stamp c.in-Some.bare))) (bare_call c.in-Some.bare) c.in_ok-frame.frame (call_tree_is c.args.call.now.stamp c.in-Some.bare) (call_can c.in-Some.bare) c.in_ok-frame.ensures)
