use Rattle.std.proofs.Common.{refl}
use Rattle.rpc_msg.specs.declared.message.PlainMessage.TheVariants as plain
use Rattle.rpc_msg.specs.declared.message.Message.TheVariants as message
use Rattle.rpc_codec.specs.Bares.{bare_finish}
use Rattle.rpc_codec.proofs.BareFrames.{finish_can, frame_says}
use Rattle.rpc_codec.proofs.bare.frame_of_finish.Goals as goal

pub returns : goal.returns
returns c = frame_says (message.Plain (plain.Finish c.args.finish)) (bare_finish c.args.finish) c.in_ok-frame.frame refl (finish_can c.args.finish) c.in_ok-frame.ensures
