use Rattle.std.proofs.Common.{◌≡◌, Ok, sym, subst}
use Rattle.rpc_msg.specs.declared.message.Call.{Call}
use Rattle.rpc_msg.specs.declared.message.Return.{Return}
use Rattle.rpc_msg.specs.declared.message.PlainMessage.TheVariants as plain
use Rattle.rpc_msg.specs.declared.message.Message.TheVariants as message
use Rattle.rpc_codec.specs.Decoding.{envelope_at}
use Rattle.rpc_codec.specs.Envelopes.{profile}
use Rattle.rpc_codec.proofs.BareFrames.{finish_said, call_said, return_said}
use Rattle.rpc_codec.proofs.bare.bare_message.Goals as goal

pub returns-in-Some : goal.returns-in-Some
returns-in-Some c = finish_said c.args.stamp c.in-Some.finish c.args.bytes.now c.in-Ok.message c.in-Ok.ensures c.in-Some.ensures.frame c.in-Some.ensures.small

pub returns-in-Some-call_of : goal.returns-in-Some-call_of
returns-in-Some-call_of c =
    subst (λ (x : Call). envelope_at c.args.stamp c.args.bytes.now ≡ Ok (profile (message.Plain (plain.Call x)))) (sym c.in_ok-call.ensures)
    (call_said c.args.stamp c.in-Some-call_of.call c.args.bytes.now c.in-Ok.message c.in-Ok.ensures c.in-Some-call_of.ensures.frame c.in-Some-call_of.ensures.small)

pub returns-in-Some-return_of : goal.returns-in-Some-return_of
returns-in-Some-return_of c =
    subst (λ (x : Return). envelope_at c.args.stamp c.args.bytes.now ≡ Ok (profile (message.Plain (plain.Return x)))) (sym c.in_ok-said.ensures)
    (return_said c.args.stamp c.in-Some-return_of.said c.args.bytes.now c.in-Ok.message c.in-Ok.ensures c.in-Some-return_of.ensures.frame c.in-Some-return_of.ensures.small)
