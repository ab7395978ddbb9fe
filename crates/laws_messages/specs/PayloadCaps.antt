-- A payload has as many capabilities as there are descriptors beside it (rpc.capnp, Payload).
use Rattle.std.specs.Prelude.{◌≡◌, length, List, [], ◌∷◌}
use Rattle.rpc_msg.specs.declared.ids.Vat.{Vat}
use Rattle.rpc_msg.specs.declared.message.ReturnBody.{ReturnBody}
use Rattle.rpc_msg.specs.declared.message.ReturnBody.TheVariants as body
use Rattle.rpc_msg.specs.declared.message.PlainMessage.{PlainMessage}
use Rattle.rpc_msg.specs.declared.message.PlainMessage.TheVariants as plain
use Rattle.rpc_msg.specs.declared.message.Message.{Message}
use Rattle.rpc_msg.specs.declared.message.Message.TheVariants as message
use Rattle.rpc_machine.specs.Payloads.{caps_in}
use Rattle.rpc_machine.specs.World.{inbox}
use Rattle.laws_runs.specs.SceneSessions.{InScenes}

abbrev pub BodyFits : ReturnBody → Type 0
BodyFits (body.Results payload ds) = caps_in payload ≡ length ds
BodyFits (body.Exception exception) = Unit {0}
BodyFits body.Canceled = Unit {0}

abbrev pub PlainFits : PlainMessage → Type 0
PlainFits (plain.Abort exception) = Unit {0}
PlainFits (plain.Bootstrap q) = Unit {0}
PlainFits (plain.Call c) = caps_in c.payload ≡ length c.descriptors
PlainFits (plain.Return r) = BodyFits r.body
PlainFits (plain.Finish f) = Unit {0}
PlainFits (plain.Resolve r) = Unit {0}
PlainFits (plain.Release r) = Unit {0}
PlainFits (plain.Disembargo d) = Unit {0}
PlainFits (plain.Other n) = Unit {0}

-- A message that comes back is not looked at for this.
abbrev pub Fits : Message → Type 0
Fits (message.Plain m) = PlainFits m
Fits (message.Unimplemented m) = Unit {0}

abbrev pub AllFit : List Message → Type 0
AllFit [] = Unit {0}
AllFit (m ∷ ms) = Fits m × AllFit ms

-- So all that is on its way.
abbrev pub PayloadsFit : Type 0
PayloadsFit = InScenes (λ w. (v : Vat) → AllFit (inbox w v))
