-- The descriptors of a message, and the exports that they count on.
use Rattle.std.specs.Prelude.{ℕ, List, [], ◌∷◌}
use Rattle.rpc_msg.specs.declared.parts.Descriptor.{Descriptor}
use Rattle.rpc_msg.specs.declared.parts.Descriptor.TheVariants as descriptor
use Rattle.rpc_msg.specs.declared.message.ReturnBody.{ReturnBody}
use Rattle.rpc_msg.specs.declared.message.ReturnBody.TheVariants as body
use Rattle.rpc_msg.specs.declared.message.ResolvedTo.{ResolvedTo}
use Rattle.rpc_msg.specs.declared.message.ResolvedTo.TheVariants as resolved
use Rattle.rpc_msg.specs.declared.message.PlainMessage.{PlainMessage}
use Rattle.rpc_msg.specs.declared.message.PlainMessage.TheVariants as plain
use Rattle.rpc_msg.specs.declared.message.Message.{Message}
use Rattle.rpc_msg.specs.declared.message.Message.TheVariants as message

abbrev pub descriptors_of_body : ReturnBody → List Descriptor
descriptors_of_body (body.Results payload descriptors) = descriptors
descriptors_of_body (body.Exception exception) = []
descriptors_of_body body.Canceled = []

abbrev pub descriptors_of_resolved : ResolvedTo → List Descriptor
descriptors_of_resolved (resolved.Cap d) = d ∷ []
descriptors_of_resolved (resolved.Exception exception) = []

abbrev pub descriptors_of_plain : PlainMessage → List Descriptor
descriptors_of_plain (plain.Abort exception) = []
descriptors_of_plain (plain.Bootstrap question) = []
descriptors_of_plain (plain.Call call) = call.descriptors
descriptors_of_plain (plain.Return said) = descriptors_of_body said.body
descriptors_of_plain (plain.Finish finish) = []
descriptors_of_plain (plain.Resolve resolve) = descriptors_of_resolved resolve.to
descriptors_of_plain (plain.Release release) = []
descriptors_of_plain (plain.Disembargo disembargo) = []
descriptors_of_plain (plain.Other number) = []

-- The descriptors of a Call, a Return or a Resolve, in order; of another message none.
abbrev pub descriptors_of : Message → List Descriptor
descriptors_of (message.Plain m) = descriptors_of_plain m
descriptors_of (message.Unimplemented m) = []

-- The export ids to whose counts these descriptors add one: those of the two sender kinds.
abbrev pub given : List Descriptor → List ℕ
given [] = []
given (descriptor.None ∷ ds) = given ds
given (descriptor.SenderHosted e ∷ ds) = e.0 ∷ given ds
given (descriptor.SenderPromise e ∷ ds) = e.0 ∷ given ds
given (descriptor.ReceiverHosted e ∷ ds) = given ds
given (descriptor.ReceiverAnswer q path ∷ ds) = given ds
