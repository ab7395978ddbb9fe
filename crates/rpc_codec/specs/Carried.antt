-- What a message carries: its descriptors, and what these add to the count of an export of its sender.
use Rattle.std.specs.Prelude.{ℕ, ◌==◌, List, []}
use Rattle.std.specs.List.{count_by}
use Rattle.rpc_msg.specs.Messages.{descriptors_of, given}
use Rattle.rpc_msg.specs.declared.ids.ExportId.{ExportId}
use Rattle.rpc_msg.specs.declared.parts.Descriptor.{Descriptor}
use Rattle.rpc_codec.specs.Envelopes.{What, profile, tail_call, sent_elsewhere, taken_from_other, strange}

-- The descriptors of a Call, of a tail call too, of a Return or of a Resolve, in order.
abbrev pub descriptors_in : What → List Descriptor
descriptors_in (profile m) = descriptors_of m
descriptors_in (tail_call c) = c.descriptors
descriptors_in (sent_elsewhere s) = []
descriptors_in (taken_from_other s) = []
descriptors_in (strange n original) = []

-- how often an export is among these
abbrev pub times : ExportId → List ℕ → ℕ
times e ns = count_by (λ n. n == e.0) ns

-- what a message gives of an export of its sender: what its descriptors add to the count
abbrev pub gives : ExportId → What → ℕ
gives e w = times e (given (descriptors_in w))
