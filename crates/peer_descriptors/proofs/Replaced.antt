-- What is known of an envelope with other descriptors: which it has then, and that with its own it is as it was.
use Rattle.std.proofs.Common.{◌≡◌, map, refl, ap}
use Rattle.rpc_msg.specs.Messages.{descriptors_of_body, descriptors_of_resolved}
use Rattle.rpc_msg.specs.declared.parts.Descriptor.{Descriptor}
use Rattle.rpc_msg.specs.declared.message.ReturnBody.{ReturnBody}
use Rattle.rpc_msg.specs.declared.message.ReturnBody.TheVariants as body
use Rattle.rpc_msg.specs.declared.message.ResolvedTo.{ResolvedTo}
use Rattle.rpc_msg.specs.declared.message.ResolvedTo.TheVariants as resolved
use Rattle.rpc_msg.specs.declared.message.PlainMessage.{PlainMessage}
use Rattle.rpc_msg.specs.declared.message.PlainMessage.TheVariants as plain
use Rattle.rpc_msg.specs.declared.message.Message.TheVariants as message
use Rattle.rpc_codec.specs.Envelopes.{What, profile, tail_call, sent_elsewhere, taken_from_other, strange}
use Rattle.rpc_codec.specs.Carried.{descriptors_in}
use Rattle.peer_descriptors.specs.Replacing.{body_with, resolved_with, what_with}

body_same : (b : ReturnBody) → body_with b (descriptors_of_body b) ≡ b
body_same (body.Results p ds) = refl
body_same (body.Exception e) = refl
body_same body.Canceled = refl

resolved_same : (to : ResolvedTo) → resolved_with to (descriptors_of_resolved to) ≡ to
resolved_same (resolved.Cap d) = refl
resolved_same (resolved.Exception e) = refl

plain_same : (m : PlainMessage) → what_with (profile (message.Plain m)) (descriptors_in (profile (message.Plain m))) ≡ profile (message.Plain m)
plain_same (plain.Call c) = refl
plain_same (plain.Return r) = ap (λ (b : ReturnBody). profile (message.Plain (plain.Return (record r { body = b })))) (body_same r.body)
plain_same (plain.Resolve r) = ap (λ (to : ResolvedTo). profile (message.Plain (plain.Resolve (record r { to = to })))) (resolved_same r.to)
plain_same (plain.Abort e) = refl
plain_same (plain.Bootstrap q) = refl
plain_same (plain.Finish f) = refl
plain_same (plain.Release r) = refl
plain_same (plain.Disembargo d) = refl
plain_same (plain.Other n) = refl

-- An envelope with its own descriptors is itself.
pub what_same : (w : What) → what_with w (descriptors_in w) ≡ w
what_same (profile (message.Plain m)) = plain_same m
what_same (profile (message.Unimplemented m)) = refl
what_same (tail_call c) = refl
what_same (sent_elsewhere s) = refl
what_same (taken_from_other s) = refl
what_same (strange n original) = refl

body_changed : (f : Descriptor → Descriptor) (b : ReturnBody) → descriptors_of_body (body_with b (map f (descriptors_of_body b))) ≡ map f (descriptors_of_body b)
body_changed f (body.Results p ds) = refl
body_changed f (body.Exception e) = refl
body_changed f body.Canceled = refl

resolved_changed : (f : Descriptor → Descriptor) (to : ResolvedTo) → descriptors_of_resolved (resolved_with to (map f (descriptors_of_resolved to))) ≡ map f (descriptors_of_resolved to)
resolved_changed f (resolved.Cap d) = refl
resolved_changed f (resolved.Exception e) = refl

module _ (f : Descriptor → Descriptor) where
  abbrev changed : What → What
  changed w = what_with w (map f (descriptors_in w))

  plain_changed : (m : PlainMessage) → descriptors_in (changed (profile (message.Plain m))) ≡ map f (descriptors_in (profile (message.Plain m)))
  plain_changed (plain.Call c) = refl
  plain_changed (plain.Return r) = body_changed f r.body
  plain_changed (plain.Resolve r) = resolved_changed f r.to
  plain_changed (plain.Abort e) = refl
  plain_changed (plain.Bootstrap q) = refl
  plain_changed (plain.Finish g) = refl
  plain_changed (plain.Release r) = refl
  plain_changed (plain.Disembargo d) = refl
  plain_changed (plain.Other n) = refl

  -- The descriptors of a message with others are these.
  pub what_changed : (w : What) → descriptors_in (changed w) ≡ map f (descriptors_in w)
  what_changed (profile (message.Plain m)) = plain_changed m
  what_changed (profile (message.Unimplemented m)) = refl
  what_changed (tail_call c) = refl
  what_changed (sent_elsewhere s) = refl
  what_changed (taken_from_other s) = refl
  what_changed (strange n original) = refl
