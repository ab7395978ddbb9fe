-- What messages give back of what was given to their sender (rpc.capnp: Release, Return.releaseParamCaps,
-- Finish.releaseResultCaps; docs/protocol.md says what an Unimplemented gives back).
use Rattle.std.specs.Prelude.{ℕ, ◌+◌, ◌==◌, Bool, cond, if◌then◌else◌, List, [], ◌∷◌, ◌++◌, Option, Some, None}
use Rattle.finite_maps.specs.Tally.{tally}
use Rattle.rpc_msg.specs.declared.ids.ExportId.{ExportId}
use Rattle.rpc_msg.specs.declared.ids.QuestionId.{QuestionId}
use Rattle.rpc_msg.specs.declared.parts.Descriptor.{Descriptor}
use Rattle.rpc_msg.specs.declared.parts.Descriptor.TheVariants as descriptor
use Rattle.rpc_msg.specs.declared.message.ResolvedTo.{ResolvedTo}
use Rattle.rpc_msg.specs.declared.message.ResolvedTo.TheVariants as resolved
use Rattle.rpc_msg.specs.declared.message.PlainMessage.{PlainMessage}
use Rattle.rpc_msg.specs.declared.message.PlainMessage.TheVariants as plain
use Rattle.rpc_msg.specs.declared.message.Message.{Message}
use Rattle.rpc_msg.specs.declared.message.Message.TheVariants as message
use Rattle.rpc_codec.specs.Envelopes.{What, profile, tail_call, sent_elsewhere, taken_from_other, strange}
use Rattle.peer_tail_calls.specs.declared.tails.Tail.{Tail}
use Rattle.peer_tail_calls.specs.declared.tails.Tail.TheVariants.{Asked, Taken, Finishing, Finished, Kept, Told}
use Rattle.peer_tail_calls.specs.declared.heard.Said.{Said}
use Rattle.peer_tail_calls.specs.declared.heard.Said.TheVariants as said
use Rattle.peer_tail_calls.specs.Adapting.{Adapting}

pub data Back : Type 0 where
  -- so many of an export
  of_export : ExportId → ℕ → Back
  -- all that the descriptors of a call gave
  of_call : QuestionId → Back
  -- all that the descriptors of the results of a question gave
  of_results : QuestionId → Back

abbrev pub by_flag : Bool → Back → List Back
by_flag flag b = if flag then b ∷ [] else []

abbrev pub plain_gives_back : PlainMessage → List Back
plain_gives_back (plain.Return r) = by_flag r.release_param_caps (of_call r.answer)
plain_gives_back (plain.Finish f) = by_flag f.release_result_caps (of_results f.question)
plain_gives_back (plain.Release r) = of_export r.export r.count ∷ []
plain_gives_back m = []

abbrev pub of_sender : Descriptor → List Back
of_sender descriptor.None = []
of_sender (descriptor.SenderHosted e) = of_export e 1 ∷ []
of_sender (descriptor.SenderPromise e) = of_export e 1 ∷ []
of_sender (descriptor.ReceiverHosted e) = []
of_sender (descriptor.ReceiverAnswer q path) = []

abbrev pub of_resolved : ResolvedTo → List Back
of_resolved (resolved.Cap d) = of_sender d
of_resolved (resolved.Exception e) = []

-- it was not understood
abbrev pub unimplemented_gives_back : PlainMessage → List Back
unimplemented_gives_back (plain.Call c) = of_call c.question ∷ []
unimplemented_gives_back (plain.Resolve r) = of_resolved r.to
unimplemented_gives_back m = []

abbrev pub gives_back : Message → List Back
gives_back (message.Plain m) = plain_gives_back m
gives_back (message.Unimplemented m) = unimplemented_gives_back m

abbrev pub all_give_back : List Message → List Back
all_give_back [] = []
all_give_back (m ∷ ms) = gives_back m ++ all_give_back ms

abbrev pub told_gives_back : Option Said → List Back
told_gives_back None = []
told_gives_back (Some (said.Message m)) = gives_back m
told_gives_back (Some (said.SentElsewhere t)) = by_flag t.release_param_caps (of_call t.answer)

abbrev pub came_gives_back : What → List Back
came_gives_back (profile m) = gives_back m
came_gives_back (tail_call c) = []
came_gives_back (sent_elsewhere t) = by_flag t.release_param_caps (of_call t.answer)
came_gives_back (taken_from_other t) = by_flag t.release_param_caps (of_call t.answer)
came_gives_back (strange n original) = []

-- ---- Returns that wait for the outcome of a tail call

-- how often what a call gave is given back
abbrev pub times_call : QuestionId → List Back → ℕ
times_call q [] = 0
times_call q (of_call p ∷ bs) = cond (p.0 == q.0) 1 0 + times_call q bs
times_call q (of_export e n ∷ bs) = times_call q bs
times_call q (of_results p ∷ bs) = times_call q bs

abbrev pub waits : QuestionId → Tail → ℕ
waits q Asked = 0
waits q (Taken taker) = times_call q (by_flag taker.release_param_caps (of_call taker.question))
waits q (Finishing taker) = times_call q (by_flag taker.release_param_caps (of_call taker.question))
waits q Finished = 0
waits q (Kept b) = 0
waits q Told = 0

-- how often it will be given back by the Returns that wait
abbrev pub waiting : QuestionId → Adapting → ℕ
waiting q s = tally (waits q) s.tails
