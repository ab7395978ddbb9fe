-- What an adapter does with each envelope of the peer and each message of the vat (docs/messages.md, "Peers of other make").
use Rattle.std.specs.Prelude.{◌≡◌, true, List, [], ◌∷◌, Option, Some, None, Result, Ok, Err, refl}
use Rattle.std.specs.FinMap as finite
use Rattle.std.specs.Option.{option_map}
use Rattle.std.specs.Coded.{Coded, code_by}
use Rattle.finite_maps.specs.Tally.{Map}
use Rattle.capn_trees.specs.Trees.{Tree}
use Rattle.capn_trees.specs.Views.{view}
use Rattle.rpc_msg.specs.Memory.{Memory}
use Rattle.rpc_msg.specs.declared.ids.QuestionId.{QuestionId}
use Rattle.rpc_msg.specs.declared.message.Finish.{Finish}
use Rattle.rpc_msg.specs.declared.message.Return.{Return}
use Rattle.rpc_msg.specs.declared.message.ReturnBody.{ReturnBody}
use Rattle.rpc_msg.specs.declared.message.ReturnBody.TheVariants as body
use Rattle.rpc_msg.specs.declared.message.PlainMessage.{PlainMessage}
use Rattle.rpc_msg.specs.declared.message.PlainMessage.TheVariants as plain
use Rattle.rpc_msg.specs.declared.message.Message.{Message}
use Rattle.rpc_msg.specs.declared.message.Message.TheVariants as message
use Rattle.rpc_codec.specs.declared.envelope.TakenFromOther.{TakenFromOther}
use Rattle.rpc_codec.specs.Envelopes.{What, profile, tail_call, sent_elsewhere, taken_from_other, strange}
use Rattle.peer_tail_calls.specs.contracts.tails.Tails as tails_row
use Rattle.peer_tail_calls.specs.declared.errors.AdapterFault.{AdapterFault}
use Rattle.peer_tail_calls.specs.declared.errors.AdapterFault.TheVariants.{NothingToTake, NoTailCall}
use Rattle.peer_tail_calls.specs.declared.errors.AdapterError.{AdapterError}
use Rattle.peer_tail_calls.specs.declared.errors.AdapterError.TheVariants as error
use Rattle.peer_tail_calls.specs.declared.tails.Taker.{Taker}
use Rattle.peer_tail_calls.specs.declared.tails.Tail.{Tail}
use Rattle.peer_tail_calls.specs.declared.tails.Tail.TheVariants.{Asked, Taken, Finishing, Finished, Kept, Told}
use Rattle.peer_tail_calls.specs.declared.heard.Heard.{Heard}
use Rattle.peer_tail_calls.specs.declared.heard.Heard.TheVariants as heard
use Rattle.peer_tail_calls.specs.declared.heard.Inbound.{Inbound}
use Rattle.peer_tail_calls.specs.declared.heard.Said.{Said}
use Rattle.peer_tail_calls.specs.declared.heard.Said.TheVariants as said
use Rattle.peer_tail_calls.specs.declared.heard.Outbound.{Outbound}
use Rattle.peer_tail_calls.specs.Nulling.{nulled_call, nulled_return}
use Rattle.peer_tail_calls.specs.Turning.{turned}

-- The peer's tail calls that are open, by their questions.
pub record Adapting : Type 0 where
  pub tails : Map Tail

abbrev pub adapting_code : Coded Adapting
adapting_code = code_by (Map Tail) tails_row.the_row.coded (λ s. s.tails) (λ m. record { tails = m }) (λ _. refl)

abbrev pub fresh : Adapting
fresh = record { tails = finite.empty }

-- A tail call is as this says now.
abbrev pub with_tail : Adapting → QuestionId → Tail → Adapting
with_tail s q tail = record s { tails = finite.insert s.tails q.0 tail }

-- It is no longer open.
abbrev pub without_tail : Adapting → QuestionId → Adapting
without_tail s q = record s { tails = finite.remove s.tails q.0 }

-- ---- what comes from the peer

-- What an envelope comes to: the state after it, what the vat hears, in order, and what is not understood.
pub record Coming : Type 0 where
  pub state : Adapting
  pub heard : List Message
  pub unknown : Option Tree

abbrev pub hears : Adapting → List Message → Coming
hears s ms = record { state = s; heard = ms; unknown = None }

-- The vat hears that a tail call is finished. What it gave with the results the peer has not seen, so all of it comes back.
abbrev pub finish_of : QuestionId → Message
finish_of q = message.Plain (plain.Finish (record { question = q; release_result_caps = true }))

-- The vat hears the outcome of its answer as that of the question which takes it.
abbrev pub return_to : Taker → QuestionId → ReturnBody → Message
return_to taker a b = message.Plain (plain.Return (record { answer = taker.question; release_param_caps = taker.release_param_caps; body = turned a b }))

-- A Finish comes, of a tail call or of no such call. One that a Return takes is open until the outcome is there. A second Finish
-- is the vat's to judge, behind the first.
abbrev pub finishes : Adapting → Finish → Option Tail → Coming
finishes s f None = hears s (message.Plain (plain.Finish f) ∷ [])
finishes s f (Some Asked) = hears (with_tail s f.question Finished) (finish_of f.question ∷ [])
finishes s f (Some (Taken taker)) = hears (with_tail s f.question (Finishing taker)) []
finishes s f (Some (Finishing taker)) = hears (without_tail s f.question) (finish_of f.question ∷ finish_of f.question ∷ [])
finishes s f (Some Finished) = hears s (finish_of f.question ∷ [])
finishes s f (Some (Kept b)) = hears (without_tail s f.question) (finish_of f.question ∷ [])
finishes s f (Some Told) = hears (without_tail s f.question) (finish_of f.question ∷ [])

abbrev pub taker_of : TakenFromOther → Taker
taker_of t = record { question = t.answer; release_param_caps = t.release_param_caps }

-- A Return comes that takes the results of a tail call: the vat hears it once they are there.
abbrev pub takes : Adapting → TakenFromOther → Option Tail → Result Coming AdapterFault
takes s t None = Err NothingToTake
takes s t (Some Asked) = Ok (hears (with_tail s t.question (Taken (taker_of t))) [])
takes s t (Some (Taken taker)) = Err NothingToTake
takes s t (Some (Finishing taker)) = Err NothingToTake
takes s t (Some Finished) = Err NothingToTake
takes s t (Some (Kept b)) = Ok (hears (with_tail s t.question Told) (return_to (taker_of t) t.question b ∷ []))
takes s t (Some Told) = Err NothingToTake

-- A message of the profile comes.
abbrev pub comes_plain : Adapting → PlainMessage → Coming
comes_plain s (plain.Finish f) = finishes s f (finite.get s.tails f.question.0)
comes_plain s m = hears s (message.Plain m ∷ [])

abbrev pub comes_message : Adapting → Message → Coming
comes_message s (message.Plain m) = comes_plain s m
comes_message s (message.Unimplemented m) = hears s (message.Unimplemented m ∷ [])

-- An envelope comes.
abbrev pub comes : Adapting → What → Result Coming AdapterFault
comes s (profile m) = Ok (comes_message s m)
comes s (tail_call c) = Ok (hears (with_tail s c.question Asked) (message.Plain (plain.Call c) ∷ []))
comes s (taken_from_other t) = takes s t (finite.get s.tails t.question.0)
comes s (sent_elsewhere t) = Err NoTailCall
comes s (strange n original) = Ok (record { state = s; heard = message.Plain (plain.Other n) ∷ []; unknown = Some original })

-- ---- what goes to the peer

-- What a message of the vat comes to: the state after it, what is said to the peer, and what the vat hears, in order.
pub record Going : Type 0 where
  pub state : Adapting
  pub said : Option Said
  pub heard : List Message

abbrev pub says : Adapting → Message → Going
says s m = record { state = s; said = Some (said.Message m); heard = [] }

-- What the peer is told of the outcome of its tail call: that it is kept, or that there is none.
abbrev pub told_by : Return → ReturnBody → Said
told_by r (body.Results p ds) = said.SentElsewhere (record { answer = r.answer; release_param_caps = r.release_param_caps })
told_by r (body.Exception e) = said.SentElsewhere (record { answer = r.answer; release_param_caps = r.release_param_caps })
told_by r body.Canceled = said.Message (message.Plain (plain.Return r))

abbrev pub told : Return → Said
told r = told_by r r.body

-- A Return goes, of a tail call or of no such call. What was held of a tail call follows it. A pointer to a capability that is not
-- there goes as null.
abbrev pub gives : Adapting → Return → Option Tail → Going
gives s r None = says s (message.Plain (plain.Return (nulled_return r)))
gives s r (Some Asked) = record { state = with_tail s r.answer (Kept r.body); said = Some (told r); heard = [] }
gives s r (Some (Taken taker)) = record { state = with_tail s r.answer Told; said = Some (told r); heard = return_to taker r.answer r.body ∷ [] }
gives s r (Some (Finishing taker)) = record {
  state = without_tail s r.answer;
  said = Some (told r);
  heard = return_to taker r.answer r.body ∷ finish_of r.answer ∷ [];
}
gives s r (Some Finished) = record { state = without_tail s r.answer; said = Some (told r); heard = [] }
gives s r (Some (Kept b)) = says s (message.Plain (plain.Return (nulled_return r)))
gives s r (Some Told) = says s (message.Plain (plain.Return (nulled_return r)))

abbrev pub goes_plain : Adapting → PlainMessage → Going
goes_plain s (plain.Return r) = gives s r (finite.get s.tails r.answer.0)
goes_plain s (plain.Call c) = says s (message.Plain (plain.Call (nulled_call c)))
goes_plain s m = says s (message.Plain m)

-- A Release that the vat does not understand is not sent back: its sender may be unable to go on then.
abbrev pub goes_back : Adapting → PlainMessage → Going
goes_back s (plain.Release r) = record { state = s; said = None; heard = [] }
goes_back s m = says s (message.Unimplemented m)

-- A message of the vat goes.
abbrev pub goes : Adapting → Message → Going
goes s (message.Plain m) = goes_plain s m
goes s (message.Unimplemented m) = goes_back s m

-- ---- what the functions answer

abbrev pub messages_in : Heard → List Message
messages_in heard.Nothing = []
messages_in (heard.One m) = m ∷ []
messages_in (heard.Two m n) = m ∷ n ∷ []

abbrev pub seen_inbound : Adapting → Inbound → Coming
seen_inbound new i = record { state = new; heard = messages_in i.heard; unknown = option_map view i.unknown }

abbrev pub seen_outbound : Adapting → Outbound → Going
seen_outbound new o = record { state = new; said = o.said; heard = messages_in o.heard }

-- An envelope came: this is what it comes to; or it is at fault or memory is wanting, and nothing changes.
abbrev pub Comes : Adapting → Result Coming AdapterFault → Result Inbound AdapterError → Adapting → Type 0
Comes old coming (Ok i) new = coming ≡ Ok (seen_inbound new i)
Comes old coming (Err error.Memory) new = new ≡ old
Comes old coming (Err (error.Fault f)) new = (coming ≡ Err f) × (new ≡ old)

-- A message went: this is what it comes to; or memory is wanting, and nothing changes.
abbrev pub Goes : Adapting → Going → Result Outbound Memory → Adapting → Type 0
Goes old going (Ok o) new = going ≡ seen_outbound new o
Goes old going (Err e) new = new ≡ old
