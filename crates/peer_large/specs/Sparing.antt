-- What a frame that breaks a limit comes to: it costs its call, and the connection goes on (docs/messages.md, "Messages that are too
-- large").
use Rattle.std.specs.Prelude.{◌≡◌, Bool, true, false, List, [], Option, Some, None, Result, Ok, Err, refl}
use Rattle.std.specs.Coded.{Coded, code_by, coded×}
use Rattle.std.specs.FinMap as finite
use Rattle.finite_maps.specs.Tally.{Map}
use Rattle.rpc_msg.specs.Memory.{Memory}
use Rattle.rpc_msg.specs.declared.ids.QuestionId.{QuestionId}
use Rattle.rpc_msg.specs.declared.message.Finish.{Finish}
use Rattle.rpc_msg.specs.declared.message.Message.{Message}
use Rattle.rpc_msg.specs.declared.message.Message.TheVariants as message
use Rattle.rpc_msg.specs.declared.message.PlainMessage.{PlainMessage}
use Rattle.rpc_msg.specs.declared.message.PlainMessage.TheVariants as plain
use Rattle.rpc_msg.specs.declared.message.ReturnBody.TheVariants as body
use Rattle.rpc_codec.specs.Envelopes.{profile}
use Rattle.peer_tail_calls.specs.Adapting.{messages_in}
use Rattle.peer_tail_calls.specs.declared.heard.Said.{Said}
use Rattle.peer_tail_calls.specs.declared.heard.Said.TheVariants as said
use Rattle.peer_adapter.specs.declared.errors.PeerFault.{PeerFault}
use Rattle.peer_adapter.specs.declared.errors.PeerError.{PeerError}
use Rattle.peer_adapter.specs.declared.errors.PeerError.TheVariants as error
use Rattle.peer_adapter.specs.declared.told.Told.{Told}
use Rattle.peer_adapter.specs.declared.told.Inbound.{Inbound}
use Rattle.peer_adapter.specs.declared.told.Outbound.{Outbound}
use Rattle.peer_adapter.specs.Peering.{Besides, Peering, Tables, peering_code, seen_aside}
use Rattle.peer_adapter.specs.Peering.Besides.{Tells, Keeps}
use Rattle.peer_adapter.specs.Peering as peer
use Rattle.peer_large.specs.declared.front.Large.{Large}
use Rattle.peer_large.specs.declared.front.Large.TheVariants as large
use Rattle.peer_large.specs.declared.limit.Limit.{Limit}
use Rattle.peer_large.specs.contracts.returned.Returned as returned_row
use Rattle.peer_large.specs.Limits.{exception_of}
use Rattle.peer_large.specs.Opening.{Came, envelope, spared}

-- What stands between the peer and the vat, and the vat's questions whose Return broke a limit and whose Finish did not go.
pub record Sparing : Type 0 where
  pub peering : Peering
  pub returned : Map Limit

abbrev pub sparing_code : Coded Sparing
sparing_code = code_by (Peering × Map Limit) (coded× peering_code returned_row.the_row.coded) (λ s. (s.peering, s.returned)) (λ p. record { peering = p.0; returned = p.1 }) (λ _. refl)

abbrev pub fresh : Sparing
fresh = record { peering = peer.fresh; returned = finite.empty }

-- ---- what comes from the peer

-- What came: the state after it, what the peer is told, and what the vat hears, in order.
pub record Coming : Type 0 where
  pub state : Sparing
  pub besides : Besides
  pub heard : List Message

abbrev pub with_peering : Sparing → peer.Coming → Coming
with_peering s c = record { state = record s { peering = c.state }; besides = c.besides; heard = c.heard }

abbrev pub passed_by : Sparing → Result peer.Coming PeerFault → Result Coming PeerFault
passed_by s (Ok c) = Ok (with_peering s c)
passed_by s (Err f) = Err f

-- The Return of a Call that breaks a limit. The vat has seen none of its descriptors, so all that they gave goes back.
abbrev pub failed : QuestionId → Limit → Message
failed q l = message.Plain (plain.Return (record { answer = q; release_param_caps = true; body = body.Exception (exception_of l) }))

-- The peer is told that, and nothing else.
abbrev pub told_alone : Message → Besides
told_alone m = Tells (record { given_back = []; said = Some (said.Message m) })

abbrev pub fails_by : Sparing → QuestionId → Limit → Result peer.Coming PeerFault → Result Coming PeerFault
fails_by s q l (Ok c) = Ok (record { state = record s { peering = c.state }; besides = told_alone (failed q l); heard = [] })
fails_by s q l (Err f) = Err f

-- A Call: its question is refused as one for which there is no room, and the peer is told which limit it breaks.
abbrev pub fails : Tables → Sparing → QuestionId → Limit → Result Coming PeerFault
fails t s q l = fails_by s q l (peer.comes (record t { is_full = true }) s.peering (profile (message.Plain (plain.Bootstrap q))))

-- What the vat hears of a Return that breaks a limit. Its flag is that which came.
abbrev pub ending : QuestionId → Bool → Limit → PlainMessage
ending q flag l = plain.Return (record { answer = q; release_param_caps = flag; body = body.Exception (exception_of l) })

-- a Finish that gives back all that came with the Return
abbrev pub giving_plain : PlainMessage → PlainMessage
giving_plain (plain.Finish f) = plain.Finish (record f { release_result_caps = true })
giving_plain m = m

abbrev pub giving_message : Message → Message
giving_message (message.Plain m) = message.Plain (giving_plain m)
giving_message (message.Unimplemented m) = message.Unimplemented m

abbrev pub giving : Option Said → Option Said
giving None = None
giving (Some (said.Message m)) = Some (said.Message (giving_message m))
giving (Some (said.SentElsewhere s)) = Some (said.SentElsewhere s)

abbrev pub giving_besides : Besides → Besides
giving_besides (Tells told) = Tells (record told { said = giving told.said })
giving_besides (Keeps original) = Keeps original

-- The question's Finish is to give all back, if it did not go.
abbrev pub returned_by : Bool → Map Limit → QuestionId → Limit → Map Limit
returned_by true m q l = m
returned_by false m q l = finite.insert m q.0 l

abbrev pub ends_by : Bool → Sparing → QuestionId → Limit → Result peer.Coming PeerFault → Result Coming PeerFault
ends_by went s q l (Ok c) = Ok (record { state = record { peering = c.state; returned = returned_by went s.returned q l }; besides = giving_besides c.besides; heard = c.heard })
ends_by went s q l (Err f) = Err f

-- A Return: the vat hears that its call failed. A Finish that was held back goes behind it.
abbrev pub ends : Tables → Sparing → QuestionId → Bool → Limit → Result Coming PeerFault
ends t s q flag l = ends_by (t.finished q) s q l (peer.comes t s.peering (profile (message.Plain (ending q flag l))))

abbrev pub spares : Tables → Sparing → Large → Limit → Result Coming PeerFault
spares t s (large.Call q) l = fails t s q l
spares t s (large.Return q flag) l = ends t s q flag l

-- What a frame says comes to a vat with these tables.
abbrev pub comes : Tables → Sparing → Came → Result Coming PeerFault
comes t s (envelope w) = passed_by s (peer.comes t s.peering w)
comes t s (spared x l) = spares t s x l

-- ---- what goes to the peer

-- What a message of the vat comes to: the state after it, what the peer is told, and what the vat hears, in order.
pub record Going : Type 0 where
  pub state : Sparing
  pub told : Told
  pub heard : List Message

abbrev pub with_going : Map Limit → peer.Going → Going
with_going m g = record { state = record { peering = g.state; returned = m }; told = g.told; heard = g.heard }

abbrev pub passes : Sparing → Message → Going
passes s m = with_going s.returned (peer.goes s.peering m)

-- A Finish goes: of a question whose Return broke a limit it gives all back.
abbrev pub finishes : Sparing → Finish → Bool → Going
finishes s f true = with_going (finite.remove s.returned f.question.0) (peer.goes s.peering (message.Plain (giving_plain (plain.Finish f))))
finishes s f false = passes s (message.Plain (plain.Finish f))

abbrev pub goes_plain : Sparing → PlainMessage → Going
goes_plain s (plain.Finish f) = finishes s f (finite.contains_key s.returned f.question.0)
goes_plain s m = passes s (message.Plain m)

-- A message of the vat goes.
abbrev pub goes : Sparing → Message → Going
goes s (message.Plain m) = goes_plain s m
goes s (message.Unimplemented m) = passes s (message.Unimplemented m)

-- ---- what the functions answer

abbrev pub seen_inbound : Sparing → Inbound → Coming
seen_inbound new i = record { state = new; besides = seen_aside i.aside; heard = messages_in i.heard }

abbrev pub seen_outbound : Sparing → Outbound → Going
seen_outbound new o = record { state = new; told = o.told; heard = messages_in o.heard }

-- Something came: this is what it comes to; or it is at fault, or memory is wanting, and the adapter serves no longer.
abbrev pub Comes : Result Coming PeerFault → Result Inbound PeerError → Sparing → Type 0
Comes coming (Ok i) new = coming ≡ Ok (seen_inbound new i)
Comes coming (Err error.Memory) new = Unit {0}
Comes coming (Err (error.Fault f)) new = coming ≡ Err f

-- A message went: this is what it comes to; or memory is wanting, and the adapter is as it was.
abbrev pub Goes : Sparing → Going → Result Outbound Memory → Sparing → Type 0
Goes old going (Ok o) new = going ≡ seen_outbound new o
Goes old going (Err e) new = new ≡ old
