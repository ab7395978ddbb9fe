-- What stands between a peer of another make and a vat (docs/messages.md, "Peers of other make"): first a call more than the vat may
-- answer is refused; then each export is named in one kind; then what names a broken promise again names nothing; then tail calls
-- become calls. A Finish goes out behind its Return, where that is asked for.
use Rattle.std.specs.Prelude.{◌≡◌, Bool, true, List, [], Option, Some, None, Result, Ok, Err, option_to_list, refl}
use Rattle.std.specs.Coded.{Coded, code_by, coded×}
use Rattle.capn_trees.specs.Trees.{Tree}
use Rattle.capn_trees.specs.Views.{view}
use Rattle.rpc_msg.specs.Memory.{Memory}
use Rattle.rpc_msg.specs.declared.ids.ExportId.{ExportId}
use Rattle.rpc_msg.specs.declared.ids.QuestionId.{QuestionId}
use Rattle.rpc_msg.specs.declared.message.Finish.{Finish}
use Rattle.rpc_msg.specs.declared.message.Message.{Message}
use Rattle.rpc_msg.specs.declared.message.Message.TheVariants as message
use Rattle.rpc_msg.specs.declared.message.PlainMessage.{PlainMessage}
use Rattle.rpc_msg.specs.declared.message.PlainMessage.TheVariants as plain
use Rattle.rpc_codec.specs.Envelopes.{What}
use Rattle.peer_overload.specs.declared.admission.Admission.{Admission}
use Rattle.peer_overload.specs.declared.admission.Admission.TheVariants as admission
use Rattle.peer_overload.specs.declared.errors.OverloadFault.{OverloadFault}
use Rattle.peer_overload.specs.Overloading.{Overloading, Outcome, admitted, refused, refused_tail, nothing, overloaded}
use Rattle.peer_overload.specs.contracts.overload.Overload as overload_row
use Rattle.peer_overload.specs.Overloading as overload
use Rattle.peer_kinds.specs.Kinds.{Standings}
use Rattle.peer_kinds.specs.Kinds as kinds
use Rattle.peer_broken.specs.Naming.{Naming, naming_code, nothing_owed}
use Rattle.peer_broken.specs.Naming as names
use Rattle.peer_tail_calls.specs.declared.errors.AdapterFault.{AdapterFault}
use Rattle.peer_tail_calls.specs.declared.heard.Said.{Said}
use Rattle.peer_tail_calls.specs.declared.heard.Said.TheVariants as said
use Rattle.peer_tail_calls.specs.Adapting.{Adapting, adapting_code, messages_in}
use Rattle.peer_tail_calls.specs.Adapting as tails
use Rattle.peer_finishes.specs.Finishing.{Finishing, finishing_code}
use Rattle.peer_finishes.specs.Finishing as finishes
use Rattle.peer_finishes.specs.Laws.{asked_by}
use Rattle.peer_adapter.specs.declared.errors.PeerFault.{PeerFault}
use Rattle.peer_adapter.specs.declared.errors.PeerFault.TheVariants as fault
use Rattle.peer_adapter.specs.declared.errors.PeerError.{PeerError}
use Rattle.peer_adapter.specs.declared.errors.PeerError.TheVariants as error
use Rattle.peer_adapter.specs.declared.role.Role.{Role}
use Rattle.peer_adapter.specs.declared.role.Role.TheVariants as role
use Rattle.peer_adapter.specs.declared.told.Told.{Told}
use Rattle.peer_adapter.specs.declared.told.Aside.{Aside}
use Rattle.peer_adapter.specs.declared.told.Aside.TheVariants as aside
use Rattle.peer_adapter.specs.declared.told.Inbound.{Inbound}
use Rattle.peer_adapter.specs.declared.told.Outbound.{Outbound}

-- The peer's questions that were refused; what is owed to it for names of broken promises; its tail calls; and the Finishes that are
-- held back.
pub record Peering : Type 0 where
  pub overload : Overloading
  pub names : Naming
  pub tails : Adapting
  pub finishes : Finishing

abbrev pub peering_code : Coded Peering
peering_code =
    code_by (Overloading × (Naming × (Adapting × Finishing)))
    (coded× overload_row.the_row.coded (coded× naming_code (coded× adapting_code finishing_code)))
    (λ s. (s.overload, (s.names, (s.tails, s.finishes))))
    (λ p. record { overload = p.0; names = p.1.0; tails = p.1.1.0; finishes = p.1.1.1 })
    (λ _. refl)

abbrev pub fresh : Peering
fresh = record { overload = overload.fresh; names = nothing_owed; tails = tails.fresh; finishes = finishes.fresh }

-- one of an export is given back
abbrev pub release_of : ExportId → Message
release_of e = message.Plain (plain.Release (record { export = e; count = 1 }))

-- ---- what comes from the peer

-- What the vat says of its tables: whether it has as many answers as it may have, how the exports of the peer stand that it has as
-- imports, which of them are promises that a Resolve has said to be broken, and of which of its questions the Finish was sent.
pub record Tables : Type 0 where
  pub is_full : Bool
  pub standing : Standings
  pub broken : ExportId → Bool
  pub finished : QuestionId → Bool

-- beside what the vat hears
pub data Besides : Type 0 where
  -- the peer is told that at once
  Tells : Told → Besides
  -- it is not understood, and kept to go back
  Keeps : Tree → Besides

-- What an envelope comes to: the state after it, what the peer is told, and what the vat hears, in order.
pub record Coming : Type 0 where
  pub state : Peering
  pub besides : Besides
  pub heard : List Message

-- The peer is told that, and the vat hears nothing.
abbrev pub tells : Peering → Said → Coming
tells s said = record { state = s; besides = Tells (record { given_back = []; said = Some said }); heard = [] }

-- what is kept, or else the peer is told that one of each of these is given back
abbrev pub besides_of : List ExportId → Option Tree → Besides
besides_of es None = Tells (record { given_back = es; said = None })
besides_of es (Some original) = Keeps original

abbrev pub heard_by : Peering → List ExportId → Result tails.Coming AdapterFault → Result Coming PeerFault
heard_by s es (Ok c) = Ok (record { state = record s { tails = c.state }; besides = besides_of es c.unknown; heard = c.heard })
heard_by s es (Err f) = Err (fault.Tail f)

-- It is named, and then heard.
abbrev pub names_by : Peering → names.Coming → Result Coming PeerFault
names_by s c = heard_by (record s { names = c.state }) c.given_back (tails.comes s.tails c.came)

-- It is heard in the kinds of the first names, or it is set aside.
abbrev pub kinds_by : Tables → Peering → kinds.Outcome → Result Coming PeerFault
kinds_by t s (kinds.heard w) = names_by s (names.comes t.broken t.finished s.names w)
kinds_by t s (kinds.set_aside given) = Ok (record { state = s; besides = Tells (record { given_back = option_to_list given; said = None }); heard = [] })

abbrev pub admits : Tables → Peering → Outcome → Result Coming PeerFault
admits t s (admitted w) = kinds_by t s (kinds.comes t.standing w)
admits t s (refused q) = Ok (tells s (said.Message (overloaded q)))
admits t s (refused_tail q) = Ok (tells s (said.SentElsewhere (record { answer = q; release_param_caps = true })))
admits t s nothing = Ok (record { state = s; besides = Tells (record { given_back = []; said = None }); heard = [] })

abbrev pub admits_by : Tables → Peering → Result overload.Coming OverloadFault → Result Coming PeerFault
admits_by t s (Ok c) = admits t (record s { overload = c.state }) c.outcome
admits_by t s (Err f) = Err (fault.Overload f)

abbrev pub hears : Tables → Peering → What → Result Coming PeerFault
hears t s w = admits_by t s (overload.comes s.overload t.is_full w)

-- A Finish that was held back goes behind what comes. What is not understood is the end of no question.
abbrev pub besides_with : Option Finish → Besides → Besides
besides_with None b = b
besides_with (Some f) (Tells told) = Tells (record told { said = Some (said.Message (message.Plain (plain.Finish f))) })
besides_with (Some f) (Keeps original) = Keeps original

abbrev pub finished_by : Option Finish → Result Coming PeerFault → Result Coming PeerFault
finished_by f (Ok c) = Ok (record c { besides = besides_with f c.besides })
finished_by f (Err e) = Err e

abbrev pub comes_by : Tables → Peering → What → finishes.Coming → Result Coming PeerFault
comes_by t s w c = finished_by c.told (hears t (record s { finishes = c.state }) w)

-- An envelope comes to a vat with these tables.
abbrev pub comes : Tables → Peering → What → Result Coming PeerFault
comes t s w = comes_by t s w (finishes.comes s.finishes w)

-- ---- what goes to the peer

-- What a message of the vat comes to: the state after it, what the peer is told, and what the vat hears, in order.
pub record Going : Type 0 where
  pub state : Peering
  pub told : Told
  pub heard : List Message

-- nothing is due with it
abbrev pub owes_still : Naming → names.Going
owes_still s = record { state = s; by_flag = []; by_release = [] }

-- What is owed for names is due with a Return and with a Finish.
abbrev pub gives_plain : Naming → PlainMessage → names.Going
gives_plain s (plain.Return r) = names.returns s r.answer r.release_param_caps
gives_plain s (plain.Finish f) = names.finishes s f.question f.release_result_caps
gives_plain s m = owes_still s

abbrev pub gives_message : Naming → Message → names.Going
gives_message s (message.Plain m) = gives_plain s m
gives_message s (message.Unimplemented m) = owes_still s

abbrev pub gives : Naming → Option Said → names.Going
gives s None = owes_still s
gives s (Some (said.Message m)) = gives_message s m
gives s (Some (said.SentElsewhere x)) = names.returns s x.answer x.release_param_caps

abbrev pub gives_with : Peering → tails.Going → names.Going → Going
gives_with s g due = record {
  state = record s { names = due.state; tails = g.state };
  told = record { given_back = due.by_release; said = g.said };
  heard = g.heard;
}

abbrev pub says_by : Peering → tails.Going → Going
says_by s g = gives_with s g (gives s.names g.said)

-- A message is said, if any is.
abbrev pub passes : Peering → Option Message → Going
passes s None = record { state = s; told = record { given_back = []; said = None }; heard = [] }
passes s (Some m) = says_by s (tails.goes s.tails m)

abbrev pub goes_by : Peering → finishes.Going → Going
goes_by s g = passes (record s { finishes = g.state }) g.said

-- A message of the vat goes.
abbrev pub goes : Peering → Message → Going
goes s m = goes_by s (finishes.goes s.finishes m)

-- ---- what the functions answer

abbrev pub seen_aside : Aside → Besides
seen_aside (aside.Told told) = Tells told
seen_aside (aside.Unknown original) = Keeps (view original)

abbrev pub seen_inbound : Peering → Inbound → Coming
seen_inbound new i = record { state = new; besides = seen_aside i.aside; heard = messages_in i.heard }

abbrev pub seen_outbound : Peering → Outbound → Going
seen_outbound new o = record { state = new; told = o.told; heard = messages_in o.heard }

-- A message has that part in a question of the vat.
abbrev pub IsRole : Message → Role → Type 0
IsRole m (role.Asks q) = asked_by m ≡ Some q
IsRole m (role.Finishes f) = m ≡ message.Plain (plain.Finish f)
IsRole m role.Other = (s : Finishing) → finishes.goes s m ≡ record { state = s; said = Some m }

-- The vat does not hear of it.
abbrev pub IsRefused : Admission → Type 0
IsRefused (admission.Admitted e) = ⊥
IsRefused (admission.Refused q) = Unit {0}
IsRefused (admission.RefusedTail q) = Unit {0}
IsRefused admission.Nothing = Unit {0}

-- What is due with what goes is taken, and this is to be given back by Releases.
abbrev pub GivesBack : Peering → names.Going → List ExportId → Peering → Type 0
GivesBack old due es new = (new ≡ record old { names = due.state }) × (es ≡ due.by_release)

-- An envelope came: this is what it comes to; or it is at fault, or memory is wanting, and the adapter serves no longer.
abbrev pub Comes : Result Coming PeerFault → Result Inbound PeerError → Peering → Type 0
Comes coming (Ok i) new = coming ≡ Ok (seen_inbound new i)
Comes coming (Err error.Memory) new = Unit {0}
Comes coming (Err (error.Fault f)) new = coming ≡ Err f

-- A message went: this is what it comes to; or memory is wanting, and the adapter is as it was.
abbrev pub Goes : Peering → Going → Result Outbound Memory → Peering → Type 0
Goes old going (Ok o) new = going ≡ seen_outbound new o
Goes old going (Err e) new = new ≡ old
