-- What the adapter below says, and what comes of it.
use Rattle.std.proofs.Common.{◌≡◌, Bool, true, [], Ok, Err, sym, ap, ◌∙◌}
use Rattle.finite_maps.specs.Tally.{Map}
use Rattle.rpc_msg.specs.declared.ids.QuestionId.{QuestionId}
use Rattle.rpc_msg.specs.declared.message.Message.{Message}
use Rattle.rpc_msg.specs.declared.message.Message.TheVariants as message
use Rattle.rpc_msg.specs.declared.message.PlainMessage.TheVariants as plain
use Rattle.rpc_codec.specs.Envelopes.{What, profile}
use Rattle.peer_tail_calls.specs.Adapting.{messages_in}
use Rattle.peer_tail_calls.specs.declared.heard.Heard.{Heard}
use Rattle.peer_tail_calls.specs.declared.heard.Heard.TheVariants as hearing
use Rattle.peer_adapter.specs.declared.errors.PeerError.{PeerError}
use Rattle.peer_adapter.specs.declared.errors.PeerError.TheVariants as error
use Rattle.peer_adapter.specs.declared.told.Inbound.{Inbound}
use Rattle.peer_adapter.specs.Peering.{Besides, Peering, Tables, seen_aside}
use Rattle.peer_adapter.specs.Peering.Besides.{Tells}
use Rattle.peer_adapter.specs.Peering as peer
use Rattle.peer_large.specs.declared.limit.Limit.{Limit}
use Rattle.peer_large.specs.Opening.{envelope}
use Rattle.peer_large.specs.Sparing.{Comes, Sparing, comes, ending, ends, ends_by, failed, fails, fails_by, giving_besides, passed_by, returned_by, seen_inbound, told_alone}

-- ---- what comes

pub passed_ok : (s : Sparing) (t : Tables) (w : What) (i : Inbound) (p : Peering) → peer.comes t s.peering w ≡ Ok (peer.seen_inbound p i)
    → comes t s (envelope w) ≡ Ok (seen_inbound (record { peering = p; returned = s.returned }) i)
passed_ok s t w i p e = ap (passed_by s) e

pub passed_err : (s : Sparing) (t : Tables) (w : What) (e : PeerError) (p : Peering) (new : Sparing) → peer.Comes (peer.comes t s.peering w) (Err e) p → Comes (comes t s (envelope w)) (Err e) new
passed_err s t w error.Memory p new is = tt
passed_err s t w (error.Fault f) p new is = ap (passed_by s) is

abbrev pub full : Tables → Tables
full t = record t { is_full = true }

abbrev pub asked : QuestionId → What
asked q = profile (message.Plain (plain.Bootstrap q))

pub fails_ok : (s : Sparing) (t : Tables) (q : QuestionId) (l : Limit) (p : Peering) (i r : Inbound) (m : Message) → peer.comes (full t) s.peering (asked q) ≡ Ok (peer.seen_inbound p i) → m ≡ failed q l
    → seen_aside r.aside ≡ told_alone m → r.heard ≡ hearing.Nothing
    → fails t s q l ≡ Ok (seen_inbound (record { peering = p; returned = s.returned }) r)
fails_ok s t q l p i r m e is aside heard =
    let new : Sparing = record { peering = p; returned = s.returned } in
    ap (fails_by s q l) e
    ∙ ap (λ (x : Message). Ok (record { state = new; besides = told_alone x; heard = [] })) (sym is)
    ∙ ap (λ (b : Besides). Ok (record { state = new; besides = b; heard = [] })) (sym aside)
    ∙ ap (λ (h : Heard). Ok (record { state = new; besides = seen_aside r.aside; heard = messages_in h })) (sym heard)

pub fails_err : (s : Sparing) (t : Tables) (q : QuestionId) (l : Limit) (e : PeerError) (p : Peering) (new : Sparing) → peer.Comes (peer.comes (full t) s.peering (asked q)) (Err e) p → Comes (fails t s q l) (Err e) new
fails_err s t q l error.Memory p new is = tt
fails_err s t q l (error.Fault f) p new is = ap (fails_by s q l) is

pub ends_ok : (s : Sparing) (t : Tables) (q : QuestionId) (flag : Bool) (l : Limit) (p : Peering) (i r : Inbound) (went : Bool) (m : Map Limit)
    → peer.comes t s.peering (profile (message.Plain (ending q flag l))) ≡ Ok (peer.seen_inbound p i) → went ≡ t.finished q → m ≡ returned_by went s.returned q l
    → seen_aside r.aside ≡ giving_besides (seen_aside i.aside) → r.heard ≡ i.heard
    → ends t s q flag l ≡ Ok (seen_inbound (record { peering = p; returned = m }) r)
ends_ok s t q flag l p i r went m e is kept aside heard =
    ap (ends_by (t.finished q) s q l) e
    ∙ ap (λ (b : Bool). Ok (record { state = record { peering = p; returned = returned_by b s.returned q l }; besides = giving_besides (seen_aside i.aside); heard = messages_in i.heard })) (sym is)
    ∙ ap (λ (x : Map Limit). Ok (record { state = record { peering = p; returned = x }; besides = giving_besides (seen_aside i.aside); heard = messages_in i.heard })) (sym kept)
    ∙ ap (λ (b : Besides). Ok (record { state = record { peering = p; returned = m }; besides = b; heard = messages_in i.heard })) (sym aside)
    ∙ ap (λ (h : Heard). Ok (record { state = record { peering = p; returned = m }; besides = seen_aside r.aside; heard = messages_in h })) (sym heard)

pub ends_err : (s : Sparing) (t : Tables) (q : QuestionId) (flag : Bool) (l : Limit) (e : PeerError) (p : Peering) (new : Sparing)
    → peer.Comes (peer.comes t s.peering (profile (message.Plain (ending q flag l)))) (Err e) p → Comes (ends t s q flag l) (Err e) new
ends_err s t q flag l error.Memory p new is = tt
ends_err s t q flag l (error.Fault f) p new is = ap (ends_by (t.finished q) s q l) is
