-- The adapter stands aside between two vats.
use Rattle.std.proofs.Common.{◌≡◌, Bool, true, false, [], ◌∷◌, None, Result, Ok, Err, refl, ap, ◌∙◌}
use Rattle.std.specs.FinMap as finite
use Rattle.rpc_msg.specs.declared.message.PlainMessage.{PlainMessage}
use Rattle.rpc_msg.specs.declared.message.PlainMessage.TheVariants as plain
use Rattle.rpc_msg.specs.declared.message.Message.{Message}
use Rattle.rpc_msg.specs.declared.message.Message.TheVariants as message
use Rattle.rpc_machine.specs.Fullness.{has_no_room}
use Rattle.rpc_machine.specs.State.{State}
use Rattle.rpc_codec.specs.Envelopes.{What, profile}
use Rattle.peer_overload.specs.declared.errors.OverloadFault.{OverloadFault}
use Rattle.peer_overload.specs.Overloading.{Outcome, Overloading, admitted, nothing, refused, refused_tail}
use Rattle.peer_overload.specs.Overloading as overload
use Rattle.peer_kinds.specs.Kinds as kinds
use Rattle.peer_kinds.specs.Laws.{NamesAlike}
use Rattle.peer_broken.specs.Naming.{names_of}
use Rattle.peer_finishes.specs.Finishing as finishes
use Rattle.peer_tail_calls.specs.Laws.{told_of}
use Rattle.peer_adapter.specs.declared.errors.PeerFault.{PeerFault}
use Rattle.peer_adapter.specs.Laws.{StandsAside}
use Rattle.peer_adapter.specs.Peering.{Coming, Peering, Tables, admits, admits_by, comes, finished_by, hears, kinds_by}
use Rattle.peer_adapter.specs.Peering as peer
use Rattle.peer_adapter.specs.Peering.Besides.{Tells}
use Rattle.peer_large.specs.Laws.{StandsAside as SparesNothing}
use Rattle.peer_large.specs.Opening.{envelope}
use Rattle.peer_large.specs.Sparing as large
use Rattle.peer_large.specs.Sparing.{Going, Sparing, fresh, goes, passed_by, with_going}
use Rattle.vat_host.specs.Hosting.{is_abort}
use Rattle.vat_connection.specs.Speaking.{tables_of}
use Rattle.laws_read_back.specs.ReadBack.{FramesReadBack}

-- The laws of the adapters, and of the frames of what the peer is told.
pub record StandAside : Type 0 where
  pub adapter : StandsAside
  pub sparing : SparesNothing
  pub reads : FramesReadBack

-- A message that asks finds room for one answer more.
abbrev pub HasRoom : State → PlainMessage → Type 0
HasRoom s (plain.Abort e) = Unit {0}
HasRoom s (plain.Bootstrap q) = has_no_room s.answers ≡ false
HasRoom s (plain.Call c) = has_no_room s.answers ≡ false
HasRoom s (plain.Return r) = Unit {0}
HasRoom s (plain.Finish f) = Unit {0}
HasRoom s (plain.Resolve r) = Unit {0}
HasRoom s (plain.Release r) = Unit {0}
HasRoom s (plain.Disembargo d) = Unit {0}
HasRoom s (plain.Other n) = Unit {0}

-- ---- what comes

-- It is heard as it came.
abbrev pub as_it_came : Message → Result large.Coming PeerFault
as_it_came m = Ok (record { state = fresh; besides = Tells (record { given_back = []; said = None }); heard = m ∷ [] })

-- the tables of a vat that has room
abbrev free : Tables → Tables
free t = record t { is_full = false }

module _ (t : Tables) where
  kinds_same : (s : Peering) (o : kinds.Outcome) → kinds_by t s o ≡ kinds_by (free t) s o
  kinds_same s (kinds.heard w) = refl
  kinds_same s (kinds.set_aside given) = refl

  admits_same : (s : Peering) (o : Outcome) → admits t s o ≡ admits (free t) s o
  admits_same s (admitted w) = kinds_same s (kinds.comes t.standing w)
  admits_same s (refused q) = refl
  admits_same s (refused_tail q) = refl
  admits_same s nothing = refl

  by_same : (s : Peering) (c : Result overload.Coming OverloadFault) → admits_by t s c ≡ admits_by (free t) s c
  by_same s (Ok c) = admits_same (record s { overload = c.state }) c.outcome
  by_same s (Err f) = refl

  hears_same : (s : Peering) (w : What) → overload.comes s.overload t.is_full w ≡ overload.comes s.overload false w → hears t s w ≡ hears (free t) s w
  hears_same s w e = ap (λ (c : Result overload.Coming OverloadFault). admits_by t s c) e ∙ by_same s (overload.comes s.overload false w)

  comes_same : (s : Peering) (w : What) → overload.comes s.overload t.is_full w ≡ overload.comes s.overload false w → comes t s w ≡ comes (free t) s w
  comes_same s w e =
      let c = finishes.comes s.finishes w in
      ap (λ (r : Result Coming PeerFault). finished_by c.told r) (hears_same (record s { finishes = c.state }) w e)

-- Where there is room, or where nothing is asked, it is as if there were room.
room_same : (s : State) (o : Overloading) (p : PlainMessage) → HasRoom s p → overload.comes o (tables_of s).is_full (profile (message.Plain p)) ≡ overload.comes o false (profile (message.Plain p))
room_same s o (plain.Bootstrap q) room = ap (λ (b : Bool). overload.comes o b (profile (message.Plain (plain.Bootstrap q)))) room
room_same s o (plain.Call c) room = ap (λ (b : Bool). overload.comes o b (profile (message.Plain (plain.Call c)))) room
room_same s o (plain.Abort e) room = refl
room_same s o (plain.Return r) room = refl
room_same s o (plain.Finish f) room = refl
room_same s o (plain.Resolve r) room = refl
room_same s o (plain.Release r) room = refl
room_same s o (plain.Disembargo d) room = refl
room_same s o (plain.Other n) room = refl

pub heard_aside : StandAside → (s : State) (p : PlainMessage) → HasRoom s p → NamesAlike (tables_of s).standing (profile (message.Plain p)) → names_of (tables_of s).broken (profile (message.Plain p)) ≡ []
    → large.comes (tables_of s) fresh (envelope (profile (message.Plain p))) ≡ as_it_came (message.Plain p)
heard_aside aside s p room alike names =
    aside.sparing.comes (tables_of s) fresh (profile (message.Plain p))
    ∙ ap (passed_by fresh)
    (comes_same (tables_of s) peer.fresh (profile (message.Plain p)) (room_same s peer.fresh.overload p room) ∙ aside.adapter.heard (free (tables_of s)) (message.Plain p) refl alike names)

-- ---- what goes

abbrev pub aside_of : Sparing → Message → Going
aside_of s m = record { state = s; told = record { given_back = []; said = told_of m }; heard = [] }

pub said_aside : StandAside → (m : Message) → goes fresh m ≡ aside_of fresh m
said_aside aside m = aside.sparing.goes peer.fresh m ∙ ap (λ (g : peer.Going). with_going finite.empty g) (aside.adapter.said m)

-- So an Abort does, whatever the adapter keeps.
pub abort_aside : (s : Sparing) (m : Message) → is_abort m ≡ true → goes s m ≡ aside_of s m
abort_aside s (message.Plain (plain.Abort e)) h = refl
abort_aside s (message.Plain (plain.Bootstrap q)) h = cc
abort_aside s (message.Plain (plain.Call c)) h = cc
abort_aside s (message.Plain (plain.Return r)) h = cc
abort_aside s (message.Plain (plain.Finish f)) h = cc
abort_aside s (message.Plain (plain.Resolve r)) h = cc
abort_aside s (message.Plain (plain.Release r)) h = cc
abort_aside s (message.Plain (plain.Disembargo d)) h = cc
abort_aside s (message.Plain (plain.Other k)) h = cc
abort_aside s (message.Unimplemented m) h = cc
