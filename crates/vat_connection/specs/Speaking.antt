-- A vat with the bytes that it says: it hears frames, and what it says goes out as frames. Between its messages and what goes over
-- the wire stands an adapter (docs/messages.md, "Peers of other make").
use Rattle.std.specs.Prelude.{◌≡◌, ℕ, zero, suc, ◌/◌, Bool, true, false, List, [], ◌∷◌, length, Option, Some, None, Result, Ok, Err, ◌⊎◌, refl}
use Rattle.std.specs.Coded.{Coded, code_by, coded×}
use Rattle.std.specs.FinMap as map
use Rattle.rpc_msg.specs.Vats.{other_vat}
use Rattle.rpc_msg.specs.declared.ids.Stamp.{Stamp}
use Rattle.rpc_msg.specs.declared.message.Message.{Message}
use Rattle.rpc_codec_parts.specs.Numbers.{number_of}
use Rattle.rpc_codec.specs.Decoding as codec
use Rattle.capn_fronts.specs.Parts.{Part}
use Rattle.peer_large.specs.Opening.{Came, came_at, came_in}
use Rattle.rpc_msg.specs.declared.ids.ExportId.{ExportId}
use Rattle.peer_finishes.specs.declared.held.Finishes.{Finishes}
use Rattle.peer_kinds.specs.Standings.{standings_in}
use Rattle.peer_tail_calls.specs.declared.heard.Said.{Said}
use Rattle.peer_tail_calls.specs.declared.heard.Said.TheVariants as said
use Rattle.peer_tail_calls.specs.Nulling.{IsLaidOut}
use Rattle.peer_adapter.specs.declared.errors.PeerFault.{PeerFault}
use Rattle.peer_adapter.specs.declared.told.Told.{Told}
use Rattle.peer_adapter.specs.Numbers.{number_of as number_of_peer}
use Rattle.peer_adapter.specs.Peering.{Tables, Besides, release_of}
use Rattle.peer_adapter.specs.Peering.Besides.{Tells, Keeps}
use Rattle.peer_large.specs.Sparing.{Sparing, Coming, Going, sparing_code, comes, goes}
use Rattle.rpc_machine.specs.declared.command.Effects.{Effects}
use Rattle.rpc_machine.specs.Down.{ShutsFrom}
use Rattle.rpc_machine.specs.Fullness.{has_no_room}
use Rattle.rpc_machine.specs.State.{State}
use Rattle.vat_core.specs.Foreseen.{is_broken, is_finished}
use Rattle.vat_host.specs.Hosting.{Hosted, Hears, hosted_code, is_abort, stepped}
use Rattle.vat_connection.specs.Load.{Intake, held_words, intake_code, with_frame, without_call}
use Rattle.rpc_outgoing.specs.contracts.outgoing.Outgoing as outgoing_row
use Rattle.rpc_outgoing.specs.Outflows.{Outflow, Kept, Put, PutElsewhere}

-- A vat with what its steps left to do; the bytes that go out, with the frames that are kept; its adapter; and what it has heard.
pub record Speaking : Type 0 where
  pub host : Hosted
  pub out : Outflow
  pub adapter : Sparing
  pub heard : Intake

abbrev pub speaking_code : Coded Speaking
speaking_code =
    code_by (Hosted × (Outflow × (Sparing × Intake)))
    (coded× hosted_code (coded× outgoing_row.the_row.coded (coded× sparing_code intake_code)))
    (λ s. (s.host, (s.out, (s.adapter, s.heard))))
    (λ p. record { host = p.0; out = p.1.0; adapter = p.1.1.0; heard = p.1.1.1 })
    (λ _. refl)

-- From now on the Finish of a question that it asks goes then.
abbrev pub finishing : Speaking → Finishes → Speaking
finishing s f = record s { adapter = record (s.adapter) { peering = record (s.adapter.peering) { finishes = record (s.adapter.peering.finishes) { finishes = f } } } }

-- the number with which a vat goes down that finds no room, or no memory
abbrev pub want_of_room : ℕ
want_of_room = 33

-- The vat goes down with that number, if it is up, and its Abort is to be sent.
abbrev pub Shuts : Hosted → ℕ → Hosted → Type 0
Shuts old n new = (effects : Effects) × ShutsFrom old.core n old.core.down effects new.core × (new ≡ stepped old effects new.core)

abbrev pub Falls : Speaking → ℕ → Speaking → Type 0
Falls old n new = Shuts old.host n new.host × (new ≡ record old { host = new.host })

-- The vat goes down with that number, whatever its adapter took and whatever was counted. Neither is asked any more.
abbrev pub Fails : Speaking → ℕ → Speaking → Type 0
Fails old n new = (adapter : Sparing) × (heard : Intake) × Falls (record old { adapter = adapter; heard = heard }) n new

-- Memory is wanting, or room.
abbrev pub Lacks : Speaking → Speaking → Type 0
Lacks old new = Fails old want_of_room new

-- The vat hears these messages, in order.
abbrev pub HearsAll : Hosted → List Message → Hosted → Type 0
HearsAll old [] new = new ≡ old
HearsAll old (m ∷ ms) new = (mid : Hosted) × Hears old m mid × HearsAll mid ms new

-- ---- what it says

abbrev pub without : Hosted → List Message → Hosted
without host ms = record host { messages = ms }

-- The frame of a message goes out, or does not.
abbrev pub Goes : Bool → Outflow → Message → Outflow → Type 0
Goes true old m new = Put old m new
Goes false old m new = new ≡ old

abbrev pub PassesOne : Bool → Outflow → Message → Outflow → Type 0
PassesOne true old m new = (goes : Bool) × Goes goes old m new
PassesOne false old m new = new ≡ old

-- None of these messages goes out but an Abort, if memory suffices for it.
abbrev pub PassesAll : Outflow → List Message → Outflow → Type 0
PassesAll old [] new = new ≡ old
PassesAll old (m ∷ ms) new = (mid : Outflow) × PassesOne (is_abort m) old m mid × PassesAll mid ms new

abbrev pub Passes : Speaking → Speaking → Type 0
Passes old new = PassesAll old.out old.host.messages new.out × (new ≡ record old { host = without old.host []; out = new.out })

-- A message is taken up, and these are still to be said. A Return that is taken up ends the load of its Call.
abbrev pub saying : Speaking → Message → List Message → Speaking
saying old m ms = record old { host = without old.host ms; heard = without_call m old.heard }

-- A message has no frame, or memory is wanting for it: the vat goes down with 33, if it is up, and of what is still to be said
-- nothing but an Abort goes out.
abbrev pub Breaks : Speaking → Speaking → Type 0
Breaks old new = (mid : Speaking) × Lacks old mid × Passes mid new

-- what the adapter has said to the peer, if anything
abbrev pub Sends : Outflow → Option Said → Outflow → Type 0
Sends old None new = new ≡ old
Sends old (Some (said.Message m)) new = Put old m new
Sends old (Some (said.SentElsewhere s)) new = PutElsewhere old s new

-- one of each of these exports is given back to the peer, in order
abbrev pub GivesBack : Outflow → List ExportId → Outflow → Type 0
GivesBack old [] new = new ≡ old
GivesBack old (e ∷ es) new = (mid : Outflow) × Put old (release_of e) mid × GivesBack mid es new

-- what the adapter has the peer told
abbrev pub IsTold : Outflow → Told → Outflow → Type 0
IsTold old told new = (mid : Outflow) × GivesBack old told.given_back mid × Sends mid told.said new

-- The adapter says what a message of the vat comes to: the peer is told that, and the vat hears what it is to hear then.
abbrev pub Turns : Speaking → Going → Speaking → Type 0
Turns old going new =
    (out : Outflow) × IsTold old.out going.told out
    × ((host : Hosted) × HearsAll old.host going.heard host × (new ≡ record old { host = host; out = out; adapter = going.state }))

-- All that a vat has to say goes out, the oldest message first, and then what it has to say of what it heard of that; to the first
-- message that breaks it off.
pub data SaysTo (new : Speaking) : Speaking → Type 0 where
  Nothing : {s : Speaking} → s.host.messages ≡ [] → new ≡ s → SaysTo new s
  Oldest : {s mid : Speaking} (m : Message) (ms : List Message) → s.host.messages ≡ m ∷ ms → IsLaidOut m → Turns (saying s m ms) (goes s.adapter m) mid → SaysTo new mid → SaysTo new s
  Broken : {s : Speaking} (m : Message) (ms : List Message) → s.host.messages ≡ m ∷ ms → Breaks (saying s m ms) new → SaysTo new s

abbrev pub Says : Speaking → Speaking → Type 0
Says old new = SaysTo new old

-- The bytes are handed out.
abbrev pub given : Speaking → Speaking
given s = record s { out = record (s.out) { bytes = [] } }

-- ---- what it hears

-- the stamp of a Call in the next frame: the peer, and how many frames were heard before
abbrev pub stamp_of : Speaking → Stamp
stamp_of s = record { vat = other_vat s.host.core.vat; reference = record { 0 = s.heard.frames }; index = 0 }

-- what the adapter is told of a core's tables
abbrev pub tables_of : State → Tables
tables_of s = record {
  is_full = has_no_room s.answers;
  standing = standings_in s;
  broken = λ e. is_broken (map.get s.imports e.0);
  finished = λ q. is_finished (map.get s.questions q.0);
}

-- The peer is told something, or what is not understood is kept to go back.
abbrev pub IsAside : Outflow → Besides → Outflow → Type 0
IsAside old (Tells told) new = IsTold old told new
IsAside old (Keeps original) new = Kept old (Some original) new

-- The adapter says what a frame comes to of which so many words are held: the peer is told that, or it is kept to go back, and the
-- vat hears what it is to hear; a fault takes the vat down with its number.
abbrev pub HearsComing : Speaking → ℕ → Result Coming PeerFault → Speaking → Type 0
HearsComing old words (Ok c) new =
    (out : Outflow) × IsAside old.out c.besides out
    × ((host : Hosted) × HearsAll old.host c.heard host × (new ≡ record { host = host; out = out; adapter = c.state; heard = with_frame c.heard words old.heard }))
HearsComing old words (Err f) new = Fails old (number_of_peer f) new

-- A frame of which so many words are kept says this; a fault takes the vat down with its number.
abbrev pub HearsCame : Speaking → ℕ → codec.Came Came → Speaking → Type 0
HearsCame old words (Ok w) new = HearsComing old (held_words words w) (comes (tables_of old.host.core) old.adapter w) new
HearsCame old words (Err f) new = Falls old (number_of f) new

-- the words that are kept of a frame
abbrev pub words_in : Part → ℕ
words_in frame = length frame.kept / 8

abbrev pub came_by : ℕ → Stamp → List ℕ → codec.Came Came
came_by zero stamp bytes = came_at stamp bytes
came_by (suc n) stamp bytes = came_in bytes

-- what a frame says of which this is kept
abbrev pub came_of : Stamp → Part → codec.Came Came
came_of stamp frame = came_by frame.dropped stamp frame.kept

-- A frame is heard; or memory is wanting for it, and the vat goes down.
abbrev pub HearsUp : Speaking → Part → Speaking → Type 0
HearsUp old frame new = HearsCame old (words_in frame) (came_of (stamp_of old) frame) new ⊎ Lacks old new
