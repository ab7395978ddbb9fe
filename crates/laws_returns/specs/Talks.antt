-- A vat talks with a peer of another make through its adapter, whatever the peer sends and the application commands.
use Rattle.std.specs.Prelude.{◌≡◌, ℕ, ◌+◌, ◌≤◌, Option, None, Result, Ok, List, [], ◌∷◌, ◌++◌}
use Rattle.rpc_msg.specs.declared.ids.Vat.{Vat}
use Rattle.rpc_msg.specs.declared.ids.ObjectId.{ObjectId}
use Rattle.rpc_msg.specs.declared.message.Message.{Message}
use Rattle.rpc_codec.specs.Envelopes.{What}
use Rattle.rpc_machine.specs.declared.command.Level.{Level}
use Rattle.rpc_machine.specs.declared.command.Command.{Command}
use Rattle.rpc_machine.specs.declared.command.Granted.{Granted}
use Rattle.rpc_machine.specs.declared.command.Refusal.{Refusal}
use Rattle.rpc_machine.specs.declared.command.Effects.{Effects}
use Rattle.rpc_machine.specs.State.{State, start}
use Rattle.rpc_machine.specs.Down.{fallen}
use Rattle.rpc_machine.specs.Steps.{Obeys, Receives}
use Rattle.peer_finishes.specs.declared.held.Finishes.{Finishes}
use Rattle.peer_adapter.specs.declared.told.Told.{Told}
use Rattle.peer_adapter.specs.Peering.{Besides, Coming, Peering, Tables, comes, fresh, goes}
use Rattle.laws_returns.specs.Counts.{returns_in}
use Rattle.laws_returns.specs.Steps.{Waits, open_in}
use Rattle.laws_returns.specs.Adapted.{asked_by, told_besides, told_by}

-- A vat, its adapter, and what the vat said that has not gone yet, the oldest first.
pub record Talk : Type 0 where
  pub core : State
  pub adapter : Peering
  pub unsaid : List Message

-- Between the adapter and the peer: an envelope came, and what the peer was told at once; or a message of the vat went, as what the
-- peer was told.
pub data Event : Type 0 where
  Came : What → Besides → Event
  Went : Told → Event

-- The vat hears these messages in order, and says those.
abbrev pub HearsAll : State → List Message → List Message → State → Type 0
HearsAll s [] said t = (said ≡ []) × (t ≡ s)
HearsAll s (m ∷ ms) said t = (x : Effects) × (mid : State) × (more : List Message) × Receives s m x mid × HearsAll mid ms more t × (said ≡ x.sends ++ more)

abbrev pub finishing : Peering → Finishes → Peering
finishing s f = record s { finishes = record (s.finishes) { finishes = f } }

-- A talk came to this, from a vat of any level that was new. The log has what was between adapter and peer, the latest first. The
-- adapter may find any tables. A fault, or want of memory or room, takes the vat down.
pub data Talks : Talk → List Event → Type 0 where
  New : (vat : Vat) (level : Level) (bootstrap : Option ObjectId) → Talks (record { core = start vat level bootstrap; adapter = fresh; unsaid = [] }) []
  Sets : {s : Talk} {log : List Event} (f : Finishes) → Talks s log → Talks (record s { adapter = finishing s.adapter f }) log
  Commanded : {s : Talk} {log : List Event} (c : Command) (answer : Result Granted Refusal) (x : Effects) (t : State) → Talks s log → Obeys s.core c answer x t
      → Talks (record s { core = t; unsaid = s.unsaid ++ x.sends }) log
  Hears : {s : Talk} {log : List Event} (tables : Tables) (w : What) (c : Coming) (said : List Message) (t : State) → Talks s log → comes tables s.adapter w ≡ Ok c → HearsAll s.core c.heard said t
      → Talks (record { core = t; adapter = c.state; unsaid = s.unsaid ++ said }) (Came w c.besides ∷ log)
  Says : {s : Talk} {log : List Event} (m : Message) (ms said : List Message) (t : State) → Talks s log → s.unsaid ≡ m ∷ ms → HearsAll s.core (goes s.adapter m).heard said t
      → Talks (record { core = t; adapter = (goes s.adapter m).state; unsaid = ms ++ said }) (Went (goes s.adapter m).told ∷ log)
  Fell : {s : Talk} {log : List Event} (n : ℕ) → Talks s log → Talks (record s { core = fallen s.core n }) log

-- How often the peer asked the question with that id, and how often it was told its Return.
abbrev pub asked : ℕ → List Event → ℕ
asked q [] = 0
asked q (Came w b ∷ log) = asked_by q w + asked q log
asked q (Went told ∷ log) = asked q log

abbrev pub told : ℕ → List Event → ℕ
told q [] = 0
told q (Came w b ∷ log) = told_besides q b + told q log
told q (Went g ∷ log) = told_by q g.said + told q log

-- What has no Return so far: it is among what is yet to go, or it is open.
abbrev pub left : ℕ → Talk → ℕ
left q s = returns_in q s.unsaid + open_in q s.core

pub record EachGetsOneReturn : Type 0 where
  -- no more Returns than questions
  pub at_most : (s : Talk) (log : List Event) → Talks s log → (q : ℕ) → told q log ≤ asked q log
  -- and while the vat is up no fewer, but for what is yet to go and what is open
  pub each : (s : Talk) (log : List Event) → Talks s log → s.core.down ≡ None → (q : ℕ) → asked q log ≡ told q log + left q s
  -- What is open waits: for its task, for a call that was sent on, or for a call that waits.
  pub waits : (s : Talk) (log : List Event) → Talks s log → (q : ℕ) → open_in q s.core ≡ 1 → Waits s.core q
