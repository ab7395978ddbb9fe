-- What the world's code keeps, as what it is seen as, and the room that it keeps so that two vats can go down.
use Rattle.std.specs.Prelude.{◌≡◌, ◌<◌, ◌≤◌, ◌+◌, ℕ, true, Option, None, Some, List}
use Rattle.rpc_journal.specs.declared.entry.JournalEntry.{JournalEntry}
use Rattle.rpc_machine.specs.World.{Side}
use Rattle.vat_world.specs.declared.side.Side as kept
use Rattle.vat_world.specs.Stages.{Stage}
use Rattle.vat_world.specs.World.{Seen}

abbrev pub side_of : kept.Side → Side
side_of s = record { core = s.core; inbox = s.inbox.0 }

abbrev pub stage_of : kept.Side → kept.Side → List JournalEntry × ℕ → Stage
stage_of s peer journal = record { acting = side_of s; peer = side_of peer; journal = journal.0 }

-- The entries that a vat which is up may need to go down: its own or got, sent, and down.
abbrev pub owed : Option ℕ → ℕ
owed None = 3
owed (Some n) = 0

-- The room for a vat's Abort: a place on the link to its peer, and the memory of the journal's copy.
abbrev pub CanAbort : kept.Side → kept.Side → Type 0
CanAbort s peer = (0 < peer.inbox.1) × (s.spare.can_abort ≡ true)

abbrev pub CanFallBy : Option ℕ → kept.Side → kept.Side → Type 0
CanFallBy None s peer = CanAbort s peer
CanFallBy (Some n) s peer = Unit {0}

abbrev pub CanFall : kept.Side → kept.Side → Type 0
CanFall s peer = CanFallBy s.core.down s peer

-- Both vats can go down, and the journal has room for both.
pub record HasRoom (s peer : kept.Side) (journal : List JournalEntry × ℕ) : Type 0 where
  pub acting : CanFall s peer
  pub other : CanFall peer s
  pub entries : owed s.core.down + owed peer.core.down ≤ journal.1

-- The same while a vat takes its step, which was up before it, and wrote an entry of its own.
pub record IsReady (s peer : kept.Side) (journal : List JournalEntry × ℕ) : Type 0 where
  pub acting : CanAbort s peer
  pub other : CanFall peer s
  pub entries : 2 + owed peer.core.down ≤ journal.1

-- What contracts see of it all.
abbrev pub seen_of : kept.Side → kept.Side → List JournalEntry × ℕ → Seen
seen_of a b journal = record { world = record { a = side_of a; b = side_of b }; journal = journal.0; shut_a = a.was_shut; shut_b = b.was_shut }

-- Of the room that is kept for both to go down nothing is lost.
abbrev pub KeepsRoom : ℕ → ℕ → Type 0
KeepsRoom old new = (k : ℕ) → k ≤ 6 → k ≤ old → k ≤ new
