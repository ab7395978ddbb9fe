-- Journals that are not promised, each of what two vats with a wrong step would write.
use Rattle.std.specs.Prelude.{ℕ, Bool, false, None, List, [], ◌∷◌}
use Rattle.rpc_msg.specs.declared.ids.Vat.{Vat}
use Rattle.rpc_msg.specs.declared.ids.Vat.TheVariants.{A, B}
use Rattle.rpc_msg.specs.Payloads.{null_payload}
use Rattle.rpc_journal.specs.declared.report.Delivery.{Delivery}
use Rattle.rpc_journal.specs.declared.report.Outcome.TheVariants as outcome
use Rattle.rpc_journal.specs.declared.entry.Origin.TheVariants as origin
use Rattle.rpc_journal.specs.declared.entry.JournalEntry.{JournalEntry}
use Rattle.rpc_journal.specs.declared.entry.JournalEntry.TheVariants as entry
use Rattle.rpc_machine.specs.Claims.{EndsAreSo, IsInFull, IsInOrder, IsInTime, IsQuietWhenDown, IsToOne}
use Rattle.rpc_machine.specs.Numbers.{peer_abort}
use Rattle.rpc_machine.specs.Routing.{failed}
use Rattle.rpc_machine.specs.World.{World, new_world}
use Rattle.laws_sound.specs.Promised.{AreEachAtOne, DownsAreKnown, history_of}

-- A makes the call of that index through its reference 0.
abbrev pub makes : ℕ → JournalEntry
makes i = entry.Made A (record { reference = record { 0 = 0 }; index = i; call = record { 0 = i }; interface = 7; method = 1; payload = null_payload; refs = [] })

-- It is delivered to that object.
abbrev pub delivery : ℕ → ℕ → Delivery
delivery i object = record {
  task = record { 0 = i };
  object = record { 0 = object };
  stamp = record { vat = A; reference = record { 0 = 0 }; index = i };
  interface = 7;
  method = 1;
  payload = null_payload;
  refs = [];
}

-- By B.
abbrev pub delivers : ℕ → ℕ → JournalEntry
delivers i object = entry.Delivered B (delivery i object)

-- The second call is before the first: calls that waited were routed newest first, a reference switched where it had to turn back
-- under an embargo, or an embargo was lifted as its Disembargo was sent.
abbrev pub overtaken : List JournalEntry
overtaken = makes 0 ∷ makes 1 ∷ delivers 1 0 ∷ delivers 0 0 ∷ []

-- The first call is lost: those that waited were dropped with their reference.
abbrev pub left_out : List JournalEntry
left_out = makes 0 ∷ makes 1 ∷ delivers 1 0 ∷ []

-- A call is delivered twice: it went its way and was kept for the shorter one too.
abbrev pub repeated : List JournalEntry
repeated = makes 0 ∷ delivers 0 0 ∷ delivers 0 0 ∷ []

-- None was made.
abbrev pub invented : List JournalEntry
invented = delivers 0 0 ∷ []

-- The calls go to two objects: a path was looked up where its call was sent, and again where it came; or a call went past the node
-- that was fixed, to what the next promise has become since.
abbrev pub astray : List JournalEntry
astray = makes 0 ∷ makes 1 ∷ delivers 0 0 ∷ delivers 1 1 ∷ []

-- B delivers after the Abort of A.
abbrev pub too_late : List JournalEntry
too_late = makes 0 ∷ entry.Down A 7 ∷ entry.Down B peer_abort ∷ delivers 0 0 ∷ []

-- A refuses a message of B's, as one that names an export which is not there.
abbrev pub refused : List JournalEntry
refused = entry.Down A 22 ∷ []

-- A is down by the Abort of B, which is up.
abbrev pub by_nobody : List JournalEntry
by_nobody = entry.Down A peer_abort ∷ []

-- ---- By what references stand for

-- The reference 0 of A is of its own object with that number.
abbrev pub hosts : ℕ → JournalEntry
hosts object = entry.Born A (record { 0 = 0 }) (origin.Object (record { 0 = object }))

abbrev pub answers : JournalEntry
answers = entry.Answered A (record { 0 = 0 }) (outcome.Results null_payload) []

abbrev pub ends : JournalEntry
ends = entry.Ended A (record { call = record { 0 = 0 }; outcome = outcome.Exception (failed []); refs = [] })

-- The call goes to the object of that number of the other vat: an export was given another node while calls to it were on their way.
abbrev pub elsewhere : List JournalEntry
elsewhere = hosts 3 ∷ makes 0 ∷ delivers 0 3 ∷ []

-- It is delivered with another method.
abbrev pub altered : List JournalEntry
altered = hosts 3 ∷ makes 0 ∷ entry.Delivered A (record (delivery 0 3) { method = 2 }) ∷ []

-- It is lost, the first that was made: it waited at a promise that went, and nothing is on its way.
abbrev pub lost : List JournalEntry
lost = hosts 3 ∷ makes 0 ∷ []

-- It ends though nobody answered it, and its reference is not broken: a Return to another question was taken for it.
abbrev pub unanswered : List JournalEntry
unanswered = hosts 3 ∷ makes 0 ∷ ends ∷ []

-- It ends otherwise than it was answered.
abbrev pub misread : List JournalEntry
misread = hosts 3 ∷ makes 0 ∷ entry.Delivered A (delivery 0 3) ∷ answers ∷ ends ∷ []

-- It ends twice.
abbrev pub ended_twice : List JournalEntry
ended_twice = hosts 3 ∷ makes 0 ∷ ends ∷ ends ∷ []

-- Two new vats without bootstrap objects, between which nothing is on its way.
abbrev pub idle_world : World
idle_world = new_world None None

-- Nobody was shut.
abbrev pub no_shut : Vat → Bool
no_shut v = false

pub record WrongJournals : Type 0 where
  pub overtaken_not : IsInOrder overtaken → ⊥
  pub left_out_not : IsInOrder left_out → ⊥
  pub repeated_not : IsInOrder repeated → ⊥
  pub invented_not : IsInOrder invented → ⊥
  pub astray_not : AreEachAtOne astray → ⊥
  pub too_late_not : IsQuietWhenDown too_late → ⊥
  pub refused_not : DownsAreKnown no_shut refused → ⊥
  pub by_nobody_not : DownsAreKnown no_shut by_nobody → ⊥
  pub elsewhere_not : IsToOne (history_of elsewhere idle_world) → ⊥
  pub altered_not : IsInTime (history_of altered idle_world) → ⊥
  pub lost_not : IsInFull (history_of lost idle_world) idle_world → ⊥
  pub unanswered_not : EndsAreSo (history_of unanswered idle_world) → ⊥
  pub misread_not : EndsAreSo (history_of misread idle_world) → ⊥
  pub ended_twice_not : EndsAreSo (history_of ended_twice idle_world) → ⊥
