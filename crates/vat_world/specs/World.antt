-- Two vats with their journal: what an event does, and what every such world is.
use Rattle.std.specs.Prelude.{◌≡◌, ℕ, Bool, ◌||◌, false, is_some, Option, List, [], ◌∷◌, ◌++◌, refl}
use Rattle.std.specs.Coded.{Coded, code_by, coded×, coded_bool, coded_list}
use Rattle.rpc_msg.specs.contracts.message.Message as message_row
use Rattle.rpc_msg.specs.declared.ids.Vat.{Vat}
use Rattle.rpc_msg.specs.declared.ids.Vat.TheVariants.{A, B}
use Rattle.rpc_msg.specs.declared.ids.ObjectId.{ObjectId}
use Rattle.rpc_msg.specs.declared.message.Message.{Message}
use Rattle.rpc_journal.specs.contracts.entry.JournalEntry as entry_row
use Rattle.rpc_journal.specs.declared.entry.JournalEntry.{JournalEntry}
use Rattle.rpc_machine.specs.State.{State, state_code}
use Rattle.rpc_machine.specs.declared.event.Event.{Event}
use Rattle.rpc_machine.specs.declared.event.Event.TheVariants as event
use Rattle.rpc_machine.specs.World.{Side, World, core, new_world, HappensBy, StepAnswer, Answered, Handled, Empty, shut_with, was_shut}
use Rattle.rpc_machine.specs.Journal.{event_entries}
use Rattle.rpc_journal.specs.History.{Ref, delivered, made}
use Rattle.rpc_journal.specs.Meaning.{History, ObjectAt, StandsFor}
use Rattle.rpc_machine.specs.Claims.{BothUp, IsReached as LedTo}
use Rattle.laws_sound.specs.Promised.{IsPromised, events_of, history_of}
use Rattle.laws_verdicts.specs.Recorded.{IsRecorded}
use Rattle.vat_world.specs.declared.answer.StepAnswer.{StepAnswer as Given}
use Rattle.vat_world.specs.declared.answer.StepAnswer.TheVariants as given
use Rattle.core_telling.specs.Told.{given_of, without_sends}

-- What contracts see of a world: its two vats and what is on its way, the journal, and which vats a shut took down.
pub record Seen : Type 0 where
  pub world : World
  pub journal : List JournalEntry
  pub shut_a : Bool
  pub shut_b : Bool

abbrev pub shut : Seen → Vat → Bool
shut w A = w.shut_a
shut w B = w.shut_b

abbrev pub side_code : Coded Side
side_code = code_by (State × List Message) (coded× state_code (coded_list message_row.the_row.coded)) (λ s. (s.core, s.inbox)) (λ p. record { core = p.0; inbox = p.1 }) (λ _. refl)

abbrev pub seen_code : Coded Seen
seen_code =
    code_by ((Side × Side) × (List JournalEntry × (Bool × Bool)))
    (coded× (coded× side_code side_code) (coded× (coded_list entry_row.the_row.coded) (coded× coded_bool coded_bool)))
    (λ w. ((w.world.a, w.world.b), (w.journal, (w.shut_a, w.shut_b))))
    (λ p. record { world = record { a = p.0.0; b = p.0.1 }; journal = p.1.0; shut_a = p.1.1.0; shut_b = p.1.1.1 })
    (λ _. refl)

-- Two new vats of level 1 with these bootstrap objects, and nothing happened.
abbrev pub new_seen : Option ObjectId → Option ObjectId → Seen
new_seen root_a root_b = record { world = new_world root_a root_b; journal = []; shut_a = false; shut_b = false }

-- ---- Events

-- the vat at which it happens
abbrev pub vat_of : Event → Vat
vat_of (event.Command v c) = v
vat_of (event.Deliver v) = v

-- What an event answers: what the definitions say, but for the messages, which are on their way. The arguments of a
-- command that is refused are handed back.
abbrev pub given_by : Event → StepAnswer → Given
given_by (event.Command v c) (Answered answer told) = given.Answered (given_of c answer told)
given_by (event.Deliver v) (Answered answer told) = given.Empty
given_by e (Handled told) = given.Handled (without_sends told)
given_by e Empty = given.Empty

-- One event: what happens is what may happen in a world, its entries are at the end of the journal, and which vats a shut
-- took down is told of it.
pub record Steps (w : Seen) (e : Event) (result : Given) (new : Seen) : Type 0 where
  pub answer : StepAnswer
  pub had_room : Bool
  pub happens : HappensBy w.world e answer had_room new.world
  pub journal_is : new.journal ≡ w.journal ++ event_entries w.journal e had_room answer
  pub shut_is : (v : Vat) → shut new v ≡ (shut w v || is_some (shut_with v e answer))
  pub result_is : result ≡ given_by e answer

-- Events in order, whatever each answers.
abbrev pub Runs : Seen → List Event → Seen → Type 0
Runs w [] new = new ≡ w
Runs w (e ∷ es) new = (mid : Seen) × (result : Given) × Steps w e result mid × Runs mid es new

-- ---- What every world is

-- A run of two new vats leads to this world; the journal tells that run, and between its events the counts of both vats, as they
-- were, as often as they were asked for; and a vat is told to be taken down by a shut exactly where one did.
pub record IsReached (w : Seen) : Type 0 where
  pub run : LedTo (record { world = w.world; journal = events_of w.journal })
  pub recorded : IsRecorded run.root_a run.root_b (record { world = w.world; journal = w.journal })
  pub shuts : (v : Vat) → shut w v ≡ was_shut v run.happened

-- By which references stand for something in it: its journal, and the bootstrap objects of its vats.
abbrev pub told : Seen → History
told w = history_of w.journal w.world

-- While both vats are up: where the reference stands for an object, all calls that were made through it were delivered.
abbrev pub AllCame : Seen → Ref → Type 0
AllCame w r = BothUp w.world → (v : Vat) (o : ℕ) → StandsFor (told w) r (ObjectAt v o) → delivered w.journal r ≡ made w.journal r

-- The vats have the bootstrap objects that they had.
abbrev pub KeepsBootstraps : Seen → Seen → Type 0
KeepsBootstraps w new = (v : Vat) → (core new.world v).bootstrap ≡ (core w.world v).bootstrap

-- What is promised of it (`laws_sound/specs/Promised`).
abbrev pub KeepsPromises : Seen → Type 0
KeepsPromises w = IsPromised w.journal (shut w) w.world
