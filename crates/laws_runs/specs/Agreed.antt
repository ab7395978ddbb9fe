-- The counts of two vats agree (docs/protocol.md, "Counts").
use Rattle.std.specs.Prelude.{◌≡◌, ℕ, ◌+◌, Option, None, Some, List, ◌∷◌}
use Rattle.std.specs.FinMap as map
use Rattle.rpc_msg.specs.Vats.{other_vat}
use Rattle.rpc_msg.specs.declared.ids.Vat.{Vat}
use Rattle.rpc_msg.specs.declared.ids.ObjectId.{ObjectId}
use Rattle.rpc_msg.specs.declared.message.PlainMessage.{PlainMessage}
use Rattle.rpc_msg.specs.declared.message.PlainMessage.TheVariants as plain
use Rattle.rpc_msg.specs.declared.message.Message.{Message}
use Rattle.rpc_msg.specs.declared.message.Message.TheVariants as message
use Rattle.rpc_machine.specs.declared.entries.Question.{Question}
use Rattle.rpc_machine.specs.State.{State}
use Rattle.rpc_machine.specs.Progress.{numbers}
use Rattle.rpc_machine.specs.Faults.{flag_fault, fault_of}
use Rattle.rpc_machine.specs.Limits.{import_count, export_count}
use Rattle.rpc_machine.specs.Laws.{given_out}
use Rattle.rpc_machine.specs.Descriptors.{giving}
use Rattle.rpc_machine.specs.UnderWay.{under_way}
use Rattle.rpc_machine.specs.World.{World, new_world, core, inbox}
use Rattle.laws_acts.specs.Sent.{Noted, messages}
use Rattle.laws_runs.specs.Between.{Steady}
use Rattle.laws_runs.specs.Worlds.{Stand}
use Rattle.laws_runs.specs.Imports.{count, letting, IsCovered}
use Rattle.laws_runs.specs.Entries.{AreCounted, AllLetGo}

-- Of the exports of the vat s and the imports of the vat t, with what is on its way to each.
abbrev pub AreEqual : State → List Noted → State → List Noted → Type 0
AreEqual s to_s t to_t = (e : ℕ) → given_out e s ≡ count e t + (giving e (messages to_t) + letting e to_s)

-- So those of both; with what the next step needs to keep it so.
pub record Agree (s : State) (to_s : List Noted) (t : State) (to_t : List Noted) : Type 0 where
  pub stand : Stand s to_s t to_t
  pub covered_s : IsCovered s
  pub covered_t : IsCovered t
  pub counted_s : AreCounted s
  pub counted_t : AreCounted t
  pub lets_s : AllLetGo to_s
  pub lets_t : AllLetGo to_t
  pub of_s : AreEqual s to_s t to_t
  pub of_t : AreEqual t to_t s to_s

abbrev pub CountsAgreeInSteadyWorlds : Type 0
CountsAgreeInSteadyWorlds =
    (root_a root_b : Option ObjectId) (w : World) → Steady w (new_world root_a root_b)
    → (v : Vat) (e : ℕ) → export_count (map.get (core w v).exports e) ≡ import_count (map.get (core w (other_vat v)).imports e) + under_way w v e

-- No check fails that asks for the entry of a question or an answer, or for what is taken off an export's count: a
-- Bootstrap, a Finish and a Release meet no fault at all. There is no Abort, and none that isn't understood.
abbrev pub IsMet : State → PlainMessage → Type 0
IsMet s (plain.Abort exception) = ⊥
IsMet s (plain.Bootstrap q) = fault_of s (message.Plain (plain.Bootstrap q)) ≡ None
IsMet s (plain.Call c) = map.get s.answers c.question.0 ≡ None
IsMet s (plain.Return r) = (x : Question) × (map.get s.questions r.answer.0 ≡ Some x) × (x.returned ≡ None) × (flag_fault s r.release_param_caps (numbers x.given) ≡ None)
IsMet s (plain.Finish f) = fault_of s (message.Plain (plain.Finish f)) ≡ None
IsMet s (plain.Resolve r) = Unit {0}
IsMet s (plain.Release r) = fault_of s (message.Plain (plain.Release r)) ≡ None
IsMet s (plain.Disembargo d) = Unit {0}
IsMet s (plain.Other n) = ⊥

-- The oldest message on its way to a vat.
abbrev pub MessagesAreMet : Type 0
MessagesAreMet =
    (root_a root_b : Option ObjectId) (w : World) → Steady w (new_world root_a root_b)
    → (v : Vat) (m : Message) (ms : List Message) → inbox w v ≡ m ∷ ms → (p : PlainMessage) × (m ≡ message.Plain p) × IsMet (core w v) p
