-- The end of a step: what no place names goes; then the Finishes by rising question id, and the Releases by rising
-- export id (docs/protocol.md, "The end of a step"; rpc.capnp, Finish and Release).
use Rattle.std.specs.Prelude.{◌≡◌, ℕ, Option, None, Some, IsSome, List, [], ◌∷◌}
use Rattle.std.specs.FinMap as map
use Rattle.rpc_journal.specs.rpc_msg.specs.declared.parts.Descriptor.{Descriptor}
use Rattle.rpc_journal.specs.rpc_msg.specs.declared.message.PlainMessage.TheVariants as plain
use Rattle.rpc_journal.specs.rpc_msg.specs.Messages.{given}
use Rattle.rpc_machine.specs.declared.node.Node.{Node}
use Rattle.rpc_machine.specs.declared.entries.Question.{Question}
use Rattle.rpc_machine.specs.declared.entries.Returned.{Returned}
use Rattle.rpc_machine.specs.declared.entries.Returned.TheVariants as back
use Rattle.rpc_machine.specs.declared.entries.Role.{Role}
use Rattle.rpc_machine.specs.declared.entries.Role.TheVariants as role
use Rattle.rpc_machine.specs.declared.entries.Finishing.{Finishing}
use Rattle.rpc_machine.specs.declared.entries.Finishing.TheVariants as finishing
use Rattle.finite_maps.specs.Tally.{Map}
use Rattle.rpc_machine.specs.State.{State}
use Rattle.rpc_machine.specs.Nodes.{is_pipe}
use Rattle.rpc_machine.specs.Places.{names}
use Rattle.rpc_machine.specs.Progress.{Progress, with_state, send, export_id}
use Rattle.rpc_machine.specs.Collecting.{Goes, IsTight, Collects}
use Rattle.rpc_machine.specs.Flags.{flag_for, give_back}

-- A relay is over once its Return came; a direct question once the application finished its call and no place names
-- a Pipe of it.
abbrev pub IsOver : State → ℕ → Question → Role → Type 0
IsOver s q x (role.Relay o) = IsSome x.returned
IsOver s q x (role.Direct c) = (map.get s.calls c.0 ≡ None) × (names s (is_pipe q) ≡ 0)

abbrev pub IsNotSent : Finishing → Type 0
IsNotSent finishing.Owed = Unit {0}
IsNotSent finishing.Sent = ⊥
IsNotSent finishing.Waived = Unit {0}

abbrev pub IsToFinish : State → ℕ → Option Question → Type 0
IsToFinish s q None = ⊥
IsToFinish s q (Some x) = IsNotSent x.finish × IsOver s q x x.role

abbrev pub closed_map : Map Question → ℕ → Question → Option Returned → Map Question
closed_map m q x None = map.insert m q (record x { finish = finishing.Sent })
closed_map m q x (Some said) = map.remove m q

-- The question is finished: it closes, if its Return has come.
abbrev pub closed : State → ℕ → Question → State
closed s q x = record s { questions = closed_map s.questions q x x.returned }

-- The questions that are finished in this step: those that are over while what no place names, and what they
-- themselves name, goes one after the other.
pub data Withers : Progress → Map Question → Type 0 where
  Over : {d : Progress} → IsTight d.state → ((q : ℕ) → ¬ (IsToFinish d.state q (map.get d.state.questions q))) → Withers d map.empty
  Thing : {d mid : Progress} {over : Map Question} → Goes d mid → Withers mid over → Withers d over
  Asked : {d : Progress} {over : Map Question} (q : ℕ) (x : Question) → map.get d.state.questions q ≡ Some x → IsToFinish d.state q (Some x) → Withers (with_state d (closed d.state q x)) over → Withers d (map.insert over q x)

abbrev pub descriptors_said : List (Descriptor × Node) → List Descriptor
descriptors_said [] = []
descriptors_said (c ∷ cs) = c.0 ∷ descriptors_said cs

-- The ids of the sender descriptors of its Return.
abbrev pub got_of : Option Returned → List ℕ
got_of None = []
got_of (Some (back.Results payload caps)) = given (descriptors_said caps)
got_of (Some (back.Exception exception)) = []

-- A question is finished, with a Finish unless it came back Unimplemented.
abbrev pub finished_by : Progress → ℕ → Question → Finishing → Progress
finished_by d q x finishing.Owed =
    send (with_state d (closed (give_back d.state (got_of x.returned)) q x))
    (plain.Finish (record { question = record { 0 = q }; release_result_caps = flag_for d.state (got_of x.returned) }))
finished_by d q x finishing.Sent = d
finished_by d q x finishing.Waived = with_state d (closed d.state q x)

-- These questions are finished in order. What no place names is gone before each flag is made.
abbrev pub FinishesEach : Progress → List (ℕ × Question) → Progress → Type 0
FinishesEach d [] new = new ≡ d
FinishesEach d (x ∷ xs) new = (mid : Progress) × Collects mid d × FinishesEach (finished_by mid x.0 x.1 x.1.finish) xs new

abbrev pub release_each : Progress → List (ℕ × ℕ) → Progress
release_each d [] = d
release_each d (x ∷ xs) = release_each (send d (plain.Release (record { export = export_id x.0; count = x.1 }))) xs

-- One Release for each import that went.
abbrev pub releases : Progress → Progress
releases d = record (release_each d (map.entries d.released)) { released = map.empty }

abbrev pub Sweeps : Progress → Progress → Type 0
Sweeps d new =
    (over : Map Question) × Withers d over
    × ((mid : Progress) × FinishesEach d (map.entries over) mid
    × ((tight : Progress) × Collects tight mid × (new ≡ releases tight)))
