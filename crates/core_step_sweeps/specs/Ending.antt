-- A step that makes its Finishes.
use Rattle.std.specs.Prelude.{◌≡◌, ℕ, ◌+◌, ◌<◌, ◌≤◌, Bool, false, Option, None, Some, List, [], ◌∷◌, length}
use Rattle.std.specs.FinMap as map
use Rattle.rpc_msg.specs.declared.ids.QuestionId.{QuestionId}
use Rattle.rpc_machine.specs.declared.entries.Question.{Question}
use Rattle.rpc_machine.specs.declared.entries.Finishing.{Finishing}
use Rattle.rpc_machine.specs.State.{State}
use Rattle.rpc_machine.specs.Progress.{Progress}
use Rattle.rpc_machine.specs.Flags.{flag_for, give_if}
use Rattle.rpc_machine.specs.Collecting.{Collects}
use Rattle.rpc_machine.specs.Sweeping.{got_of, closed, finished_by, releases}
use Rattle.core_outbox.specs.Outgoing.{with_finishes}
use Rattle.core_outbox.specs.Rising.{AllBelow}
use Rattle.core_store.specs.Holding.{state_of}
use Rattle.core_step.specs.declared.step.Step.{Step}
use Rattle.core_step_sweeps.specs.Over.{standing}

-- The step so far, with the Finishes that were made.
abbrev pub finishing_of : Step → Progress
finishing_of x = record { state = state_of x.store; effects = with_finishes x.outbox; arisen = x.arisen.0; released = x.outbox.releases }

-- The step at its end, as the machine has it: its effects are those that the outbox then hands out.
abbrev pub swept_of : Step → Progress
swept_of x = releases (finishing_of x)

-- The flag of a Finish for the question, if it is there.
abbrev pub flag_of : State → Option Question → Bool
flag_of s None = false
flag_of s (Some x) = flag_for s (got_of x.returned)

-- The question closes, and what the flag lets go of its Return is given back.
abbrev pub close_giving : State → ℕ → Bool → Option Question → State
close_giving s q flag None = s
close_giving s q flag (Some x) = closed (give_if s flag (got_of x.returned)) q x

-- The question is finished, if it is there: with a Finish, if it is owed.
abbrev pub finished_as : Progress → ℕ → Finishing → Option Question → Progress
finished_as d q f None = d
finished_as d q f (Some x) = finished_by d q x f

abbrev pub finished_if : Progress → ℕ → Option Question → Progress
finished_if d q None = d
finished_if d q (Some x) = finished_by d q x x.finish

-- Finishes alone came to what is to be sent, and no more than one.
pub record OnlyFinishes (q : ℕ) (old new : Step) : Type 0 where
  pub outbox : new.outbox ≡ record (old.outbox) { finishes = new.outbox.finishes; finish_room = new.outbox.finish_room }
  pub below : (k : ℕ) → q < k → AllBelow k (map.entries new.outbox.finishes)
  pub room : old.outbox.finish_room ≤ new.outbox.finish_room + 1
  pub arisen : new.arisen ≡ old.arisen
  pub left : new.store.slack ≡ old.store.slack

-- One question more is finished, if it is there, after what no place names went.
abbrev pub FinishesOne : Step → Step → ℕ → Option Question → Type 0
FinishesOne old new q None = new ≡ old
FinishesOne old new q (Some x) = (mid : Progress) × Collects mid (finishing_of old) × (finishing_of new ≡ finished_by mid q x x.finish)

-- The ids rise, from this number on.
abbrev pub AreFrom : ℕ → List QuestionId → Type 0
AreFrom low [] = Unit {0}
AreFrom low (q ∷ qs) = (low ≤ q.0) × AreFrom (q.0 + 1) qs

-- These questions are still to be finished: each is as it was in s, has room for its Finish, and comes behind those whose
-- Finish is made.
pub record AreLeft (s : State) (x : Step) (ids : List QuestionId) : Type 0 where
  pub low : ℕ
  pub rising : AreFrom low ids
  pub below : AllBelow low (map.entries x.outbox.finishes)
  pub same : (q : ℕ) → low ≤ q → map.get x.store.questions.entries q ≡ map.get s.questions q
  pub room : length (standing s ids) ≤ x.outbox.finish_room
