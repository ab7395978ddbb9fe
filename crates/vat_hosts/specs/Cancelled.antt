-- A host tells each task of the peer that is cancelled, once, and misses none (docs/laws/hosts.md, "What is cancelled is told").
use Rattle.std.specs.Prelude.{◌≡◌, ◌⊎◌, ℕ, ◌+◌, ◌≤◌, true, nat_eq, Option, None, Some, List, [], ◌∷◌}
use Rattle.std.specs.FinMap as map
use Rattle.rpc_msg.specs.declared.ids.ObjectId.{ObjectId}
use Rattle.rpc_msg.specs.declared.ids.TaskId.{TaskId}
use Rattle.rpc_msg.specs.declared.ids.Vat.{Vat}
use Rattle.rpc_machine.specs.declared.command.Level.{Level}
use Rattle.rpc_machine.specs.State.{State, start}
use Rattle.rpc_uses.specs.Results.{cancelled}
use Rattle.laws_nodes.specs.Ones.{one_if}
use Rattle.laws_authority.specs.Reach.{IsForPeer}
use Rattle.vat_host.specs.declared.event.Event.{Event}
use Rattle.vat_host.specs.declared.event.Event.TheVariants as event
use Rattle.vat_host.specs.Hosting.{Hosted, IsIdle, Tells, idle}
use Rattle.vat_host.specs.Unanswered.{IsCancelledAt}
use Rattle.vat_hosts.specs.OneHost.{Act, ActsAll}
use Rattle.vat_hosts.specs.OneHost.Act.{Asks}

-- The task is of a call of the peer, it is not answered yet, and nobody has use for its results.
pub record IsCancelled (s : State) (t : TaskId) : Type 0 where
  pub outcome : ℕ
  pub task : map.get s.tasks t.0 ≡ Some outcome
  pub for_peer : IsForPeer (map.get s.outcomes outcome)
  pub unwanted : cancelled s t ≡ true

abbrev pub cancels_of : ℕ → Event → ℕ
cancels_of k (event.Cancelled t) = one_if (nat_eq k t.0)
cancels_of k e = 0

abbrev pub cancels_by : ℕ → Act → ℕ
cancels_by k (Asks (Some e)) = cancels_of k e
cancels_by k x = 0

-- how often it was told that the task with the number k is cancelled
abbrev pub times_cancelled : ℕ → List Act → ℕ
times_cancelled k [] = 0
times_cancelled k (x ∷ xs) = cancels_by k x + times_cancelled k xs

-- That was done with a new host.
pub record TellsCancelled (xs : List Act) (h : Hosted) : Type 0 where
  -- no task is told twice
  pub once : (k : ℕ) → times_cancelled k xs ≤ 1
  -- what is told next is cancelled
  pub rightly : (t : TaskId) (new : Hosted) → Tells h (Some (event.Cancelled t)) new → IsCancelled h.core t
  -- each that is cancelled was told, or is still to be told
  pub each : h.core.down ≡ None → (t : TaskId) → IsCancelled h.core t → (times_cancelled t.0 xs ≡ 1) ⊎ ((q : ℕ) × IsCancelledAt h.core h.unanswered q t)
  -- so an idle host told each
  pub none_missed : IsIdle h → h.core.down ≡ None → (t : TaskId) → IsCancelled h.core t → times_cancelled t.0 xs ≡ 1

-- Whatever is done with a new host, and whatever its peer sends.
abbrev pub CancelledAreTold : Type 0
CancelledAreTold = (vat : Vat) (level : Level) (root : Option ObjectId) (xs : List Act) (h : Hosted) → ActsAll (idle (start vat level root)) xs h → TellsCancelled xs h
