-- A run: B releases an object that a call gave it, and A gives it again before the Release has come. What the Release
-- takes off is the first, and the second lasts (docs/protocol.md, "Counts").
use Rattle.std.specs.Prelude.{None, Some, List, [], ◌∷◌, ◌++◌}
use Rattle.rpc_msg.specs.declared.ids.Vat.TheVariants.{A, B}
use Rattle.rpc_machine.specs.declared.command.Command.TheVariants as command
use Rattle.rpc_machine.specs.declared.command.Granted.TheVariants as granted
use Rattle.rpc_machine.specs.State.{State}
use Rattle.rpc_machine.specs.World.{World, Happening, Run, new_world}
use Rattle.rpc_machine_examples.specs.Given.{m, object_id, call_id, headed_by, for_peer, release_message, sending, delivering, telling, between, did, took}
use Rattle.rpc_machine_examples.specs.OneCall.{root_return, root_value, root_answer}
use Rattle.rpc_machine_examples.specs.Relayed.{giving_call, giving_delivery, object, empty_value, import_node, giving_answer}
use Rattle.rpc_machine_examples.specs.GivenBack.{root_told, end_told, returned_kept, b_returned, sent, received, released, HasCounts, beginning, keeping}
use Rattle.rpc_machine_examples.specs.GivenTwice as twice

-- The Return of the call 1 has come; the Release has not.
abbrev pub a_told : State
a_told = record twice.a_one_left { exports = m ((0, record { node = object; count = 2 }) ∷ []) }

-- The call 2 is a task, with a new import.
abbrev pub b_again : State
b_again = record b_returned {
  answers = m ((2, twice.second_answer None) ∷ (1, giving_answer (Some [])) ∷ (0, root_answer) ∷ []);
  outcomes = m ((2, for_peer 2 None) ∷ (1, for_peer 1 (Some empty_value)) ∷ (0, for_peer 0 (Some root_value)) ∷ []);
  imports = m ((0, twice.received 1) ∷ []);
  refs = m ((1, headed_by import_node 0) ∷ []);
  tasks = m ((1, 2) ∷ []);
  next_ref = 2;
  next_task = 2;
}

-- The object is on its way again, and the Release to A; the Release has come; the object has.
abbrev pub crossing : World
crossing = between twice.a_twice (root_return ∷ returned_kept ∷ release_message 0 1 ∷ []) b_returned (twice.giving_again ∷ [])

abbrev pub release_taken : World
release_taken = between twice.a_one_left [] b_returned (twice.giving_again ∷ [])

abbrev pub received_again : World
received_again = between twice.a_one_left [] b_again []

-- The object is given, and released.
abbrev pub releasing : List Happening
releasing = beginning ++ took B (sending (root_return ∷ [])) ∷ took B (delivering (giving_delivery ∷ [])) ∷ keeping

abbrev pub events : List Happening
events =
    did A (command.Call giving_call) (granted.Call (call_id 2)) (sending (twice.giving_again ∷ []))
    ∷ took A (telling (root_told ∷ []))
    ∷ took A (telling (end_told ∷ []))
    ∷ took A (sending [])
    ∷ took B (delivering (twice.delivery_again ∷ []))
    ∷ []

pub record IsGivenAgain : Type 0 where
  pub releases : Run (new_world None (Some (object_id 0))) releasing released
  pub gives_again : Run released events received_again
  pub counts_sent : HasCounts sent 1 0 1
  pub counts_received : HasCounts received 1 1 0
  pub counts_released : HasCounts released 1 0 1
  pub counts_crossing : HasCounts crossing 2 0 2
  pub counts_release_taken : HasCounts release_taken 1 0 1
  pub counts_received_again : HasCounts received_again 1 1 0
