-- A run: A gives an object with a call, and B lets it go. The Return takes it back by its flag, where nothing else names
-- it; else a Release does, later (docs/protocol.md, "Release by flag" and "Counts").
use Rattle.std.specs.Prelude.{◌≡◌, ℕ, true, false, None, Some, List, [], ◌∷◌}
use Rattle.std.specs.FinMap as map
use Rattle.rpc_msg.specs.declared.ids.Vat.TheVariants.{A, B}
use Rattle.rpc_msg.specs.declared.message.ReturnBody.TheVariants as body
use Rattle.rpc_msg.specs.declared.message.Message.{Message}
use Rattle.rpc_journal.specs.declared.report.Ended.{Ended}
use Rattle.rpc_journal.specs.declared.report.Outcome.TheVariants as outcome
use Rattle.rpc_machine.specs.Payloads.{bootstrap_payload}
use Rattle.rpc_machine.specs.declared.command.Command.TheVariants as command
use Rattle.rpc_machine.specs.declared.command.Granted.TheVariants as granted
use Rattle.rpc_machine.specs.declared.entries.Returned.TheVariants as back
use Rattle.rpc_machine.specs.State.{State}
use Rattle.rpc_machine.specs.Limits.{import_count, export_count}
use Rattle.rpc_machine.specs.UnderWay.{under_way}
use Rattle.rpc_machine.specs.World.{World, Happening, Run, new_world}
use Rattle.rpc_machine_examples.specs.Given.{m, null, object_id, ref_id, call_id, task_id, headed_by, direct_with, for_peer, bootstrap_message, return_message, release_message, sending, delivering, telling, between, did, took}
use Rattle.rpc_machine_examples.specs.OneCall.{root_return, pipe, wire, root_said, root_import, root_value, root_answer, b_new, b_gave}
use Rattle.rpc_machine_examples.specs.Relayed.{giving_call, giving_message, giving_delivery, object, asked_giving, a_gave, empty_value, giving_answer, b_tasked}

-- What A tells of the Bootstrap, and of the call.
abbrev pub root_told : Ended
root_told = record { call = call_id 0; outcome = outcome.Results bootstrap_payload; refs = ref_id 2 ∷ [] }

abbrev pub end_told : Ended
end_told = record { call = call_id 1; outcome = outcome.Results null; refs = [] }

abbrev pub returned : Message
returned = return_message 1 true (body.Results null [])

abbrev pub returned_kept : Message
returned_kept = return_message 1 false (body.Results null [])

abbrev pub a_root : State
a_root = record a_gave {
  questions = m ((1, asked_giving None) ∷ (0, direct_with 0 (Some root_said)) ∷ []);
  imports = m ((0, root_import) ∷ []);
  refs = m ((2, headed_by wire 0) ∷ (1, headed_by object 0) ∷ (0, headed_by pipe 1) ∷ []);
  next_ref = 3;
}

-- The Return has come: the export is gone.
abbrev pub a_took_back : State
a_took_back = record a_root {
  questions = m ((1, asked_giving (Some (back.Results null []))) ∷ (0, direct_with 0 (Some root_said)) ∷ []);
  exports = m [];
}

-- The reference is dropped, and the unanswered call still names the import.
abbrev pub b_dropped : State
b_dropped = record b_tasked { refs = m [] }

-- The call is answered: the import is gone.
abbrev pub b_returned : State
b_returned = record b_dropped {
  answers = m ((1, giving_answer (Some [])) ∷ (0, root_answer) ∷ []);
  outcomes = m ((1, for_peer 1 (Some empty_value)) ∷ (0, for_peer 0 (Some root_value)) ∷ []);
  imports = m [];
  tasks = m [];
}

-- The call is answered while the reference is there.
abbrev pub b_kept : State
b_kept = record b_tasked {
  answers = m ((1, giving_answer (Some [])) ∷ (0, root_answer) ∷ []);
  outcomes = m ((1, for_peer 1 (Some empty_value)) ∷ (0, for_peer 0 (Some root_value)) ∷ []);
  tasks = m [];
}

-- The call that gives the object is on its way; it has come; the reference is dropped; the Return is on its way; it has
-- come.
abbrev pub sent : World
sent = between a_gave [] b_new (bootstrap_message 0 ∷ giving_message ∷ [])

abbrev pub asked_first : World
asked_first = between a_gave (root_return ∷ []) b_gave (giving_message ∷ [])

abbrev pub received : World
received = between a_gave (root_return ∷ []) b_tasked []

abbrev pub dropped : World
dropped = between a_gave (root_return ∷ []) b_dropped []

abbrev pub given_back : World
given_back = between a_gave (root_return ∷ returned ∷ []) b_returned []

abbrev pub told_first : World
told_first = between a_root (returned ∷ []) b_returned []

abbrev pub over : World
over = between a_took_back [] b_returned []

-- The reference is kept past the Return; then it is dropped.
abbrev pub kept : World
kept = between a_gave (root_return ∷ returned_kept ∷ []) b_kept []

abbrev pub released : World
released = between a_gave (root_return ∷ returned_kept ∷ release_message 0 1 ∷ []) b_returned []

-- Until the call is on its way.
abbrev pub beginning : List Happening
beginning =
    did A command.Bootstrap (granted.Call (call_id 0)) (sending (bootstrap_message 0 ∷ []))
    ∷ did A (command.Field (call_id 0) []) (granted.Reference (ref_id 0)) (sending [])
    ∷ did A (command.Host (object_id 9)) (granted.Reference (ref_id 1)) (sending [])
    ∷ did A (command.Call giving_call) (granted.Call (call_id 1)) (sending (giving_message ∷ []))
    ∷ []

abbrev pub events : List Happening
events =
    took B (sending (root_return ∷ []))
    ∷ took B (delivering (giving_delivery ∷ []))
    ∷ did B (command.DropRef (ref_id 0)) granted.Done (sending [])
    ∷ did B (command.Answer (task_id 0) null []) granted.Done (sending (returned ∷ []))
    ∷ took A (telling (root_told ∷ []))
    ∷ took A (telling (end_told ∷ []))
    ∷ []

abbrev pub keeping : List Happening
keeping =
    did B (command.Answer (task_id 0) null []) granted.Done (sending (returned_kept ∷ []))
    ∷ did B (command.DropRef (ref_id 0)) granted.Done (sending (release_message 0 1 ∷ []))
    ∷ []

-- The count of A's export 0, that of B's import, and what is under way.
pub record HasCounts (w : World) (exported imported way : ℕ) : Type 0 where
  pub exported_is : export_count (map.get w.a.core.exports 0) ≡ exported
  pub imported_is : import_count (map.get w.b.core.imports 0) ≡ imported
  pub way_is : under_way w A 0 ≡ way

pub record IsGivenBack : Type 0 where
  pub begins : Run (new_world None (Some (object_id 0))) beginning sent
  pub goes_back : Run sent events over
  pub is_kept : Run received keeping released
  pub counts_sent : HasCounts sent 1 0 1
  pub counts_received : HasCounts received 1 1 0
  pub counts_dropped : HasCounts dropped 1 1 0
  pub counts_given_back : HasCounts given_back 1 0 1
  pub counts_over : HasCounts over 0 0 0
  pub counts_kept : HasCounts kept 1 1 0
  pub counts_released : HasCounts released 1 0 1
