-- How many questions of the peer may stand, and what one more does (docs/protocol.md, "Limits"; rpc.capnp, the answer
-- table).
use Rattle.std.specs.Prelude.{◌≡◌, ◌<◌, ℕ, zero, suc, false, None, Some, List, [], ◌∷◌}
use Rattle.std.specs.FinMap as map
use Rattle.rpc_msg.specs.declared.ids.QuestionId.{QuestionId}
use Rattle.rpc_msg.specs.declared.message.ReturnBody.TheVariants as body
use Rattle.rpc_msg.specs.declared.message.PlainMessage.TheVariants as plain
use Rattle.rpc_msg.specs.declared.message.Message.{Message}
use Rattle.rpc_msg.specs.declared.message.Message.TheVariants as message
use Rattle.rpc_machine.specs.Payloads.{bootstrap_payload}
use Rattle.rpc_machine.specs.declared.command.Effects.{Effects}
use Rattle.rpc_machine.specs.declared.calls.KeptOutcome.{KeptOutcome}
use Rattle.rpc_machine.specs.declared.entries.AnswerEntry.{AnswerEntry}
use Rattle.rpc_machine.specs.declared.entries.Export.{Export}
use Rattle.rpc_machine.specs.State.{State}
use Rattle.rpc_machine.specs.Limits.{table_limit}
use Rattle.rpc_machine.specs.Down.{Falls}
use Rattle.rpc_machine.specs.Steps.{Receives}
use Rattle.rpc_machine_examples.specs.Given.{m, export_id, for_peer, bootstrap_message, return_message, sending}
use Rattle.rpc_machine_examples.specs.OneCall.{root_descriptor, object, root_value, b_new}

-- The entries under the keys below n.
abbrev pub up_to : {X : Type 0} → (ℕ → X) → ℕ → List (ℕ × X)
up_to f zero = []
up_to f (suc n) = (n, f n) ∷ up_to f n

abbrev pub answer : ℕ → AnswerEntry
answer q = record { outcome = q; taken = []; returned = Some (export_id 0 ∷ []); finished = false }

abbrev pub outcome : ℕ → KeptOutcome
outcome q = for_peer q (Some root_value)

abbrev pub given_often : ℕ → List (ℕ × Export)
given_often zero = []
given_often (suc n) = (0, record { node = object; count = suc n }) ∷ []

-- What B holds after that many Bootstraps, with the ids from 0 on.
abbrev pub asked_often : ℕ → State
asked_often n = record b_new { answers = m (up_to answer n); outcomes = m (up_to outcome n); exports = m (given_often n) }

abbrev pub root_return : ℕ → Message
root_return q = return_message q false (body.Results bootstrap_payload (root_descriptor ∷ []))

pub record FullAnswersFall : Type 0 where
  -- 4,096 Bootstraps are answered, each with the bootstrap object.
  pub each_is_answered : (n : ℕ) → n < table_limit → Receives (asked_often n) (bootstrap_message n) (sending (root_return n ∷ [])) (asked_often (suc n))
  -- Where as many questions of the peer stand as the table holds, a Bootstrap with a new id takes the vat down, with fault
  -- 33: so does the next one.
  pub full_falls : (s : State) (q : QuestionId) (effects : Effects) (new : State) → s.down ≡ None → map.len s.answers ≡ table_limit → map.get s.answers q.0 ≡ None → Receives s (message.Plain (plain.Bootstrap q)) effects new → Falls s 33 effects new
  pub next_falls : (n : ℕ) (effects : Effects) (new : State) → n ≡ table_limit → Receives (asked_often n) (bootstrap_message n) effects new → Falls (asked_often n) 33 effects new
