-- A run: B receives a Release of more than it gave. It goes down and sends an Abort, which takes A down too
-- (docs/protocol.md, "Down").
use Rattle.std.specs.Prelude.{◌≡◌, ℕ, None, Some, List, [], ◌∷◌, ◌++◌, codes, decimal}
use Rattle.rpc_msg.specs.declared.ids.Vat.TheVariants.{A, B}
use Rattle.rpc_msg.specs.declared.message.PlainMessage.TheVariants as plain
use Rattle.rpc_msg.specs.declared.message.Message.{Message}
use Rattle.rpc_msg.specs.declared.message.Message.TheVariants as message
use Rattle.rpc_journal.specs.declared.entry.JournalEntry.{JournalEntry}
use Rattle.rpc_journal.specs.declared.entry.JournalEntry.TheVariants as entry
use Rattle.rpc_machine.specs.declared.command.Command.TheVariants as command
use Rattle.rpc_machine.specs.declared.command.Effects.{Effects}
use Rattle.rpc_machine.specs.declared.command.Level.TheVariants.{One}
use Rattle.rpc_machine.specs.declared.command.Refusal.TheVariants as refusal
use Rattle.rpc_machine.specs.State.{State, start}
use Rattle.rpc_machine.specs.Routing.{failed}
use Rattle.rpc_machine.specs.World.{World, Happening, Run}
use Rattle.rpc_machine.specs.Journal.{journal}
use Rattle.rpc_machine_examples.specs.Given.{null, task_id, release_message, telling, between, took, took_none, refused_with}
use Rattle.rpc_machine_examples.specs.OneCall.{root_return, root_told, the_call, a_called, b_new, b_tasked}

abbrev pub abort_text : List ℕ
abort_text = codes "fault " ++ decimal 24

abbrev pub abort : Message
abort = message.Plain (plain.Abort (failed abort_text))

abbrev pub goes_down : List Message → ℕ → Effects
goes_down ms n = record { sends = ms; deliveries = []; answers = []; down = Some n }

-- B took the Bootstrap and the call of a run with one call; then comes this Release, and a further call.
abbrev pub hostile : ℕ → World
hostile n = between a_called (root_return ∷ []) b_tasked (release_message 0 n ∷ the_call ∷ [])

abbrev pub b_fell : State
b_fell = record b_new { down = Some 24 }

abbrev pub a_fell : State
a_fell = record (start A One None) { down = Some 34 }

abbrev pub both_down : World
both_down = between a_fell [] b_fell (the_call ∷ [])

abbrev pub events : List Happening
events =
    took B (goes_down (abort ∷ []) 24)
    ∷ refused_with B (command.Answer (task_id 0) null []) refusal.Down
    ∷ took_none B
    ∷ took A (telling (root_told ∷ []))
    ∷ took A (goes_down [] 34)
    ∷ []

-- A vat that is down writes nothing more.
abbrev pub written : List JournalEntry
written =
    entry.Got B
    ∷ entry.Sent B abort
    ∷ entry.Down B 24
    ∷ entry.Got A
    ∷ entry.Ended A root_told
    ∷ entry.Got A
    ∷ entry.Down A 34
    ∷ []

pub record OverReleaseEndsBoth : Type 0 where
  pub of_none : Run (hostile 0) events both_down
  pub of_two : Run (hostile 2) events both_down
  pub written : journal events ≡ written
