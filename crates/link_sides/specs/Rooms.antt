-- What the code of an end keeps, as what it is seen as, and the room that it keeps so that its vat can go down.
use Rattle.std.specs.Prelude.{◌≡◌, ◌≤◌, ◌+◌, true, None, List, [], ◌++◌, length, refl}
use Rattle.std.specs.Coded.{Coded, code_by, coded×, coded_list}
use Rattle.rpc_journal.specs.contracts.entry.JournalEntry as entry_row
use Rattle.rpc_journal.specs.declared.entry.JournalEntry.{JournalEntry}
use Rattle.rpc_machine.specs.State.{State, state_code}
use Rattle.rpc_msg.specs.declared.message.Message.{Message}
use Rattle.link_rings.specs.Waiting.{Held as Queue, frames_from}
use Rattle.link_logs.specs.Steps.{Held}
use Rattle.link_sides.specs.declared.kept.Kept.{Kept}

abbrev pub held_of : Kept → Held
held_of k = record { core = k.core; journal = k.journal.0 }

abbrev pub held_code : Coded Held
held_code = code_by (State × List JournalEntry) (coded× state_code (coded_list entry_row.the_row.coded)) (λ h. (h.core, h.journal)) (λ p. record { core = p.0; journal = p.1 }) (λ _. refl)

-- While the vat is up there is the memory of the Abort's copy, and room for six entries. No entry waits to be written.
pub record IsReady (k : Kept) : Type 0 where
  pub abort : k.core.down ≡ None → k.spare.can_abort ≡ true
  pub entries : k.core.down ≡ None → 6 ≤ k.journal.1
  pub copies : k.copies.0 ≡ []

-- These messages were put behind the frames that wait, numbered on.
pub record Queues (old : Queue Message) (ms : List Message) (new : Queue Message) : Type 0 where
  pub frames : new.frames ≡ old.frames ++ frames_from old.made old.heard ms
  pub made : new.made ≡ old.made + length ms
  pub heard : new.heard ≡ old.heard
