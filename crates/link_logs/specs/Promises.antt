-- What is promised of two ends that were put side by side (docs/threads.md, docs/promises.md).
use Rattle.std.specs.Prelude.{◌≡◌, Bool, List, [], drop, length, map}
use Rattle.rpc_msg.specs.declared.ids.Vat.{Vat}
use Rattle.rpc_msg.specs.declared.ids.Vat.TheVariants.{A, B}
use Rattle.rpc_msg.specs.declared.message.Message.{Message}
use Rattle.rpc_journal.specs.declared.entry.JournalEntry.{JournalEntry}
use Rattle.rpc_machine.specs.declared.command.Level.TheVariants.{One}
use Rattle.rpc_machine.specs.State.{start}
use Rattle.rpc_machine.specs.World.{World, Happening, Run, new_world, was_shut}
use Rattle.rpc_machine.specs.Journal.{journal}
use Rattle.laws_merge.specs.Logs.{messages, received, made_by}
use Rattle.laws_sound.specs.Promised.{IsPromised}
use Rattle.link_rings.specs.declared.entry.Entry.{Entry}
use Rattle.link_rings.specs.Logs.{log_of}
use Rattle.link_rings.specs.Gather.{Both, order, IsExplained}
use Rattle.link_logs.specs.declared.note.Note.{Note}
use Rattle.link_logs.specs.Steps.{Held, StepsSo, input_of, sends_of}
use Rattle.link_logs.specs.Pieces.{pieced, piece_of}
use Rattle.link_logs.specs.Orders.{happenings}

-- Each end as it was handed in, as it is, and its log.
abbrev pub Pair : Type 0
Pair = Both Held Note

-- It began as that vat, of level 1, with nothing written.
abbrev pub IsBegun : Vat → Held → Type 0
IsBegun v h = h ≡ record { core = start v One (h.core).bootstrap; journal = [] }

-- What the other end made and this one did not receive.
abbrev pub on_its_way : List (Entry Note) → List (Entry Note) → List Message
on_its_way xs ys = drop (length (messages (received (log_of input_of sends_of StepsSo xs)))) (messages (made_by (log_of input_of sends_of StepsSo ys)))

-- The two cores as they are, with what is on its way between them.
abbrev pub world_of : Pair → World
world_of p = record {
  a = record { core = (p.side_a).core; inbox = on_its_way p.log_a p.log_b };
  b = record { core = (p.side_b).core; inbox = on_its_way p.log_b p.log_a };
}

-- What both logs say, in their one order.
abbrev pub happened_in : Pair → List Happening
happened_in p = happenings p.log_a p.log_b

-- What both ends wrote, put together in that order.
abbrev pub journal_of : Pair → List JournalEntry
journal_of p = pieced (map piece_of (order input_of sends_of p.log_a p.log_b)) (p.side_a).journal (p.side_b).journal

-- Whether a shut took the vat down.
abbrev pub shut : Pair → Vat → Bool
shut p v = was_shut v (happened_in p)

-- This journal tells a run of two new vats, with the bootstrap objects with which they began, which leads to where the ends
-- are; and all that is promised of every run holds of it.
pub record IsTold (p : Pair) (h : List JournalEntry) : Type 0 where
  pub ran : Run (new_world (p.start_a.core).bootstrap (p.start_b.core).bootstrap) (happened_in p) (world_of p)
  pub told : h ≡ journal (happened_in p)
  pub promised : IsPromised h (shut p) (world_of p)

abbrev pub OrdersKeepPromises : Type 0
OrdersKeepPromises =
    (p : Pair) → IsBegun A p.start_a → IsBegun B p.start_b
    → IsExplained input_of sends_of StepsSo p.start_a p.start_b p.side_a p.side_b p.log_a p.log_b → IsTold p (journal_of p)
