-- Two logs that have one order are a run of two vats (docs/threads.md, "Of two vats").
use Rattle.std.specs.Prelude.{◌≡◌, Option, List, [], ◌++◌, map}
use Rattle.rpc_msg.specs.declared.ids.Vat.TheVariants.{A, B}
use Rattle.rpc_msg.specs.declared.ids.ObjectId.{ObjectId}
use Rattle.rpc_machine.specs.declared.command.Level.TheVariants.{One}
use Rattle.rpc_machine.specs.State.{start}
use Rattle.rpc_machine.specs.World.{World, Happening, Run, new_world}
use Rattle.rpc_machine.specs.Journal.{journal}
use Rattle.laws_merge.specs.Logs.{messages, received, made_by}
use Rattle.laws_merge.specs.declared.merge.OneOf.{OneOf}
use Rattle.laws_merge.specs.declared.merge.OneOf.TheVariants.{First, Second}
use Rattle.link_rings.specs.declared.entry.Entry.{Entry}
use Rattle.link_rings.specs.Logs.{log_of}
use Rattle.link_rings.specs.Gather.{order, IsExplained}
use Rattle.link_logs.specs.declared.note.Note.{Note}
use Rattle.link_logs.specs.Steps.{Held, StepsSo, input_of, sends_of, happening}
use Rattle.link_logs.specs.Pieces.{pieced, piece_of}

-- What an entry of the first log says that happened at A, and one of the second at B.
abbrev pub happened_in : OneOf (Entry Note) (Entry Note) → Happening
happened_in (First e) = happening A e.note.told
happened_in (Second e) = happening B e.note.told

-- What two logs say, in their one order.
abbrev pub happenings : List (Entry Note) → List (Entry Note) → List Happening
happenings xs ys = map happened_in (order input_of sends_of xs ys)

-- Where two logs end: the cores as they are, and on the way to each what the other made and it did not receive.
pub record IsWhereTheyEnd (now_a now_b : Held) (xs ys : List (Entry Note)) (w : World) : Type 0 where
  pub core_a : w.a.core ≡ now_a.core
  pub core_b : w.b.core ≡ now_b.core
  pub inbox_a : messages (received (log_of input_of sends_of StepsSo xs)) ++ w.a.inbox ≡ messages (made_by (log_of input_of sends_of StepsSo ys))
  pub inbox_b : messages (received (log_of input_of sends_of StepsSo ys)) ++ w.b.inbox ≡ messages (made_by (log_of input_of sends_of StepsSo xs))

-- They are a run of two new vats with these bootstrap objects. Its journal is what the ends wrote, in pieces, one for each
-- entry of the logs, in their one order.
pub record IsOneRun (root_a root_b : Option ObjectId) (now_a now_b : Held) (xs ys : List (Entry Note)) : Type 0 where
  pub world : World
  pub ends : IsWhereTheyEnd now_a now_b xs ys world
  pub ran : Run (new_world root_a root_b) (happenings xs ys) world
  pub written : pieced (map piece_of (order input_of sends_of xs ys)) now_a.journal now_b.journal ≡ journal (happenings xs ys)

abbrev pub OrdersAreRuns : Type 0
OrdersAreRuns =
    (root_a root_b : Option ObjectId) (a b now_a now_b : Held) (xs ys : List (Entry Note))
    → a ≡ record { core = start A One root_a; journal = [] } → b ≡ record { core = start B One root_b; journal = [] }
    → IsExplained input_of sends_of StepsSo a b now_a now_b xs ys → IsOneRun root_a root_b now_a now_b xs ys
