-- The calls of a reference that were made and are not delivered yet: those that are held, embargoed or in a Call message
-- on its way (docs/protocol.md, "What is promised").
use Rattle.std.specs.Prelude.{Bool, not, cond, List, [], ◌∷◌, ◌++◌}
use Rattle.std.specs.List.{list_any}
use Rattle.rpc_journal.specs.rpc_msg.specs.declared.ids.Stamp.{Stamp}
use Rattle.rpc_journal.specs.rpc_msg.specs.declared.message.PlainMessage.TheVariants as plain
use Rattle.rpc_journal.specs.rpc_msg.specs.declared.message.Message.{Message}
use Rattle.rpc_journal.specs.rpc_msg.specs.declared.message.Message.TheVariants as message
use Rattle.rpc_journal.specs.History.{Ref}
use Rattle.rpc_machine.specs.Queries.{waiting, is_through}
use Rattle.rpc_machine.specs.World.{World}

abbrev pub in_message : Message → List Stamp
in_message (message.Plain (plain.Call c)) = c.stamp ∷ []
in_message m = []

abbrev pub in_messages : List Message → List Stamp
in_messages [] = []
in_messages (m ∷ ms) = in_message m ++ in_messages ms

-- All open calls.
abbrev pub open_calls : World → List Stamp
open_calls w = waiting w.a.core ++ waiting w.b.core ++ in_messages w.a.inbox ++ in_messages w.b.inbox

abbrev pub through : Ref → List Stamp → List Stamp
through r [] = []
through r (s ∷ ss) = cond (is_through r s) (s ∷ through r ss) (through r ss)

abbrev pub pending : World → Ref → List Stamp
pending w r = through r (open_calls w)

-- None is pending.
abbrev pub is_idle : World → Ref → Bool
is_idle w r = not (list_any (is_through r) (open_calls w))
