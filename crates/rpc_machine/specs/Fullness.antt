-- Whether a command finds no room: which table, count, number or list it would take past its limit
-- (docs/protocol.md, "Limits"). `drop_ref` and `finish` take none past one; `resolve`, `reject`, `answer`, `fail` and
-- `shut` are never refused for want of room.
use Rattle.std.specs.Prelude.{ℕ, ◌+◌, Bool, true, false, not, ◌&&◌, ◌||◌, cond, nat_le, Option, None, Some, List, [], ◌∷◌, length}
use Rattle.std.specs.FinMap as map
use Rattle.finite_maps.specs.Tally.{Map}
use Rattle.rpc_journal.specs.rpc_msg.specs.declared.ids.EmbargoId.{EmbargoId}
use Rattle.rpc_journal.specs.rpc_msg.specs.declared.parts.Descriptor.{Descriptor}
use Rattle.rpc_journal.specs.rpc_msg.specs.declared.parts.Descriptor.TheVariants as descriptor
use Rattle.rpc_machine.specs.declared.command.Command.{Command}
use Rattle.rpc_machine.specs.declared.command.Command.TheVariants as command
use Rattle.rpc_machine.specs.declared.node.Node.{Node}
use Rattle.rpc_machine.specs.declared.node.Node.TheVariants as node
use Rattle.rpc_machine.specs.declared.calls.OwnCall.{OwnCall}
use Rattle.rpc_machine.specs.declared.entries.Export.{Export}
use Rattle.rpc_machine.specs.declared.entries.Reference.{Reference}
use Rattle.rpc_machine.specs.State.{State}
use Rattle.rpc_machine.specs.Nodes.{settle, is_same_node}
use Rattle.rpc_machine.specs.Limits.{table_limit, held_limit, count_limit, number_limit, held}
use Rattle.rpc_machine.specs.Commands.{heads}
use Rattle.rpc_machine.specs.Advancing.{Known, NothingYet, IsBroken, Leads, known_of_wire}

-- ---- Tables and numbers

abbrev pub has_no_room : {X : Type 0} → Map X → Bool
has_no_room m = nat_le table_limit (map.len m)

-- So many more from this number on would reach the limit.
abbrev pub is_spent : ℕ → ℕ → Bool
is_spent next more = nat_le number_limit (next + more)

-- ---- Exports

-- A node of which an export is made where it is sent: an object, or what is open.
abbrev pub is_exportable : Node → Bool
is_exportable (node.Object o) = true
is_exportable (node.Promise p) = true
is_exportable (node.Field o path) = true
is_exportable (node.Import e) = false
is_exportable (node.Pipe q path) = false
is_exportable (node.Broken reason) = false

-- Where these nodes settle, if an export stands for it or is made.
abbrev pub going_out : State → List Node → List Node
going_out s [] = []
going_out s (n ∷ ns) = cond (is_exportable (settle s n)) (settle s n ∷ going_out s ns) (going_out s ns)

-- The count of the node's export, if it has one.
abbrev pub count_among : Node → List (ℕ × Export) → Option ℕ
count_among n [] = None
count_among n (e ∷ es) = cond (is_same_node n e.1.node) (Some e.1.count) (count_among n es)

abbrev pub count_of : State → Node → Option ℕ
count_of s n = count_among n (map.entries s.exports)

-- One more of a node takes its export's count past the limit; without an export, the table.
abbrev pub name_lacks_room : ℕ → Option ℕ → Bool
name_lacks_room size None = nat_le table_limit size
name_lacks_room size (Some count) = nat_le count_limit (count + 1)

-- How many exports there are then.
abbrev pub size_then : ℕ → Option ℕ → ℕ
size_then size None = size + 1
size_then size (Some count) = size

abbrev pub one_more : Option ℕ → ℕ
one_more None = 1
one_more (Some count) = count + 1

-- The counts then: of this node one more.
abbrev pub counts_then : (Node → Option ℕ) → Node → Node → Option ℕ
counts_then counts n other = cond (is_same_node other n) (Some (one_more (counts n))) (counts other)

-- The nodes are named one after the other, each in what those before it left: so many exports, with these counts.
abbrev pub names_lack_room : ℕ → (Node → Option ℕ) → List Node → Bool
names_lack_room size counts [] = false
names_lack_room size counts (n ∷ ns) =
    name_lacks_room size (counts n) || names_lack_room (size_then size (counts n)) (counts_then counts n) ns

-- There is no room in the exports to send what goes out: in the table, or in a count.
abbrev pub exports_lack_room : State → List Node → Bool
exports_lack_room s ns = names_lack_room (map.len s.exports) (count_of s) ns

-- ---- call

-- By where it goes: an object takes a task, and a reference for each capability; what is open holds it; a wire takes a
-- question, and exports; a broken node takes nothing.
abbrev pub lacks_room_at : State → List Node → Node → Bool
lacks_room_at s caps (node.Object o) = is_spent s.next_task 1 || is_spent s.next_ref (length caps)
lacks_room_at s caps (node.Promise p) = nat_le held_limit (held s)
lacks_room_at s caps (node.Field o path) = nat_le held_limit (held s)
lacks_room_at s caps (node.Import e) = has_no_room s.questions || exports_lack_room s (going_out s caps)
lacks_room_at s caps (node.Pipe q path) = has_no_room s.questions || exports_lack_room s (going_out s caps)
lacks_room_at s caps (node.Broken reason) = false

-- An embargo holds it.
abbrev pub lacks_room_through : State → List Node → Node → Option EmbargoId → Bool
lacks_room_through s caps head None = lacks_room_at s caps (settle s head)
lacks_room_through s caps head (Some e) = nat_le held_limit (held s)

abbrev pub call_lacks_room : State → List Node → Option Reference → Bool
call_lacks_room s caps None = false
call_lacks_room s caps (Some x) = is_spent s.next_call 1 || is_spent x.made 1 || lacks_room_through s caps x.head x.embargo

-- ---- advance

-- A reference that turns back takes an embargo; one that switches takes nothing.
abbrev pub switch_lacks_room : State → Descriptor → Bool
switch_lacks_room s descriptor.None = false
switch_lacks_room s (descriptor.SenderHosted e) = false
switch_lacks_room s (descriptor.SenderPromise e) = false
switch_lacks_room s (descriptor.ReceiverHosted e) = has_no_room s.embargoes
switch_lacks_room s (descriptor.ReceiverAnswer q path) = has_no_room s.embargoes

-- By what is known of the wire w to which the head settles. One that leads back to w changes nothing.
abbrev pub advance_by : State → Node → Known → Bool
advance_by s w NothingYet = false
advance_by s w (IsBroken reason) = false
advance_by s w (Leads said n) = not (is_same_node (settle s n) w) && switch_lacks_room s said

abbrev pub advance_through : State → Node → Option EmbargoId → Bool
advance_through s head (Some e) = false
advance_through s head None = advance_by s (settle s head) (known_of_wire s (settle s head))

abbrev pub advance_lacks_room : State → Option Reference → Bool
advance_lacks_room s None = false
advance_lacks_room s (Some x) = advance_through s x.head x.embargo

-- ---- All

abbrev pub field_lacks_room : State → Option OwnCall → Bool
field_lacks_room s None = false
field_lacks_room s (Some from) = is_spent s.next_ref 1

abbrev pub lacks_room : State → Command → Bool
lacks_room s (command.Host o) = is_spent s.next_ref 1
lacks_room s (command.CloneRef r) = is_spent s.next_ref 1
lacks_room s (command.DropRef r) = false
lacks_room s command.Bootstrap = has_no_room s.questions || is_spent s.next_call 1
lacks_room s (command.Call c) = call_lacks_room s (heads s c.refs) (map.get s.refs c.reference.0)
lacks_room s (command.Field c path) = field_lacks_room s (map.get s.calls c.0)
lacks_room s command.Promise = is_spent s.next_promise 1 || is_spent s.next_ref 1
lacks_room s (command.Resolve p r) = false
lacks_room s (command.Reject p exception) = false
lacks_room s (command.Answer t payload refs) = false
lacks_room s (command.Fail t exception) = false
lacks_room s (command.Finish c) = false
lacks_room s (command.Advance r) = advance_lacks_room s (map.get s.refs r.0)
lacks_room s (command.Shut n) = false
