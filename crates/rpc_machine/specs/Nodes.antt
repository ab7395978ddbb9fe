-- Where a node settles: where it leads within its vat (docs/protocol.md, "Where a node leads").
use Rattle.std.specs.Prelude.{ℕ, zero, suc, ◌+◌, Bool, true, false, ◌&&◌, nat_eq, Option, None, Some, unwrap_or, List, [], ◌∷◌, length, slice_get}
use Rattle.std.specs.FinMap as map
use Rattle.rpc_journal.specs.rpc_msg.specs.Op.{Op}
use Rattle.rpc_journal.specs.rpc_msg.specs.Op.TheVariants.{Noop, Field}
use Rattle.rpc_journal.specs.rpc_msg.specs.CapAt.{CapAt}
use Rattle.rpc_journal.specs.rpc_msg.specs.CapAt.TheVariants.{Cap, Null, NotCap}
use Rattle.rpc_machine.specs.Payloads.{cap_at}
use Rattle.rpc_machine.specs.declared.node.Node.{Node}
use Rattle.rpc_machine.specs.declared.node.Node.TheVariants as node
use Rattle.rpc_machine.specs.declared.node.Reason.TheVariants.{NullCapability, NotACapability, BrokenPromise}
use Rattle.rpc_machine.specs.declared.calls.Promise.{Promise}
use Rattle.rpc_machine.specs.declared.calls.Promise.TheVariants as promise
use Rattle.rpc_machine.specs.declared.calls.Value.{Value}
use Rattle.rpc_machine.specs.declared.calls.Value.TheVariants as value
use Rattle.rpc_machine.specs.declared.calls.KeptOutcome.{KeptOutcome}
use Rattle.rpc_machine.specs.State.{State}

-- The node of what stands at a place of a payload.
abbrev pub node_of_cap : List Node → CapAt → Node
node_of_cap caps (Cap i) = unwrap_or (slice_get caps i) (node.Broken NotACapability)
node_of_cap caps Null = node.Broken NullCapability
node_of_cap caps NotCap = node.Broken NotACapability

-- What a known outcome fixes its field at that path to (rpc.capnp, PromisedAnswer).
abbrev pub field_of : Value → List Op → Node
field_of (value.Results payload caps) path = node_of_cap caps (cap_at payload path)
field_of (value.Exception exception) path = node.Broken BrokenPromise

abbrev pub promise_link : Option Promise → Option Node
promise_link None = None
promise_link (Some (promise.Open calls)) = None
promise_link (Some (promise.Fixed to)) = Some to

abbrev pub value_of : Option KeptOutcome → Option Value
value_of None = None
value_of (Some entry) = entry.value

abbrev pub field_link : List Op → Option Value → Option Node
field_link path None = None
field_link path (Some v) = Some (field_of v path)

-- Where the link of a node leads: that of a settled own promise to its target, that of a field of a known outcome to
-- the capability at its path. No other node has one: no object, open promise or field, wire or broken node.
abbrev pub link : State → Node → Option Node
link s (node.Object o) = None
link s (node.Promise p) = promise_link (map.get s.promises p)
link s (node.Field o path) = field_link path (value_of (map.get s.outcomes o))
link s (node.Import e) = None
link s (node.Pipe q path) = None
link s (node.Broken reason) = None

-- One link further, if there is one.
abbrev pub next : State → Node → Node
next s n = unwrap_or (link s n) n

-- That many links further.
abbrev pub follow : State → ℕ → Node → Node
follow s zero n = n
follow s (suc k) n = follow s k (next s n)

abbrev pub links_of : Option Value → ℕ
links_of None = 0
links_of (Some (value.Results payload caps)) = length caps
links_of (Some (value.Exception exception)) = 0

abbrev pub all_links : List (ℕ × KeptOutcome) → ℕ
all_links [] = 0
all_links (e ∷ es) = links_of e.1.value + all_links es

-- No node leads further than this: it passes each own promise and each capability of an outcome at most once, and
-- its last link may be one to a broken node.
abbrev pub links : State → ℕ
links s = 1 + (map.len s.promises + all_links (map.entries s.outcomes))

-- Where a node leads within the vat: to an object, an open promise or field, a wire or a broken node. It stops at a
-- wire also where that wire was resolved.
abbrev pub settle : State → Node → Node
settle s n = follow s (links s) n

abbrev pub is_object : Node → Bool
is_object (node.Object o) = true
is_object (node.Promise p) = false
is_object (node.Field o path) = false
is_object (node.Import e) = false
is_object (node.Pipe q path) = false
is_object (node.Broken reason) = false

-- A node that a call waits for, where it settles to itself.
abbrev pub is_open : Node → Bool
is_open (node.Object o) = false
is_open (node.Promise p) = true
is_open (node.Field o path) = true
is_open (node.Import e) = false
is_open (node.Pipe q path) = false
is_open (node.Broken reason) = false

abbrev pub is_wire : Node → Bool
is_wire (node.Object o) = false
is_wire (node.Promise p) = false
is_wire (node.Field o path) = false
is_wire (node.Import e) = true
is_wire (node.Pipe q path) = true
is_wire (node.Broken reason) = false

-- The own promise with that key.
abbrev pub is_promise : ℕ → Node → Bool
is_promise k (node.Object o) = false
is_promise k (node.Promise p) = nat_eq p k
is_promise k (node.Field o path) = false
is_promise k (node.Import e) = false
is_promise k (node.Pipe q path) = false
is_promise k (node.Broken reason) = false

-- A field of the outcome with that key.
abbrev pub is_field : ℕ → Node → Bool
is_field k (node.Object o) = false
is_field k (node.Promise p) = false
is_field k (node.Field o path) = nat_eq o k
is_field k (node.Import e) = false
is_field k (node.Pipe q path) = false
is_field k (node.Broken reason) = false

-- The import with that id.
abbrev pub is_import : ℕ → Node → Bool
is_import k (node.Object o) = false
is_import k (node.Promise p) = false
is_import k (node.Field o path) = false
is_import k (node.Import e) = nat_eq e.0 k
is_import k (node.Pipe q path) = false
is_import k (node.Broken reason) = false

-- A Pipe of the question with that id.
abbrev pub is_pipe : ℕ → Node → Bool
is_pipe k (node.Object o) = false
is_pipe k (node.Promise p) = false
is_pipe k (node.Field o path) = false
is_pipe k (node.Import e) = false
is_pipe k (node.Pipe q path) = nat_eq q.0 k
is_pipe k (node.Broken reason) = false

abbrev pub same_op : Op → Op → Bool
same_op Noop Noop = true
same_op Noop (Field j) = false
same_op (Field i) Noop = false
same_op (Field i) (Field j) = nat_eq i j

abbrev pub same_path : List Op → List Op → Bool
same_path [] [] = true
same_path [] (q ∷ qs) = false
same_path (p ∷ ps) [] = false
same_path (p ∷ ps) (q ∷ qs) = same_op p q && same_path ps qs

-- The two are one node. (Of broken nodes nobody asks.)
abbrev pub is_same_node : Node → Node → Bool
is_same_node (node.Object o) (node.Object x) = nat_eq o.0 x.0
is_same_node (node.Promise p) (node.Promise x) = nat_eq p x
is_same_node (node.Field o path) (node.Field x y) = nat_eq o x && same_path path y
is_same_node (node.Import e) (node.Import x) = nat_eq e.0 x.0
is_same_node (node.Pipe q path) (node.Pipe x y) = nat_eq q.0 x.0 && same_path path y
is_same_node m n = false
