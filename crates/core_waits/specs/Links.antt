-- Links of what waits, and short cuts along them (docs/protocol.md, "Where a node leads").
use Rattle.std.specs.Prelude.{◌≡◌, ℕ, zero, suc, ◌≤◌, ◌<◌, cond, nat_eq, ◌⊎◌, Option, None, Some, List, get_or}
use Rattle.std.specs.FinMap as map
use Rattle.finite_maps.specs.Tally.{Map}
use Rattle.rpc_msg.specs.Op.{Op}
use Rattle.rpc_msg.specs.CapAt.{CapAt}
use Rattle.rpc_msg.specs.CapAt.TheVariants.{Cap, Null, NotCap}
use Rattle.rpc_machine.specs.Payloads.{cap_at}
use Rattle.rpc_machine.specs.declared.node.Node.{Node}
use Rattle.rpc_machine.specs.declared.node.Node.TheVariants as node
use Rattle.rpc_machine.specs.declared.calls.Value.{Value}
use Rattle.rpc_machine.specs.declared.calls.Value.TheVariants as value
use Rattle.rpc_machine.specs.Nodes.{promise_link, field_link, value_of}
use Rattle.core_waits.specs.declared.hops.Hop.{Hop}
use Rattle.core_waits.specs.declared.entries.PromiseEntry.{PromiseEntry}
use Rattle.core_waits.specs.declared.entries.OutcomeEntry.{OutcomeEntry}
use Rattle.core_waits.specs.Waiting.{Waiting}

-- Where the link of a node leads, by what waits.
abbrev pub link_of : Waiting → Node → Option Node
link_of w (node.Object o) = None
link_of w (node.Promise p) = promise_link (map.get w.promises p)
link_of w (node.Field o path) = field_link path (value_of (map.get w.outcomes o))
link_of w (node.Import e) = None
link_of w (node.Pipe q path) = None
link_of w (node.Broken reason) = None

-- So many links, each of which is there, lead from one node to another.
abbrev pub Leads : (Node → Option Node) → ℕ → Node → Node → Type 0
Leads link zero n z = n ≡ z
Leads link (suc k) n z = (m : Node) × (link n ≡ Some m) × Leads link k m z

-- A way along some links, at most so many as are left; none only where no link is there, or none is left.
abbrev pub IsHop : (Node → Option Node) → ℕ → Node → Option Hop → Type 0
IsHop link left n None = 0 < left → link n ≡ None
IsHop link left n (Some h) = (0 < h.far) × (h.far ≤ left) × Leads link h.far n h.to

-- ---- What is kept

-- The short cut at a place.
abbrev pub hop_in : List (Option Hop) → ℕ → Option Hop
hop_in hops i = get_or hops i None

-- One is kept at a place, and the others stay.
abbrev pub IsKept : ℕ → Hop → List (Option Hop) → List (Option Hop) → Type 0
IsKept i h hops new = (j : ℕ) → hop_in new j ≡ cond (nat_eq j i) (Some h) (hop_in hops j)

-- What is kept now was kept before, but for that one at that place.
abbrev pub IsKeptAt : ℕ → Hop → List (Option Hop) → List (Option Hop) → Type 0
IsKeptAt i h hops new = (j : ℕ) (x : Hop) → hop_in new j ≡ Some x → (hop_in hops j ≡ Some x) ⊎ ((j ≡ i) × (h ≡ x))

-- A way from a node with that link, by the short cut that is kept of it or by the link alone.
abbrev pub IsHopFrom : Option Node → Option Hop → ℕ → Option Hop → Type 0
IsHopFrom link kept left None = link ≡ None
IsHopFrom link kept left (Some h) = ((kept ≡ Some h) × (h.far ≤ left)) ⊎ ((link ≡ Some h.to) × (h.far ≡ 1))

-- A capability stands there at that place.
abbrev pub IsPlaceOf : ℕ → List Op → Option Value → Type 0
IsPlaceOf i path None = ⊥
IsPlaceOf i path (Some (value.Results payload caps)) = cap_at payload path ≡ Cap i
IsPlaceOf i path (Some (value.Exception exception)) = ⊥

-- Where the promise leads, and what the outcome is, where the entry is there.
abbrev pub to_of : Option PromiseEntry → Option Node
to_of None = None
to_of (Some e) = e.to

abbrev pub value_in : Option OutcomeEntry → Option Value
value_in None = None
value_in (Some e) = e.value

-- The link of a node, by the entries.
abbrev pub link_at : Map PromiseEntry → Map OutcomeEntry → Node → Option Node
link_at ps os (node.Object o) = None
link_at ps os (node.Promise p) = to_of (map.get ps p)
link_at ps os (node.Field o path) = field_link path (value_in (map.get os o))
link_at ps os (node.Import e) = None
link_at ps os (node.Pipe q path) = None
link_at ps os (node.Broken reason) = None

-- The short cut of what stands at a place of a payload, at a path of a value, of an entry.
abbrev pub cap_hop : List (Option Hop) → CapAt → Option Hop
cap_hop hops (Cap i) = hop_in hops i
cap_hop hops Null = None
cap_hop hops NotCap = None

abbrev pub value_hop : List (Option Hop) → List Op → Option Value → Option Hop
value_hop hops path None = None
value_hop hops path (Some (value.Results payload caps)) = cap_hop hops (cap_at payload path)
value_hop hops path (Some (value.Exception exception)) = None

abbrev pub promise_hop : Option PromiseEntry → Option Hop
promise_hop None = None
promise_hop (Some e) = hop_in e.hops 0

abbrev pub field_hop : List Op → Option OutcomeEntry → Option Hop
field_hop path None = None
field_hop path (Some e) = value_hop e.hops path e.value

-- The short cut that is kept of a node's link.
abbrev pub hop_at : Map PromiseEntry → Map OutcomeEntry → Node → Option Hop
hop_at ps os (node.Object o) = None
hop_at ps os (node.Promise p) = promise_hop (map.get ps p)
hop_at ps os (node.Field o path) = field_hop path (map.get os o)
hop_at ps os (node.Import e) = None
hop_at ps os (node.Pipe q path) = None
hop_at ps os (node.Broken reason) = None

-- Each short cut says where so many links lead.
abbrev pub AreSound : (Node → Option Node) → (Node → Option Hop) → Type 0
AreSound link hop = (n : Node) (h : Hop) → hop n ≡ Some h → (0 < h.far) × Leads link h.far n h.to

abbrev pub HopsHold : Map PromiseEntry → Map OutcomeEntry → Type 0
HopsHold ps os = AreSound (link_at ps os) (hop_at ps os)
