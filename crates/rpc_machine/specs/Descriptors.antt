-- The descriptors of nodes in a message that is sent, and the nodes of descriptors in one that is received
-- (docs/protocol.md, "Descriptors"; rpc.capnp, CapDescriptor).
use Rattle.std.specs.Prelude.{◌≡◌, ◌≢◌, ℕ, ◌+◌, nat_eq, Option, None, Some, List, [], ◌∷◌}
use Rattle.std.specs.FinMap as map
use Rattle.rpc_journal.specs.rpc_msg.specs.declared.parts.Descriptor.{Descriptor}
use Rattle.rpc_journal.specs.rpc_msg.specs.declared.parts.Descriptor.TheVariants as descriptor
use Rattle.rpc_journal.specs.rpc_msg.specs.Op.{Op}
use Rattle.rpc_journal.specs.rpc_msg.specs.declared.message.Message.{Message}
use Rattle.rpc_journal.specs.rpc_msg.specs.Messages.{given, descriptors_of}
use Rattle.rpc_journal.specs.rpc_msg.specs.Paths.{fields}
use Rattle.rpc_machine.specs.declared.node.Node.{Node}
use Rattle.rpc_machine.specs.declared.node.Node.TheVariants as node
use Rattle.rpc_machine.specs.declared.node.Reason.TheVariants.{NullCapability}
use Rattle.rpc_machine.specs.declared.command.Level.{Level}
use Rattle.rpc_machine.specs.declared.command.Level.TheVariants.{Zero, One}
use Rattle.rpc_machine.specs.declared.entries.Export.{Export}
use Rattle.rpc_machine.specs.declared.entries.AnswerEntry.{AnswerEntry}
use Rattle.rpc_machine.specs.declared.entries.Import.{Import}
use Rattle.rpc_machine.specs.declared.entries.SenderKind.{SenderKind}
use Rattle.rpc_machine.specs.declared.entries.SenderKind.TheVariants as kind
use Rattle.rpc_machine.specs.State.{State}
use Rattle.rpc_machine.specs.Nodes.{settle}
use Rattle.rpc_machine.specs.Lists.{how_many}
use Rattle.rpc_machine.specs.Progress.{export_id}

abbrev pub IsOther : Node → Option Export → Type 0
IsOther n None = Unit {0}
IsOther n (Some x) = x.node ≢ n

-- No export stands for the node.
abbrev pub IsNotExported : State → Node → Type 0
IsNotExported s n = (e : ℕ) → IsOther n (map.get s.exports e)

-- The node goes out as the export e: that is its export, with one more on its count, or, where it has none, a
-- free id.
abbrev pub ExportedAs : State → Node → ℕ → Option Export → State → Type 0
ExportedAs s n e (Some x) new = (x.node ≡ n) × (new ≡ record s { exports = map.insert s.exports e (record { node = n; count = x.count + 1 }) })
ExportedAs s n e None new = IsNotExported s n × (new ≡ record s { exports = map.insert s.exports e (record { node = n; count = 1 }) })

abbrev pub Exported : State → Node → ℕ → State → Type 0
Exported s n e new = ExportedAs s n e (map.get s.exports e) new

-- The descriptor of a node that settles to itself.
abbrev pub Described : State → Node → Descriptor → State → Type 0
Described s (node.Object o) d new = (e : ℕ) × (d ≡ descriptor.SenderHosted (export_id e)) × Exported s (node.Object o) e new
Described s (node.Promise p) d new = (e : ℕ) × (d ≡ descriptor.SenderPromise (export_id e)) × Exported s (node.Promise p) e new
Described s (node.Field o path) d new = (e : ℕ) × (d ≡ descriptor.SenderPromise (export_id e)) × Exported s (node.Field o path) e new
Described s (node.Import e) d new = (d ≡ descriptor.ReceiverHosted e) × (new ≡ s)
Described s (node.Pipe q path) d new = (d ≡ descriptor.ReceiverAnswer q path) × (new ≡ s)
Described s (node.Broken reason) d new = (d ≡ descriptor.None) × (new ≡ s)

-- The descriptor of a node, and the state with what it adds to the exports.
abbrev pub Describes : State → Node → Descriptor → State → Type 0
Describes s n d new = Described s (settle s n) d new

-- The descriptors of these nodes, made one after the other.
abbrev pub DescribesAll : State → List Node → List Descriptor → State → Type 0
DescribesAll s [] [] new = new ≡ s
DescribesAll s [] (d ∷ ds) new = ⊥
DescribesAll s (n ∷ ns) [] new = ⊥
DescribesAll s (n ∷ ns) (d ∷ ds) new = (mid : State) × Describes s n d mid × DescribesAll mid ns ds new

-- The node of an own export.
abbrev pub export_node : Option Export → Node
export_node None = node.Broken NullCapability
export_node (Some x) = x.node

-- The field of an own answer.
abbrev pub answer_node : List Op → Option AnswerEntry → Node
answer_node path None = node.Broken NullCapability
answer_node path (Some a) = node.Field a.outcome (fields path)

-- What a received descriptor stands for.
abbrev pub read_one : State → Descriptor → Node
read_one s descriptor.None = node.Broken NullCapability
read_one s (descriptor.SenderHosted e) = node.Import e
read_one s (descriptor.SenderPromise e) = node.Import e
read_one s (descriptor.ReceiverHosted e) = export_node (map.get s.exports e.0)
read_one s (descriptor.ReceiverAnswer q path) = answer_node path (map.get s.answers q.0)

-- A level 0 vat reads each as none.
abbrev pub read_at : Level → State → Descriptor → Node
read_at Zero s d = node.Broken NullCapability
read_at One s d = read_one s d

abbrev pub read : State → Descriptor → Node
read s d = read_at s.level s d

abbrev pub read_all : State → List Descriptor → List Node
read_all s [] = []
read_all s (d ∷ ds) = read s d ∷ read_all s ds

-- The same, each beside its descriptor.
abbrev pub read_beside : State → List Descriptor → List (Descriptor × Node)
read_beside s [] = []
read_beside s (d ∷ ds) = (d, read s d) ∷ read_beside s ds

abbrev pub received : SenderKind → Option Import → Import
received k None = record { kind = k; count = 1; resolution = None }
received k (Some x) = record x { count = x.count + 1 }

abbrev pub import_one : State → SenderKind → ℕ → State
import_one s k e = record s { imports = map.insert s.imports e (received k (map.get s.imports e)) }

abbrev pub take_one : State → Descriptor → State
take_one s descriptor.None = s
take_one s (descriptor.SenderHosted e) = import_one s kind.Hosted e.0
take_one s (descriptor.SenderPromise e) = import_one s kind.Promise e.0
take_one s (descriptor.ReceiverHosted e) = s
take_one s (descriptor.ReceiverAnswer q path) = s

abbrev pub take_each : State → List Descriptor → State
take_each s [] = s
take_each s (d ∷ ds) = take_each (take_one s d) ds

abbrev pub take_at : Level → State → List Descriptor → State
take_at Zero s ds = s
take_at One s ds = take_each s ds

-- The state with one more on the import of each sender descriptor. A level 0 vat keeps no imports.
abbrev pub take_all : State → List Descriptor → State
take_all s ds = take_at s.level s ds

abbrev pub taken_at : Level → List Descriptor → List ℕ
taken_at Zero ds = []
taken_at One ds = given ds

-- The ids of the imports that descriptors add one to.
abbrev pub taken_of : State → List Descriptor → List ℕ
taken_of s ds = taken_at s.level ds

-- How many descriptors stand in these messages that add one to the export e.
abbrev pub giving : ℕ → List Message → ℕ
giving e [] = 0
giving e (m ∷ ms) = how_many (nat_eq e) (given (descriptors_of m)) + giving e ms
