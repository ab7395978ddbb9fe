-- Which command takes the shorter path, and which way it goes (docs/protocol.md, "Shortening a path"; rpc.capnp,
-- Resolve and Disembargo).
use Rattle.std.specs.Prelude.{◌≡◌, ◌≢◌, ◌⊎◌, ℕ, zero, suc, Option, None, Some, List, [], ◌∷◌}
use Rattle.std.specs.FinMap as map
use Rattle.rpc_journal.specs.rpc_msg.specs.declared.ids.EmbargoId.{EmbargoId}
use Rattle.rpc_journal.specs.rpc_msg.specs.Op.{Op}
use Rattle.rpc_journal.specs.rpc_msg.specs.CapAt.{CapAt}
use Rattle.rpc_journal.specs.rpc_msg.specs.CapAt.TheVariants.{Cap, Null, NotCap}
use Rattle.rpc_journal.specs.rpc_msg.specs.declared.parts.Descriptor.{Descriptor}
use Rattle.rpc_journal.specs.rpc_msg.specs.declared.parts.Descriptor.TheVariants as descriptor
use Rattle.rpc_journal.specs.rpc_msg.specs.declared.parts.Target.{Target}
use Rattle.rpc_journal.specs.rpc_msg.specs.declared.parts.Target.TheVariants.{ImportedCap, PromisedAnswer}
use Rattle.rpc_journal.specs.rpc_msg.specs.declared.message.DisembargoContext.TheVariants.{SenderLoopback}
use Rattle.rpc_journal.specs.rpc_msg.specs.declared.message.PlainMessage.TheVariants as plain
use Rattle.rpc_journal.specs.declared.report.Advanced.{Advanced}
use Rattle.rpc_journal.specs.declared.report.Advanced.TheVariants as advanced
use Rattle.rpc_machine.specs.declared.node.Node.{Node}
use Rattle.rpc_machine.specs.declared.node.Node.TheVariants as node
use Rattle.rpc_machine.specs.declared.node.Reason.{Reason}
use Rattle.rpc_machine.specs.declared.node.Reason.TheVariants.{NullCapability, BrokenPromise}
use Rattle.rpc_machine.specs.declared.command.Granted.{Granted}
use Rattle.rpc_machine.specs.declared.command.Granted.TheVariants as granted
use Rattle.rpc_machine.specs.declared.entries.Returned.{Returned}
use Rattle.rpc_machine.specs.declared.entries.Returned.TheVariants as back
use Rattle.rpc_machine.specs.declared.entries.Resolution.{Resolution}
use Rattle.rpc_machine.specs.declared.entries.Resolution.TheVariants as resolution
use Rattle.rpc_machine.specs.declared.entries.Question.{Question}
use Rattle.rpc_machine.specs.declared.entries.Import.{Import}
use Rattle.rpc_machine.specs.declared.entries.Reference.{Reference}
use Rattle.rpc_machine.specs.State.{State}
use Rattle.rpc_machine.specs.Payloads.{cap_at}
use Rattle.rpc_machine.specs.Nodes.{settle}
use Rattle.rpc_machine.specs.Progress.{Progress, with_state, send}

-- What is known of a wire: nothing yet; that it is broken; or the descriptor that it was resolved to, and its node.
pub data Known : Type 0 where
  NothingYet : Known
  IsBroken : (reason : Reason) → Known
  Leads : (said : Descriptor) (to : Node) → Known

abbrev pub known_by : Descriptor → Node → Known
known_by descriptor.None n = IsBroken NullCapability
known_by (descriptor.SenderHosted e) n = Leads (descriptor.SenderHosted e) n
known_by (descriptor.SenderPromise e) n = Leads (descriptor.SenderPromise e) n
known_by (descriptor.ReceiverHosted e) n = Leads (descriptor.ReceiverHosted e) n
known_by (descriptor.ReceiverAnswer q path) n = Leads (descriptor.ReceiverAnswer q path) n

abbrev pub known_by_resolve : Option Resolution → Known
known_by_resolve None = NothingYet
known_by_resolve (Some (resolution.To d n)) = known_by d n
known_by_resolve (Some (resolution.Exception exception)) = IsBroken BrokenPromise

abbrev pub resolution_of : Option Import → Option Resolution
resolution_of None = None
resolution_of (Some x) = x.resolution

abbrev pub known_at : List (Descriptor × Node) → ℕ → Known
known_at [] i = IsBroken BrokenPromise
known_at (c ∷ cs) zero = known_by c.0 c.1
known_at (c ∷ cs) (suc i) = known_at cs i

abbrev pub known_cap : List (Descriptor × Node) → CapAt → Known
known_cap caps (Cap i) = known_at caps i
known_cap caps Null = IsBroken NullCapability
known_cap caps NotCap = IsBroken BrokenPromise

abbrev pub known_by_return : List Op → Option Returned → Known
known_by_return path None = NothingYet
known_by_return path (Some (back.Results payload caps)) = known_cap caps (cap_at payload path)
known_by_return path (Some (back.Exception exception)) = IsBroken BrokenPromise

abbrev pub returned_of : Option Question → Option Returned
returned_of None = None
returned_of (Some x) = x.returned

-- What its Resolve said of an import, or its Return of a Pipe.
abbrev pub known_of_wire : State → Node → Known
known_of_wire s (node.Object o) = NothingYet
known_of_wire s (node.Promise p) = NothingYet
known_of_wire s (node.Field o path) = NothingYet
known_of_wire s (node.Import e) = known_by_resolve (resolution_of (map.get s.imports e.0))
known_of_wire s (node.Pipe q path) = known_by_return path (returned_of (map.get s.questions q.0))
known_of_wire s (node.Broken reason) = NothingYet

-- The target on the wire.
abbrev pub wire_target : Node → Option Target
wire_target (node.Object o) = None
wire_target (node.Promise p) = None
wire_target (node.Field o path) = None
wire_target (node.Import e) = Some (ImportedCap e)
wire_target (node.Pipe q path) = Some (PromisedAnswer q path)
wire_target (node.Broken reason) = None

abbrev pub AnswersSo : Granted → Advanced → Type 0
AnswersSo g a = g ≡ granted.Advanced a

abbrev pub headed : Progress → ℕ → Reference → Node → Progress
headed d r x n = with_state d (record (d.state) { refs = map.insert d.state.refs r (record x { head = n }) })

abbrev pub Switches : Progress → ℕ → Reference → Node → Granted → Progress → Type 0
Switches d r x n g new = AnswersSo g advanced.Switched × (new ≡ headed d r x n)

-- A Disembargo goes to the wire, and the calls of the reference wait until it comes back.
abbrev pub Embargoes : Progress → ℕ → Reference → Option Target → Node → Granted → Progress → Type 0
Embargoes d r x None n g new = ⊥
Embargoes d r x (Some target) n g new =
    AnswersSo g advanced.Embargoed
    × ((e : ℕ) × (map.get d.state.embargoes e ≡ None)
    × (new ≡ send
    (with_state d (record (d.state) {
      refs = map.insert d.state.refs r (record { head = n; embargo = Some (record { 0 = e }); made = x.made });
      embargoes = map.insert d.state.embargoes e (record { reference = record { 0 = r }; node = n; waiting = [] });
    }))
    (plain.Disembargo (record { target = target; context = SenderLoopback (record { 0 = e }) }))))

-- The descriptor's kind alone decides.
abbrev pub AdvancesBy : Progress → ℕ → Reference → Node → Descriptor → Node → Granted → Progress → Type 0
AdvancesBy d r x w descriptor.None n g new = ⊥
AdvancesBy d r x w (descriptor.SenderHosted e) n g new = Switches d r x n g new
AdvancesBy d r x w (descriptor.SenderPromise e) n g new = Switches d r x n g new
AdvancesBy d r x w (descriptor.ReceiverHosted e) n g new = Embargoes d r x (wire_target w) n g new
AdvancesBy d r x w (descriptor.ReceiverAnswer q path) n g new = Embargoes d r x (wire_target w) n g new

abbrev pub Stays : Progress → Granted → Progress → Type 0
Stays d g new = AnswersSo g advanced.Nothing × (new ≡ d)

-- By what is known of the wire to which the head settles.
abbrev pub AdvancesTo : Progress → ℕ → Reference → Node → Known → Granted → Progress → Type 0
AdvancesTo d r x w NothingYet g new = Stays d g new
AdvancesTo d r x w (IsBroken reason) g new = AnswersSo g advanced.Broke × (new ≡ headed d r x (node.Broken reason))
AdvancesTo d r x w (Leads said n) g new =
    ((settle d.state n ≡ w) × Stays d g new)
    ⊎ ((settle d.state n ≢ w) × AdvancesBy d r x w said n g new)

abbrev pub AdvancesFrom : Progress → ℕ → Reference → Option EmbargoId → Granted → Progress → Type 0
AdvancesFrom d r x (Some e) g new = Stays d g new
AdvancesFrom d r x None g new = AdvancesTo d r x (settle d.state x.head) (known_of_wire d.state (settle d.state x.head)) g new

abbrev pub Advances : Progress → ℕ → Option Reference → Granted → Progress → Type 0
Advances d r None g new = ⊥
Advances d r (Some x) g new = AdvancesFrom d r x x.embargo g new
