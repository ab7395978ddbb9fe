-- A run: A drops a promise of B, and B resolves it before the Release has come. A takes what the Resolve gives, and releases
-- it at once (docs/protocol.md, "Received messages of the whole machine" and "Counts").
use Rattle.std.specs.Prelude.{◌≡◌, ℕ, None, List, [], ◌∷◌}
use Rattle.std.specs.FinMap as map
use Rattle.rpc_msg.specs.declared.ids.Vat.TheVariants.{A, B}
use Rattle.rpc_msg.specs.declared.parts.Descriptor.TheVariants as descriptor
use Rattle.rpc_msg.specs.declared.message.ResolvedTo.TheVariants as resolved
use Rattle.rpc_msg.specs.declared.message.PlainMessage.TheVariants as plain
use Rattle.rpc_msg.specs.declared.message.Message.{Message}
use Rattle.rpc_msg.specs.declared.message.Message.TheVariants as message
use Rattle.rpc_machine.specs.declared.node.Node.{Node}
use Rattle.rpc_machine.specs.declared.node.Node.TheVariants as node
use Rattle.rpc_machine.specs.declared.command.Command.TheVariants as command
use Rattle.rpc_machine.specs.declared.command.Granted.TheVariants as granted
use Rattle.rpc_machine.specs.declared.command.Level.TheVariants.{One}
use Rattle.rpc_machine.specs.declared.calls.Promise.TheVariants as promise
use Rattle.rpc_machine.specs.declared.entries.Export.{Export}
use Rattle.rpc_machine.specs.declared.entries.Import.{Import}
use Rattle.rpc_machine.specs.declared.entries.SenderKind.TheVariants as sender
use Rattle.rpc_machine.specs.State.{State, start}
use Rattle.rpc_machine.specs.Limits.{import_count, export_count}
use Rattle.rpc_machine.specs.UnderWay.{under_way}
use Rattle.rpc_machine.specs.World.{World, Happening, Run}
use Rattle.rpc_machine_examples.specs.Given.{m, ref_id, export_id, object_id, headed_by, release_message, sending, between, did, took}

abbrev pub resolve : Message
resolve = message.Plain (plain.Resolve (record { promise = export_id 1; to = resolved.Cap (descriptor.SenderHosted (export_id 2)) }))

-- ---- What A holds: a reference to B's promise, its import 1

abbrev pub a0 : State
a0 = record (start A One None) {
  imports = m ((1, record { kind = sender.Promise; count = 1; resolution = None }) ∷ []);
  refs = m ((0, headed_by (node.Import (export_id 1)) 0) ∷ []);
  next_ref = 1;
}

abbrev pub a1 : State
a1 = record a0 { imports = m []; refs = m [] }

abbrev pub hosted : Import
hosted = record { kind = sender.Hosted; count = 1; resolution = None }

-- ---- What B holds: the promise, its export 1, and an object of its own that A does not know

abbrev pub object : Node
object = node.Object (object_id 4)

abbrev pub own_promise : Node
own_promise = node.Promise 0

abbrev pub export : Node → Export
export n = record { node = n; count = 1 }

abbrev pub b0 : State
b0 = record (start B One None) {
  exports = m ((1, export own_promise) ∷ []);
  refs = m ((1, headed_by object 0) ∷ (0, headed_by own_promise 0) ∷ []);
  promises = m ((0, promise.Open []) ∷ []);
  unsettled = m ((0, 0) ∷ []);
  next_ref = 2;
  next_promise = 1;
}

-- The promise is resolved: the object is the export 2.
abbrev pub b1 : State
b1 = record b0 { exports = m ((2, export object) ∷ (1, export own_promise) ∷ []); promises = m ((0, promise.Fixed object) ∷ []); unsettled = m [] }

-- The first Release has come; the second has.
abbrev pub b2 : State
b2 = record b1 { exports = m ((2, export object) ∷ []) }

abbrev pub b3 : State
b3 = record b2 { exports = m [] }

-- ---- What happens

abbrev pub events : List Happening
events =
    did A (command.DropRef (ref_id 0)) granted.Done (sending (release_message 1 1 ∷ []))
    ∷ did B (command.Resolve (record { 0 = 0 }) (ref_id 1)) granted.Done (sending (resolve ∷ []))
    ∷ took A (sending (release_message 2 1 ∷ []))
    ∷ took B (sending [])
    ∷ took B (sending [])
    ∷ []

abbrev pub before : World
before = between a0 [] b0 []

-- The Release and the Resolve cross; the Resolve has come.
abbrev pub crossing : World
crossing = between a1 (resolve ∷ []) b1 (release_message 1 1 ∷ [])

abbrev pub let_go : World
let_go = between a1 [] b1 (release_message 1 1 ∷ release_message 2 1 ∷ [])

abbrev pub after : World
after = between a1 [] b3 []

-- The count of B's export, that of A's import, and what is under way.
pub record CountsOf (w : World) (e exported imported way : ℕ) : Type 0 where
  pub exported_is : export_count (map.get w.b.core.exports e) ≡ exported
  pub imported_is : import_count (map.get w.a.core.imports e) ≡ imported
  pub way_is : under_way w B e ≡ way

pub record IsLateResolve : Type 0 where
  pub runs : Run before events after
  pub promise_before : CountsOf before 1 1 1 0
  pub promise_crossing : CountsOf crossing 1 1 0 1
  pub object_crossing : CountsOf crossing 2 1 0 1
  pub object_let_go : CountsOf let_go 2 1 0 1
  pub promise_after : CountsOf after 1 0 0 0
  pub object_after : CountsOf after 2 0 0 0
