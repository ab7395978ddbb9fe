-- A run: a promise of B leads to one of A, that to another one of B, and that to A's object. A call goes the whole way, and
-- the reference takes the shorter path twice, each time behind a Disembargo. The calls are delivered as they were made
-- (docs/protocol.md, "Shortening a path").
use Rattle.std.specs.Prelude.{◌≡◌, ℕ, None, Some, List, [], ◌∷◌, ◌++◌}
use Rattle.rpc_msg.specs.declared.ids.Vat.TheVariants.{A, B}
use Rattle.rpc_msg.specs.declared.ids.Stamp.{Stamp}
use Rattle.rpc_msg.specs.declared.ids.PromiseId.{PromiseId}
use Rattle.rpc_msg.specs.declared.parts.Target.{Target}
use Rattle.rpc_msg.specs.declared.parts.Target.TheVariants.{ImportedCap}
use Rattle.rpc_msg.specs.declared.parts.Descriptor.TheVariants as descriptor
use Rattle.rpc_msg.specs.declared.message.DisembargoContext.TheVariants.{SenderLoopback, ReceiverLoopback}
use Rattle.rpc_msg.specs.declared.message.ResolvedTo.TheVariants as resolved
use Rattle.rpc_msg.specs.declared.message.PlainMessage.TheVariants as plain
use Rattle.rpc_msg.specs.declared.message.Message.{Message}
use Rattle.rpc_msg.specs.declared.message.Message.TheVariants as message
use Rattle.rpc_journal.specs.History.{made, delivered}
use Rattle.rpc_journal.specs.declared.report.Advanced.TheVariants as advanced
use Rattle.rpc_machine.specs.declared.node.Node.{Node}
use Rattle.rpc_machine.specs.declared.node.Node.TheVariants as node
use Rattle.rpc_machine.specs.declared.command.Command.TheVariants as command
use Rattle.rpc_machine.specs.declared.command.Granted.TheVariants as granted
use Rattle.rpc_machine.specs.declared.command.Level.TheVariants.{One}
use Rattle.rpc_machine.specs.declared.calls.OwnCall.TheVariants as own
use Rattle.rpc_machine.specs.declared.calls.Promise.TheVariants as promise
use Rattle.rpc_machine.specs.declared.calls.WaitingCall.{WaitingCall}
use Rattle.rpc_machine.specs.declared.entries.Embargo.{Embargo}
use Rattle.rpc_machine.specs.declared.entries.Import.{Import}
use Rattle.rpc_machine.specs.declared.entries.Reference.{Reference}
use Rattle.rpc_machine.specs.declared.entries.Resolution.{Resolution}
use Rattle.rpc_machine.specs.declared.entries.Resolution.TheVariants as resolution
use Rattle.rpc_machine.specs.declared.entries.SenderKind.TheVariants as sender
use Rattle.rpc_machine.specs.State.{State, start}
use Rattle.rpc_machine.specs.World.{World, Happening, Run}
use Rattle.rpc_machine.specs.Journal.{journal}
use Rattle.rpc_machine.specs.Pending.{pending}
use Rattle.rpc_machine_examples.specs.Given.{m, null, ref_id, call_id, export_id, headed_by, direct, asked_by, for_peer, call_message, release_message, sending, delivering, between, did, took}
use Rattle.rpc_machine_examples.specs.Across.{stamp, the_call, embargo_id, delivery, waits, open_answer, object, promised, own_outcome, relay, the_ref}

-- ---- Messages

-- A's promise and object are its exports 0 and 1. B's promises, the first and the second, are its exports 1 and 2.
abbrev pub as_export : ℕ → Target
as_export e = ImportedCap (export_id e)

-- The Call with that question id, to that export of the other vat, of the call of that index.
abbrev pub going : ℕ → ℕ → ℕ → Message
going q e i = call_message q (as_export e) 7 1 null [] (stamp i)

-- The promise leads to that export of the other vat.
abbrev pub leads : ℕ → ℕ → Message
leads p e = message.Plain (plain.Resolve (record { promise = export_id p; to = resolved.Cap (descriptor.ReceiverHosted (export_id e)) }))

abbrev pub disembargo : ℕ → Message
disembargo e = message.Plain (plain.Disembargo (record { target = as_export e; context = SenderLoopback embargo_id }))

abbrev pub echo : ℕ → Message
echo e = message.Plain (plain.Disembargo (record { target = as_export e; context = ReceiverLoopback embargo_id }))

abbrev pub promise_id : ℕ → PromiseId
promise_id n = record { 0 = n }

abbrev pub wire : ℕ → Node
wire e = node.Import (export_id e)

-- What the peer said of its promise: it is that export.
abbrev pub said : ℕ → Node → Resolution
said e n = resolution.To (descriptor.ReceiverHosted (export_id e)) n

-- ---- What A holds: references to both promises of B, and one to its own

abbrev pub own_promise : Node
own_promise = node.Promise 0

abbrev pub a0 : State
a0 = record (start A One None) {
  imports = m ((2, promised None) ∷ (1, promised None) ∷ []);
  exports = m ((1, record { node = object; count = 1 }) ∷ (0, record { node = own_promise; count = 1 }) ∷ []);
  refs = m ((2, headed_by own_promise 0) ∷ (1, headed_by (wire 2) 0) ∷ (0, headed_by (wire 1) 0) ∷ []);
  promises = m ((0, promise.Open []) ∷ []);
  unsettled = m ((0, 0) ∷ []);
  next_ref = 3;
  next_promise = 1;
}

-- B's first promise leads to A's.
abbrev pub a1 : State
a1 = record a0 { imports = m ((2, promised None) ∷ (1, promised (Some (said 0 own_promise))) ∷ []) }

-- A's leads to B's second.
abbrev pub a2 : State
a2 = record a1 { promises = m ((0, promise.Fixed (wire 2)) ∷ []); unsettled = m [] }

abbrev pub to_object : Import
to_object = promised (Some (said 1 object))

-- That leads to A's object.
abbrev pub a3 : State
a3 = record a2 { imports = m ((2, to_object) ∷ (1, promised (Some (said 0 own_promise))) ∷ []) }

abbrev pub a_refs : Reference → State → State
a_refs r s = record s { refs = m ((2, headed_by own_promise 0) ∷ (1, headed_by (wire 2) 0) ∷ (0, r) ∷ []) }

abbrev pub turned : Node → ℕ → Reference
turned n made = record { head = n; embargo = Some embargo_id; made = made }

abbrev pub embargo : Node → List WaitingCall → Embargo
embargo n calls = record { reference = ref_id 0; node = n; waiting = calls }

-- The first call is on its way.
abbrev pub a4 : State
a4 = a_refs (headed_by (wire 1) 1) (record a3 { questions = m ((0, direct 0) ∷ []); calls = m ((0, asked_by 0) ∷ []); next_call = 1 })

-- The reference turned back to A's promise. Nothing names B's first promise any more.
abbrev pub a5 : State
a5 = a_refs (turned own_promise 1) (record a4 { imports = m ((2, to_object) ∷ []); embargoes = m ((0, embargo own_promise []) ∷ []) })

-- The second call waits.
abbrev pub a6 : State
a6 = a_refs (turned own_promise 2) (record a5 {
  outcomes = m ((0, own_outcome 1) ∷ []);
  calls = m ((1, own.Kept 0) ∷ (0, asked_by 0) ∷ []);
  embargoes = m ((0, embargo own_promise (waits 1 0 ∷ [])) ∷ []);
  next_call = 2;
})

-- The first call came back, and went to B's second promise.
abbrev pub a7 : State
a7 = record a6 {
  questions = m ((1, relay 1) ∷ (0, direct 0) ∷ []);
  answers = m ((0, open_answer 1) ∷ []);
  outcomes = m ((1, for_peer 0 None) ∷ (0, own_outcome 1) ∷ []);
}

-- The embargo is lifted: the second call went there too, behind it.
abbrev pub a8 : State
a8 = a_refs (headed_by own_promise 2) (record a7 { questions = m ((2, relay 0) ∷ (1, relay 1) ∷ (0, direct 0) ∷ []); embargoes = m [] })

-- The reference turned back to A's object.
abbrev pub a9 : State
a9 = a_refs (turned object 2) (record a8 { embargoes = m ((0, embargo object []) ∷ []) })

-- The third call waits.
abbrev pub a10 : State
a10 = a_refs (turned object 3) (record a9 {
  outcomes = m ((2, own_outcome 2) ∷ (1, for_peer 0 None) ∷ (0, own_outcome 1) ∷ []);
  calls = m ((2, own.Kept 2) ∷ (1, own.Kept 0) ∷ (0, asked_by 0) ∷ []);
  embargoes = m ((0, embargo object (waits 2 2 ∷ [])) ∷ []);
  next_call = 3;
})

-- The first call is a task at the object; the second is; the embargo is lifted, and the third is.
abbrev pub a11 : State
a11 = record a10 {
  answers = m ((1, open_answer 3) ∷ (0, open_answer 1) ∷ []);
  outcomes = m ((3, for_peer 1 None) ∷ (2, own_outcome 2) ∷ (1, for_peer 0 None) ∷ (0, own_outcome 1) ∷ []);
  tasks = m ((0, 3) ∷ []);
  next_task = 1;
}

abbrev pub a12 : State
a12 = record a11 {
  answers = m ((2, open_answer 4) ∷ (1, open_answer 3) ∷ (0, open_answer 1) ∷ []);
  outcomes = m ((4, for_peer 2 None) ∷ (3, for_peer 1 None) ∷ (2, own_outcome 2) ∷ (1, for_peer 0 None) ∷ (0, own_outcome 1) ∷ []);
  tasks = m ((1, 4) ∷ (0, 3) ∷ []);
  next_task = 2;
}

abbrev pub a13 : State
a13 = a_refs (headed_by object 3) (record a12 { embargoes = m []; tasks = m ((2, 2) ∷ (1, 4) ∷ (0, 3) ∷ []); next_task = 3 })

-- ---- What B holds: references to A's promise and object, and to its own two promises

abbrev pub first : Node
first = node.Promise 0

abbrev pub second : Node
second = node.Promise 1

abbrev pub hosted : Import
hosted = record { kind = sender.Hosted; count = 1; resolution = None }

abbrev pub b0 : State
b0 = record (start B One None) {
  imports = m ((1, hosted) ∷ (0, promised None) ∷ []);
  exports = m ((2, record { node = second; count = 1 }) ∷ (1, record { node = first; count = 1 }) ∷ []);
  refs = m ((3, headed_by second 0) ∷ (2, headed_by first 0) ∷ (1, headed_by (wire 1) 0) ∷ (0, headed_by (wire 0) 0) ∷ []);
  promises = m ((1, promise.Open []) ∷ (0, promise.Open []) ∷ []);
  unsettled = m ((1, 1) ∷ (0, 0) ∷ []);
  next_ref = 4;
  next_promise = 2;
}

-- B's first promise leads to A's.
abbrev pub b1 : State
b1 = record b0 { promises = m ((1, promise.Open []) ∷ (0, promise.Fixed (wire 0)) ∷ []); unsettled = m ((1, 1) ∷ []) }

-- A's leads to B's second.
abbrev pub b2 : State
b2 = record b1 { imports = m ((1, hosted) ∷ (0, promised (Some (said 2 second))) ∷ []) }

-- That leads to A's object.
abbrev pub b3 : State
b3 = record b2 { promises = m ((1, promise.Fixed (wire 1)) ∷ (0, promise.Fixed (wire 0)) ∷ []); unsettled = m [] }

-- The first call came by the first promise, and went on to A's.
abbrev pub b4 : State
b4 = record b3 { questions = m ((0, relay 0) ∷ []); answers = m ((0, open_answer 0) ∷ []); outcomes = m ((0, for_peer 0 None) ∷ []) }

-- The first promise is released.
abbrev pub b5 : State
b5 = record b4 { exports = m ((2, record { node = second; count = 1 }) ∷ []) }

-- The first call came by the second promise, and went on to the object; then the second.
abbrev pub b6 : State
b6 = record b5 {
  questions = m ((1, relay 1) ∷ (0, relay 0) ∷ []);
  answers = m ((1, open_answer 1) ∷ (0, open_answer 0) ∷ []);
  outcomes = m ((1, for_peer 1 None) ∷ (0, for_peer 0 None) ∷ []);
}

abbrev pub b7 : State
b7 = record b6 {
  questions = m ((2, relay 2) ∷ (1, relay 1) ∷ (0, relay 0) ∷ []);
  answers = m ((2, open_answer 2) ∷ (1, open_answer 1) ∷ (0, open_answer 0) ∷ []);
  outcomes = m ((2, for_peer 2 None) ∷ (1, for_peer 1 None) ∷ (0, for_peer 0 None) ∷ []);
}

-- ---- What happens

-- The promises are resolved, and the Resolves come.
abbrev pub resolving : List Happening
resolving =
    did B (command.Resolve (promise_id 0) (ref_id 0)) granted.Done (sending (leads 1 0 ∷ []))
    ∷ took A (sending [])
    ∷ did A (command.Resolve (promise_id 0) (ref_id 1)) granted.Done (sending (leads 0 2 ∷ []))
    ∷ took B (sending [])
    ∷ did B (command.Resolve (promise_id 1) (ref_id 1)) granted.Done (sending (leads 2 1 ∷ []))
    ∷ took A (sending [])
    ∷ []

-- The first shorter path: to A's promise.
abbrev pub turning : List Happening
turning =
    did A (command.Call the_call) (granted.Call (call_id 0)) (sending (going 0 1 0 ∷ []))
    ∷ did A (command.Advance (ref_id 0)) (granted.Advanced advanced.Embargoed) (sending (disembargo 1 ∷ release_message 1 1 ∷ []))
    ∷ did A (command.Call the_call) (granted.Call (call_id 1)) (sending [])
    ∷ took B (sending (going 0 0 0 ∷ []))
    ∷ took B (sending (echo 0 ∷ []))
    ∷ took B (sending [])
    ∷ took A (sending (going 1 2 0 ∷ []))
    ∷ took A (sending (going 2 2 1 ∷ []))
    ∷ []

-- The second: to A's object.
abbrev pub turning_again : List Happening
turning_again =
    did A (command.Advance (ref_id 0)) (granted.Advanced advanced.Embargoed) (sending (disembargo 2 ∷ []))
    ∷ did A (command.Call the_call) (granted.Call (call_id 2)) (sending [])
    ∷ took B (sending (going 1 1 0 ∷ []))
    ∷ took B (sending (going 2 1 1 ∷ []))
    ∷ took B (sending (echo 1 ∷ []))
    ∷ took A (delivering (delivery 0 ∷ []))
    ∷ took A (delivering (delivery 1 ∷ []))
    ∷ took A (delivering (delivery 2 ∷ []))
    ∷ []

abbrev pub before : World
before = between a0 [] b0 []

abbrev pub all_known : World
all_known = between a3 [] b3 []

-- Two calls are on their way to B's second promise.
abbrev pub half_way : World
half_way = between a8 [] b5 (going 1 2 0 ∷ going 2 2 1 ∷ [])

abbrev pub after : World
after = between a13 [] b7 []

abbrev pub all_turns : List Happening
all_turns = turning ++ turning_again

abbrev pub in_order : List Stamp
in_order = stamp 0 ∷ stamp 1 ∷ stamp 2 ∷ []

pub record IsBackAndForth : Type 0 where
  pub resolves : Run before resolving all_known
  pub turns : Run all_known turning half_way
  pub turns_again : Run half_way turning_again after
  pub made_so : made (journal all_turns) the_ref ≡ in_order
  pub none_delivered : delivered (journal turning) the_ref ≡ []
  pub delivered_so : delivered (journal all_turns) the_ref ≡ in_order
  pub two_pending : pending half_way the_ref ≡ stamp 0 ∷ stamp 1 ∷ []
  pub none_pending : pending after the_ref ≡ []
