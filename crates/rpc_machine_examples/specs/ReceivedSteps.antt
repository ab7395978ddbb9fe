-- Single steps of received messages: the capability of a Resolve whose promise is gone is released; an embargo is lifted;
-- flags.
use Rattle.std.specs.Prelude.{◌≡◌, ℕ, true, false, List, [], ◌∷◌, None, Some}
use Rattle.std.specs.FinMap as map
use Rattle.rpc_msg.specs.declared.ids.Vat.TheVariants.{A, B}
use Rattle.rpc_msg.specs.declared.ids.Stamp.{Stamp}
use Rattle.rpc_msg.specs.declared.parts.Descriptor.TheVariants as descriptor
use Rattle.rpc_msg.specs.declared.parts.Target.TheVariants.{ImportedCap}
use Rattle.rpc_msg.specs.declared.message.ResolvedTo.TheVariants as resolved
use Rattle.rpc_msg.specs.declared.message.DisembargoContext.TheVariants.{ReceiverLoopback}
use Rattle.rpc_msg.specs.declared.message.PlainMessage.TheVariants as plain
use Rattle.rpc_msg.specs.declared.message.Message.{Message}
use Rattle.rpc_msg.specs.declared.message.Message.TheVariants as message
use Rattle.rpc_machine.specs.declared.node.Node.{Node}
use Rattle.rpc_machine.specs.declared.node.Node.TheVariants as node
use Rattle.rpc_machine.specs.declared.command.Level.TheVariants.{One}
use Rattle.rpc_machine.specs.declared.command.Effects.{Effects}
use Rattle.rpc_machine.specs.declared.calls.WaitingCall.{WaitingCall}
use Rattle.rpc_machine.specs.declared.calls.KeptOutcome.{KeptOutcome}
use Rattle.rpc_machine.specs.declared.calls.OwnCall.TheVariants as own
use Rattle.rpc_machine.specs.declared.calls.Caller.TheVariants as caller
use Rattle.rpc_machine.specs.declared.entries.Reference.{Reference}
use Rattle.rpc_machine.specs.declared.entries.Embargo.{Embargo}
use Rattle.rpc_machine.specs.declared.entries.Import.{Import}
use Rattle.rpc_machine.specs.declared.entries.AnswerEntry.{AnswerEntry}
use Rattle.rpc_machine.specs.declared.entries.SenderKind.TheVariants as kind
use Rattle.rpc_machine.specs.State.{State, start}
use Rattle.rpc_machine.specs.Flags.{flag_for, give_back}
use Rattle.rpc_machine.specs.Steps.{Handles}
use Rattle.rpc_machine_examples.specs.Given.{m, null}

abbrev pub saying : List Message → Effects
saying ms = record { sends = ms; deliveries = []; answers = []; down = None }

-- ---- The capability of a Resolve whose promise is gone is taken, and released

abbrev pub new_vat : State
new_vat = start A One None

abbrev pub resolve : Message
resolve = message.Plain (plain.Resolve (record { promise = record { 0 = 1 }; to = resolved.Cap (descriptor.SenderHosted (record { 0 = 2 })) }))

abbrev pub hosted : Import
hosted = record { kind = kind.Hosted; count = 1; resolution = None }

abbrev pub released : State
released = record new_vat { imports = map.remove (m ((2, hosted) ∷ [])) 2 }

abbrev pub release : Effects
release = saying (message.Plain (plain.Release (record { export = record { 0 = 2 }; count = 1 })) ∷ [])

-- ---- An embargo is lifted when its Disembargo comes back: its call is delivered

abbrev pub object : Node
object = node.Object (record { 0 = 3 })

abbrev pub stamp : Stamp
stamp = record { vat = A; reference = record { 0 = 0 }; index = 4 }

abbrev pub own_call : WaitingCall
own_call = record { request = record { stamp = stamp; interface = 7; method = 1; payload = null; caps = [] }; outcome = 0 }

abbrev pub embargoed : Reference
embargoed = record { head = object; embargo = Some (record { 0 = 0 }); made = 5 }

abbrev pub embargo : Embargo
embargo = record { reference = record { 0 = 0 }; node = object; waiting = own_call ∷ [] }

abbrev pub kept : KeptOutcome
kept = record { caller = caller.Application (record { 0 = 0 }); value = None; waiting = [] }

abbrev pub waits : State
waits = record new_vat {
  refs = m ((0, embargoed) ∷ []);
  embargoes = m ((0, embargo) ∷ []);
  outcomes = m ((0, kept) ∷ []);
  calls = m ((0, own.Kept 0) ∷ []);
  next_ref = 1;
  next_call = 1;
}

abbrev pub lifted : State
lifted = record waits { refs = m ((0, record embargoed { embargo = None }) ∷ (0, embargoed) ∷ []); embargoes = map.remove (m ((0, embargo) ∷ [])) 0 }

abbrev pub gone_on : State
gone_on = record lifted { tasks = m ((0, 0) ∷ []); next_task = 1 }

abbrev pub delivering : Effects
delivering = record {
  sends = [];
  deliveries = record { task = record { 0 = 0 }; object = record { 0 = 3 }; stamp = stamp; interface = 7; method = 1; payload = null; refs = [] } ∷ [];
  answers = [];
  down = None;
}

abbrev pub back : Message
back = message.Plain (plain.Disembargo (record { target = ImportedCap (record { 0 = 9 }); context = ReceiverLoopback (record { 0 = 0 }) }))

-- ---- Flags

abbrev pub opened : AnswerEntry
opened = record { outcome = 1; taken = record { 0 = 0 } ∷ []; returned = None; finished = false }

abbrev pub received : ℕ → Import
received n = record { kind = kind.Hosted; count = n; resolution = None }

abbrev pub named_by : Reference
named_by = record { head = node.Import (record { 0 = 0 }); embargo = None; made = 0 }

-- The Call of the answer 1 gave the import 0, and a reference names it too.
abbrev pub still_named : ℕ → State
still_named n = record (start B One None) { imports = m ((0, received n) ∷ []); answers = m ((1, opened) ∷ []); refs = m ((0, named_by) ∷ []); next_ref = 1 }

pub record OfMessages : Type 0 where
  pub resolve_of_nothing : Handles new_vat resolve release released
  pub embargo_lifted : Handles waits back delivering gone_on
  -- Received once: the reference keeps it, so the flag is false.
  pub flag_spares : flag_for (still_named 1) (0 ∷ []) ≡ false
  -- Received twice: one may be given back, and one is left.
  pub flag_gives_one : flag_for (still_named 2) (0 ∷ []) ≡ true
  pub one_is_left : map.get (give_back (still_named 2) (0 ∷ [])).imports 0 ≡ Some (received 1)
  -- A Call that gave nothing has a false flag.
  pub nothing_given : flag_for (still_named 2) [] ≡ false
