-- How a vat and a message look to the session of an export id.
use Rattle.std.specs.Prelude.{ℕ, zero, suc, nat_eq, Option, None, Some, List, [], ◌∷◌, ◌++◌}
use Rattle.rpc_msg.specs.declared.parts.Descriptor.{Descriptor}
use Rattle.rpc_msg.specs.declared.parts.Descriptor.TheVariants as descriptor
use Rattle.rpc_msg.specs.declared.parts.Target.{Target}
use Rattle.rpc_msg.specs.declared.parts.Target.TheVariants.{ImportedCap, PromisedAnswer}
use Rattle.rpc_msg.specs.declared.message.PlainMessage.{PlainMessage}
use Rattle.rpc_msg.specs.declared.message.PlainMessage.TheVariants as plain
use Rattle.rpc_msg.specs.Messages.{descriptors_of_plain}
use Rattle.rpc_machine.specs.declared.entries.SenderKind.{SenderKind}
use Rattle.rpc_machine.specs.declared.entries.SenderKind.TheVariants as kind
use Rattle.rpc_machine.specs.declared.entries.Resolution.{Resolution}
use Rattle.rpc_machine.specs.declared.entries.Import.{Import}
use Rattle.laws_runs.specs.Exports as export
use Rattle.laws_runs.specs.Exports.{Kind, Said, Importer, Out, Back}
use Rattle.laws_runs.specs.Views.{only}
use Rattle.laws_acts.specs.Sent.{Noted}
use Rattle.laws_runs.specs.Imports.{lets_of}

-- ---- Entries

abbrev pub kind_of : SenderKind → Kind
kind_of kind.Hosted = export.Hosted
kind_of kind.Promise = export.Promised

abbrev pub said_of : Option Resolution → Said
said_of None = export.Nothing
said_of (Some r) = export.Resolved

abbrev pub importer_of : Option Import → Importer
importer_of None = export.Absent
importer_of (Some x) = export.Holds x.count (kind_of x.kind) (said_of x.resolution)

-- ---- Messages

abbrev pub gives_in : ℕ → List Descriptor → List Out
gives_in e [] = []
gives_in e (descriptor.None ∷ ds) = gives_in e ds
gives_in e (descriptor.SenderHosted i ∷ ds) = only (nat_eq e i.0) (export.Give export.Hosted) ++ gives_in e ds
gives_in e (descriptor.SenderPromise i ∷ ds) = only (nat_eq e i.0) (export.Give export.Promised) ++ gives_in e ds
gives_in e (descriptor.ReceiverHosted i ∷ ds) = gives_in e ds
gives_in e (descriptor.ReceiverAnswer q path ∷ ds) = gives_in e ds

abbrev pub resolves_in : ℕ → PlainMessage → List Out
resolves_in e (plain.Resolve r) = only (nat_eq e r.promise.0) export.Resolve
resolves_in e (plain.Abort exception) = []
resolves_in e (plain.Bootstrap q) = []
resolves_in e (plain.Call c) = []
resolves_in e (plain.Return r) = []
resolves_in e (plain.Finish f) = []
resolves_in e (plain.Release r) = []
resolves_in e (plain.Disembargo d) = []
resolves_in e (plain.Other n) = []

-- A Resolve comes before the descriptor in it: an import that this one opens keeps nothing of it.
abbrev pub outs_for : ℕ → List Noted → List Out
outs_for e [] = []
outs_for e (n ∷ ns) = resolves_in e n.message ++ (gives_in e (descriptors_of_plain n.message) ++ outs_for e ns)

abbrev pub named_in : ℕ → List Descriptor → List Back
named_in e [] = []
named_in e (descriptor.None ∷ ds) = named_in e ds
named_in e (descriptor.SenderHosted i ∷ ds) = named_in e ds
named_in e (descriptor.SenderPromise i ∷ ds) = named_in e ds
named_in e (descriptor.ReceiverHosted i ∷ ds) = only (nat_eq e i.0) export.Mention ++ named_in e ds
named_in e (descriptor.ReceiverAnswer q path ∷ ds) = named_in e ds

abbrev pub target_in : ℕ → Target → List Back
target_in e (ImportedCap i) = only (nat_eq e i.0) export.Mention
target_in e (PromisedAnswer q path) = []

abbrev pub targets_in : ℕ → PlainMessage → List Back
targets_in e (plain.Call c) = target_in e c.target
targets_in e (plain.Disembargo d) = target_in e d.target
targets_in e (plain.Abort exception) = []
targets_in e (plain.Bootstrap q) = []
targets_in e (plain.Return r) = []
targets_in e (plain.Finish f) = []
targets_in e (plain.Resolve r) = []
targets_in e (plain.Release r) = []
targets_in e (plain.Other n) = []

abbrev pub take_of : ℕ → List Back
take_of zero = []
take_of (suc n) = export.Take (suc n) ∷ []

-- What it names comes before what it lets go: so its receiver looks at it.
abbrev pub backs_for : ℕ → List Noted → List Back
backs_for e [] = []
backs_for e (n ∷ ns) = targets_in e n.message ++ (named_in e (descriptors_of_plain n.message) ++ (take_of (lets_of e n.message n.lets) ++ backs_for e ns))
