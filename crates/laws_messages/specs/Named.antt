-- A message that names an answer finds it (docs/protocol.md, "Sessions of ids").
use Rattle.std.specs.Prelude.{◌≡◌, ℕ, nat_eq, IsSome, List, [], ◌∷◌, ◌++◌}
use Rattle.std.specs.FinMap as map
use Rattle.rpc_msg.specs.declared.ids.Vat.{Vat}
use Rattle.rpc_msg.specs.declared.parts.Descriptor.{Descriptor}
use Rattle.rpc_msg.specs.declared.parts.Descriptor.TheVariants as descriptor
use Rattle.rpc_msg.specs.declared.parts.Target.{Target}
use Rattle.rpc_msg.specs.declared.parts.Target.TheVariants.{ImportedCap, PromisedAnswer}
use Rattle.rpc_msg.specs.declared.message.PlainMessage.{PlainMessage}
use Rattle.rpc_msg.specs.declared.message.PlainMessage.TheVariants as plain
use Rattle.rpc_msg.specs.declared.message.Message.{Message}
use Rattle.rpc_msg.specs.declared.message.Message.TheVariants as message
use Rattle.rpc_msg.specs.Messages.{descriptors_of_plain}
use Rattle.rpc_machine.specs.State.{State}
use Rattle.rpc_machine.specs.World.{World, core, inbox}
use Rattle.laws_acts.specs.Sent.{Ids, Noted}
use Rattle.laws_runs.specs.Questions.{Out}
use Rattle.laws_runs.specs.Names as mark
use Rattle.laws_runs.specs.Names.{Mark}
use Rattle.laws_runs.specs.Views.{only, out_of}
use Rattle.laws_runs.specs.SceneSessions.{InScenes}

-- ---- How a message looks to the session of a question, with the names of its answer

abbrev pub target_marks : ℕ → Target → List (Mark Ids Ids)
target_marks q (ImportedCap e) = []
target_marks q (PromisedAnswer k path) = only (nat_eq q k.0) mark.Names

abbrev pub targets_marks : ℕ → PlainMessage → List (Mark Ids Ids)
targets_marks q (plain.Call c) = target_marks q c.target
targets_marks q (plain.Disembargo d) = target_marks q d.target
targets_marks q (plain.Abort exception) = []
targets_marks q (plain.Bootstrap k) = []
targets_marks q (plain.Return r) = []
targets_marks q (plain.Finish f) = []
targets_marks q (plain.Resolve r) = []
targets_marks q (plain.Release r) = []
targets_marks q (plain.Other n) = []

abbrev pub each_marks : ℕ → List Descriptor → List (Mark Ids Ids)
each_marks q [] = []
each_marks q (descriptor.None ∷ ds) = each_marks q ds
each_marks q (descriptor.SenderHosted e ∷ ds) = each_marks q ds
each_marks q (descriptor.SenderPromise e ∷ ds) = each_marks q ds
each_marks q (descriptor.ReceiverHosted e ∷ ds) = each_marks q ds
each_marks q (descriptor.ReceiverAnswer k path ∷ ds) = only (nat_eq q k.0) mark.Names ++ each_marks q ds

abbrev pub says : List (Out Ids Ids) → List (Mark Ids Ids)
says [] = []
says (m ∷ ms) = mark.Says m ∷ says ms

-- What a message names comes before what it opens or finishes: its receiver checks before it changes.
abbrev pub marks : ℕ → List Noted → List (Mark Ids Ids)
marks q [] = []
marks q (n ∷ ns) = targets_marks q n.message ++ (each_marks q (descriptors_of_plain n.message) ++ (says (out_of q n.message n.lets) ++ marks q ns))

-- ---- What it finds

abbrev pub FindsTarget : State → Target → Type 0
FindsTarget s (ImportedCap e) = Unit {0}
FindsTarget s (PromisedAnswer q path) = IsSome (map.get s.answers q.0)

abbrev pub FindsTargets : State → PlainMessage → Type 0
FindsTargets s (plain.Call c) = FindsTarget s c.target
FindsTargets s (plain.Disembargo d) = FindsTarget s d.target
FindsTargets s (plain.Abort exception) = Unit {0}
FindsTargets s (plain.Bootstrap q) = Unit {0}
FindsTargets s (plain.Return r) = Unit {0}
FindsTargets s (plain.Finish f) = Unit {0}
FindsTargets s (plain.Resolve r) = Unit {0}
FindsTargets s (plain.Release r) = Unit {0}
FindsTargets s (plain.Other n) = Unit {0}

abbrev pub FindsEach : State → List Descriptor → Type 0
FindsEach s [] = Unit {0}
FindsEach s (descriptor.None ∷ ds) = FindsEach s ds
FindsEach s (descriptor.SenderHosted e ∷ ds) = FindsEach s ds
FindsEach s (descriptor.SenderPromise e ∷ ds) = FindsEach s ds
FindsEach s (descriptor.ReceiverHosted e ∷ ds) = FindsEach s ds
FindsEach s (descriptor.ReceiverAnswer q path ∷ ds) = IsSome (map.get s.answers q.0) × FindsEach s ds

-- The oldest message on its way to either vat finds each answer that is its target or that its descriptors name.
abbrev pub FindsAnswers : World → Type 0
FindsAnswers w = (v : Vat) (m : Message) (ms : List Message) → inbox w v ≡ m ∷ ms → (p : PlainMessage) × (m ≡ message.Plain p) × FindsTargets (core w v) p × FindsEach (core w v) (descriptors_of_plain p)

abbrev pub NamedAnswersAreThere : Type 0
NamedAnswersAreThere = InScenes FindsAnswers
