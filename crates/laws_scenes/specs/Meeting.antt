-- What is so of two vats between steps, with what is on the way to each (docs/protocol.md, "Ids in use").
use Rattle.std.specs.Prelude.{◌≡◌, ℕ, nat_eq, false, Option, None, Some, IsSome, List, ◌∷◌}
use Rattle.std.specs.FinMap as map
use Rattle.rpc_msg.specs.declared.ids.Vat.{Vat}
use Rattle.rpc_msg.specs.Vats.{other_vat}
use Rattle.rpc_msg.specs.declared.message.Message.{Message}
use Rattle.rpc_msg.specs.declared.message.Message.TheVariants as message
use Rattle.rpc_msg.specs.declared.message.PlainMessage.{PlainMessage}
use Rattle.rpc_msg.specs.declared.message.PlainMessage.TheVariants as plain
use Rattle.rpc_machine.specs.declared.entries.AnswerEntry.{AnswerEntry}
use Rattle.rpc_msg.specs.declared.message.DisembargoContext.{DisembargoContext}
use Rattle.rpc_msg.specs.declared.message.DisembargoContext.TheVariants.{SenderLoopback, ReceiverLoopback}
use Rattle.rpc_machine.specs.declared.entries.Embargo.{Embargo}
use Rattle.rpc_machine.specs.declared.entries.Question.{Question}
use Rattle.rpc_machine.specs.Nodes.{is_wire}
use Rattle.rpc_machine.specs.Sweeping.{IsNotSent}
use Rattle.rpc_machine.specs.State.{State}
use Rattle.rpc_msg.specs.Messages.{descriptors_of_body}
use Rattle.rpc_machine.specs.Descriptors.{take_all}
use Rattle.rpc_machine.specs.Faults.{gave}
use Rattle.rpc_machine.specs.Flags.{obey}
use Rattle.rpc_machine.specs.Progress.{numbers}
use Rattle.rpc_machine.specs.World.{World, core, inbox}
use Rattle.laws_runs.specs.SceneSessions.{InScenes}
use Rattle.laws_routes.specs.Between.{Across}
use Rattle.laws_routes.specs.Midway.{IsAwaited}
use Rattle.laws_routes.specs.Named.{EachReturn, LinksMet}
use Rattle.laws_routes.specs.QuietLaws.{MayClose, MayLower, lowering}
use Rattle.laws_routes.specs.Received.{IsMet}
use Rattle.laws_routes.specs.SayingLaws.{IsNotCanceled}
use Rattle.laws_routes.specs.Premises.{EachLoop, EachOpen, IsOnlyEmbargo, TargetsAreMet}

-- It is so of each vat of a world, with the other and what is on its way there and back.
abbrev pub OfBoth : (State → State → List Message → List Message → Type 0) → World → Type 0
OfBoth P w = (v : Vat) → P (core w v) (core w (other_vat v)) (inbox w (other_vat v)) (inbox w v)

-- What is on the way is of questions and answers as they are (fields of `laws_routes::Across`).
pub record QuestionsMeet (s other : State) (out back : List Message) : Type 0 where
  pub awaited : (q : ℕ) (a : AnswerEntry) → map.get s.answers q ≡ Some a → a.returned ≡ None → IsAwaited other back q a.finished
  pub opens : EachOpen (λ q. IsSome (map.get s.questions q)) out
  pub returns : EachReturn (λ q. IsSome (map.get s.questions q)) back
  pub answered : (q : ℕ) (x : Question) → map.get s.questions q ≡ Some x → IsSome x.returned → EachOpen (λ k. nat_eq k q ≡ false) out × EachReturn (λ k. nat_eq k q ≡ false) back

abbrev pub QuestionsMeetInScenes : Type 0
QuestionsMeetInScenes = InScenes (OfBoth QuestionsMeet)

-- A Disembargo is of an embargo that is there, on its way out and on its way back.
pub record LoopsMeet (s other : State) (out back : List Message) : Type 0 where
  pub sent : EachLoop (λ e. IsSome (map.get s.embargoes e)) (λ e. Unit {0}) out
  pub echoed : EachLoop (λ e. Unit {0}) (λ e. IsSome (map.get s.embargoes e)) back

abbrev pub LoopsMeetInScenes : Type 0
LoopsMeetInScenes = InScenes (OfBoth LoopsMeet)

-- What is imported is exported, exports at which a message is aimed are there, and those that one names.
pub record ExportsMeet (s other : State) (out back : List Message) : Type 0 where
  pub imported : (e : ℕ) → IsSome (map.get s.imports e) → IsSome (map.get other.exports e)
  pub met : TargetsAreMet s back
  pub named : LinksMet s other out back

abbrev pub ExportsMeetInScenes : Type 0
ExportsMeetInScenes = InScenes (OfBoth ExportsMeet)

-- So all that the record of the middle of a step says of a vat with the other one is so in each scene, at each vat.
abbrev pub AcrossInScenes : Type 0
AcrossInScenes = InScenes (OfBoth Across)

-- ---- The oldest message on its way

-- Of the session of its question: a Bootstrap or a Call asks once; behind a Return the question is asked and returned no more;
-- and behind a Finish nothing is aimed at the answer, or names it, until the question is asked again.
abbrev pub IsLastOfIts : State → List Message → List Message → PlainMessage → Type 0
IsLastOfIts other out rest (plain.Abort exception) = Unit {0}
IsLastOfIts other out rest (plain.Bootstrap q) = EachOpen (λ k. nat_eq k q.0 ≡ false) rest
IsLastOfIts other out rest (plain.Call c) = EachOpen (λ k. nat_eq k c.question.0 ≡ false) rest
IsLastOfIts other out rest (plain.Return r) = EachOpen (λ k. nat_eq k r.answer.0 ≡ false) out × EachReturn (λ k. nat_eq k r.answer.0 ≡ false) rest
IsLastOfIts other out rest (plain.Finish x) = MayClose other rest x.question.0
IsLastOfIts other out rest (plain.Resolve r) = Unit {0}
IsLastOfIts other out rest (plain.Release r) = Unit {0}
IsLastOfIts other out rest (plain.Disembargo x) = Unit {0}
IsLastOfIts other out rest (plain.Other n) = Unit {0}

-- It is so of the oldest message on its way to each vat of a world.
abbrev pub OfOldest : (State → State → List Message → List Message → PlainMessage → Type 0) → World → Type 0
OfOldest P w = (v : Vat) (x : PlainMessage) (rest : List Message) → inbox w v ≡ message.Plain x ∷ rest → P (core w v) (core w (other_vat v)) (inbox w (other_vat v)) rest x

abbrev pub OldestAreLast : Type 0
OldestAreLast = InScenes (OfOldest (λ s other out rest x. IsLastOfIts other out rest x))

abbrev pub IfThere : {X : Type 0} → (X → Type 0) → Option X → Type 0
IfThere P None = Unit {0}
IfThere P (Some x) = P x

-- By the counts of two vats: what the oldest message lets go of exports is held by nobody any more, and nothing on the way is aimed
-- at it, gives it or names it.
abbrev pub LetsGoWell : State → State → List Message → List Message → PlainMessage → Type 0
LetsGoWell s other out rest (plain.Abort exception) = Unit {0}
LetsGoWell s other out rest (plain.Bootstrap q) = Unit {0}
LetsGoWell s other out rest (plain.Call c) = Unit {0}
LetsGoWell s other out rest (plain.Return r) = IfThere (λ (x : Question). MayLower (obey (take_all s (descriptors_of_body r.body)) r.release_param_caps (numbers x.given)) other out rest) (map.get s.questions r.answer.0)
LetsGoWell s other out rest (plain.Finish f) = IfThere (λ (a : AnswerEntry). MayLower (obey s f.release_result_caps (gave a.returned)) other out rest) (map.get s.answers f.question.0)
LetsGoWell s other out rest (plain.Resolve r) = Unit {0}
LetsGoWell s other out rest (plain.Release r) = MayLower (lowering s r.export.0 r.count) other out rest
LetsGoWell s other out rest (plain.Disembargo d) = Unit {0}
LetsGoWell s other out rest (plain.Other n) = Unit {0}

abbrev pub OldestLetGoWell : Type 0
OldestLetGoWell = InScenes (OfOldest LetsGoWell)

-- ---- What the laws of whole steps take as known of the oldest message

-- What `laws_scenes` shows of scenes: that a Return of a question whose Finish was not sent is not canceled; and that a reference has
-- one embargo at most, also once it was dropped, which is of an own node.
abbrev pub LoopIsLeft : State → DisembargoContext → Type 0
LoopIsLeft s (SenderLoopback e) = Unit {0}
LoopIsLeft s (ReceiverLoopback e) = IfThere (λ (b : Embargo). IsOnlyEmbargo s e.0 b.reference.0 × (is_wire b.node ≡ false)) (map.get s.embargoes e.0)

abbrev pub IsLeft : State → PlainMessage → Type 0
IsLeft s (plain.Abort exception) = Unit {0}
IsLeft s (plain.Bootstrap q) = Unit {0}
IsLeft s (plain.Call c) = Unit {0}
IsLeft s (plain.Return r) = IfThere (λ (x : Question). IsNotSent x.finish → IsNotCanceled r.body) (map.get s.questions r.answer.0)
IsLeft s (plain.Finish f) = Unit {0}
IsLeft s (plain.Resolve r) = Unit {0}
IsLeft s (plain.Release r) = Unit {0}
IsLeft s (plain.Disembargo d) = LoopIsLeft s d.context
IsLeft s (plain.Other n) = Unit {0}

-- All else is so in each scene.
abbrev pub OldestAreMet : Type 0
OldestAreMet = InScenes (OfOldest (λ s other out rest x. IsLeft s x → IsMet s other out rest x))
