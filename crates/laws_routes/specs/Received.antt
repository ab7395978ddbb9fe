-- What is proved of the first act of a received message: it may be done, and what is so in the middle of a step is so behind it.
use Rattle.std.specs.Prelude.{◌≡◌, ℕ, nat_eq, false, Option, None, Some, List, ◌∷◌, ◌++◌}
use Rattle.std.specs.FinMap as map
use Rattle.rpc_msg.specs.declared.message.DisembargoContext.{DisembargoContext}
use Rattle.rpc_msg.specs.declared.message.DisembargoContext.TheVariants.{SenderLoopback, ReceiverLoopback}
use Rattle.rpc_msg.specs.declared.message.Finish.{Finish}
use Rattle.rpc_msg.specs.declared.message.Message.{Message}
use Rattle.rpc_msg.specs.declared.message.Message.TheVariants as message
use Rattle.rpc_msg.specs.declared.message.PlainMessage.{PlainMessage}
use Rattle.rpc_msg.specs.declared.message.PlainMessage.TheVariants as plain
use Rattle.rpc_msg.specs.declared.message.Return.{Return}
use Rattle.rpc_msg.specs.Messages.{descriptors_of_body}
use Rattle.rpc_machine.specs.declared.command.Effects.{Effects}
use Rattle.rpc_machine.specs.declared.command.Level.TheVariants.{One}
use Rattle.rpc_machine.specs.declared.entries.AnswerEntry.{AnswerEntry}
use Rattle.rpc_machine.specs.declared.entries.Embargo.{Embargo}
use Rattle.rpc_machine.specs.declared.entries.Question.{Question}
use Rattle.rpc_machine.specs.State.{State}
use Rattle.rpc_machine.specs.Descriptors.{take_all}
use Rattle.rpc_machine.specs.Faults.{fault_of, gave, plain_fault}
use Rattle.rpc_machine.specs.Flags.{obey}
use Rattle.rpc_machine.specs.Messages.{TakesPlain}
use Rattle.rpc_machine.specs.Nodes.{is_wire}
use Rattle.rpc_machine.specs.Progress.{Progress, begin, numbers}
use Rattle.rpc_machine.specs.Steps.{Handles}
use Rattle.rpc_machine.specs.Sweeping.{IsNotSent}
use Rattle.laws_steps.specs.NodesThere.{IsWhole}
use Rattle.laws_routes.specs.Laws.{with_back}
use Rattle.laws_routes.specs.OutcomeLaws.{AllMaySettle}
use Rattle.laws_routes.specs.Named.{EachReturn}
use Rattle.laws_routes.specs.Premises.{EachOpen, IsLastLoop, IsOnlyEmbargo}
use Rattle.laws_routes.specs.QuietLaws.{MayClose, MayLower, lowering}
use Rattle.laws_routes.specs.SayingLaws.{IsNotCanceled}
use Rattle.laws_routes.specs.StepLaws.{MayHandle, MayTakePlain}
use Rattle.laws_routes.specs.Ties.{Around}
use Rattle.laws_routes.specs.Midway.{Midway, MidwayAt}
use Rattle.laws_routes.specs.WholeSteps.{MidwayBehind}

-- ---- What is taken as known of the oldest message on its way to s, with rest behind it and out on the way to the other vat

-- Of a Return, to the question x. By the counts of two vats, which agree (`laws_runs`), what its flag lets go is named by nobody;
-- by the session of its question it is canceled only where the Finish was sent, and that question is neither asked nor returned on
-- the way.
pub record ReturnIsMet (s other : State) (out rest : List Message) (r : Return) (x : Question) : Type 0 where
  pub lowers : MayLower (obey (take_all s (descriptors_of_body r.body)) r.release_param_caps (numbers x.given)) other out rest
  pub whole : IsNotSent x.finish → IsNotCanceled r.body
  pub not_open : EachOpen (λ k. nat_eq k r.answer.0 ≡ false) out
  pub once : EachReturn (λ k. nat_eq k r.answer.0 ≡ false) rest

-- Of a Finish, for the answer a. By the counts what its flag lets go is named by nobody; by the session of its question (and by
-- `laws_messages`, which says where answers are named) nothing behind it is aimed at that answer or names it.
pub record FinishIsMet (s other : State) (out rest : List Message) (x : Finish) (a : AnswerEntry) : Type 0 where
  pub lowers : MayLower (obey s x.release_result_caps (gave a.returned)) other out rest
  pub closes : MayClose other rest x.question.0

-- Of an echo, of the embargo b. One Disembargo of it is about (`laws_messages`); that its reference has no other, and that it is of an
-- own node, each step keeps (`embargoes_are_right`).
pub record EchoIsMet (s : State) (out rest : List Message) (e : ℕ) (b : Embargo) : Type 0 where
  pub only : IsOnlyEmbargo s e b.reference.0
  pub last : IsLastLoop e out rest
  pub own : is_wire b.node ≡ false

abbrev pub IfQuestion : State → State → List Message → List Message → Return → Option Question → Type 0
IfQuestion s other out rest r None = Unit {0}
IfQuestion s other out rest r (Some x) = ReturnIsMet s other out rest r x

abbrev pub IfAnswer : State → State → List Message → List Message → Finish → Option AnswerEntry → Type 0
IfAnswer s other out rest x None = Unit {0}
IfAnswer s other out rest x (Some a) = FinishIsMet s other out rest x a

abbrev pub IfEmbargo : State → List Message → List Message → ℕ → Option Embargo → Type 0
IfEmbargo s out rest e None = Unit {0}
IfEmbargo s out rest e (Some b) = EchoIsMet s out rest e b

abbrev pub LoopIsMet : State → List Message → List Message → DisembargoContext → Type 0
LoopIsMet s out rest (SenderLoopback e) = Unit {0}
LoopIsMet s out rest (ReceiverLoopback e) = IfEmbargo s out rest e.0 (map.get s.embargoes e.0)

-- A Bootstrap or a Call asks its question once (by the session of the question). By the counts what a Release lets go is named by
-- nobody.
abbrev pub IsMet : State → State → List Message → List Message → PlainMessage → Type 0
IsMet s other out rest (plain.Abort exception) = Unit {0}
IsMet s other out rest (plain.Bootstrap q) = EachOpen (λ k. nat_eq k q.0 ≡ false) rest
IsMet s other out rest (plain.Call c) = EachOpen (λ k. nat_eq k c.question.0 ≡ false) rest
IsMet s other out rest (plain.Return r) = IfQuestion s other out rest r (map.get s.questions r.answer.0)
IsMet s other out rest (plain.Finish x) = IfAnswer s other out rest x (map.get s.answers x.question.0)
IsMet s other out rest (plain.Resolve r) = Unit {0}
IsMet s other out rest (plain.Release x) = MayLower (lowering s x.export.0 x.count) other out rest
IsMet s other out rest (plain.Disembargo x) = LoopIsMet s out rest x.context
IsMet s other out rest (plain.Other n) = Unit {0}

-- ---- The law

-- A message that is no fault may be taken, and it is so behind it.
abbrev pub MessagesMayBeTaken : Type 0
MessagesMayBeTaken =
    (w : Around) (d : Progress) (x : PlainMessage) (rest : List Message) (new : Progress) → MidwayAt (with_back w (message.Plain x ∷ rest)) d → d.state.level ≡ One → plain_fault d.state x ≡ None
    → IsMet d.state w.other (w.out ++ d.effects.sends) rest x → (h : TakesPlain d x new) → MayTakePlain (with_back w rest) d x new h × MidwayAt (with_back w rest) new

-- So all that the laws of whole steps take as known of a received message follows from what is so before the step, and it is so behind
-- the whole step.
abbrev pub MessagesFollow : Type 0
MessagesFollow =
    (w : Around) (s : State) (x : PlainMessage) (rest : List Message) (effects : Effects) (new : State) → Midway s w.other w.out (message.Plain x ∷ rest) → s.level ≡ One → fault_of s (message.Plain x) ≡ None → IsMet s w.other w.out rest x
    → IsWhole new → (h : Handles s (message.Plain x) effects new)
    → MayHandle (with_back w rest) (begin s) (message.Plain x) h.taken h.takes × AllMaySettle (with_back w rest) h.ends.drained h.taken h.ends.drains × MidwayBehind (with_back w rest) new effects
