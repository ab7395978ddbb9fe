-- What the wires of one vat stand for at the other, and what is on its way there.
use Rattle.std.specs.Prelude.{◌≡◌, ℕ, Option, None, Some, List, [], ◌∷◌}
use Rattle.std.specs.FinMap as map
use Rattle.finite_maps.specs.Tally.{Map}
use Rattle.rpc_msg.specs.declared.ids.Vat.{Vat}
use Rattle.rpc_msg.specs.declared.parts.Target.{Target}
use Rattle.rpc_msg.specs.declared.parts.Target.TheVariants.{ImportedCap, PromisedAnswer}
use Rattle.rpc_msg.specs.declared.message.DisembargoContext.{DisembargoContext}
use Rattle.rpc_msg.specs.declared.message.DisembargoContext.TheVariants.{SenderLoopback, ReceiverLoopback}
use Rattle.rpc_msg.specs.declared.message.PlainMessage.{PlainMessage}
use Rattle.rpc_msg.specs.declared.message.PlainMessage.TheVariants as plain
use Rattle.rpc_msg.specs.declared.message.Message.{Message}
use Rattle.rpc_msg.specs.declared.message.Message.TheVariants as message
use Rattle.rpc_msg.specs.Paths.{fields}
use Rattle.rpc_journal.specs.History.{Ref, caller, in_front}
use Rattle.rpc_machine.specs.declared.entries.Import.{Import}
use Rattle.rpc_machine.specs.declared.entries.Export.{Export}
use Rattle.rpc_machine.specs.declared.entries.Question.{Question}
use Rattle.rpc_machine.specs.declared.entries.AnswerEntry.{AnswerEntry}
use Rattle.rpc_machine.specs.declared.entries.Embargo.{Embargo}
use Rattle.rpc_machine.specs.State.{State}
use Rattle.rpc_machine.specs.Descriptors.{export_node}
use Rattle.rpc_machine.specs.Sweeping.{IsNotSent}
use Rattle.laws_order.specs.Machine.{Content, Call, Disembargo, Echo}
use Rattle.laws_order.specs.Machine as routing
use Rattle.laws_routes.specs.Points.{Point, AField, routes, end}
use Rattle.laws_routes.specs.Ghosts.{Ghost, point, ref_at, with_at}

-- ---- Reading a link

-- What a message of a link is in the machine of routes. The target of an echo is the machine's alone.
pub record Shape : Type 0 where
  pub target : Option Point
  pub ref : Ref
  pub what : Content

abbrev pub session_of : (ℕ → ℕ) → Option AnswerEntry → ℕ
session_of outcome None = 0
session_of outcome (Some a) = outcome a.outcome

-- The identities that the answers of a vat stand for at present, by their question ids.
abbrev pub sessions_at : (outcome : ℕ → ℕ) → Map AnswerEntry → ℕ → ℕ
sessions_at outcome answers q = session_of outcome (map.get answers q)

-- Behind a Call or a Bootstrap its question id stands for the outcome that it will make.
abbrev pub past_plain : Ghost → (ℕ → ℕ) → PlainMessage → ℕ → ℕ
past_plain g now (plain.Abort exception) = now
past_plain g now (plain.Bootstrap q) = with_at now q.0 (g.session q.0)
past_plain g now (plain.Call c) = with_at now c.question.0 (g.session c.question.0)
past_plain g now (plain.Return r) = now
past_plain g now (plain.Finish x) = now
past_plain g now (plain.Resolve r) = now
past_plain g now (plain.Release r) = now
past_plain g now (plain.Disembargo x) = now
past_plain g now (plain.Other n) = now

abbrev pub past_one : Ghost → (ℕ → ℕ) → Message → ℕ → ℕ
past_one g now (message.Plain m) = past_plain g now m
past_one g now (message.Unimplemented m) = now

abbrev pub past : Ghost → (ℕ → ℕ) → List Message → ℕ → ℕ
past g now [] = now
past g now (m ∷ ms) = past g (past_one g now m) ms

-- The identity of the outcome that a message will make.
abbrev pub unborn_of_plain : (ℕ → ℕ) → PlainMessage → Option ℕ
unborn_of_plain session (plain.Abort exception) = None
unborn_of_plain session (plain.Bootstrap q) = Some (session q.0)
unborn_of_plain session (plain.Call c) = Some (session c.question.0)
unborn_of_plain session (plain.Return r) = None
unborn_of_plain session (plain.Finish x) = None
unborn_of_plain session (plain.Resolve r) = None
unborn_of_plain session (plain.Release r) = None
unborn_of_plain session (plain.Disembargo x) = None
unborn_of_plain session (plain.Other n) = None

abbrev pub unborn_of : (ℕ → ℕ) → Message → Option ℕ
unborn_of session (message.Plain m) = unborn_of_plain session m
unborn_of session (message.Unimplemented m) = None

-- Of those that the messages of a link will make.
abbrev pub unborn_ids : (ℕ → ℕ) → List Message → List ℕ
unborn_ids session [] = []
unborn_ids session (m ∷ ms) = in_front (unborn_of session m) (unborn_ids session ms)

abbrev pub embargo_ref : Vat → Option Embargo → Ref
embargo_ref v None = ref_at v 0
embargo_ref v (Some b) = ref_at v b.reference.0

-- The point of a target at the receiver.
abbrev pub target_point : Vat → Map Export → Ghost → (ℕ → ℕ) → Target → Point
target_point u exports f now (ImportedCap e) = point u f (export_node (map.get exports e.0))
target_point u exports f now (PromisedAnswer q path) = AField u (now q.0) (fields path)

-- The receiver's tables that a link is read by, and the sender's embargoes.
pub record Reader : Type 0 where
  pub exports : Map Export
  pub ghost : Ghost
  pub embargoes : Map Embargo
  pub sent : Map Embargo

abbrev pub disembargo_shape : (from to : Vat) → Reader → (ℕ → ℕ) → Target → DisembargoContext → Shape
disembargo_shape v u x now target (SenderLoopback e) =
    record { target = Some (target_point u x.exports x.ghost now target); ref = embargo_ref v (map.get x.sent e.0); what = Disembargo }
disembargo_shape v u x now target (ReceiverLoopback e) = record { target = None; ref = embargo_ref u (map.get x.embargoes e.0); what = Echo }

abbrev pub plain_shape : (from to : Vat) → Reader → (ℕ → ℕ) → PlainMessage → Option Shape
plain_shape v u x now (plain.Abort exception) = None
plain_shape v u x now (plain.Bootstrap q) = None
plain_shape v u x now (plain.Call c) = Some (record { target = Some (target_point u x.exports x.ghost now c.target); ref = caller c.stamp; what = Call c.stamp.index })
plain_shape v u x now (plain.Return r) = None
plain_shape v u x now (plain.Finish y) = None
plain_shape v u x now (plain.Resolve r) = None
plain_shape v u x now (plain.Release r) = None
plain_shape v u x now (plain.Disembargo y) = Some (disembargo_shape v u x now y.target y.context)
plain_shape v u x now (plain.Other n) = None

abbrev pub shape : (from to : Vat) → Reader → (ℕ → ℕ) → Message → Option Shape
shape v u x now (message.Plain m) = plain_shape v u x now m
shape v u x now (message.Unimplemented m) = None

-- The Calls and Disembargos on a link to the vat u, by what their targets will be as each is received.
abbrev pub shapes : (from to : Vat) → Ghost → Reader → (ℕ → ℕ) → List Message → List Shape
shapes v u g x now [] = []
shapes v u g x now (m ∷ ms) = in_front (shape v u x now m) (shapes v u g x (past_one g now m) ms)

abbrev pub target_of : Point → Content → Option Point
target_of p (Call i) = Some p
target_of p Disembargo = Some p
target_of p Echo = None

abbrev pub shape_of : routing.Message routes → Shape
shape_of m = record { target = target_of m.target m.what; ref = m.ref; what = m.what }

abbrev pub shapes_of : List (routing.Message routes) → List Shape
shapes_of [] = []
shapes_of (m ∷ ms) = shape_of m ∷ shapes_of ms

-- ---- What a vat knows of the other

abbrev pub IsExportAs : Vat → Ghost → Point → Option Export → Type 0
IsExportAs u f x None = ⊥
IsExportAs u f x (Some y) = x ≡ point u f y.node

abbrev pub IsImportOf : Vat → Ghost → Point → Option Export → Option Import → Type 0
IsImportOf u f x y None = Unit {0}
IsImportOf u f x y (Some i) = IsExportAs u f x y

-- Of a question whose Finish was not sent: when the link is empty its answer is that outcome.
abbrev pub IsSession : ℕ → ℕ → Option Question → Type 0
IsSession i now None = Unit {0}
IsSession i now (Some x) = IsNotSent x.finish → now ≡ i

abbrev pub reader : State → State → Ghost → Reader
reader s t f = record { exports = t.exports; ghost = f; embargoes = t.embargoes; sent = s.embargoes }

-- Of the vat v in the state s, with t at the other vat u, and ms on their way to u.
pub record View (v u : Vat) (s : State) (g : Ghost) (t : State) (f : Ghost) (ms : List Message) (m : routing.State routes) : Type 0 where
  pub imports : (e : ℕ) → IsImportOf u f (g.import e) (map.get t.exports e) (map.get s.imports e)
  pub sessions : (q : ℕ) → IsSession (g.session q) (past g (sessions_at f.outcome t.answers) ms q) (map.get s.questions q)
  pub link : shapes v u g (reader s t f) (sessions_at f.outcome t.answers) ms ≡ shapes_of (m.net.links (end u))
