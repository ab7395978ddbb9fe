-- What stands on the wires means (docs/laws.md, "What is called, given and ended"): what is on its way from one vat to the
-- other is read by labels as the receiver will read it.
use Rattle.std.specs.Prelude.{◌≡◌, ℕ, nat_eq, Option, None, Some, List, [], ◌∷◌, slice_get, cond}
use Rattle.std.specs.FinMap as map
use Rattle.finite_maps.specs.Tally.{Map}
use Rattle.rpc_msg.specs.Op.{Op}
use Rattle.rpc_msg.specs.declared.ids.Vat.{Vat}
use Rattle.rpc_msg.specs.declared.ids.Stamp.{Stamp}
use Rattle.rpc_msg.specs.declared.parts.Descriptor.{Descriptor}
use Rattle.rpc_msg.specs.declared.parts.Descriptor.TheVariants as descriptor
use Rattle.rpc_msg.specs.declared.parts.Target.{Target}
use Rattle.rpc_msg.specs.declared.parts.Target.TheVariants.{ImportedCap, PromisedAnswer}
use Rattle.rpc_msg.specs.declared.message.ResolvedTo.{ResolvedTo}
use Rattle.rpc_msg.specs.declared.message.ResolvedTo.TheVariants as resolved
use Rattle.rpc_msg.specs.declared.message.ReturnBody.{ReturnBody}
use Rattle.rpc_msg.specs.declared.message.ReturnBody.TheVariants as body
use Rattle.rpc_msg.specs.declared.message.PlainMessage.{PlainMessage}
use Rattle.rpc_msg.specs.declared.message.PlainMessage.TheVariants as plain
use Rattle.rpc_msg.specs.declared.message.Message.{Message}
use Rattle.rpc_msg.specs.declared.message.Message.TheVariants as message
use Rattle.rpc_msg.specs.Messages.{descriptors_of}
use Rattle.rpc_msg.specs.Paths.{fields}
use Rattle.rpc_msg.specs.Vats.{other_vat}
use Rattle.rpc_journal.specs.History.{caller}
use Rattle.rpc_journal.specs.Sources.{Asking, OfBootstrap, OfCall, SentWith}
use Rattle.rpc_journal.specs.Meaning.{History, Broken}
use Rattle.rpc_machine.specs.Payloads.{cap_at}
use Rattle.rpc_machine.specs.declared.entries.AnswerEntry.{AnswerEntry}
use Rattle.rpc_machine.specs.declared.entries.Export.{Export}
use Rattle.rpc_machine.specs.declared.entries.Import.{Import}
use Rattle.rpc_machine.specs.declared.entries.Question.{Question}
use Rattle.rpc_machine.specs.declared.entries.Role.{Role}
use Rattle.rpc_machine.specs.declared.entries.Role.TheVariants as role
use Rattle.rpc_machine.specs.State.{State}
use Rattle.rpc_machine.specs.Descriptors.{export_node}
use Rattle.rpc_machine.specs.Progress.{quiet}
use Rattle.rpc_machine.specs.Sweeping.{IsNotSent}
use Rattle.rpc_machine.specs.World.{World, core, inbox}
use Rattle.laws_routes.specs.Sayings.{Has, IsSilentPlain, SaidIfThere, has_behind, has_of}
use Rattle.laws_meanings.specs.NodeMeanings.{Meant, Itself, OfRef, field_meant, BySource, ByEnd, Leads}
use Rattle.laws_meanings.specs.NodeLabels.{Labels, LeadsTo, IsAnsweredOrBroken, Places, asked_label, field_label, label}
use Rattle.laws_meanings.specs.ReadMessages.{cap_read}

-- ---- Sessions

-- What a question id stands for: a call of a vat, or its Bootstrap; or nothing.
abbrev pub Session : Type 0
Session = Option (Vat × Asking)

abbrev pub session_of : (ℕ → Session) → Option AnswerEntry → Session
session_of outcome None = None
session_of outcome (Some a) = outcome a.outcome

-- What the answers of a vat stand for at present, by their question ids.
abbrev pub sessions_at : Labels → Map AnswerEntry → ℕ → Session
sessions_at l answers q = session_of l.outcome (map.get answers q)

abbrev pub with_session : (ℕ → Session) → ℕ → Session → ℕ → Session
with_session now q x k = cond (nat_eq k q) x (now k)

-- Behind a Call from v, or a Bootstrap, its question id stands for that.
abbrev pub past_plain : Vat → (ℕ → Session) → PlainMessage → ℕ → Session
past_plain v now (plain.Abort exception) = now
past_plain v now (plain.Bootstrap q) = with_session now q.0 (Some (v, OfBootstrap))
past_plain v now (plain.Call c) = with_session now c.question.0 (Some (v, OfCall c.stamp))
past_plain v now (plain.Return r) = now
past_plain v now (plain.Finish x) = now
past_plain v now (plain.Resolve r) = now
past_plain v now (plain.Release r) = now
past_plain v now (plain.Disembargo x) = now
past_plain v now (plain.Other n) = now

abbrev pub past_one : Vat → (ℕ → Session) → Message → ℕ → Session
past_one v now (message.Plain m) = past_plain v now m
past_one v now (message.Unimplemented m) = now

abbrev pub past : Vat → (ℕ → Session) → List Message → ℕ → Session
past v now [] = now
past v now (m ∷ ms) = past v (past_one v now m) ms

-- Which imports the receiver has behind these messages.
abbrev pub has_past : Has → List Message → Has
has_past has [] = has
has_past has (message.Plain m ∷ ms) = has_past (has_behind has (descriptors_of (message.Plain m))) ms
has_past has (message.Unimplemented m ∷ ms) = has_past has ms

-- What a question is of.
abbrev pub asked_at : Labels → ℕ → Option Question → Session
asked_at l q None = None
asked_at l q (Some x) = asked_label l q x.role

-- ---- What wires stand for

-- An import means what the other vat exports as it.
abbrev pub ImportAgrees : Option Meant → Option Meant → Option Import → Type 0
ImportAgrees x y None = Unit {0}
ImportAgrees x y (Some i) = x ≡ y

-- A question of the vat's own call, while its Finish is not sent, is what the other vat will have it for; one that relays
-- is of the same call.
abbrev pub IsSession : Labels → ℕ → Session → Role → Type 0
IsSession l q now (role.Direct c) = now ≡ l.question q
IsSession l q now (role.Relay o) = (s : Stamp) × (a : Vat) × (b : Vat) × (l.outcome o ≡ Some (a, OfCall s)) × (now ≡ Some (b, OfCall s))

abbrev pub QuestionAgrees : Labels → ℕ → Session → Option Question → Type 0
QuestionAgrees l q now None = Unit {0}
QuestionAgrees l q now (Some x) = IsNotSent x.finish → IsSession l q now x.role

-- ---- Reading

-- By which a link is read: what the exports of its sender and of its receiver mean, and what its receiver's questions are of.
pub record Reader : Type 0 where
  pub sender : ℕ → Option Meant
  pub receiver : ℕ → Option Meant
  pub question : ℕ → Session

-- What is said of a promise, by how descriptors are read.
abbrev pub resolved_label : (Descriptor → Option Meant) → ResolvedTo → Option Meant
resolved_label read (resolved.Cap d) = read d
resolved_label read (resolved.Exception exception) = Some (Itself Broken)

module _ (h : History) where
  abbrev pub read_label : Reader → (ℕ → Session) → Descriptor → Option Meant
  read_label x now descriptor.None = Some (Itself Broken)
  read_label x now (descriptor.SenderHosted e) = x.sender e.0
  read_label x now (descriptor.SenderPromise e) = x.sender e.0
  read_label x now (descriptor.ReceiverHosted e) = x.receiver e.0
  read_label x now (descriptor.ReceiverAnswer q path) = field_label h (now q.0) (fields path)

  abbrev pub target_label : Reader → (ℕ → Session) → Target → Option Meant
  target_label x now (ImportedCap e) = x.receiver e.0
  target_label x now (PromisedAnswer q path) = field_label h (now q.0) (fields path)

  -- ---- What messages say

  -- The history leads the call's reference to what its target means, and each reference that was sent with it to what its
  -- descriptor means.
  abbrev pub CallMeans : Vat → (Descriptor → Option Meant) → Stamp → Option Meant → List Descriptor → Type 0
  CallMeans v read s target ds =
      LeadsTo h (OfRef (caller s)) target
      × ((i : ℕ) (d : Descriptor) → slice_get ds i ≡ Some d → (y : Meant) × BySource h v (SentWith s i) y × LeadsTo h y (read d))

  -- Each field of what was asked leads to what is said of it. A canceled Return says nothing: nobody asks for it any more.
  abbrev pub ReturnMeans : (Descriptor → Option Meant) → Vat × Asking → ReturnBody → Type 0
  ReturnMeans read a (body.Results payload ds) =
      ((path : List Op) → LeadsTo h (field_meant h a.0 a.1 path) (cap_read read ds (cap_at payload path)))
      × ((i : ℕ) (d : Descriptor) → slice_get ds i ≡ Some d → (y : Meant) × ByEnd h a.0 i a.1 y × LeadsTo h y (read d))
      × IsAnsweredOrBroken h a.1
  ReturnMeans read a (body.Exception exception) = ((path : List Op) → Leads h (Itself Broken) (field_meant h a.0 a.1 path)) × IsAnsweredOrBroken h a.1
  ReturnMeans read a body.Canceled = Unit {0}

  -- The export leads to what is said of it.
  abbrev pub ResolveMeans : (Descriptor → Option Meant) → Option Meant → ResolvedTo → Type 0
  ResolveMeans read x to = (y : Meant) × (x ≡ Some y) × LeadsTo h y (resolved_label read to)

  -- Of a question that is not finished, and of an import that the receiver has.
  abbrev pub MessageMeans : Vat → Reader → Has → (ℕ → Session) → PlainMessage → Type 0
  MessageMeans v x has now (plain.Abort exception) = Unit {0}
  MessageMeans v x has now (plain.Bootstrap q) = Unit {0}
  MessageMeans v x has now (plain.Call c) = CallMeans v (read_label x now) c.stamp (target_label x now c.target) c.descriptors
  MessageMeans v x has now (plain.Return r) =
      SaidIfThere (has.question r.answer.0) ((a : Vat × Asking) × (x.question r.answer.0 ≡ Some a) × ReturnMeans (read_label x now) a r.body)
  MessageMeans v x has now (plain.Finish y) = Unit {0}
  MessageMeans v x has now (plain.Resolve r) = SaidIfThere (has.import r.promise.0) (ResolveMeans (read_label x now) (x.sender r.promise.0) r.to)
  MessageMeans v x has now (plain.Release r) = Unit {0}
  MessageMeans v x has now (plain.Disembargo y) = Unit {0}
  MessageMeans v x has now (plain.Other n) = Unit {0}

  -- All that is on its way from v, each message read behind those in front of it. Of what asks something nothing comes back
  -- Unimplemented.
  abbrev pub LinkMeans : Vat → Reader → Has → (ℕ → Session) → List Message → Type 0
  LinkMeans v x has now [] = Unit {0}
  LinkMeans v x has now (message.Plain m ∷ ms) =
      MessageMeans v x has now m × LinkMeans v x (has_behind has (descriptors_of (message.Plain m))) (past_one v now (message.Plain m)) ms
  LinkMeans v x has now (message.Unimplemented m ∷ ms) = IsSilentPlain m × LinkMeans v x has now ms

  -- ---- Two vats

  abbrev pub export_label : Vat → Labels → Map Export → ℕ → Option Meant
  export_label v l exports e = label h v l (export_node (map.get exports e))

  -- By which u reads what is on its way from v.
  abbrev pub reader : Vat → State → Labels → Vat → State → Labels → Reader
  reader v s l u t k = record { sender = export_label v l s.exports; receiver = export_label u k t.exports; question = λ q. asked_at k q (map.get t.questions q) }

  -- Of the vat v in the state s, with ms on their way to the vat u in the state t.
  pub record WiresMean (v : Vat) (s : State) (l : Labels) (u : Vat) (t : State) (k : Labels) (ms : List Message) : Type 0 where
    pub imports : (e : ℕ) → ImportAgrees (l.import e) (export_label u k t.exports e) (map.get s.imports e)
    pub questions : (q : ℕ) → QuestionAgrees l q (past v (sessions_at k t.answers) ms q) (map.get s.questions q)
    pub link : LinkMeans v (reader v s l u t k) (has_of [] t.imports t.questions) (sessions_at k t.answers) ms

  -- Between steps, of both vats: all that they hold means what it should, and all that stands on the wires.
  pub record WorldMeans (w : World) (l : Vat → Labels) : Type 0 where
    pub places : (v : Vat) → Places h v (l v) quiet (core w v)
    pub wires : (v : Vat) → WiresMean v (core w v) (l v) (other_vat v) (core w (other_vat v)) (l (other_vat v)) (inbox w (other_vat v))
