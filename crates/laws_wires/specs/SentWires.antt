-- What is sent, read by the labels of its sender, and as its receiver will read it.
use Rattle.std.specs.Prelude.{◌≡◌, ◌⊎◌, ℕ, true, Option, Some, List, [], ◌∷◌}
use Rattle.finite_maps.specs.Tally.{Map}
use Rattle.rpc_msg.specs.declared.ids.Vat.{Vat}
use Rattle.rpc_msg.specs.declared.ids.Stamp.{Stamp}
use Rattle.rpc_msg.specs.declared.parts.Descriptor.{Descriptor}
use Rattle.rpc_msg.specs.declared.parts.Descriptor.TheVariants as descriptor
use Rattle.rpc_msg.specs.declared.parts.Target.{Target}
use Rattle.rpc_msg.specs.declared.parts.Target.TheVariants.{ImportedCap, PromisedAnswer}
use Rattle.rpc_msg.specs.declared.message.PlainMessage.{PlainMessage}
use Rattle.rpc_msg.specs.declared.message.PlainMessage.TheVariants as plain
use Rattle.rpc_msg.specs.declared.message.Message.TheVariants as message
use Rattle.rpc_msg.specs.Messages.{descriptors_of}
use Rattle.rpc_journal.specs.Sources.{Asking, OfCall}
use Rattle.rpc_journal.specs.Meaning.{History, Broken}
use Rattle.rpc_machine.specs.declared.entries.Export.{Export}
use Rattle.laws_routes.specs.Sayings.{Has}
use Rattle.laws_meanings.specs.NodeMeanings.{Meant, Itself}
use Rattle.laws_meanings.specs.NodeLabels.{Labels, field_label}
use Rattle.laws_wires.specs.Wires.{Session, Reader, CallMeans, MessageMeans, ResolveMeans, ReturnMeans, export_label}

-- ---- By the sender's own labels

module _ (h : History) (v : Vat) (l : Labels) (E : Map Export) where
  abbrev pub own_label : Descriptor → Option Meant
  own_label descriptor.None = Some (Itself Broken)
  own_label (descriptor.SenderHosted e) = export_label h v l E e.0
  own_label (descriptor.SenderPromise e) = export_label h v l E e.0
  own_label (descriptor.ReceiverHosted e) = l.import e.0
  own_label (descriptor.ReceiverAnswer q path) = field_label h (l.question q.0) path

  abbrev pub own_target : Target → Option Meant
  own_target (ImportedCap e) = l.import e.0
  own_target (PromisedAnswer q path) = field_label h (l.question q.0) path

  -- A message that is sent means what it should. Of a Return, by what its answer stands for.
  abbrev pub OwnMeans : (ℕ → Session) → PlainMessage → Type 0
  OwnMeans said (plain.Abort exception) = Unit {0}
  OwnMeans said (plain.Bootstrap q) = Unit {0}
  OwnMeans said (plain.Call c) = CallMeans h v own_label c.stamp (own_target c.target) c.descriptors
  OwnMeans said (plain.Return r) = (a : Vat × Asking) × (said r.answer.0 ≡ Some a) × ReturnMeans h own_label a r.body
  OwnMeans said (plain.Finish y) = Unit {0}
  OwnMeans said (plain.Resolve r) = ResolveMeans h own_label (export_label h v l E r.promise.0) r.to
  OwnMeans said (plain.Release r) = Unit {0}
  OwnMeans said (plain.Disembargo y) = Unit {0}
  OwnMeans said (plain.Other n) = Unit {0}

-- ---- Where the receiver reads it so

-- They are the same, or of one call.
abbrev pub AreOfOne : Session → Session → Type 0
AreOfOne a b = (a ≡ b) ⊎ ((s : Stamp) × (c : Vat) × (d : Vat) × (a ≡ Some (c, OfCall s)) × (b ≡ Some (d, OfCall s)))

module _ (l : Labels) (x : Reader) (now : ℕ → Session) where
  abbrev pub IsRead : Descriptor → Type 0
  IsRead descriptor.None = Unit {0}
  IsRead (descriptor.SenderHosted e) = Unit {0}
  IsRead (descriptor.SenderPromise e) = Unit {0}
  IsRead (descriptor.ReceiverHosted e) = x.receiver e.0 ≡ l.import e.0
  IsRead (descriptor.ReceiverAnswer q path) = now q.0 ≡ l.question q.0

  abbrev pub EachRead : List Descriptor → Type 0
  EachRead [] = Unit {0}
  EachRead (d ∷ ds) = IsRead d × EachRead ds

  abbrev pub IsReadTarget : Target → Type 0
  IsReadTarget (ImportedCap e) = x.receiver e.0 ≡ l.import e.0
  IsReadTarget (PromisedAnswer q path) = now q.0 ≡ l.question q.0

  -- What it is aimed at; of a Return, its question.
  abbrev pub IsAimed : Has → (ℕ → Session) → PlainMessage → Type 0
  IsAimed has said (plain.Abort exception) = Unit {0}
  IsAimed has said (plain.Bootstrap q) = Unit {0}
  IsAimed has said (plain.Call c) = IsReadTarget c.target
  IsAimed has said (plain.Return r) = has.question r.answer.0 ≡ true → AreOfOne (said r.answer.0) (x.question r.answer.0)
  IsAimed has said (plain.Finish y) = Unit {0}
  IsAimed has said (plain.Resolve r) = Unit {0}
  IsAimed has said (plain.Release r) = Unit {0}
  IsAimed has said (plain.Disembargo y) = Unit {0}
  IsAimed has said (plain.Other n) = Unit {0}

-- Where imports and questions that it names stand at the receiver for what they mean to the sender, it means the same there.
abbrev pub SentIsRead : Type 0
SentIsRead =
    (h : History) (v : Vat) (l : Labels) (E : Map Export) (x : Reader) (has : Has) (now said : ℕ → Session) (m : PlainMessage) → ((e : ℕ) → x.sender e ≡ export_label h v l E e)
    → EachRead l x now (descriptors_of (message.Plain m)) → IsAimed l x now has said m → OwnMeans h v l E said m → MessageMeans h v x has now m
