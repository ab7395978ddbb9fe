-- What is received says what it should by the nodes that its receiver makes, where on its way it is read so, by labels.
use Rattle.std.specs.Prelude.{◌≡◌, ℕ, zero, suc, Option, None, Some, List, [], ◌∷◌, slice_get}
use Rattle.std.specs.FinMap as map
use Rattle.rpc_msg.specs.declared.ids.Vat.{Vat}
use Rattle.rpc_msg.specs.declared.message.Message.{Message}
use Rattle.rpc_msg.specs.declared.message.Message.TheVariants as message
use Rattle.rpc_msg.specs.declared.message.PlainMessage.{PlainMessage}
use Rattle.rpc_msg.specs.declared.message.PlainMessage.TheVariants as plain
use Rattle.rpc_msg.specs.declared.message.Return.{Return}
use Rattle.rpc_msg.specs.declared.message.ReturnBody.{ReturnBody}
use Rattle.rpc_msg.specs.declared.message.ReturnBody.TheVariants as body
use Rattle.rpc_msg.specs.declared.parts.Descriptor.{Descriptor}
use Rattle.rpc_msg.specs.Op.{Op}
use Rattle.rpc_msg.specs.CapAt.{CapAt}
use Rattle.rpc_msg.specs.CapAt.TheVariants.{Cap, Null, NotCap}
use Rattle.rpc_journal.specs.History.{caller}
use Rattle.rpc_journal.specs.Sources.{Asking, SentWith}
use Rattle.rpc_journal.specs.Meaning.{History, Broken, root}
use Rattle.rpc_machine.specs.declared.command.Level.TheVariants.{One}
use Rattle.rpc_machine.specs.declared.entries.Import.{Import}
use Rattle.rpc_machine.specs.declared.entries.Question.{Question}
use Rattle.rpc_machine.specs.State.{State}
use Rattle.rpc_machine.specs.Claims.{object_number}
use Rattle.rpc_machine.specs.Faults.{fault_of}
use Rattle.rpc_machine.specs.Payloads.{cap_at}
use Rattle.rpc_machine.specs.Sweeping.{IsNotSent}
use Rattle.laws_steps.specs.NodesThere.{IsWhole}
use Rattle.laws_meanings.specs.NodeMeanings.{Meant, Itself, OfRef, BySource, field_meant, ByEnd, Leads}
use Rattle.laws_meanings.specs.NodeLabels.{IsAnsweredOrBroken, Labels, LeadsTo, asked_label}
use Rattle.laws_meanings.specs.MessageMeanings.{EchoHeard, ImportsKept, IsHeard, ResolveRead, wire_label, wire_target_label, with_imports}

-- ---- A Return

module _ (read : Descriptor → Option Meant) where
  abbrev pub place_read : List Descriptor → ℕ → Option Meant
  place_read [] i = Some (Itself Broken)
  place_read (d ∷ ds) zero = read d
  place_read (d ∷ ds) (suc i) = place_read ds i

  abbrev pub cap_read : List Descriptor → CapAt → Option Meant
  cap_read ds (Cap i) = place_read ds i
  cap_read ds Null = Some (Itself Broken)
  cap_read ds NotCap = Some (Itself Broken)

-- Each field of what was asked leads to what is said of it. (Where a Return says that it was canceled, nobody asks for it.)
abbrev pub ReturnRead : History → (Descriptor → Option Meant) → Vat × Asking → ReturnBody → Type 0
ReturnRead h read a (body.Results payload ds) =
    ((path : List Op) → LeadsTo h (field_meant h a.0 a.1 path) (cap_read read ds (cap_at payload path)))
    × ((i : ℕ) (d : Descriptor) → slice_get ds i ≡ Some d → (y : Meant) × ByEnd h a.0 i a.1 y × LeadsTo h y (read d))
    × IsAnsweredOrBroken h a.1
ReturnRead h read a (body.Exception exception) = ((path : List Op) → Leads h (Itself Broken) (field_meant h a.0 a.1 path)) × IsAnsweredOrBroken h a.1
ReturnRead h read a body.Canceled = ⊥

-- ---- Any message

module _ (h : History) (l : Labels) (s : State) (is : ℕ → Option Meant) where
  abbrev pub PlainRead : PlainMessage → Type 0
  PlainRead (plain.Abort exception) = Unit {0}
  PlainRead (plain.Bootstrap q) = root h s.vat ≡ object_number s.bootstrap
  PlainRead (plain.Call c) =
      LeadsTo h (OfRef (caller c.stamp)) (wire_target_label h s.vat l s c.target)
      × ((i : ℕ) (d : Descriptor) → slice_get c.descriptors i ≡ Some d → (y : Meant) × BySource h s.vat (SentWith c.stamp i) y × LeadsTo h y (wire_label h s.vat l s is d))
  PlainRead (plain.Return r) =
      (x : Question) → map.get s.questions r.answer.0 ≡ Some x → IsNotSent x.finish
      → (a : Vat × Asking) × (asked_label l r.answer.0 x.role ≡ Some a) × ReturnRead h (wire_label h s.vat l s is) a r.body
  PlainRead (plain.Finish x) = Unit {0}
  PlainRead (plain.Resolve r) = (x : Import) → map.get s.imports r.promise.0 ≡ Some x → (y : Meant) × (is r.promise.0 ≡ Some y) × ResolveRead h (wire_label h s.vat l s is) y r.to
  PlainRead (plain.Release r) = Unit {0}
  PlainRead (plain.Disembargo x) = Unit {0}
  PlainRead (plain.Other n) = Unit {0}

  abbrev pub IsRead : Message → Type 0
  IsRead (message.Plain m) = PlainRead m
  IsRead (message.Unimplemented m) = EchoHeard h s.vat l s m

-- ---- Laws

abbrev pub ReturnsAreHeard : Type 0
ReturnsAreHeard =
    (h : History) (l : Labels) (s : State) (is : ℕ → Option Meant) (r : Return)
    → ImportsKept l s is → IsWhole s → s.level ≡ One → fault_of s (message.Plain (plain.Return r)) ≡ None
    → IsRead h l s is (message.Plain (plain.Return r)) → IsHeard h s.vat (with_imports l is) s (message.Plain (plain.Return r))

abbrev pub MessagesAreHeard : Type 0
MessagesAreHeard =
    (h : History) (l : Labels) (s : State) (is : ℕ → Option Meant) (m : Message)
    → ImportsKept l s is → IsWhole s → s.level ≡ One → fault_of s m ≡ None → IsRead h l s is m → IsHeard h s.vat (with_imports l is) s m
