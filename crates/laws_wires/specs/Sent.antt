-- What a step sends means what it should, by the labels of its vat at each moment.
use Rattle.std.specs.Prelude.{◌≡◌, ◌⊎◌, ℕ, false, Option, None, Some, List, [], ◌∷◌}
use Rattle.std.specs.FinMap as map
use Rattle.finite_maps.specs.Tally.{Map}
use Rattle.rpc_msg.specs.declared.ids.Vat.{Vat}
use Rattle.rpc_msg.specs.declared.parts.Descriptor.{Descriptor}
use Rattle.rpc_msg.specs.declared.parts.Descriptor.TheVariants as descriptor
use Rattle.rpc_msg.specs.declared.message.PlainMessage.{PlainMessage}
use Rattle.rpc_msg.specs.declared.message.PlainMessage.TheVariants as plain
use Rattle.rpc_msg.specs.declared.message.Message.{Message}
use Rattle.rpc_msg.specs.declared.message.Message.TheVariants as message
use Rattle.rpc_msg.specs.Messages.{descriptors_of}
use Rattle.rpc_journal.specs.Sources.{Asking}
use Rattle.rpc_journal.specs.Meaning.{History}
use Rattle.rpc_machine.specs.declared.node.Node.{Node}
use Rattle.rpc_machine.specs.declared.node.Node.TheVariants as node
use Rattle.rpc_machine.specs.declared.calls.Caller.{Caller}
use Rattle.rpc_machine.specs.declared.calls.Caller.TheVariants as caller
use Rattle.rpc_machine.specs.declared.calls.KeptOutcome.{KeptOutcome}
use Rattle.rpc_machine.specs.declared.calls.Promise.{Promise}
use Rattle.rpc_machine.specs.declared.calls.Value.{Value}
use Rattle.rpc_machine.specs.declared.entries.Export.{Export}
use Rattle.rpc_machine.specs.State.{State}
use Rattle.laws_acts.specs.Moments.{Moment, Saying, Settled, ThePromise, TheOutcome, Owing}
use Rattle.laws_acts.specs.SmallActs.{Act, Acts}
use Rattle.laws_routes.specs.Sayings.{IsSilentPlain}
use Rattle.laws_meanings.specs.NodeMeanings.{Meant}
use Rattle.laws_meanings.specs.NodeLabels.{Labels, ValueMeans, MomentMeans, label}
use Rattle.laws_wires.specs.Wires.{Session}
use Rattle.laws_wires.specs.SentWires.{OwnMeans}

-- ---- What a message names is there

abbrev pub IsOurs : Map Export → Descriptor → Type 0
IsOurs E descriptor.None = Unit {0}
IsOurs E (descriptor.SenderHosted e) = (x : Export) × (map.get E e.0 ≡ Some x)
IsOurs E (descriptor.SenderPromise e) = (x : Export) × (map.get E e.0 ≡ Some x)
IsOurs E (descriptor.ReceiverHosted e) = Unit {0}
IsOurs E (descriptor.ReceiverAnswer q path) = Unit {0}

abbrev pub AreOurs : Map Export → List Descriptor → Type 0
AreOurs E [] = Unit {0}
AreOurs E (d ∷ ds) = IsOurs E d × AreOurs E ds

-- The promise that a node is of.
abbrev pub IsKept : Map Promise → Node → Type 0
IsKept P (node.Object o) = Unit {0}
IsKept P (node.Promise p) = (y : Promise) × (map.get P p ≡ Some y)
IsKept P (node.Field o path) = Unit {0}
IsKept P (node.Import e) = Unit {0}
IsKept P (node.Pipe q path) = Unit {0}
IsKept P (node.Broken reason) = Unit {0}

-- The export of which a Resolve is sent.
abbrev pub IsOfExport : Map Export → Map Promise → PlainMessage → Type 0
IsOfExport E P (plain.Abort exception) = Unit {0}
IsOfExport E P (plain.Bootstrap q) = Unit {0}
IsOfExport E P (plain.Call c) = Unit {0}
IsOfExport E P (plain.Return r) = Unit {0}
IsOfExport E P (plain.Finish x) = Unit {0}
IsOfExport E P (plain.Resolve r) = (x : Export) × (map.get E r.promise.0 ≡ Some x) × IsKept P x.node
IsOfExport E P (plain.Release r) = Unit {0}
IsOfExport E P (plain.Disembargo x) = Unit {0}
IsOfExport E P (plain.Other n) = Unit {0}

-- ---- At a moment of a step

-- With these exports and promises. Of a Return it is said by what the vat's answers stand for in the step.
module _ (h : History) (v : Vat) (l : Labels) (E : Map Export) (P : Map Promise) (said : ℕ → Session) where
  abbrev pub SaysSo : PlainMessage → Type 0
  SaysSo m = OwnMeans h v l E said m × AreOurs E (descriptors_of (message.Plain m)) × IsOfExport E P m

  -- What was sent. Of what asks something nothing goes back Unimplemented.
  abbrev pub AllSaySo : List Message → Type 0
  AllSaySo [] = Unit {0}
  AllSaySo (message.Plain m ∷ ms) = SaysSo m × AllSaySo ms
  AllSaySo (message.Unimplemented m ∷ ms) = IsSilentPlain m × AllSaySo ms

  -- A Return that is made, and not yet sent.
  abbrev pub SayingSo : Option Saying → Type 0
  SayingSo None = Unit {0}
  SayingSo (Some x) = SaysSo (plain.Return (record { answer = x.answer; release_param_caps = false; body = x.body }))

module _ (h : History) (v : Vat) (l : Labels) (said : ℕ → Session) where
  -- What the peer is to be told of its question.
  abbrev pub IsToldSo : Caller → Value → Type 0
  IsToldSo (caller.Application c) x = Unit {0}
  IsToldSo (caller.Peer q) x = (a : Vat × Asking) × (said q.0 ≡ Some a) × ValueMeans h v l a x

  abbrev pub AllToldSo : List (Caller × Value) → Type 0
  AllToldSo [] = Unit {0}
  AllToldSo (x ∷ xs) = IsToldSo x.0 x.1 × AllToldSo xs

  -- An outcome for which the peer waits is what its question stands for.
  abbrev pub IsAwaited : ℕ → Caller → Option Value → Type 0
  IsAwaited o (caller.Application c) x = Unit {0}
  IsAwaited o (caller.Peer q) None = said q.0 ≡ l.outcome o
  IsAwaited o (caller.Peer q) (Some x) = Unit {0}

  abbrev pub CallerSo : ℕ → Option KeptOutcome → Type 0
  CallerSo o None = Unit {0}
  CallerSo o (Some x) = IsAwaited o x.caller x.value

-- What was settled means something, and so does each export whose Resolve is to be sent.
module _ (h : History) (v : Vat) (l : Labels) (E : Map Export) (P : Map Promise) where
  abbrev pub HasLabel : Settled → Type 0
  HasLabel (ThePromise p why) = IsKept P (node.Promise p) × ((y : Meant) × (l.promise p ≡ Some y))
  HasLabel (TheOutcome o) = (a : Vat × Asking) × (l.outcome o ≡ Some a)

  abbrev pub IsOwed : Owing → Type 0
  IsOwed x = (y : Export) × (map.get E x.export ≡ Some y) × (y.node ≡ x.node) × IsKept P y.node × ((m : Meant) × (label h v l y.node ≡ Some m))

  abbrev pub AllOwed : List Owing → Type 0
  AllOwed [] = Unit {0}
  AllOwed (x ∷ xs) = IsOwed x × AllOwed xs

-- While it is not listed what is of it, nobody is told of anything, and nothing goes.
abbrev pub IsSettledSo : History → Vat → Labels → Moment → Option Settled → Type 0
IsSettledSo h v l d None = Unit {0}
IsSettledSo h v l d (Some x) = (d.saying ≡ None) × (d.telling ≡ []) × (d.swept ≡ false) × HasLabel h v l d.state.exports d.state.promises x

abbrev pub SentMean : History → Vat → Labels → (ℕ → Session) → Moment → Type 0
SentMean h v l said d =
    AllSaySo h v l d.state.exports d.state.promises said d.effects.sends × SayingSo h v l d.state.exports d.state.promises said d.saying × AllToldSo h v l said d.telling
    × ((o : ℕ) → CallerSo h v l said o (map.get d.state.outcomes o)) × IsSettledSo h v l d d.settled × AllOwed h v l d.state.exports d.state.promises d.owed

-- ---- Laws

-- Labels of promises afterwards: those that were there keep theirs, and no other comes to mean something.
pub record AreWeaker (l : Labels) (P : Map Promise) (ps : ℕ → Option Meant) : Type 0 where
  pub same : (p : ℕ) (y : Promise) → map.get P p ≡ Some y → ps p ≡ l.promise p
  pub weaker : (p : ℕ) → (ps p ≡ l.promise p) ⊎ (ps p ≡ None)

-- Each export stays, of its node; and while the promise is there that it is of, it means what it did.
abbrev pub ExportsStay : History → Vat → Labels → State → (ℕ → Option Meant) → State → Type 0
ExportsStay h v l s ps t =
    (e : ℕ) (x : Export) → map.get s.exports e ≡ Some x
    → (y : Export) × (map.get t.exports e ≡ Some y) × (y.node ≡ x.node)
    × (IsKept s.promises x.node → IsKept t.promises x.node × (label h v (record l { promise = ps }) x.node ≡ label h v l x.node))

-- After a small act what was sent means what it should.
abbrev pub ActsSaySo : Type 0
ActsSaySo =
    (h : History) (v : Vat) (l : Labels) (said : ℕ → Session) (ps : ℕ → Option Meant) (d new : Moment)
    → Act d new → MomentMeans h v l d → MomentMeans h v (record l { promise = ps }) new → AreWeaker l d.state.promises ps → SentMean h v l said d
    → ExportsStay h v l d.state ps new.state × SentMean h v (record l { promise = ps }) said new

-- So at the end of a step, where it is so behind its first act.
abbrev pub StepsSaySo : Type 0
StepsSaySo =
    (h : History) (v : Vat) (l : Labels) (said : ℕ → Session) (d last : Moment)
    → Acts last d → MomentMeans h v l d → SentMean h v l said d
    → (ps : ℕ → Option Meant) × ((p : ℕ) → (ps p ≡ l.promise p) ⊎ (ps p ≡ None)) × ExportsStay h v l d.state ps last.state
    × MomentMeans h v (record l { promise = ps }) last × SentMean h v (record l { promise = ps }) said last
