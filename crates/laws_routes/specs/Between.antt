-- The record of the middle of a step, between two steps: what is so of each vat alone, and what is so across.
use Rattle.std.specs.Prelude.{◌≡◌, ℕ, false, nat_eq, Option, None, Some, IsSome, List, []}
use Rattle.std.specs.FinMap as map
use Rattle.rpc_msg.specs.Op.{Op}
use Rattle.rpc_msg.specs.declared.parts.Descriptor.{Descriptor}
use Rattle.rpc_msg.specs.declared.message.Message.{Message}
use Rattle.rpc_machine.specs.declared.entries.AnswerEntry.{AnswerEntry}
use Rattle.rpc_machine.specs.declared.entries.Embargo.{Embargo}
use Rattle.rpc_machine.specs.declared.entries.Export.{Export}
use Rattle.rpc_machine.specs.declared.entries.Question.{Question}
use Rattle.rpc_machine.specs.declared.entries.Reference.{Reference}
use Rattle.rpc_machine.specs.declared.node.Node.{Node}
use Rattle.rpc_machine.specs.State.{State}
use Rattle.rpc_machine.specs.Nodes.{is_wire, link}
use Rattle.rpc_machine.specs.Advancing.{Leads, known_by_resolve, known_by_return, resolution_of, returned_of}
use Rattle.rpc_machine.specs.declared.calls.KeptOutcome.{KeptOutcome}
use Rattle.rpc_machine.specs.declared.calls.Promise.TheVariants as promise
use Rattle.rpc_machine.specs.declared.calls.WaitingCall.{WaitingCall}
use Rattle.rpc_machine.specs.Laws as machine
use Rattle.laws_steps.specs.Callers.{AnswersWith, IsOpenFor}
use Rattle.laws_steps.specs.Settled.{IsThere}
use Rattle.laws_routes.specs.Named.{EachReturn, LinksMet}
use Rattle.laws_routes.specs.Premises.{EachLoop, EachOpen, TargetsAreMet}
use Rattle.laws_routes.specs.MakingLaws.{EmbargoIsThere}
use Rattle.laws_routes.specs.Midway.{CallsAreHeld, HeldCallsAreHeld, IsAwaited, IsHeld, IsOutcomeOf, Midway}
use Rattle.rpc_msg.specs.declared.ids.Vat.{Vat}
use Rattle.rpc_msg.specs.declared.ids.ObjectId.{ObjectId}
use Rattle.rpc_machine.specs.declared.command.Level.{Level}
use Rattle.rpc_machine.specs.State.{start}

-- What is so of a vat alone: where its nodes lead, what its places name, its embargoes, and its answers.
pub record Inside (s : State) : Type 0 where
  pub stop : (m : Node) → (d : ℕ) × machine.Stops s d m
  pub links : (m k : Node) → IsThere s m → link s m ≡ Some k → IsHeld s k
  pub heads : (r : ℕ) (x : Reference) → map.get s.refs r ≡ Some x → IsHeld s x.head
  pub embargoes : (e : ℕ) (b : Embargo) → map.get s.embargoes e ≡ Some b → IsHeld s b.node
  pub resolved : (e : ℕ) (said : Descriptor) (to : Node) → known_by_resolve (resolution_of (map.get s.imports e)) ≡ Leads said to → IsHeld s to
  pub returned : (q : ℕ) (path : List Op) (said : Descriptor) (to : Node) → known_by_return path (returned_of (map.get s.questions q)) ≡ Leads said to → IsHeld s to
  pub waits : (p : ℕ) (cs : List WaitingCall) → map.get s.promises p ≡ Some (promise.Open cs) → CallsAreHeld s cs
  pub holds : (o : ℕ) (x : KeptOutcome) → map.get s.outcomes o ≡ Some x → HeldCallsAreHeld s x.waiting
  pub keeps : (e : ℕ) (b : Embargo) → map.get s.embargoes e ≡ Some b → CallsAreHeld s b.waiting
  pub paired : (r : ℕ) (x : Reference) → map.get s.refs r ≡ Some x → EmbargoIsThere s r x.embargo
  pub exports : (e : ℕ) (x : Export) → map.get s.exports e ≡ Some x → (is_wire x.node ≡ false) × IsHeld s x.node
  pub answers : (q : ℕ) (a : AnswerEntry) → map.get s.answers q ≡ Some a → IsOutcomeOf q (map.get s.outcomes a.outcome)
  pub pending : (o q : ℕ) → IsOpenFor q (map.get s.outcomes o) → AnswersWith o (map.get s.answers q)

-- What is so of it with the other vat, and with what is on its way there and back: what it imports, its answers and questions,
-- and what messages name.
pub record Across (s other : State) (out back : List Message) : Type 0 where
  pub imported : (e : ℕ) → IsSome (map.get s.imports e) → IsSome (map.get other.exports e)
  pub awaited : (q : ℕ) (a : AnswerEntry) → map.get s.answers q ≡ Some a → a.returned ≡ None → IsAwaited other back q a.finished
  pub opens : EachOpen (λ q. IsSome (map.get s.questions q)) out
  pub returns : EachReturn (λ q. IsSome (map.get s.questions q)) back
  pub answered : (q : ℕ) (x : Question) → map.get s.questions q ≡ Some x → IsSome x.returned → EachOpen (λ k. nat_eq k q ≡ false) out × EachReturn (λ k. nat_eq k q ≡ false) back
  pub met : TargetsAreMet s back
  pub named : LinksMet s other out back
  pub sent : EachLoop (λ e. IsSome (map.get s.embargoes e)) (λ e. Unit {0}) out
  pub echoed : EachLoop (λ e. Unit {0}) (λ e. IsSome (map.get s.embargoes e)) back

abbrev pub JoinsFollow : Type 0
JoinsFollow = (s other : State) (out back : List Message) → Inside s → Inside other → Across s other out back → Midway s other out back

abbrev pub SplitsFollow : Type 0
SplitsFollow = (s other : State) (out back : List Message) → Midway s other out back → Inside s × Across s other out back

-- Two new vats are so, each with the other, with nothing on the way.
abbrev pub NewVatsAreSo : Type 0
NewVatsAreSo =
    (v u : Vat) (own theirs : Level) (object other : Option ObjectId) → Inside (start v own object) × Across (start v own object) (start u theirs other) [] []
