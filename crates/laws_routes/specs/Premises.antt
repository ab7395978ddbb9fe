-- What the laws take as known of a vat and of what is on its way (docs/protocol.md, "Nodes", "Places", "Ids in use"): between
-- steps each holds of every vat to which steps lead; here it is asked of states in the middle of a step.
use Rattle.std.specs.Prelude.{◌≡◌, ℕ, Bool, nat_eq, false, Option, None, Some, IsSome, List, [], ◌∷◌}
use Rattle.std.specs.FinMap as map
use Rattle.rpc_msg.specs.declared.parts.Target.{Target}
use Rattle.rpc_msg.specs.declared.parts.Target.TheVariants.{ImportedCap, PromisedAnswer}
use Rattle.rpc_msg.specs.declared.message.DisembargoContext.{DisembargoContext}
use Rattle.rpc_msg.specs.declared.message.DisembargoContext.TheVariants.{SenderLoopback, ReceiverLoopback}
use Rattle.rpc_msg.specs.declared.message.PlainMessage.TheVariants as plain
use Rattle.rpc_msg.specs.declared.message.Message.{Message}
use Rattle.rpc_msg.specs.declared.message.Message.TheVariants as message
use Rattle.rpc_msg.specs.Paths.{fields}
use Rattle.rpc_machine.specs.declared.entries.Export.{Export}
use Rattle.rpc_machine.specs.declared.entries.AnswerEntry.{AnswerEntry}
use Rattle.rpc_machine.specs.declared.entries.Reference.{Reference}
use Rattle.rpc_machine.specs.declared.entries.Embargo.{Embargo}
use Rattle.rpc_machine.specs.declared.node.Node.{Node}
use Rattle.rpc_machine.specs.declared.node.Node.TheVariants as node
use Rattle.rpc_machine.specs.declared.entries.Question.{Question}
use Rattle.rpc_machine.specs.Sweeping.{IsNotSent}
use Rattle.rpc_machine.specs.State.{State}
use Rattle.rpc_machine.specs.Nodes.{link, settle, is_wire, is_pipe, is_field, is_import, is_promise}
use Rattle.rpc_machine.specs.Laws as machine
use Rattle.laws_steps.specs.Settled.{IsThere}
use Rattle.laws_routes.specs.Named.{EachReturn, LinksMet, NoneLeads}

-- Links lead to what is there, and none goes round.
pub record LinksRest (s : State) : Type 0 where
  pub lead : (m k : Node) → IsThere s m → link s m ≡ Some k → IsThere s k
  pub stop : (m : Node) → IsThere s m → (d : ℕ) × machine.Stops s d m

-- ---- Of what is on its way

-- Of each question id that a message opens.
abbrev pub OpenOf : (ℕ → Type 0) → Message → Type 0
OpenOf P (message.Plain (plain.Bootstrap q)) = P q.0
OpenOf P (message.Plain (plain.Call c)) = P c.question.0
OpenOf P m = Unit {0}

abbrev pub EachOpen : (ℕ → Type 0) → List Message → Type 0
EachOpen P [] = Unit {0}
EachOpen P (m ∷ ms) = OpenOf P m × EachOpen P ms

abbrev pub OfCap : (ℕ → Type 0) → Target → Type 0
OfCap P (ImportedCap e) = P e.0
OfCap P (PromisedAnswer q path) = Unit {0}

-- Of each export id that is the target of a Call or a Disembargo.
abbrev pub TargetCap : (ℕ → Type 0) → Message → Type 0
TargetCap P (message.Plain (plain.Call c)) = OfCap P c.target
TargetCap P (message.Plain (plain.Disembargo x)) = OfCap P x.target
TargetCap P m = Unit {0}

abbrev pub EachTargetCap : (ℕ → Type 0) → List Message → Type 0
EachTargetCap P [] = Unit {0}
EachTargetCap P (m ∷ ms) = TargetCap P m × EachTargetCap P ms

-- What these messages are aimed at is there.
abbrev pub TargetsAreMet : State → List Message → Type 0
TargetsAreMet s ms = EachTargetCap (λ e. IsSome (map.get s.exports e)) ms

-- No link, head or embargo leads to such a node.
pub record Unnamed (s : State) (test : Node → Bool) : Type 0 where
  pub links : (m k : Node) → IsThere s m → link s m ≡ Some k → test k ≡ false
  pub heads : (r : ℕ) (x : Reference) → map.get s.refs r ≡ Some x → test x.head ≡ false
  pub embargoes : (e : ℕ) (b : Embargo) → map.get s.embargoes e ≡ Some b → test b.node ≡ false

abbrev pub ExportsAreOwn : State → Type 0
ExportsAreOwn s = (e : ℕ) (x : Export) → map.get s.exports e ≡ Some x → is_wire x.node ≡ false

-- A question with the free id q may be asked, with `out` on the way to the other vat and `back` on the way from it.
pub record MayAsk (s : State) (out back : List Message) (q : ℕ) : Type 0 where
  -- places name a Pipe only of a question that is there, and so does what is known
  pub unnamed : Unnamed s (is_pipe q)
  pub unsaid : NoneLeads s (is_pipe q)
  -- no Call or Bootstrap of a free question id is under way
  pub not_open : EachOpen (λ k. nat_eq k q ≡ false) out
  -- nor a Return
  pub not_returned : EachReturn (λ k. nat_eq k q ≡ false) back
  -- targets name exports that are there
  pub met : TargetsAreMet s back
  -- exports are own nodes
  pub own : ExportsAreOwn s

abbrev pub IsUnfinished : Option Question → Type 0
IsUnfinished None = ⊥
IsUnfinished (Some x) = IsNotSent x.finish

-- The wire of a node that may be named: its import is there; or its question is, with its Finish not sent, and its path has
-- no Noops.
abbrev pub IsWireThere : State → Node → Type 0
IsWireThere s (node.Object o) = Unit {0}
IsWireThere s (node.Promise p) = Unit {0}
IsWireThere s (node.Field o path) = Unit {0}
IsWireThere s (node.Import e) = IsSome (map.get s.imports e.0)
IsWireThere s (node.Pipe q path) = IsUnfinished (map.get s.questions q.0) × (fields path ≡ path)
IsWireThere s (node.Broken reason) = Unit {0}

-- What one call needs that goes on to where its node settles.
pub record MayRoute (s : State) (other : State) (out back : List Message) (n : Node) : Type 0 where
  -- it is a node where settling stops
  pub stops : link s n ≡ None
  pub wire : IsWireThere s n
  pub theirs : ExportsAreOwn other
  -- exports that are named on the way are there
  pub links : LinksMet s other out back
  pub asks : (q : ℕ) → map.get s.questions q ≡ None → MayAsk s out back q

-- The own node n is there, and a call may be routed to it.
pub record MayGoTo (s : State) (other : State) (out back : List Message) (n : Node) : Type 0 where
  pub rest : LinksRest s
  pub there : IsThere s n
  pub may : MayRoute s other out back (settle s n)

-- A new outcome may have the free key o: no place names it, nor does what is known, and no answer has it.
pub record MayKeep (s : State) (o : ℕ) : Type 0 where
  pub unnamed : Unnamed s (is_field o)
  pub unsaid : NoneLeads s (is_field o)
  pub exports : (e : ℕ) (x : Export) → map.get s.exports e ≡ Some x → is_field o x.node ≡ false
  pub answers : (q : ℕ) (a : AnswerEntry) → map.get s.answers q ≡ Some a → nat_eq a.outcome o ≡ false

-- A new promise may have the free key p: no place names it, nor does what is known.
pub record MayOpen (s : State) (p : ℕ) : Type 0 where
  pub unnamed : Unnamed s (is_promise p)
  pub unsaid : NoneLeads s (is_promise p)
  pub exports : (e : ℕ) (x : Export) → map.get s.exports e ≡ Some x → is_promise p x.node ≡ false

-- So may one with any free key.
abbrev pub EachMayOpen : State → Type 0
EachMayOpen s = (p : ℕ) → map.get s.promises p ≡ None → MayOpen s p

-- The answer is there, and of that outcome (between steps by `laws_steps::nodes_are_there`).
abbrev pub IsAnswerOf : ℕ → Option AnswerEntry → Type 0
IsAnswerOf o None = ⊥
IsAnswerOf o (Some a) = a.outcome ≡ o

-- A descriptor of the export e of the other vat may be taken: the export is there, and where there is no import of it yet no
-- place names one, nor does what is known.
pub record MayTake (s other : State) (e : ℕ) : Type 0 where
  pub there : IsSome (map.get other.exports e)
  pub unnamed : map.get s.imports e ≡ None → Unnamed s (is_import e)
  pub unsaid : map.get s.imports e ≡ None → NoneLeads s (is_import e)

abbrev pub EachMayTake : (s other : State) → List ℕ → Type 0
EachMayTake s other [] = Unit {0}
EachMayTake s other (e ∷ es) = MayTake s other e × EachMayTake s other es

-- No other embargo is of that reference.
abbrev pub IsOnlyEmbargo : State → ℕ → ℕ → Type 0
IsOnlyEmbargo s e r = (k : ℕ) (b : Embargo) → map.get s.embargoes k ≡ Some b → b.reference.0 ≡ r → k ≡ e

-- Of the embargo id of each Disembargo: P of one that its receiver is to send back, Q of one that came back.
abbrev pub LoopOf : (P Q : ℕ → Type 0) → DisembargoContext → Type 0
LoopOf P Q (SenderLoopback e) = P e.0
LoopOf P Q (ReceiverLoopback e) = Q e.0

abbrev pub EachLoop : (P Q : ℕ → Type 0) → List Message → Type 0
EachLoop P Q [] = Unit {0}
EachLoop P Q (message.Plain (plain.Disembargo x) ∷ ms) = LoopOf P Q x.context × EachLoop P Q ms
EachLoop P Q (m ∷ ms) = EachLoop P Q ms

-- While an echo is received, no other Disembargo of its id is about.
pub record IsLastLoop (e : ℕ) (out back : List Message) : Type 0 where
  pub sent : EachLoop (λ k. nat_eq k e ≡ false) (λ k. Unit {0}) out
  pub echoed : EachLoop (λ k. Unit {0}) (λ k. nat_eq k e ≡ false) back
