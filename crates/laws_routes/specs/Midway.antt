-- What is so of a vat in the middle of a step, and of what is on its way to it and from it. What the laws of pieces take as known
-- of a state follows from it (docs/protocol.md, "Nodes", "Places", "Ids in use").
use Rattle.std.specs.Prelude.{◌≡◌, ℕ, Bool, false, true, nat_eq, Option, None, Some, IsSome, List, [], ◌∷◌, ◌++◌}
use Rattle.std.specs.FinMap as map
use Rattle.rpc_msg.specs.Op.{Op}
use Rattle.rpc_msg.specs.declared.parts.Descriptor.{Descriptor}
use Rattle.rpc_msg.specs.declared.message.Message.{Message}
use Rattle.rpc_machine.specs.declared.command.Command.{Command}
use Rattle.rpc_machine.specs.declared.command.Command.TheVariants as command
use Rattle.rpc_machine.specs.declared.command.Granted.{Granted}
use Rattle.rpc_machine.specs.declared.command.Level.TheVariants.{One}
use Rattle.rpc_machine.specs.declared.entries.AnswerEntry.{AnswerEntry}
use Rattle.rpc_machine.specs.declared.entries.Embargo.{Embargo}
use Rattle.rpc_machine.specs.declared.entries.Export.{Export}
use Rattle.rpc_machine.specs.declared.entries.Question.{Question}
use Rattle.rpc_machine.specs.declared.entries.Reference.{Reference}
use Rattle.rpc_machine.specs.declared.node.Node.{Node}
use Rattle.rpc_machine.specs.State.{State}
use Rattle.rpc_machine.specs.Nodes.{is_promise, is_wire, link, settle}
use Rattle.rpc_machine.specs.Advancing.{Leads, known_by_resolve, known_by_return, resolution_of, returned_of}
use Rattle.rpc_machine.specs.Collecting.{Collects}
use Rattle.rpc_machine.specs.Commands.{Acts}
use Rattle.rpc_machine.specs.Routing.{RoutedTo, RoutesAll, RoutesHeld}
use Rattle.rpc_machine.specs.declared.calls.HeldCall.{HeldCall}
use Rattle.rpc_machine.specs.declared.calls.Caller.{Caller}
use Rattle.rpc_machine.specs.declared.calls.Caller.TheVariants as caller
use Rattle.rpc_machine.specs.declared.calls.Value.{Value}
use Rattle.rpc_machine.specs.declared.calls.Value.TheVariants as value
use Rattle.rpc_machine.specs.declared.calls.KeptOutcome.{KeptOutcome}
use Rattle.rpc_machine.specs.declared.calls.Promise.TheVariants as promise
use Rattle.rpc_machine.specs.declared.calls.WaitingCall.{WaitingCall}
use Rattle.rpc_machine.specs.Progress.{Progress, caps_of}
use Rattle.rpc_machine.specs.Refusals.{refused}
use Rattle.rpc_machine.specs.Settling.{Drains, FixesPromise, SendsResolves, SettlesOutcome, Tells, exports_where}
use Rattle.rpc_msg.specs.declared.exception.Exception.{Exception}
use Rattle.rpc_machine.specs.Laws as machine
use Rattle.laws_steps.specs.Callers.{AnswersWith, IsOpenFor, peer}
use Rattle.laws_steps.specs.Settled.{IsThere}
use Rattle.laws_routes.specs.Named.{EachReturn, LinksMet}
use Rattle.laws_routes.specs.Premises.{EachLoop, EachMayOpen, EachOpen, ExportsAreOwn, IsWireThere, LinksRest, MayAsk, MayGoTo, MayKeep, MayTake, TargetsAreMet}
use Rattle.laws_routes.specs.Laws.{AllMayGo}
use Rattle.laws_routes.specs.MakingLaws.{EmbargoIsThere, MayCall}
use Rattle.laws_routes.specs.OutcomeLaws.{AllHeldMayGo, AllMaySettle, MayFixFrom, MaySettleFrom, PeerIsTold}
use Rattle.laws_routes.specs.QuietLaws.{MayClose}
use Rattle.laws_routes.specs.SayingLaws.{AllMaySend, MayAdvance, MaySay, MaySend}
use Rattle.laws_routes.specs.StepLaws.{MayAct}
use Rattle.laws_routes.specs.Ties.{Around}

-- The promise or the outcome of the node is there, and its wire.
abbrev pub IsHeld : State → Node → Type 0
IsHeld s n = IsThere s n × IsWireThere s n

abbrev pub AllAreHeld : State → List Node → Type 0
AllAreHeld s [] = Unit {0}
AllAreHeld s (n ∷ ns) = IsHeld s n × AllAreHeld s ns

-- So are the capabilities of these calls.
abbrev pub CallsAreHeld : State → List WaitingCall → Type 0
CallsAreHeld s [] = Unit {0}
CallsAreHeld s (c ∷ cs) = AllAreHeld s c.request.caps × CallsAreHeld s cs

abbrev pub HeldCallsAreHeld : State → List HeldCall → Type 0
HeldCallsAreHeld s [] = Unit {0}
HeldCallsAreHeld s (h ∷ hs) = AllAreHeld s h.call.request.caps × HeldCallsAreHeld s hs

abbrev pub IsOutcomeOf : ℕ → Option KeptOutcome → Type 0
IsOutcomeOf q None = ⊥
IsOutcomeOf q (Some x) = x.caller ≡ caller.Peer (record { 0 = q })

-- The question q is not asked again, and its answer may close if it is finished.
abbrev pub IsAwaited : State → List Message → ℕ → Bool → Type 0
IsAwaited other back q finished = EachOpen (λ k. nat_eq k q ≡ false) back × (finished ≡ true → MayClose other back q)

pub record Midway (s other : State) (out back : List Message) : Type 0 where
  -- each node stops, and one that is there leads to what is held
  pub stop : (m : Node) → (d : ℕ) × machine.Stops s d m
  pub links : (m k : Node) → IsThere s m → link s m ≡ Some k → IsHeld s k
  -- what places name is held
  pub heads : (r : ℕ) (x : Reference) → map.get s.refs r ≡ Some x → IsHeld s x.head
  pub embargoes : (e : ℕ) (b : Embargo) → map.get s.embargoes e ≡ Some b → IsHeld s b.node
  pub resolved : (e : ℕ) (said : Descriptor) (to : Node) → known_by_resolve (resolution_of (map.get s.imports e)) ≡ Leads said to → IsHeld s to
  pub returned : (q : ℕ) (path : List Op) (said : Descriptor) (to : Node) → known_by_return path (returned_of (map.get s.questions q)) ≡ Leads said to → IsHeld s to
  -- so are the capabilities of calls that wait: at a promise, for an outcome, and for an embargo
  pub waits : (p : ℕ) (cs : List WaitingCall) → map.get s.promises p ≡ Some (promise.Open cs) → CallsAreHeld s cs
  pub holds : (o : ℕ) (x : KeptOutcome) → map.get s.outcomes o ≡ Some x → HeldCallsAreHeld s x.waiting
  pub keeps : (e : ℕ) (b : Embargo) → map.get s.embargoes e ≡ Some b → CallsAreHeld s b.waiting
  -- an embargo that a reference names is there, and is its only one
  pub paired : (r : ℕ) (x : Reference) → map.get s.refs r ≡ Some x → EmbargoIsThere s r x.embargo
  -- exports are own nodes
  pub exports : (e : ℕ) (x : Export) → map.get s.exports e ≡ Some x → (is_wire x.node ≡ false) × IsHeld s x.node
  pub theirs : ExportsAreOwn other
  -- what is imported is exported
  pub imported : (e : ℕ) → IsSome (map.get s.imports e) → IsSome (map.get other.exports e)
  -- an answer has its outcome, and that is told to it
  pub answers : (q : ℕ) (a : AnswerEntry) → map.get s.answers q ≡ Some a → IsOutcomeOf q (map.get s.outcomes a.outcome)
  -- an outcome that is not known yet, and of which the other vat is to be told, has its answer, whose Return was not sent
  pub pending : (o q : ℕ) → IsOpenFor q (map.get s.outcomes o) → AnswersWith o (map.get s.answers q)
  -- and that may be sent
  pub awaited : (q : ℕ) (a : AnswerEntry) → map.get s.answers q ≡ Some a → a.returned ≡ None → IsAwaited other back q a.finished
  -- what asks is of a question that is there, and so is what returns
  pub opens : EachOpen (λ q. IsSome (map.get s.questions q)) out
  pub returns : EachReturn (λ q. IsSome (map.get s.questions q)) back
  -- where the Return came the question is asked no more, and is not returned again
  pub answered : (q : ℕ) (x : Question) → map.get s.questions q ≡ Some x → IsSome x.returned → EachOpen (λ k. nat_eq k q ≡ false) out × EachReturn (λ k. nat_eq k q ≡ false) back
  -- exports at which a message is aimed are there, and those that one names
  pub met : TargetsAreMet s back
  pub named : LinksMet s other out back
  -- a Disembargo is of an embargo that is there, on its way out and on its way back
  pub sent : EachLoop (λ e. IsSome (map.get s.embargoes e)) (λ e. Unit {0}) out
  pub echoed : EachLoop (λ e. Unit {0}) (λ e. IsSome (map.get s.embargoes e)) back

-- ---- What follows

-- What a free id or key needs.
abbrev pub MayAskFollows : Type 0
MayAskFollows = (s other : State) (out back : List Message) → Midway s other out back → (q : ℕ) → map.get s.questions q ≡ None → MayAsk s out back q

abbrev pub MayKeepFollows : Type 0
MayKeepFollows = (s other : State) (out back : List Message) → Midway s other out back → (o : ℕ) → map.get s.outcomes o ≡ None → MayKeep s o

abbrev pub MayOpenFollows : Type 0
MayOpenFollows = (s other : State) (out back : List Message) → Midway s other out back → EachMayOpen s

abbrev pub MayTakeFollows : Type 0
MayTakeFollows = (s other : State) (out back : List Message) → Midway s other out back → (e : ℕ) → IsSome (map.get other.exports e) → MayTake s other e

-- Where a node leads, and where a call goes that is routed to it.
abbrev pub LinksRestFollows : Type 0
LinksRestFollows = (s other : State) (out back : List Message) → Midway s other out back → LinksRest s

abbrev pub MayGoFollows : Type 0
MayGoFollows = (s other : State) (out back : List Message) → Midway s other out back → (n : Node) → IsHeld s n → MayGoTo s other out back n

-- What a descriptor of a node needs, and a Resolve of an export.
abbrev pub MaySayFollows : Type 0
MaySayFollows = (w : Around) (s : State) (out : List Message) → Midway s w.other out w.back → (n : Node) → IsHeld s n → MaySay w s (settle s n)

abbrev pub MaySendFollows : Type 0
MaySendFollows = (w : Around) (d : Progress) → Midway d.state w.other (w.out ++ d.effects.sends) w.back → (e : ℕ) (x : Export) → map.get d.state.exports e ≡ Some x → MaySend w d e x.node

-- What a reference needs that advances.
abbrev pub MayAdvanceFollows : Type 0
MayAdvanceFollows = (w : Around) (d : Progress) → Midway d.state w.other (w.out ++ d.effects.sends) w.back → d.state.level ≡ One → (r : ℕ) (x : Reference) → map.get d.state.refs r ≡ Some x → MayAdvance w d x

-- What a call needs that is made through a reference: it is so also once the call is counted, and once its outcome is kept.
abbrev pub MayCallFollows : Type 0
MayCallFollows = (w : Around) (d : Progress) → Midway d.state w.other (w.out ++ d.effects.sends) w.back → d.state.vat ≡ w.vat → (r : ℕ) (x : Reference) → map.get d.state.refs r ≡ Some x → MayCall w d r x

-- ---- What is kept

abbrev pub MidwayAt : Around → Progress → Type 0
MidwayAt w d = Midway d.state w.other (w.out ++ d.effects.sends) w.back

-- A call goes on to where its node settles, with capabilities that are held: it is delivered, it waits, it is sent, or it ends.
abbrev pub MidwayAsRouted : Type 0
MidwayAsRouted = (w : Around) (d : Progress) (c : WaitingCall) (n : Node) (new : Progress) → MidwayAt w d → AllAreHeld d.state c.request.caps → RoutedTo d c n new → MidwayAt w new

-- A list of calls may be routed to a node that is held, one after the other; and it is so behind them.
abbrev pub AllMayGoFollows : Type 0
AllMayGoFollows =
    (w : Around) (d : Progress) (cs : List WaitingCall) (n : Node) (new : Progress) → MidwayAt w d → IsHeld d.state n → CallsAreHeld d.state cs → (h : RoutesAll d cs n new) → AllMayGo w d cs n new h × MidwayAt w new

-- So may the calls that waited for an outcome, each to its own field.
abbrev pub AllHeldMayGoFollows : Type 0
AllHeldMayGoFollows =
    (w : Around) (d : Progress) (o : ℕ) (hs : List HeldCall) (new : Progress) → MidwayAt w d → IsSome (map.get d.state.outcomes o) → HeldCallsAreHeld d.state hs
    → (r : RoutesHeld d o hs new) → AllHeldMayGo w d o hs new r × MidwayAt w new

-- Resolves may be sent of the exports of such nodes, one after the other; and it is so behind them.
abbrev pub AllMaySendFollows : Type 0
AllMaySendFollows =
    (w : Around) (d : Progress) (reason : Option Exception) (test : Node → Bool) (new : Progress) → MidwayAt w d → (h : SendsResolves d reason test new)
    → AllMaySend w d reason (exports_where test (map.entries d.state.exports)) new h × MidwayAt w new

-- A promise may be fixed to what is held and does not lead to it; and it is so behind the calls that waited and its Resolves.
abbrev pub MayFixFollows : Type 0
MayFixFollows =
    (w : Around) (d : Progress) (p : ℕ) (to : Node) (reason : Option Exception) (new : Progress) → MidwayAt w d → IsHeld d.state to → is_promise p (settle d.state to) ≡ false
    → (h : FixesPromise d p to reason new) → MayFixFrom w d p to reason (map.get d.state.promises p) new h × MidwayAt w new

-- ---- An outcome settles

-- The caller of an outcome may be told what that is known to be, the application or the other vat, if its answer waits for it; and it
-- is so behind that. The outcome is as it was.
abbrev pub CallersMayBeTold : Type 0
CallersMayBeTold =
    (w : Around) (d : Progress) (o : ℕ) (from : Caller) (v : Value) (x : KeptOutcome) (told : Progress) → MidwayAt w d → d.state.level ≡ One → AllAreHeld d.state (caps_of v) → map.get d.state.outcomes o ≡ Some x
    → x.caller ≡ from → x.value ≡ Some v → ((q : ℕ) → from ≡ peer q → AnswersWith o (map.get d.state.answers q))
    → (h : Tells d from v told) → PeerIsTold w d o from v told h × MidwayAt w told × (map.get told.state.outcomes o ≡ Some x)

-- An outcome may settle with a value whose capabilities are held; and it is so behind its calls and its Resolves.
abbrev pub MaySettleFollows : Type 0
MaySettleFollows =
    (w : Around) (d : Progress) (o : ℕ) (v : Value) (new : Progress) → MidwayAt w d → d.state.level ≡ One → AllAreHeld d.state (caps_of v)
    → (h : SettlesOutcome d o v new) → MaySettleFrom w d o v (map.get d.state.outcomes o) new h × MidwayAt w new

-- ---- What arose settles

abbrev pub IsFailure : Value → Type 0
IsFailure (value.Results payload caps) = ⊥
IsFailure (value.Exception exception) = Unit {0}

abbrev pub NoneCarry : List (ℕ × Value) → Type 0
NoneCarry [] = Unit {0}
NoneCarry (x ∷ xs) = IsFailure x.1 × NoneCarry xs

-- The capabilities of what arose are held: results come first and alone, what arises behind them is exceptions.
abbrev pub ArisenAreHeld : State → List (ℕ × Value) → Type 0
ArisenAreHeld s [] = Unit {0}
ArisenAreHeld s (x ∷ xs) = AllAreHeld s (caps_of x.1) × NoneCarry xs

-- What arose may settle, one after the other, and what arises thereby; and it is so behind them.
abbrev pub DrainsFollow : Type 0
DrainsFollow =
    (w : Around) (new d : Progress) → MidwayAt w d → d.state.level ≡ One → ArisenAreHeld d.state d.arisen
    → (h : Drains new d) → AllMaySettle w new d h × MidwayAt w new × (new.state.level ≡ One)

-- ---- What goes

-- It is so behind all that no place names and that goes.
abbrev pub CollectedFollows : Type 0
CollectedFollows = (w : Around) (d new : Progress) → MidwayAt w d → Collects new d → MidwayAt w new

-- ---- A command

-- All that a command needs, where it is not refused.
abbrev pub MayActFollows : Type 0
MayActFollows =
    (w : Around) (d : Progress) (c : Command) (granted : Granted) (new : Progress) → MidwayAt w d → d.state.vat ≡ w.vat → d.state.level ≡ One → refused d.state c ≡ None
    → (h : Acts d c granted new) → MayAct w d c granted new h

-- A command that settles a promise or an outcome.
abbrev pub Settles : Command → Type 0
Settles (command.Host o) = ⊥
Settles (command.CloneRef r) = ⊥
Settles (command.DropRef r) = ⊥
Settles command.Bootstrap = ⊥
Settles (command.Call c) = ⊥
Settles (command.Field c path) = ⊥
Settles command.Promise = ⊥
Settles (command.Finish c) = ⊥
Settles (command.Advance r) = ⊥
Settles (command.Shut n) = ⊥
Settles (command.Resolve p r) = Unit {0}
Settles (command.Reject p exception) = Unit {0}
Settles (command.Answer t payload refs) = Unit {0}
Settles (command.Fail t exception) = Unit {0}

-- It is so behind its first act.
abbrev pub SettlingKeepsIt : Type 0
SettlingKeepsIt =
    (w : Around) (d : Progress) (c : Command) (granted : Granted) (new : Progress) → MidwayAt w d → d.state.vat ≡ w.vat → d.state.level ≡ One → Settles c → refused d.state c ≡ None
    → Acts d c granted new → MidwayAt w new
