-- What is proved of whole steps: each command that is done, and each message that is taken, is moves of the machine of
-- routes, and leaves the two vats tied.
use Rattle.std.specs.Prelude.{◌≡◌, ℕ, Bool, true, false, Option, None, Some, List, [], ◌∷◌, ◌++◌}
use Rattle.std.specs.FinMap as map
use Rattle.rpc_msg.specs.declared.exception.Exception.{Exception}
use Rattle.rpc_msg.specs.declared.parts.Target.{Target}
use Rattle.rpc_msg.specs.declared.message.DisembargoContext.{DisembargoContext}
use Rattle.rpc_msg.specs.declared.message.DisembargoContext.TheVariants.{SenderLoopback, ReceiverLoopback}
use Rattle.rpc_msg.specs.declared.message.Return.{Return}
use Rattle.rpc_msg.specs.declared.message.PlainMessage.{PlainMessage}
use Rattle.rpc_msg.specs.declared.message.PlainMessage.TheVariants as plain
use Rattle.rpc_msg.specs.declared.message.Message.{Message}
use Rattle.rpc_msg.specs.declared.message.Message.TheVariants as message
use Rattle.rpc_msg.specs.Messages.{given, descriptors_of_resolved}
use Rattle.rpc_machine.specs.declared.calls.Value.{Value}
use Rattle.rpc_machine.specs.declared.calls.Value.TheVariants as value
use Rattle.rpc_machine.specs.declared.command.Command.{Command}
use Rattle.rpc_machine.specs.declared.command.Command.TheVariants as command
use Rattle.rpc_machine.specs.declared.command.Effects.{Effects}
use Rattle.rpc_machine.specs.declared.command.Granted.{Granted}
use Rattle.rpc_machine.specs.declared.entries.AnswerEntry.{AnswerEntry}
use Rattle.rpc_machine.specs.declared.entries.Embargo.{Embargo}
use Rattle.rpc_machine.specs.declared.entries.Question.{Question}
use Rattle.rpc_machine.specs.declared.entries.Reference.{Reference}
use Rattle.rpc_machine.specs.declared.node.Node.TheVariants as node
use Rattle.rpc_machine.specs.declared.node.Reason.TheVariants.{BrokenPromise}
use Rattle.rpc_machine.specs.State.{State}
use Rattle.rpc_machine.specs.Nodes.{is_wire, settle}
use Rattle.rpc_machine.specs.Progress.{Progress, begin}
use Rattle.rpc_machine.specs.Commands.{Acts, AnswersTask, RejectsPromise, ResolvesPromise, answered, heads, settled_now}
use Rattle.rpc_machine.specs.Faults.{given_by, is_foreign, target_node}
use Rattle.rpc_machine.specs.Flags.{obey}
use Rattle.rpc_machine.specs.Messages.{Lifts, Takes, TakesDisembargo, TakesPlain, TakesUnimplemented, TakesUnless}
use Rattle.rpc_machine.specs.Steps.{Does, Handles}
use Rattle.laws_order.specs.Machine as routing
use Rattle.laws_order.specs.Invariant.{InvariantWith}
use Rattle.laws_order.specs.Moves.{Moves}
use Rattle.laws_routes.specs.Points.{routes}
use Rattle.laws_routes.specs.Ghosts.{ref_at}
use Rattle.laws_routes.specs.Ties.{Around, Ghosts, Tied, TiedBy}
use Rattle.laws_routes.specs.Premises.{EachMayOpen, EachMayTake, ExportsAreOwn, IsLastLoop, IsOnlyEmbargo, IsWireThere, MayAsk}
use Rattle.laws_routes.specs.Sayings.{IsSilentPlain}
use Rattle.laws_routes.specs.SayingLaws.{IsReadableIn}
use Rattle.rpc_machine.specs.declared.command.Level.TheVariants.{One}
use Rattle.rpc_machine.specs.Descriptors.{take_all}
use Rattle.laws_routes.specs.Laws.{AllMayGo, Comes, lifted, one_made, with_back}
use Rattle.laws_routes.specs.OutcomeLaws.{AllMaySettle, MayFixFrom, MaySettleFrom}
use Rattle.laws_routes.specs.SayingLaws.{MayAdvanceFrom}
use Rattle.laws_routes.specs.QuietLaws.{MayCloseIf, MayLower, lowering}
use Rattle.laws_routes.specs.TakingLaws.{MayBounce, MayTakeBootstrap, MayTakeCall, MayTakeReturn}
use Rattle.laws_routes.specs.MakingLaws.{MayCall}

-- ---- A command

abbrev pub MayCallFrom : Around → Progress → ℕ → Option Reference → Type 0
MayCallFrom w d r None = Unit {0}
MayCallFrom w d r (Some x) = MayCall w d r x

abbrev pub MayResolve : Around → (d : Progress) (p : ℕ) (key : Option ℕ) (x : Option Reference) (granted : Granted) (new : Progress) → ResolvesPromise d p key x granted new → Type 0
MayResolve w d p None x granted new h = Unit {0}
MayResolve w d p (Some key) None granted new h = Unit {0}
MayResolve w d p (Some key) (Some x) granted new h = MayFixFrom w (settled_now d p) key x.head None (map.get d.state.promises key) new h.1

abbrev pub MayReject : Around → (d : Progress) (p : ℕ) (exception : Exception) (key : Option ℕ) (granted : Granted) (new : Progress) → RejectsPromise d p exception key granted new → Type 0
MayReject w d p exception None granted new h = Unit {0}
MayReject w d p exception (Some key) granted new h = MayFixFrom w (settled_now d p) key (node.Broken BrokenPromise) (Some exception) (map.get d.state.promises key) new h.1

abbrev pub MayAnswer : Around → (d : Progress) (t : ℕ) (v : Value) (o : Option ℕ) (granted : Granted) (new : Progress) → AnswersTask d t v o granted new → Type 0
MayAnswer w d t v None granted new h = Unit {0}
MayAnswer w d t v (Some o) granted new h = MaySettleFrom w (answered d t) o v (map.get d.state.outcomes o) new h.1

-- What is taken as known of a command that is done.
abbrev pub MayAct : Around → (d : Progress) (c : Command) (granted : Granted) (new : Progress) → Acts d c granted new → Type 0
MayAct w d (command.Host o) granted new h = Unit {0}
MayAct w d (command.CloneRef r) granted new h = Unit {0}
MayAct w d (command.DropRef r) granted new h = Unit {0}
MayAct w d command.Bootstrap granted new h = (q : ℕ) → map.get d.state.questions q ≡ None → MayAsk d.state (w.out ++ d.effects.sends) w.back q
MayAct w d (command.Call c) granted new h = MayCallFrom w d c.reference.0 (map.get d.state.refs c.reference.0)
MayAct w d (command.Field c path) granted new h = Unit {0}
MayAct w d command.Promise granted new h = EachMayOpen d.state
MayAct w d (command.Resolve p r) granted new h = MayResolve w d p.0 (map.get d.state.unsettled p.0) (map.get d.state.refs r.0) granted new h
MayAct w d (command.Reject p exception) granted new h = MayReject w d p.0 exception (map.get d.state.unsettled p.0) granted new h
MayAct w d (command.Answer t payload refs) granted new h = MayAnswer w d t.0 (value.Results payload (heads d.state refs)) (map.get d.state.tasks t.0) granted new h
MayAct w d (command.Fail t exception) granted new h = MayAnswer w d t.0 (value.Exception exception) (map.get d.state.tasks t.0) granted new h
MayAct w d (command.Finish c) granted new h = Unit {0}
MayAct w d (command.Advance r) granted new h = MayAdvanceFrom w d (map.get d.state.refs r.0)
MayAct w d (command.Shut n) granted new h = Unit {0}

-- What was made, once that command is done.
abbrev pub made_by : Around → Command → Around
made_by w (command.Host o) = w
made_by w (command.CloneRef r) = w
made_by w (command.DropRef r) = w
made_by w command.Bootstrap = w
made_by w (command.Call c) = one_made w (ref_at w.vat c.reference.0)
made_by w (command.Field c path) = w
made_by w command.Promise = w
made_by w (command.Resolve p r) = w
made_by w (command.Reject p exception) = w
made_by w (command.Answer t payload refs) = w
made_by w (command.Fail t exception) = w
made_by w (command.Finish c) = w
made_by w (command.Advance r) = w
made_by w (command.Shut n) = w

-- The first act of a command.
abbrev pub ActsAreMoves : Type 0
ActsAreMoves =
    (w : Around) (d : Progress) (g : Ghosts) (m : routing.State routes) (c : Command) (granted : Granted) (new : Progress) → Tied w d g m → InvariantWith m []
    → (h : Acts d c granted new) → MayAct w d c granted new h → Comes (made_by w c) new m [] []

-- ---- A message

abbrev pub MayReturn : Around → Progress → Return → Option Question → Type 0
MayReturn w d r None = Unit {0}
MayReturn w d r (Some x) = MayTakeReturn w d r x

abbrev pub MayFinish : Around → (d new : Progress) → ℕ → Option AnswerEntry → Type 0
MayFinish w d new q None = Unit {0}
MayFinish w d new q (Some a) = MayLower new.state w.other (w.out ++ d.effects.sends) w.back × MayCloseIf w.other w.back q a.returned

abbrev pub MayLift : Around → (d : Progress) (e : ℕ) (o : Option Embargo) (new : Progress) → Lifts d e o new → Type 0
MayLift w d e None new h = Unit {0}
MayLift w d e (Some b) new h = IsOnlyEmbargo d.state e b.reference.0 × IsLastLoop e (w.out ++ d.effects.sends) w.back × (is_wire b.node ≡ false) × AllMayGo w (lifted d e b) b.waiting b.node new h

abbrev pub MayDisembargo : Around → (d : Progress) (target : Target) (context : DisembargoContext) (new : Progress) → TakesDisembargo d target context new → Type 0
MayDisembargo w d target (SenderLoopback e) new h = MayBounce w d.state target × IsWireThere d.state (settle d.state (target_node d.state target)) × ExportsAreOwn w.other
MayDisembargo w d target (ReceiverLoopback e) new h = MayLift w d e.0 (map.get d.state.embargoes e.0) new h

-- What is taken as known of a message that is understood.
abbrev pub MayTakePlain : Around → (d : Progress) (x : PlainMessage) (new : Progress) → TakesPlain d x new → Type 0
MayTakePlain w d (plain.Abort exception) new h = Unit {0}
MayTakePlain w d (plain.Bootstrap q) new h = MayTakeBootstrap w d q new h
MayTakePlain w d (plain.Call c) new h = MayTakeCall w d c h.0
MayTakePlain w d (plain.Return r) new h = MayReturn w d r (map.get d.state.questions r.answer.0)
MayTakePlain w d (plain.Finish x) new h = MayFinish w d new x.question.0 (map.get d.state.answers x.question.0)
MayTakePlain w d (plain.Resolve r) new h =
    ExportsAreOwn d.state × EachMayTake d.state w.other (given (descriptors_of_resolved r.to)) × (d.state.level ≡ One → IsReadableIn (take_all d.state (descriptors_of_resolved r.to)) r.to)
MayTakePlain w d (plain.Release x) new h = MayLower (lowering d.state x.export.0 x.count) w.other (w.out ++ d.effects.sends) w.back
MayTakePlain w d (plain.Disembargo x) new h = MayDisembargo w d x.target x.context new h
MayTakePlain w d (plain.Other n) new h = Unit {0}

abbrev pub MayTakeUnimplemented : Around → Progress → PlainMessage → Type 0
MayTakeUnimplemented w d (plain.Abort exception) = Unit {0}
MayTakeUnimplemented w d (plain.Bootstrap q) = Unit {0}
MayTakeUnimplemented w d (plain.Call c) = Unit {0}
MayTakeUnimplemented w d (plain.Return r) = Unit {0}
MayTakeUnimplemented w d (plain.Finish x) = Unit {0}
MayTakeUnimplemented w d (plain.Resolve r) = MayLower (obey d.state true (given_by r.to)) w.other (w.out ++ d.effects.sends) w.back
MayTakeUnimplemented w d (plain.Release x) = Unit {0}
MayTakeUnimplemented w d (plain.Disembargo x) = Unit {0}
MayTakeUnimplemented w d (plain.Other n) = Unit {0}

-- The first act of a message that the vat understands.
abbrev pub TakesAreMoves : Type 0
TakesAreMoves =
    (w : Around) (d : Progress) (g : Ghosts) (m : routing.State routes) (x : PlainMessage) (rest : List Message) (new : Progress) → Tied (with_back w (message.Plain x ∷ rest)) d g m → InvariantWith m []
    → (h : TakesPlain d x new) → MayTakePlain (with_back w rest) d x new h → Comes (with_back w rest) new m [] []

-- That of a message that came back.
abbrev pub EchoesAreMoves : Type 0
EchoesAreMoves =
    (w : Around) (d : Progress) (g : Ghosts) (m : routing.State routes) (x : PlainMessage) (rest : List Message) (new : Progress) → Tied (with_back w (message.Unimplemented x ∷ rest)) d g m
    → TakesUnimplemented d x new → MayTakeUnimplemented (with_back w rest) d x → Comes (with_back w rest) new m [] []

-- ---- The whole

-- Between steps: nothing is sent or delivered yet.
abbrev pub TiedAt : Around → State → Ghosts → routing.State routes → Type 0
TiedAt w s g m = TiedBy w [] s [] [] g m

-- The step is moves, and leaves the vats tied, with what was sent and delivered.
abbrev pub StepComes : Around → State → Effects → routing.State routes → Type 0
StepComes w new effects m = (f : Ghosts) × (n : routing.State routes) × Moves n [] m [] × TiedBy w [] new effects.sends effects.deliveries f n

-- A command that is done.
abbrev pub CommandsAreMoves : Type 0
CommandsAreMoves =
    (w : Around) (s : State) (g : Ghosts) (m : routing.State routes) (c : Command) (granted : Granted) (effects : Effects) (new : State) → TiedAt w s g m → InvariantWith m []
    → (h : Does s c granted effects new) → MayAct w (begin s) c granted h.acted h.acts → AllMaySettle (made_by w c) h.ends.drained h.acted h.ends.drains → StepComes (made_by w c) new effects m

-- A level 0 vat sends back what it does not understand. Of a Disembargo that is so sent back nothing is known.
abbrev pub MayTakeUnless : Around → (d : Progress) (x : PlainMessage) (foreign : Bool) (new : Progress) → TakesUnless foreign d x new → Type 0
MayTakeUnless w d x true new h = IsSilentPlain x
MayTakeUnless w d x false new h = MayTakePlain w d x new h

-- What is taken as known of a message that is taken.
abbrev pub MayHandle : Around → (d : Progress) (x : Message) (new : Progress) → Takes d x new → Type 0
MayHandle w d (message.Plain x) new h = MayTakeUnless w d x (is_foreign d.state.level x) new h
MayHandle w d (message.Unimplemented x) new h = MayTakeUnimplemented w d x

-- A message that is taken.
abbrev pub MessagesAreMoves : Type 0
MessagesAreMoves =
    (w : Around) (s : State) (g : Ghosts) (m : routing.State routes) (x : Message) (rest : List Message) (effects : Effects) (new : State) → TiedAt (with_back w (x ∷ rest)) s g m → InvariantWith m []
    → (h : Handles s x effects new) → MayHandle (with_back w rest) (begin s) x h.taken h.takes → AllMaySettle (with_back w rest) h.ends.drained h.taken h.ends.drains → StepComes (with_back w rest) new effects m
