-- What is proved of each message that is taken, as a whole.
use Rattle.std.specs.Prelude.{◌≡◌, ℕ, true, None, Some, IsSome, List, [], ◌∷◌, ◌++◌}
use Rattle.std.specs.FinMap as map
use Rattle.rpc_msg.specs.declared.ids.QuestionId.{QuestionId}
use Rattle.rpc_msg.specs.declared.ids.EmbargoId.{EmbargoId}
use Rattle.rpc_msg.specs.declared.parts.Target.{Target}
use Rattle.rpc_msg.specs.declared.parts.Target.TheVariants.{ImportedCap, PromisedAnswer}
use Rattle.rpc_msg.specs.declared.message.Call.{Call as Call_message}
use Rattle.rpc_msg.specs.declared.message.Return.{Return}
use Rattle.rpc_msg.specs.declared.message.Resolve.{Resolve}
use Rattle.rpc_msg.specs.declared.message.DisembargoContext.TheVariants.{SenderLoopback}
use Rattle.rpc_msg.specs.declared.message.PlainMessage.TheVariants as plain
use Rattle.rpc_msg.specs.declared.message.Message.{Message}
use Rattle.rpc_msg.specs.declared.message.Message.TheVariants as message
use Rattle.rpc_msg.specs.Messages.{given, descriptors_of_body, descriptors_of_resolved}
use Rattle.rpc_machine.specs.declared.entries.Question.{Question}
use Rattle.rpc_machine.specs.State.{State}
use Rattle.rpc_machine.specs.Nodes.{settle, is_wire}
use Rattle.rpc_machine.specs.Progress.{Progress, with_state, numbers}
use Rattle.rpc_machine.specs.Descriptors.{take_all, taken_of}
use Rattle.rpc_machine.specs.Faults.{target_node}
use Rattle.rpc_machine.specs.Flags.{obey}
use Rattle.rpc_machine.specs.Messages.{opened, bootstrap_value, TakesBootstrap, TakesCall, TakesReturn, take_resolve}
use Rattle.laws_order.specs.Machine as routing
use Rattle.laws_order.specs.Invariant.{InvariantWith}
use Rattle.laws_steps.specs.Settled.{IsThere}
use Rattle.laws_routes.specs.Points.{routes}
use Rattle.laws_routes.specs.Ghosts.{keeping}
use Rattle.laws_routes.specs.Ties.{Around, Ghosts, Tied}
use Rattle.laws_routes.specs.Premises.{EachMayTake, ExportsAreOwn, LinksRest, MayGoTo, MayKeep}
use Rattle.laws_routes.specs.Laws.{Comes, with_back}
use Rattle.laws_routes.specs.MessageLaws.{SameButImports}
use Rattle.laws_routes.specs.OutcomeLaws.{MaySettleFrom}
use Rattle.laws_routes.specs.QuietLaws.{MayLower}
use Rattle.laws_routes.specs.SayingLaws.{EachReadable, IsNotCanceled, IsReadableIn}
use Rattle.rpc_machine.specs.declared.command.Level.TheVariants.{One}
use Rattle.rpc_machine.specs.Sweeping.{IsNotSent}

-- What a target names is there, where it names an answer.
abbrev pub IsAnswered : State → Target → Type 0
IsAnswered s (ImportedCap e) = Unit {0}
IsAnswered s (PromisedAnswer q path) = IsSome (map.get s.answers q.0)

-- ---- Bootstrap

-- A Bootstrap is received: its answer opens.
abbrev pub BootstrapComes : Type 0
BootstrapComes =
    (w : Around) (d : Progress) (g : Ghosts) (m : routing.State routes) (q : QuestionId) (o : ℕ) (rest : List Message) → Tied (with_back w (message.Plain (plain.Bootstrap q) ∷ rest)) d g m
    → map.get d.state.outcomes o ≡ None → MayKeep d.state o
    → Tied (with_back w rest) (with_state d (opened d.state q.0 o [])) (record { own = keeping g.own o (g.theirs.session q.0); theirs = g.theirs; next = g.next }) m

-- What a Bootstrap needs that is answered.
pub record MayTakeBootstrap (w : Around) (d : Progress) (q : QuestionId) (new : Progress) (h : TakesBootstrap d q.0 new) : Type 0 where
  pub keeps : MayKeep d.state h.0
  pub settles : MaySettleFrom w (with_state d (opened d.state q.0 h.0 [])) h.0 (bootstrap_value d.state.bootstrap) (map.get (opened d.state q.0 h.0 []).outcomes h.0) new h.2

-- It is answered at once.
abbrev pub BootstrapIsTaken : Type 0
BootstrapIsTaken =
    (w : Around) (d : Progress) (g : Ghosts) (m : routing.State routes) (q : QuestionId) (rest : List Message) (new : Progress) → Tied (with_back w (message.Plain (plain.Bootstrap q) ∷ rest)) d g m → InvariantWith m []
    → (h : TakesBootstrap d q.0 new) → MayTakeBootstrap (with_back w rest) d q new h → Comes (with_back w rest) new m [] []

-- ---- Call

abbrev pub answering : State → Call_message → ℕ → State
answering s c o = opened (take_all s c.descriptors) c.question.0 o (taken_of s c.descriptors)

-- What a Call needs that is routed.
pub record MayTakeCall (w : Around) (d : Progress) (c : Call_message) (o : ℕ) : Type 0 where
  pub own : ExportsAreOwn d.state
  pub takes : EachMayTake d.state w.other (given c.descriptors)
  pub keeps : MayKeep (take_all d.state c.descriptors) o
  pub answered : IsAnswered d.state c.target
  pub goes : MayGoTo (answering d.state c o) w.other (w.out ++ d.effects.sends) w.back (target_node d.state c.target)

-- A Call is taken: its descriptors, its answer, and then it is routed.
abbrev pub CallIsTaken : Type 0
CallIsTaken =
    (w : Around) (d : Progress) (g : Ghosts) (m : routing.State routes) (c : Call_message) (rest : List Message) (new : Progress) → Tied (with_back w (message.Plain (plain.Call c) ∷ rest)) d g m → InvariantWith m []
    → (h : TakesCall d c new) → MayTakeCall (with_back w rest) d c h.0 → Comes (with_back w rest) new m [] []

-- ---- Return

-- What a Return needs: its descriptors may be taken, and its flag obeyed.
pub record MayTakeReturn (w : Around) (d : Progress) (r : Return) (x : Question) : Type 0 where
  pub own : ExportsAreOwn d.state
  pub takes : EachMayTake d.state w.other (given (descriptors_of_body r.body))
  pub lowers : MayLower (obey (take_all d.state (descriptors_of_body r.body)) r.release_param_caps (numbers x.given)) w.other (w.out ++ d.effects.sends) w.back
  -- what its descriptors name is there to be read, and a canceled Return comes only where the Finish was sent
  pub readable : d.state.level ≡ One → EachReadable (take_all d.state (descriptors_of_body r.body)) (descriptors_of_body r.body)
  pub whole : IsNotSent x.finish → IsNotCanceled r.body

-- A Return is taken: its descriptors, its flag, and what comes of it.
abbrev pub ReturnIsTaken : Type 0
ReturnIsTaken =
    (w : Around) (d : Progress) (g : Ghosts) (m : routing.State routes) (r : Return) (x : Question) (rest : List Message) (new : Progress) → Tied (with_back w (message.Plain (plain.Return r) ∷ rest)) d g m
    → map.get d.state.questions r.answer.0 ≡ Some x → MayTakeReturn (with_back w rest) d r x → TakesReturn d r (Some x) new → Comes (with_back w rest) new m [] []

-- ---- Resolve

-- A Resolve is taken: its descriptor, and what is known of its import.
abbrev pub ResolveIsTaken : Type 0
ResolveIsTaken =
    (w : Around) (d : Progress) (g : Ghosts) (m : routing.State routes) (r : Resolve) (rest : List Message) → Tied (with_back w (message.Plain (plain.Resolve r) ∷ rest)) d g m
    → ExportsAreOwn d.state → EachMayTake d.state w.other (given (descriptors_of_resolved r.to))
    → (d.state.level ≡ One → IsReadableIn (take_all d.state (descriptors_of_resolved r.to)) r.to) → (f : Ghosts) × Tied (with_back w rest) (with_state d (take_resolve d.state r.promise.0 r.to)) f m × SameButImports g f

-- ---- Disembargo

-- What a Disembargo needs that is to go back.
pub record MayBounce (w : Around) (s : State) (target : Target) : Type 0 where
  pub answered : IsAnswered s target
  pub own : ExportsAreOwn s
  pub rest : LinksRest s
  pub there : IsThere s (target_node s target)

-- Its target settles to a wire. So the fault that says otherwise never comes.
abbrev pub DisembargoMeetsWire : Type 0
DisembargoMeetsWire =
    (w : Around) (d : Progress) (g : Ghosts) (m : routing.State routes) (x : EmbargoId) (target : Target) (rest : List Message)
    → Tied (with_back w (message.Plain (plain.Disembargo (record { target = target; context = SenderLoopback x })) ∷ rest)) d g m → InvariantWith m [] → MayBounce w d.state target
    → is_wire (settle d.state (target_node d.state target)) ≡ true
