-- Whole steps.
use Rattle.std.specs.FinMap as map
use Rattle.std.proofs.Common.{◌≡◌, ℕ, Bool, true, false, List, [], ◌∷◌, ◌++◌, Option, None, Some, refl, sym, subst}
use Rattle.rpc_msg.specs.declared.ids.EmbargoId.{EmbargoId}
use Rattle.rpc_msg.specs.declared.parts.Target.{Target}
use Rattle.rpc_msg.specs.declared.message.DisembargoContext.{DisembargoContext}
use Rattle.rpc_msg.specs.declared.message.DisembargoContext.TheVariants.{SenderLoopback, ReceiverLoopback}
use Rattle.rpc_msg.specs.declared.message.Finish.{Finish}
use Rattle.rpc_msg.specs.declared.message.Return.{Return}
use Rattle.rpc_msg.specs.declared.message.PlainMessage.{PlainMessage}
use Rattle.rpc_msg.specs.declared.message.PlainMessage.TheVariants as plain
use Rattle.rpc_msg.specs.declared.message.Message as rpc
use Rattle.rpc_msg.specs.declared.message.Message.TheVariants as message
use Rattle.rpc_msg.specs.Vats.{other_vat}
use Rattle.rpc_machine.specs.declared.command.Command.{Command}
use Rattle.rpc_machine.specs.declared.command.Command.TheVariants as command
use Rattle.rpc_machine.specs.declared.command.CallCommand.{CallCommand}
use Rattle.rpc_machine.specs.declared.command.Effects.{Effects}
use Rattle.rpc_machine.specs.declared.command.Granted.{Granted}
use Rattle.rpc_machine.specs.declared.calls.OwnCall.{OwnCall}
use Rattle.rpc_machine.specs.declared.calls.Value.{Value}
use Rattle.rpc_machine.specs.declared.calls.Value.TheVariants as value
use Rattle.rpc_machine.specs.declared.entries.AnswerEntry.{AnswerEntry}
use Rattle.rpc_machine.specs.declared.entries.Embargo.{Embargo}
use Rattle.rpc_machine.specs.declared.entries.Question.{Question}
use Rattle.rpc_machine.specs.declared.entries.Reference.{Reference}
use Rattle.rpc_machine.specs.declared.node.Node.{Node}
use Rattle.rpc_machine.specs.declared.node.Node.TheVariants as node
use Rattle.rpc_machine.specs.declared.node.Reason.TheVariants.{BrokenPromise}
use Rattle.rpc_msg.specs.declared.exception.Exception.{Exception}
use Rattle.rpc_msg.specs.Op.{Op}
use Rattle.rpc_machine.specs.State.{State}
use Rattle.rpc_machine.specs.Nodes.{settle}
use Rattle.rpc_machine.specs.Progress.{Progress, begin}
use Rattle.rpc_machine.specs.Advancing.{wire_target}
use Rattle.rpc_machine.specs.Commands.{Acts, AnswersTask, ClonesRef, MakesCall, NamesField, NewRef, RejectsPromise, ResolvesPromise, answered, heads, settled_now}
use Rattle.rpc_machine.specs.Faults.{given_by, is_foreign, target_node}
use Rattle.rpc_machine.specs.Messages.{Bounces, Lifts, Takes, TakesDisembargo, TakesFinish, TakesPlain, TakesReturn, TakesUnimplemented, TakesUnless}
use Rattle.rpc_machine.specs.Steps.{Does, Ends, Handles}
use Rattle.laws_order.specs.Machine as routing
use Rattle.laws_order.specs.Invariant.{InvariantWith}
use Rattle.laws_order.specs.Moves.{Done}
use Rattle.laws_order.proofs.Moves.{moves_keep}
use Rattle.laws_routes.specs.Points.{Point, routes}
use Rattle.laws_routes.specs.Ghosts.{point}
use Rattle.laws_routes.specs.Sides.{EndsAs}
use Rattle.laws_routes.specs.Views.{sessions_at, target_point}
use Rattle.laws_routes.specs.Ties.{Around, Ghosts, Tied, TiedBy}
use Rattle.laws_routes.specs.Premises.{ExportsAreOwn, IsWireThere}
use Rattle.laws_routes.specs.Laws.{Comes, with_back}
use Rattle.laws_routes.specs.OutcomeLaws.{AllMaySettle}
use Rattle.laws_routes.specs.TakingLaws.{MayBounce}
use Rattle.laws_routes.specs.StepLaws.{MayAct, MayAnswer, MayCallFrom, MayDisembargo, MayFinish, MayHandle, MayLift, MayReject, MayResolve, MayReturn, MayTakePlain, MayTakeUnimplemented, MayTakeUnless, StepComes, TiedAt, made_by}
use Rattle.laws_routes.proofs.AnswerCloses.{finish_taken}
use Rattle.laws_routes.proofs.BootstrapTaken.{bootstrap_taken}
use Rattle.laws_routes.proofs.CallAnswered.{call_taken, target_is, target_own}
use Rattle.laws_routes.proofs.CallDelivered.{set_rest}
use Rattle.laws_routes.proofs.CallMade.{target_reads}
use Rattle.laws_routes.proofs.CallThrough.{call_made, wire_exit}
use Rattle.laws_routes.proofs.CallsRouted.{law}
use Rattle.laws_routes.proofs.DisembargoBack.{bounces}
use Rattle.laws_routes.proofs.EmbargoLifted.{lifts}
use Rattle.laws_routes.proofs.ExportsLowered.{obeyed, release_taken}
use Rattle.laws_routes.proofs.HeadAdvances.{advances}
use Rattle.laws_routes.proofs.NewReferences.{moves_on, new_ref_begins}
use Rattle.laws_routes.proofs.OtherCommands.{bootstrap_asked, call_finished, promise_made, ref_dropped}
use Rattle.laws_routes.proofs.OutcomeSettled.{outcome_settles, outcomes_drain, promise_settles}
use Rattle.laws_routes.proofs.ReturnTaken.{resolve_taken, return_taken}
use Rattle.laws_routes.proofs.SilentMessages.{silent_comes, silent_goes}
use Rattle.laws_routes.proofs.StepEnds.{swept}
use Rattle.laws_routes.proofs.WhereNodesEnd.{ends}

-- ---- Commands

module _ (w : Around) (d : Progress) (g : Ghosts) (m : routing.State routes) (granted : Granted) (new : Progress) (t : Tied w d g m) (i : InvariantWith m []) where
  begins : (n : Node) → NewRef granted d n new → Comes w new m [] []
  begins n h = let a = new_ref_begins w d g m [] n t in (a.0, a.1, a.2, rw h.1 a.3)

  clones : (o : Option Reference) → ClonesRef d o granted new → Comes w new m [] []
  clones None h = absurd h
  clones (Some x) h = begins x.head h

  names : (path : List Op) (o : Option OwnCall) → NamesField d path o granted new → Comes w new m [] []
  names path None h = absurd h
  names path (Some c) h = begins _ h

  calls : (c : CallCommand) (o : Option Reference) → map.get d.state.refs c.reference.0 ≡ o → MayCallFrom w d c.reference.0 o → MakesCall d c o granted new → Comes (made_by w (command.Call c)) new m [] []
  calls c None e may h = absurd h
  calls c (Some x) e may h = call_made w d g m c x granted new t i e may h

  settling : (p : ℕ) → Tied w (settled_now d p) g m
  settling p = let s = d.state in set_rest w s d.effects.sends d.effects.deliveries g m s.calls s.tasks (map.remove s.unsettled p) s.next_call s.next_task s.next_promise t

  resolves : (p : ℕ) (key : Option ℕ) (o : Option Reference) (h : ResolvesPromise d p key o granted new) → MayResolve w d p key o granted new h → Comes w new m [] []
  resolves p None o h may = absurd h
  resolves p (Some key) None h may = absurd h
  resolves p (Some key) (Some x) h may = promise_settles w (settled_now d p) g m key x.head None new (settling p) i h.1 may

  rejects : (p : ℕ) (exception : Exception) (key : Option ℕ) (h : RejectsPromise d p exception key granted new) → MayReject w d p exception key granted new h → Comes w new m [] []
  rejects p exception None h may = absurd h
  rejects p exception (Some key) h may = promise_settles w (settled_now d p) g m key (node.Broken BrokenPromise) (Some exception) new (settling p) i h.1 may

  answering : (k : ℕ) → Tied w (answered d k) g m
  answering k = let s = d.state in set_rest w s d.effects.sends d.effects.deliveries g m s.calls (map.remove s.tasks k) s.unsettled s.next_call s.next_task s.next_promise t

  answers : (k : ℕ) (v : Value) (o : Option ℕ) (h : AnswersTask d k v o granted new) → MayAnswer w d k v o granted new h → Comes w new m [] []
  answers k v None h may = absurd h
  answers k v (Some o) h may = outcome_settles w (answered d k) g m o v new (answering k) i h.1 may

  pub acts : (c : Command) (h : Acts d c granted new) → MayAct w d c granted new h → Comes (made_by w c) new m [] []
  acts (command.Host o) h may = begins (node.Object o) h
  acts (command.CloneRef r) h may = clones (map.get d.state.refs r.0) h
  acts (command.DropRef r) h may = (g, m, Done, ref_dropped w d g m r.0 granted new t h)
  acts command.Bootstrap h may = bootstrap_asked w d g m granted new t may h
  acts (command.Call c) h may = calls c (map.get d.state.refs c.reference.0) refl may h
  acts (command.Field c path) h may = names path (map.get d.state.calls c.0) h
  acts command.Promise h may = promise_made w d g m granted new t may h
  acts (command.Resolve p r) h may = resolves p.0 (map.get d.state.unsettled p.0) (map.get d.state.refs r.0) h may
  acts (command.Reject p exception) h may = rejects p.0 exception (map.get d.state.unsettled p.0) h may
  acts (command.Answer k payload refs) h may = answers k.0 (value.Results payload (heads d.state refs)) (map.get d.state.tasks k.0) h may
  acts (command.Fail k exception) h may = answers k.0 (value.Exception exception) (map.get d.state.tasks k.0) h may
  acts (command.Finish c) h may = (g, m, Done, call_finished w d g m c.0 granted new t h)
  acts (command.Advance r) h may = advances w d g m r.0 granted new t may h
  acts (command.Shut n) h may = absurd h

pub acts_are_moves : (w : Around) (d : Progress) (g : Ghosts) (m : routing.State routes) (c : Command) (granted : Granted) (new : Progress) → Tied w d g m → InvariantWith m []
    → (h : Acts d c granted new) → MayAct w d c granted new h → Comes (made_by w c) new m [] []
acts_are_moves w d g m c granted new t i h may = acts w d g m granted new t i c h may

-- ---- Messages

module _ (w : Around) (d : Progress) (g : Ghosts) (m : routing.State routes) (rest : List rpc.Message) (new : Progress) where
  abbrev w' : Around
  w' = with_back w rest

  returns : (r : Return) (o : Option Question) → map.get d.state.questions r.answer.0 ≡ o → Tied (with_back w (message.Plain (plain.Return r) ∷ rest)) d g m → MayReturn w' d r o → TakesReturn d r o new → Comes w' new m [] []
  returns r None e t may h = absurd h
  returns r (Some x) e t may h = return_taken w d g m r x rest new t e may h

  finishes : (x : Finish) (o : Option AnswerEntry) → map.get d.state.answers x.question.0 ≡ o → Tied (with_back w (message.Plain (plain.Finish x) ∷ rest)) d g m → MayFinish w' d new x.question.0 o
      → TakesFinish d x.question.0 x.release_result_caps o new → Comes w' new m [] []
  finishes x None e t may h = absurd h
  finishes x (Some a) e t may h = (g, m, Done, finish_taken w d g m x a rest new t e may.0 may.1 h)

  goes_back : (e : EmbargoId) (target : Target) → Tied (with_back w (message.Plain (plain.Disembargo (record { target = target; context = SenderLoopback e })) ∷ rest)) d g m → MayBounce w' d.state target
      → IsWireThere d.state (settle d.state (target_node d.state target)) → ExportsAreOwn w.other → (o : Option Target) → wire_target (settle d.state (target_node d.state target)) ≡ o → Bounces d e o new → Comes w' new m [] []
  goes_back e target t may there theirs None f h = absurd h
  goes_back e target t may there theirs (Some onward) f h =
      let v = w.vat in
      let s = d.state in
      let k = target_node s target in
      let x = target_point v s.exports g.own (sessions_at g.own.outcome s.answers) target in
      let own = t.own in
      let ends_as : EndsAs v g.own m.net x (settle s k) =
      subst (λ (z : Point). EndsAs v g.own m.net z (settle s k)) (target_is v s g.own target may.answered) (ends law v s g.own m.net own.stops may.rest k (target_own v s g.own target may.own) may.there) in
      let reads = target_reads v (other_vat v) s g.own w.other g.theirs (w.out ++ d.effects.sends) m (settle s k) onward t.view refl theirs there f in
      let a = bounces w d g m e target onward rest (point v g.own (settle s k)) t (wire_exit v g.own m.net x (settle s k) onward ends_as f) reads.0 in
      (a.0, a.1, a.2, rw h a.3)

  lifting : (e : EmbargoId) (target : Target) → Tied (with_back w (message.Plain (plain.Disembargo (record { target = target; context = ReceiverLoopback e })) ∷ rest)) d g m → InvariantWith m []
      → (o : Option Embargo) → map.get d.state.embargoes e.0 ≡ o → (h : Lifts d e.0 o new) → MayLift w' d e.0 o new h → Comes w' new m [] []
  lifting e target t i None f h may = absurd h
  lifting e target t i (Some b) f h may = lifts w d g m e target b rest new t i f may.0 may.1 may.2 h may.3

  disembargoes : (target : Target) (context : DisembargoContext) → Tied (with_back w (message.Plain (plain.Disembargo (record { target = target; context = context })) ∷ rest)) d g m → InvariantWith m []
      → (h : TakesDisembargo d target context new) → MayDisembargo w' d target context new h → Comes w' new m [] []
  disembargoes target (SenderLoopback e) t i h may = goes_back e target t may.0 may.1 may.2 (wire_target (settle d.state (target_node d.state target))) refl h
  disembargoes target (ReceiverLoopback e) t i h may = lifting e target t i (map.get d.state.embargoes e.0) refl h may

  understood : (x : PlainMessage) → Tied (with_back w (message.Plain x ∷ rest)) d g m → InvariantWith m [] → (h : TakesPlain d x new) → MayTakePlain w' d x new h → Comes w' new m [] []
  understood (plain.Abort exception) t i h may = absurd h
  understood (plain.Bootstrap q) t i h may = bootstrap_taken w d g m q rest new t i h may
  understood (plain.Call c) t i h may = call_taken w d g m c rest new t i h may
  understood (plain.Return r) t i h may = returns r (map.get d.state.questions r.answer.0) refl t may h
  understood (plain.Finish x) t i h may = finishes x (map.get d.state.answers x.question.0) refl t may h
  understood (plain.Resolve r) t i h may = let a = resolve_taken w d g m r rest t may.0 may.1 may.2 in (a.0, m, Done, rw h a.1)
  understood (plain.Release x) t i h may = (g, m, Done, rw h (release_taken w d g m x rest t may))
  understood (plain.Disembargo x) t i h may = disembargoes x.target x.context t i h may
  understood (plain.Other n) t i h may = (g, m, Done, rw h (silent_goes w' d g m (message.Unimplemented (plain.Other n)) (silent_comes w d g m (message.Plain (plain.Other n)) rest t tt) tt tt))

  echoes : (x : PlainMessage) → Tied (with_back w (message.Unimplemented x ∷ rest)) d g m → TakesUnimplemented d x new → MayTakeUnimplemented w' d x → Comes w' new m [] []
  echoes (plain.Abort exception) t h may = absurd h
  echoes (plain.Bootstrap q) t h may = absurd t.comes.0
  echoes (plain.Call c) t h may = absurd t.comes.0
  echoes (plain.Return r) t h may = absurd h
  echoes (plain.Finish x) t h may = absurd h
  echoes (plain.Resolve r) t h may = (g, m, Done, rw h (obeyed w' d g m true (given_by r.to) (silent_comes w d g m (message.Unimplemented (plain.Resolve r)) rest t tt) may))
  echoes (plain.Release x) t h may = (g, m, Done, rw h (silent_comes w d g m (message.Unimplemented (plain.Release x)) rest t tt))
  echoes (plain.Disembargo x) t h may = absurd h
  echoes (plain.Other n) t h may = absurd h

  unless_foreign : (x : PlainMessage) (b : Bool) → Tied (with_back w (message.Plain x ∷ rest)) d g m → InvariantWith m [] → (h : TakesUnless b d x new) → MayTakeUnless w' d x b new h → Comes w' new m [] []
  unless_foreign x true t i h may = (g, m, Done, rw h (silent_goes w' d g m (message.Unimplemented x) (silent_comes w d g m (message.Plain x) rest t may) may tt))
  unless_foreign x false t i h may = understood x t i h may

  handled : (x : rpc.Message) → Tied (with_back w (x ∷ rest)) d g m → InvariantWith m [] → (h : Takes d x new) → MayHandle w' d x new h → Comes w' new m [] []
  handled (message.Plain x) t i h may = unless_foreign x (is_foreign d.state.level x) t i h may
  handled (message.Unimplemented x) t i h may = echoes x t h may

pub takes_are_moves : (w : Around) (d : Progress) (g : Ghosts) (m : routing.State routes) (x : PlainMessage) (rest : List rpc.Message) (new : Progress) → Tied (with_back w (message.Plain x ∷ rest)) d g m → InvariantWith m []
    → (h : TakesPlain d x new) → MayTakePlain (with_back w rest) d x new h → Comes (with_back w rest) new m [] []
takes_are_moves w d g m x rest new t i h may = understood w d g m rest new x t i h may

pub echoes_are_moves : (w : Around) (d : Progress) (g : Ghosts) (m : routing.State routes) (x : PlainMessage) (rest : List rpc.Message) (new : Progress) → Tied (with_back w (message.Unimplemented x ∷ rest)) d g m
    → TakesUnimplemented d x new → MayTakeUnimplemented (with_back w rest) d x → Comes (with_back w rest) new m [] []
echoes_are_moves w d g m x rest new t h may = echoes w d g m rest new x t h may

-- ---- The end of a step

ended : (w : Around) (acted : Progress) (m : routing.State routes) (effects : Effects) (new : State) → InvariantWith m [] → Comes w acted m [] [] → (h : Ends acted effects new) → AllMaySettle w h.drained acted h.drains → StepComes w new effects m
ended w acted m effects new i a h may =
    let drained : Progress = h.drained in
    let last : Progress = h.swept in
    let b = outcomes_drain w acted a.0 a.1 drained a.3 (moves_keep a.1 [] m [] a.2 i) h.drains may in
    let c : Tied w last b.0 b.1 = swept w drained b.0 b.1 last b.3 h.sweeps in
    (b.0, b.1, moves_on b.1 [] a.1 [] m [] b.2 a.2, subst (λ (z : State). TiedBy w [] z effects.sends effects.deliveries b.0 b.1) (sym h.new_is) (subst (λ (z : Effects). TiedBy w [] last.state z.sends z.deliveries b.0 b.1) (sym h.effects_are) c))

pub commands_are_moves : (w : Around) (s : State) (g : Ghosts) (m : routing.State routes) (c : Command) (granted : Granted) (effects : Effects) (new : State) → TiedAt w s g m → InvariantWith m []
    → (h : Does s c granted effects new) → MayAct w (begin s) c granted h.acted h.acts → AllMaySettle (made_by w c) h.ends.drained h.acted h.ends.drains → StepComes (made_by w c) new effects m
commands_are_moves w s g m c granted effects new t i h act settle =
    ended (made_by w c) h.acted m effects new i (acts_are_moves w (begin s) g m c granted h.acted t i h.acts act) h.ends settle

pub messages_are_moves : (w : Around) (s : State) (g : Ghosts) (m : routing.State routes) (x : rpc.Message) (rest : List rpc.Message) (effects : Effects) (new : State) → TiedAt (with_back w (x ∷ rest)) s g m → InvariantWith m []
    → (h : Handles s x effects new) → MayHandle (with_back w rest) (begin s) x h.taken h.takes → AllMaySettle (with_back w rest) h.ends.drained h.taken h.ends.drains → StepComes (with_back w rest) new effects m
messages_are_moves w s g m x rest effects new t i h take settle =
    ended (with_back w rest) h.taken m effects new i (handled w (begin s) g m rest h.taken x t i h.takes take) h.ends settle
