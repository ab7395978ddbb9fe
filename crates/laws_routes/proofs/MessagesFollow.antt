-- A whole step of a received message, or of any command: what the laws of such steps take as known follows from what is so before.
use Rattle.std.specs.FinMap as map
use Rattle.std.proofs.Common.{◌≡◌, ℕ, Bool, true, false, List, [], ◌∷◌, ◌++◌, append-nil, Option, None, Some, refl, sym, ap, subst, ◌∙◌}
use Rattle.rpc_msg.specs.declared.message.DisembargoContext.{DisembargoContext}
use Rattle.rpc_msg.specs.declared.message.DisembargoContext.TheVariants.{SenderLoopback, ReceiverLoopback}
use Rattle.rpc_msg.specs.declared.message.Message.{Message}
use Rattle.rpc_msg.specs.declared.message.Message.TheVariants as message
use Rattle.rpc_msg.specs.declared.message.PlainMessage.{PlainMessage}
use Rattle.rpc_msg.specs.declared.message.PlainMessage.TheVariants as plain
use Rattle.rpc_msg.specs.declared.message.ResolvedTo.{ResolvedTo}
use Rattle.rpc_msg.specs.declared.message.ResolvedTo.TheVariants as resolved
use Rattle.rpc_msg.specs.declared.message.Return.{Return}
use Rattle.rpc_msg.specs.declared.parts.Target.{Target}
use Rattle.rpc_msg.specs.Messages.{descriptors_of_body}
use Rattle.rpc_machine.specs.declared.calls.OwnCall.{OwnCall}
use Rattle.rpc_machine.specs.declared.calls.Value.{Value}
use Rattle.rpc_machine.specs.declared.command.Command.{Command}
use Rattle.rpc_machine.specs.declared.command.Effects.{Effects}
use Rattle.rpc_machine.specs.declared.command.Granted.{Granted}
use Rattle.rpc_machine.specs.declared.command.Level.{Level}
use Rattle.rpc_machine.specs.declared.command.Level.TheVariants.{One}
use Rattle.rpc_machine.specs.declared.entries.AnswerEntry.{AnswerEntry}
use Rattle.rpc_machine.specs.declared.entries.Embargo.{Embargo}
use Rattle.rpc_machine.specs.declared.entries.Finishing.{Finishing}
use Rattle.rpc_machine.specs.declared.entries.Finishing.TheVariants as finishing
use Rattle.rpc_machine.specs.declared.entries.Import.{Import}
use Rattle.rpc_machine.specs.declared.entries.Question.{Question}
use Rattle.rpc_machine.specs.declared.entries.Resolution.{Resolution}
use Rattle.rpc_machine.specs.declared.entries.Returned.{Returned}
use Rattle.rpc_machine.specs.declared.entries.Role.{Role}
use Rattle.rpc_machine.specs.declared.entries.Role.TheVariants as role
use Rattle.rpc_machine.specs.declared.node.Node.{Node}
use Rattle.rpc_machine.specs.State.{State}
use Rattle.rpc_machine.specs.Advancing.{wire_target}
use Rattle.rpc_machine.specs.Descriptors.{take_all, taken_of}
use Rattle.rpc_machine.specs.Faults.{fault_of, gave, is_foreign, plain_fault, target_node, unless_foreign}
use Rattle.rpc_machine.specs.Flags.{obey}
use Rattle.rpc_machine.specs.Messages.{Bounces, ComesBack, ComesFor, Lifts, TakesDisembargo, TakesFinish, TakesPlain, TakesReturn, TakesUnless, bootstrap_value, kept_returned, opened, received_request, resolve_import, results_of, take_resolve, value_of_results}
use Rattle.rpc_machine.specs.Progress.{Progress, begin, caps_of, numbers, with_refs, with_state}
use Rattle.rpc_machine.specs.Refusals.{refused}
use Rattle.rpc_machine.specs.Settling.{TellsCall}
use Rattle.rpc_machine.specs.Steps.{Does, Handles}
use Rattle.rpc_machine.specs.Nodes.{settle}
use Rattle.laws_acts.specs.Moments.{at_rest}
use Rattle.laws_acts.proofs.Pieces.{routes, routes_all}
use Rattle.laws_steps.specs.NodesThere.{IsWhole}
use Rattle.laws_steps.proofs.Exceptions.{AllExceptions, call_arises, disembargo_arises, first_arises}
use Rattle.laws_routes.specs.Laws.{with_back}
use Rattle.laws_routes.specs.OutcomeLaws.{AllMaySettle}
use Rattle.laws_routes.specs.StepLaws.{MayAct, MayHandle, MayTakeUnless, made_by}
use Rattle.laws_routes.specs.Ties.{Around}
use Rattle.laws_routes.specs.Midway.{ArisenAreHeld, Midway, MidwayAt}
use Rattle.laws_routes.specs.FirstActs.{CallsHaveSources, EmbargoesAreNamed}
use Rattle.laws_routes.specs.Received.{IsMet}
use Rattle.laws_routes.specs.WholeSteps.{MidwayBehind}
use Rattle.laws_acts.proofs.Alone.{all_alone}
use Rattle.laws_routes.proofs.EachReceived.{messages_may}
use Rattle.laws_routes.proofs.FirstCommands.{others_kept}
use Rattle.laws_routes.proofs.MidwayDrained.{failures_held, none_carry}
use Rattle.laws_routes.proofs.ReturnsReceived.{returns}
use Rattle.laws_routes.proofs.StepsFollow.{commands, ends}
use Rattle.laws_routes.proofs.Unmoved.{all, settled_is}

-- ---- The level stays

refs_level : (ns : List Node) (s : State) → (with_refs s ns).level ≡ s.level
refs_level [] s = refl
refs_level (n ∷ ns) s = refs_level ns _

taken_level : (s : State) (ds : List _) → (take_all s ds).level ≡ s.level
taken_level s ds = ap (λ (z : State). z.level) (all_alone s ds)

obeyed_level : (s : State) (flag : Bool) (ids : List ℕ) → (obey s flag ids).level ≡ s.level
obeyed_level s true ids = refl
obeyed_level s false ids = refl

resolved_level : (s : State) (e : ℕ) (said : Resolution) (o : Option Import) → (resolve_import s e said o).level ≡ s.level
resolved_level s e said None = refl
resolved_level s e said (Some x) = refl

module _ (d new : Progress) where
  abbrev Same : Progress → Type 0
  Same z = z.state.level ≡ d.state.level

  told_level : (k : Progress) (c : ℕ) (v : Value) (o : Option OwnCall) → Same k → TellsCall k c v o new → Same new
  told_level k c v None i a = subst Same (sym a) i
  told_level k c v (Some x) i a = subst Same (sym a) (refs_level (caps_of v) k.state ∙ i)

  comes_level : (k : Progress) (r : Role) (v : Value) → Same k → ComesFor k r v new → Same new
  comes_level k (role.Relay o) v i a = subst Same (sym a) i
  comes_level k (role.Direct c) v i a = told_level k c.0 v (map.get k.state.calls c.0) i a

  back_level : (k : Progress) (q : ℕ) (x : Question) (said : Returned) (f : Finishing) → Same k → ComesBack k q x said f new → Same new
  back_level k q x said finishing.Sent i a = subst Same (sym a) i
  back_level k q x said finishing.Owed i a = comes_level (kept_returned k q x said) x.role (value_of_results said) i a
  back_level k q x said finishing.Waived i a = comes_level (kept_returned k q x said) x.role (value_of_results said) i a

  return_level : (r : Return) (o : Option Question) → TakesReturn d r o new → Same new
  return_level r None a = absurd a
  return_level r (Some x) a =
      let u = take_all d.state (descriptors_of_body r.body) in
      back_level (with_state d (obey u r.release_param_caps (numbers x.given))) r.answer.0 x (results_of d.state r.body) x.finish (obeyed_level u r.release_param_caps (numbers x.given) ∙ taken_level d.state (descriptors_of_body r.body)) a

  finish_level : (q : ℕ) (flag : Bool) (o : Option AnswerEntry) → TakesFinish d q flag o new → Same new
  finish_level q flag None a = absurd a
  finish_level q flag (Some y) a = subst Same (sym a) (obeyed_level d.state flag (gave y.returned))

  resolve_level : (e : ℕ) (to : ResolvedTo) → new ≡ with_state d (take_resolve d.state e to) → Same new
  resolve_level e (resolved.Cap c) a = subst Same (sym a) (resolved_level (take_all d.state (c ∷ [])) e _ (map.get d.state.imports e) ∙ taken_level d.state (c ∷ []))
  resolve_level e (resolved.Exception exception) a = subst Same (sym a) (resolved_level d.state e _ (map.get d.state.imports e))

  bounce_level : (x : _) (o : Option Target) → Bounces d x o new → Same new
  bounce_level x None a = absurd a
  bounce_level x (Some t) a = subst Same (sym a) refl

  lift_level : (e : ℕ) (o : Option Embargo) → Lifts d e o new → Same new
  lift_level e None a = absurd a
  lift_level e (Some b) a = let i = all d.state.vat d.state.level (at_rest new) _ (routes_all (at_rest _) b.waiting b.node new a) (refl, refl) in i.1

  disembargo_level : (t : Target) (c : DisembargoContext) → TakesDisembargo d t c new → Same new
  disembargo_level t (SenderLoopback x) a = bounce_level x (wire_target (settle d.state (target_node d.state t))) a
  disembargo_level t (ReceiverLoopback x) a = lift_level x.0 (map.get d.state.embargoes x.0) a

  level_still : (x : PlainMessage) → TakesPlain d x new → Same new
  level_still (plain.Abort exception) a = absurd a
  level_still (plain.Bootstrap q) a = let i = settled_is d.state.vat d.state.level (with_state d (opened d.state q.0 a.0 [])) a.0 (bootstrap_value d.state.bootstrap) new a.2 (refl, refl) in i.1
  level_still (plain.Call c) a =
      let u = take_all d.state c.descriptors in
      let mid = with_state d (opened u c.question.0 a.0 (taken_of d.state c.descriptors)) in
      let i = all u.vat u.level (at_rest new) _ (routes (at_rest mid) (record { request = received_request d.state c; outcome = a.0 }) (target_node d.state c.target) [] new a.2) (refl, refl) in
      i.1 ∙ taken_level d.state c.descriptors
  level_still (plain.Return r) a = return_level r (map.get d.state.questions r.answer.0) a
  level_still (plain.Finish x) a = finish_level x.question.0 x.release_result_caps (map.get d.state.answers x.question.0) a
  level_still (plain.Resolve r) a = resolve_level r.promise.0 r.to a
  level_still (plain.Release x) a = subst Same (sym a) refl
  level_still (plain.Disembargo x) a = disembargo_level x.target x.context a
  level_still (plain.Other n) a = subst Same (sym a) refl

-- ---- What arises is held

module _ (w : Around) (s : State) (rest : List Message) (new : Progress) (level : s.level ≡ One) where
  abbrev d : Progress
  d = begin s

  quietly : AllExceptions new.arisen → ArisenAreHeld new.state new.arisen
  quietly i = failures_held new.state new.arisen (none_carry new.arisen i)

  finish_arises : (q : ℕ) (flag : Bool) (o : Option AnswerEntry) → TakesFinish d q flag o new → AllExceptions new.arisen
  finish_arises q flag None a = absurd a
  finish_arises q flag (Some y) a = rw a tt

  arises : (x : PlainMessage) → MidwayAt (with_back w (message.Plain x ∷ rest)) d → plain_fault s x ≡ None → IsMet s w.other (w.out ++ []) rest x → TakesPlain d x new → ArisenAreHeld new.state new.arisen
  arises (plain.Abort exception) h fine m a = absurd a
  arises (plain.Bootstrap q) h fine m a = quietly (first_arises (with_state d (opened s q.0 a.0 [])) a.0 (bootstrap_value s.bootstrap) new a.2 tt)
  arises (plain.Call c) h fine m a = quietly (call_arises d c new a tt)
  arises (plain.Return r) h fine m a = let b = returns w d r rest new h level (map.get s.questions r.answer.0) refl m fine a in b.2 refl
  arises (plain.Finish x) h fine m a = quietly (finish_arises x.question.0 x.release_result_caps (map.get s.answers x.question.0) a)
  arises (plain.Resolve r) h fine m a = quietly (rw a tt)
  arises (plain.Release x) h fine m a = quietly (rw a tt)
  arises (plain.Disembargo x) h fine m a = quietly (disembargo_arises d x.target x.context new a tt)
  arises (plain.Other n) h fine m a = quietly (rw a tt)

-- ---- The whole

module _ (w : Around) (s : State) (x : PlainMessage) (rest : List Message) (new : Progress) (h : MidwayAt (with_back w (message.Plain x ∷ rest)) (begin s)) (level : s.level ≡ One) (m : IsMet s w.other (w.out ++ []) rest x) where
  -- A vat of level 1 looks at each message.
  unless : (b : Bool) → b ≡ false → unless_foreign b (plain_fault s x) ≡ None → (a : TakesUnless b (begin s) x new)
      → MayTakeUnless (with_back w rest) (begin s) x b new a × MidwayAt (with_back w rest) new × ArisenAreHeld new.state new.arisen × (new.state.level ≡ One)
  unless true e fine a = let f : true ≡ false = e in cc
  unless false e fine a =
      let b = messages_may w (begin s) x rest new h level fine m a in
      (b.0, b.1, arises w s rest new level x h fine m a, level_still (begin s) new x a ∙ level)

pub messages : (w : Around) (s : State) (x : PlainMessage) (rest : List Message) (effects : Effects) (new : State) → Midway s w.other w.out (message.Plain x ∷ rest) → s.level ≡ One → fault_of s (message.Plain x) ≡ None → IsMet s w.other w.out rest x → IsWhole new
    → (h : Handles s (message.Plain x) effects new) → MayHandle (with_back w rest) (begin s) (message.Plain x) h.taken h.takes × AllMaySettle (with_back w rest) h.ends.drained h.taken h.ends.drains × MidwayBehind (with_back w rest) new effects
messages w s x rest effects new m level fine met whole h =
    let start : MidwayAt (with_back w (message.Plain x ∷ rest)) (begin s) = subst (λ (ms : List Message). Midway s w.other ms (message.Plain x ∷ rest)) (sym (append-nil w.out)) m in
    let met_there : IsMet s w.other (w.out ++ []) rest x = subst (λ (ms : List Message). IsMet s w.other ms rest x) (sym (append-nil w.out)) met in
    let first = unless w s x rest h.taken start level met_there (is_foreign s.level x) (subst (λ (l : Level). is_foreign l x ≡ false) (sym level) refl) fine h.takes in
    let last = ends (with_back w rest) h.taken effects new first.1 first.3 first.2 whole h.ends in
    (first.0, last.0, last.1)

pub all_commands : (w : Around) (s : State) (c : Command) (granted : Granted) (effects : Effects) (new : State) → Midway s w.other w.out w.back → EmbargoesAreNamed s → CallsHaveSources s → s.vat ≡ w.vat → s.level ≡ One → refused s c ≡ None → IsWhole new
    → (h : Does s c granted effects new) → MayAct w (begin s) c granted h.acted h.acts × AllMaySettle (made_by w c) h.ends.drained h.acted h.ends.drains × MidwayBehind w new effects
all_commands w s c granted effects new m named has vat level fine whole h =
    let start : MidwayAt w (begin s) = subst (λ (ms : List Message). Midway s w.other ms w.back) (sym (append-nil w.out)) m in
    commands w s c granted effects new m vat level fine whole h (λ quiet. others_kept w (begin s) c granted h.acted start named has quiet h.acts)
