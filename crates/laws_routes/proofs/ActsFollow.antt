-- What a command needs follows from what is so in the middle of a step.
use Rattle.std.specs.FinMap as map
use Rattle.std.proofs.Common.{◌≡◌, ℕ, false, List, [], ◌∷◌, ◌++◌, Option, None, Some, refl, ap, ◌∙◌}
use Rattle.rpc_machine.specs.declared.command.Command.{Command}
use Rattle.rpc_machine.specs.declared.command.Command.TheVariants as command
use Rattle.rpc_machine.specs.declared.command.Granted.{Granted}
use Rattle.rpc_machine.specs.declared.command.Level.TheVariants.{One}
use Rattle.rpc_machine.specs.declared.entries.Reference.{Reference}
use Rattle.rpc_msg.specs.declared.exception.Exception.{Exception}
use Rattle.rpc_msg.specs.declared.ids.PromiseId.{PromiseId}
use Rattle.rpc_msg.specs.declared.ids.RefId.{RefId}
use Rattle.rpc_machine.specs.declared.node.Node.{Node}
use Rattle.rpc_machine.specs.declared.node.Node.TheVariants as node
use Rattle.rpc_machine.specs.declared.node.Reason.TheVariants.{BrokenPromise}
use Rattle.rpc_machine.specs.Nodes.{is_promise, settle}
use Rattle.rpc_machine.specs.Refusals.{refused}
use Rattle.rpc_machine.specs.Settling.{FixesPromise}
use Rattle.rpc_machine.specs.Advancing.{Advances}
use Rattle.rpc_machine.specs.Commands.{Acts, AnswersTask, RejectsPromise, ResolvesPromise, answered, head_of, heads, settled_now}
use Rattle.rpc_machine.specs.Progress.{Progress, caps_of}
use Rattle.rpc_machine.specs.State.{State}
use Rattle.rpc_machine.specs.declared.calls.Value.{Value}
use Rattle.rpc_machine.specs.declared.calls.Value.TheVariants as value
use Rattle.laws_routes.specs.SayingLaws.{MayAdvanceFrom}
use Rattle.laws_routes.specs.StepLaws.{MayAct, MayAnswer, MayCallFrom, MayReject, MayResolve}
use Rattle.laws_routes.specs.Ties.{Around}
use Rattle.laws_routes.specs.Midway.{AllAreHeld, IsHeld, Midway, MidwayAt, Settles}
use Rattle.laws_routes.proofs.FromMidway.{may_advance, may_ask, may_open}
use Rattle.laws_routes.proofs.MidwayKept.{all_still, held_more, may_call}
use Rattle.laws_routes.proofs.MidwayRouted.{tasks_still}
use Rattle.laws_routes.proofs.MidwaySettled.{may_settle}
use Rattle.laws_routes.proofs.MidwayFixed.{as_held, as_linked, may_fix, unsettled_still}
use Rattle.laws_routes.proofs.WhereNodesEnd.{settles_here}
use Rattle.laws_nodes.proofs.Stopping.{same}
use Rattle.laws_acts.proofs.Checks.{no_circle}
use Rattle.laws_routes.specs.OutcomeLaws.{MayFixFrom}

module _ (w : Around) (d : Progress) (granted : Granted) (new : Progress) (h : Midway d.state w.other (w.out ++ d.effects.sends) w.back) (vat : (d.state).vat ≡ w.vat) (level : (d.state).level ≡ One) where
  calls : (r : ℕ) (o : Option Reference) → map.get d.state.refs r ≡ o → MayCallFrom w d r o
  calls r None e = tt
  calls r (Some x) e = may_call w d h vat r x e

  advances : (r : ℕ) (o : Option Reference) → map.get d.state.refs r ≡ o → Advances d r o granted new → MayAdvanceFrom w d o
  advances r None e a = absurd a
  advances r (Some x) e a = may_advance w d h level r x e

  fixes : (p key : ℕ) (to : Node) (reason : Option Exception) → IsHeld d.state to → is_promise key (settle d.state to) ≡ false → (a : FixesPromise (settled_now d p) key to reason new)
      → MayFixFrom w (settled_now d p) key to reason (map.get d.state.promises key) new a × MidwayAt w new
  fixes p key to reason i far a =
      let s = d.state in
      let U = map.remove s.unsettled p in
      let at = (same s (record s { unsettled = U }) (as_linked s U) h.stop).1 in
      may_fix w (settled_now d p) key to reason (map.get s.promises key) new refl (unsettled_still s U w.other (w.out ++ d.effects.sends) w.back h) (as_held s U to i) (ap (is_promise key) (at to) ∙ far) a

  resolves : (p : PromiseId) (r : RefId) → refused d.state (command.Resolve p r) ≡ None → (key : Option ℕ) (o : Option Reference) → map.get d.state.unsettled p.0 ≡ key → map.get d.state.refs r.0 ≡ o → (a : ResolvesPromise d p.0 key o granted new)
      → MayResolve w d p.0 key o granted new a × MidwayAt w new
  resolves p r fine None o e f a = absurd a
  resolves p r fine (Some key) None e f a = absurd a
  resolves p r fine (Some key) (Some x) e f a = fixes p.0 key x.head None (h.heads r.0 x f) (no_circle d.state p r x key fine f e) a.1

  rejects : (p : ℕ) (exception : Exception) (key : Option ℕ) (a : RejectsPromise d p exception key granted new) → MayReject w d p exception key granted new a × MidwayAt w new
  rejects p exception None a = absurd a
  rejects p exception (Some key) a =
      let n : Node = node.Broken BrokenPromise in
      fixes p key n (Some exception) (tt, tt) (ap (is_promise key) (settles_here d.state n refl)) a.1

  heads_held : (refs : List RefId) → AllAreHeld d.state (heads d.state refs)
  heads_held [] = tt
  heads_held (r ∷ refs) = (by (map.get d.state.refs r.0) refl, heads_held refs)
    where
      by : (o : Option Reference) → map.get d.state.refs r.0 ≡ o → IsHeld d.state (head_of o)
      by None e = (tt, tt)
      by (Some x) e = h.heads r.0 x e

  answers : (t : ℕ) (v : Value) (key : Option ℕ) → map.get d.state.tasks t ≡ key → AllAreHeld d.state (caps_of v) → (a : AnswersTask d t v key granted new) → MayAnswer w d t v key granted new a × MidwayAt w new
  answers t v None e k a = absurd a
  answers t v (Some o) e k a =
      let s = d.state in
      let T = map.remove s.tasks t in
      let u : State = record s { tasks = T } in
      let held : (n : Node) → IsHeld s n → IsHeld u n = λ n i. held_more s s.refs s.promises s.outcomes s.calls T s.next_ref s.next_call s.next_task (λ p j. j) (λ o j. j) n i in
      may_settle w (answered d t) o v (map.get s.outcomes o) new refl (tasks_still s w.other (w.out ++ d.effects.sends) w.back T s.next_task h) level (all_still s u held (caps_of v) k) a.1

  acts : (c : Command) → refused d.state c ≡ None → (a : Acts d c granted new) → MayAct w d c granted new a
  acts (command.Host o) fine a = tt
  acts (command.CloneRef r) fine a = tt
  acts (command.DropRef r) fine a = tt
  acts command.Bootstrap fine a = may_ask d.state w.other (w.out ++ d.effects.sends) w.back h
  acts (command.Call c) fine a = calls c.reference.0 (map.get d.state.refs c.reference.0) refl
  acts (command.Field c path) fine a = tt
  acts command.Promise fine a = may_open d.state w.other (w.out ++ d.effects.sends) w.back h
  acts (command.Resolve p r) fine a = (resolves p r fine (map.get d.state.unsettled p.0) (map.get d.state.refs r.0) refl refl a).0
  acts (command.Reject p exception) fine a = (rejects p.0 exception (map.get d.state.unsettled p.0) a).0
  acts (command.Answer t payload refs) fine a = (answers t.0 (value.Results payload (heads d.state refs)) (map.get d.state.tasks t.0) refl (heads_held refs) a).0
  acts (command.Fail t exception) fine a = (answers t.0 (value.Exception exception) (map.get d.state.tasks t.0) refl tt a).0
  acts (command.Finish c) fine a = tt
  acts (command.Advance r) fine a = advances r.0 (map.get d.state.refs r.0) refl a
  acts (command.Shut n) fine a = tt

  kept : (c : Command) → Settles c → refused d.state c ≡ None → (a : Acts d c granted new) → MidwayAt w new
  kept (command.Host o) j fine a = absurd j
  kept (command.CloneRef r) j fine a = absurd j
  kept (command.DropRef r) j fine a = absurd j
  kept command.Bootstrap j fine a = absurd j
  kept (command.Call c) j fine a = absurd j
  kept (command.Field c path) j fine a = absurd j
  kept command.Promise j fine a = absurd j
  kept (command.Finish c) j fine a = absurd j
  kept (command.Advance r) j fine a = absurd j
  kept (command.Shut n) j fine a = absurd j
  kept (command.Resolve p r) j fine a = (resolves p r fine (map.get d.state.unsettled p.0) (map.get d.state.refs r.0) refl refl a).1
  kept (command.Reject p exception) j fine a = (rejects p.0 exception (map.get d.state.unsettled p.0) a).1
  kept (command.Answer t payload refs) j fine a = (answers t.0 (value.Results payload (heads d.state refs)) (map.get d.state.tasks t.0) refl (heads_held refs) a).1
  kept (command.Fail t exception) j fine a = (answers t.0 (value.Exception exception) (map.get d.state.tasks t.0) refl tt a).1

pub may_act : (w : Around) (d : Progress) (c : Command) (granted : Granted) (new : Progress) → Midway d.state w.other (w.out ++ d.effects.sends) w.back → d.state.vat ≡ w.vat → d.state.level ≡ One → refused d.state c ≡ None
    → (h : Acts d c granted new) → MayAct w d c granted new h
may_act w d c granted new h vat level fine a = acts w d granted new h vat level c fine a

pub settling_kept : (w : Around) (d : Progress) (c : Command) (granted : Granted) (new : Progress) → MidwayAt w d → d.state.vat ≡ w.vat → d.state.level ≡ One → Settles c → refused d.state c ≡ None → Acts d c granted new → MidwayAt w new
settling_kept w d c granted new h vat level j fine a = kept w d granted new h vat level c j fine a
