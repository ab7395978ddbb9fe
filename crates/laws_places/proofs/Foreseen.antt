-- Each step of `answer`, `fail`, `resolve` and `reject`: its first act, then outcomes that are exceptions, then its end.
use Rattle.std.proofs.Common.{◌≡◌, ℕ, suc, ◌+◌, ◌≤◌, false, List, [], ◌∷◌, length, nat_lt, Option, None, Some, refl, sym, ap, subst, ◌∙◌, arith}
use Rattle.std.specs.FinMap as map
use Rattle.rpc_msg.specs.Payloads.{Contents as Payload}
use Rattle.rpc_msg.specs.declared.exception.Exception.{Exception}
use Rattle.rpc_msg.specs.declared.ids.RefId.{RefId}
use Rattle.rpc_machine.specs.declared.node.Reason.TheVariants.{BrokenPromise}
use Rattle.rpc_machine.specs.declared.calls.Value.TheVariants as value
use Rattle.rpc_machine.specs.declared.command.Command.{Command}
use Rattle.rpc_machine.specs.declared.command.Command.TheVariants as command
use Rattle.rpc_machine.specs.declared.command.Effects.{Effects}
use Rattle.rpc_machine.specs.declared.command.Granted.{Granted}
use Rattle.rpc_machine.specs.declared.entries.Reference.{Reference}
use Rattle.rpc_machine.specs.Limits.{table_limit}
use Rattle.rpc_machine.specs.State.{State}
use Rattle.rpc_machine.specs.Progress.{Progress, begin}
use Rattle.rpc_machine.specs.Commands.{heads, settled_now, answered, ResolvesPromise, RejectsPromise, AnswersTask, Acts}
use Rattle.rpc_machine.specs.Steps.{Ends, MayFall}
use Rattle.laws_steps.proofs.Exceptions.{AllExceptions, act_arises}
use Rattle.laws_nodes.specs.Settling.{AllStop, EachNodeStops}
use Rattle.laws_places.specs.Wanted.{caps_at_outcome, by_calls_for_outcome, by_calls_for_promise, wanted_by_calls, wanted, lacks_places}
use Rattle.laws_places.specs.Foreseen.{ExportsAreForeseen, PlacesSuffice}
use Rattle.laws_places.proofs.Broken.{exception_settles, broken_fixes, drains_nothing, sweeps_nothing}
use Rattle.laws_places.proofs.Answering.{results_settle}
use Rattle.laws_places.proofs.Resolving.{promise_fixes}

length-heads : (s : State) (refs : List RefId) → length (heads s refs) ≡ length refs
length-heads s [] = refl
length-heads s (r ∷ rs) = ap suc (length-heads s rs)

module _ (s : State) (g : Granted) (new : Progress) where
  resolves : (p : ℕ) (o : Option ℕ) (x : Option Reference) → ResolvesPromise (begin s) p o x g new → map.len new.state.exports ≤ map.len s.exports + (1 + by_calls_for_promise s o)
  resolves p None x h = absurd h
  resolves p (Some key) None h = absurd h
  resolves p (Some key) (Some x) h = promise_fixes (settled_now (begin s) p) key x.head None new h.1

  same_len : new.state.exports ≡ s.exports → map.len new.state.exports ≤ map.len s.exports + 0
  same_len e = let f : map.len new.state.exports ≡ map.len s.exports = ap map.len e in omega arith

  rejects : (p : ℕ) (why : Exception) (o : Option ℕ) → RejectsPromise (begin s) p why o g new → map.len new.state.exports ≤ map.len s.exports + 0
  rejects p why None h = absurd h
  rejects p why (Some key) h = same_len (broken_fixes (settled_now (begin s) p) key BrokenPromise (Some why) new h.1)

  answers : AllStop s → (t : ℕ) (payload : Payload) (refs : List RefId) (o : Option ℕ) → AnswersTask (begin s) t (value.Results payload (heads s refs)) o g new → map.len new.state.exports ≤ map.len s.exports + (length refs + by_calls_for_outcome s o)
  answers a t payload refs None h = absurd h
  answers a t payload refs (Some o) h =
      subst (λ (k : ℕ). map.len new.state.exports ≤ map.len s.exports + (k + caps_at_outcome (map.get s.outcomes o))) (length-heads s refs)
      (results_settle (answered (begin s) t) o payload (heads s refs) new a h.1)

  fails : (t : ℕ) (why : Exception) (o : Option ℕ) → AnswersTask (begin s) t (value.Exception why) o g new → map.len new.state.exports ≤ map.len s.exports + 0
  fails t why None h = absurd h
  fails t why (Some o) h = same_len (exception_settles (answered (begin s) t) o why new h.1)

  first_act : AllStop s → (c : Command) → MayFall c → Acts (begin s) c g new → map.len new.state.exports ≤ map.len s.exports + wanted s c
  first_act a (command.Host o) f h = absurd f
  first_act a (command.CloneRef r) f h = absurd f
  first_act a (command.DropRef r) f h = absurd f
  first_act a command.Bootstrap f h = absurd f
  first_act a (command.Call k) f h = absurd f
  first_act a (command.Field k path) f h = absurd f
  first_act a command.Promise f h = absurd f
  first_act a (command.Resolve p r) f h = resolves p.0 (map.get s.unsettled p.0) (map.get s.refs r.0) h
  first_act a (command.Reject p why) f h = rejects p.0 why (map.get s.unsettled p.0) h
  first_act a (command.Answer t payload refs) f h = answers a t.0 payload refs (map.get s.tasks t.0) h
  first_act a (command.Fail t why) f h = fails t.0 why (map.get s.tasks t.0) h
  first_act a (command.Finish k) f h = absurd f
  first_act a (command.Advance r) f h = absurd f
  first_act a (command.Shut n) f h = absurd f

ends_alike : (acted : Progress) (x : Effects) (t : State) → AllExceptions acted.arisen → Ends acted x t → t.exports ≡ acted.state.exports
ends_alike acted x t k h = ap (λ (s : State). s.exports) h.new_is ∙ sweeps_nothing h.drained h.swept h.sweeps ∙ drains_nothing h.drained acted h.drains k

pub foreseen : EachNodeStops → ExportsAreForeseen
foreseen each s c g x t r f h =
    let same = ends_alike h.acted x t (act_arises s c g h.acted h.acts) h.ends in
    subst (λ (n : ℕ). n ≤ map.len s.exports + wanted s c) (sym (ap map.len same)) (first_act s g h.acted (each s r) c f h.acts)

enough : (m n k j : ℕ) → m ≤ n + (k + j) → nat_lt table_limit (n + k) ≡ false → m ≤ table_limit + j
enough m n k j l e = grind (arith, e)

within : (s : State) (m : ℕ) (c : Command) → MayFall c → map.len s.exports ≤ table_limit → lacks_places s c ≡ false → m ≤ map.len s.exports + wanted s c → m ≤ table_limit + wanted_by_calls s c
within s m (command.Host o) f w e l = absurd f
within s m (command.CloneRef r) f w e l = absurd f
within s m (command.DropRef r) f w e l = absurd f
within s m command.Bootstrap f w e l = absurd f
within s m (command.Call k) f w e l = absurd f
within s m (command.Field k path) f w e l = absurd f
within s m command.Promise f w e l = absurd f
within s m (command.Resolve p r) f w e l = enough m (map.len s.exports) 1 (by_calls_for_promise s (map.get s.unsettled p.0)) l e
within s m (command.Reject p why) f w e l = omega arith
within s m (command.Answer t payload refs) f w e l = enough m (map.len s.exports) (length refs) (by_calls_for_outcome s (map.get s.tasks t.0)) l e
within s m (command.Fail t why) f w e l = omega arith
within s m (command.Finish k) f w e l = absurd f
within s m (command.Advance r) f w e l = absurd f
within s m (command.Shut n) f w e l = absurd f

pub suffice : EachNodeStops → PlacesSuffice
suffice each s c g x t r f w e h = within s (map.len t.exports) c f w e (foreseen each s c g x t r f h)
