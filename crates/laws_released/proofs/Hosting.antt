-- In the step of a Host no call is routed and nobody is told: its reference is there at the end.
use Rattle.std.proofs.Common.{◌≡◌, inl, ℕ, List, [], ◌∷◌, Option, None, Some, refl, sym, ap, ◌∙◌}
use Rattle.std.specs.FinMap as map
use Rattle.finite_maps.specs.Tally.{Map}
use Rattle.finite_maps.proofs.Gets.{get-insert_same}
use Rattle.rpc_msg.specs.declared.ids.ObjectId.{ObjectId}
use Rattle.rpc_machine.specs.declared.node.Node.{Node}
use Rattle.rpc_machine.specs.declared.node.Node.TheVariants as node
use Rattle.rpc_machine.specs.declared.calls.WaitingCall.{WaitingCall}
use Rattle.rpc_machine.specs.declared.calls.Value.{Value}
use Rattle.rpc_machine.specs.declared.calls.Caller.{Caller}
use Rattle.rpc_machine.specs.declared.command.Command.TheVariants as command
use Rattle.rpc_machine.specs.declared.command.Granted.{Granted}
use Rattle.rpc_machine.specs.declared.command.Effects.{Effects}
use Rattle.rpc_machine.specs.declared.entries.Reference.{Reference}
use Rattle.rpc_machine.specs.State.{State}
use Rattle.rpc_machine.specs.Places.{places, named_by_reference}
use Rattle.rpc_machine.specs.Steps.{Does}
use Rattle.laws_acts.specs.Moments.{Clearing, Moment, beginning}
use Rattle.laws_acts.specs.FirstActs.{Starts}
use Rattle.laws_acts.specs.FirstActs as first
use Rattle.laws_acts.specs.SmallActs.{Act}
use Rattle.laws_acts.specs.SmallActs as act
use Rattle.laws_acts.proofs.EachStep.{done, at_end}
use Rattle.laws_steps.specs.Settled.{IsAmong}
use Rattle.laws_steps.proofs.Among.{named, in_refs}

none_yet : (x : WaitingCall × Node) (xs ys : List (WaitingCall × Node)) → ys ≡ [] → ys ≡ x ∷ xs → ⊥
none_yet x xs ys e f = let g : [] ≡ x ∷ xs = sym e ∙ f in cc

none_arisen : (x : ℕ × Value) (xs ys : List (ℕ × Value)) → ys ≡ [] → ys ≡ x ∷ xs → ⊥
none_arisen x xs ys e f = let g : [] ≡ x ∷ xs = sym e ∙ f in cc

none_told : (x : Caller × Value) (xs ys : List (Caller × Value)) → ys ≡ [] → ys ≡ x ∷ xs → ⊥
none_told x xs ys e f = let g : [] ≡ x ∷ xs = sym e ∙ f in cc

none_cleared : (x : Clearing) (y : Option Clearing) → y ≡ None → y ≡ Some x → ⊥
none_cleared x y e f = let g : None ≡ Some x = sym e ∙ f in cc

module _ (refs : Map Reference) where
  abbrev Quiet : Moment → Type 0
  Quiet d = (d.yet ≡ []) × (d.arisen ≡ []) × (d.coming ≡ []) × (d.telling ≡ []) × (d.clearing ≡ None) × (d.state.refs ≡ refs)

  acted : (d new : Moment) → Quiet d → Act d new → Quiet new
  acted d new i (act.Delivers c n rest o e f h) = absurd (none_yet (c, n) rest d.yet i.0 e)
  acted d new i (act.Waits c n rest p calls e f j h) = absurd (none_yet (c, n) rest d.yet i.0 e)
  acted d new i (act.Holds c n rest o path x e f j h) = absurd (none_yet (c, n) rest d.yet i.0 e)
  acted d new i (act.Relays c n rest q t ds es e f j z h) = absurd (none_yet (c, n) rest d.yet i.0 e)
  acted d new i (act.Breaks c n rest reason e f h) = absurd (none_yet (c, n) rest d.yet i.0 e)
  acted d new i (act.NextArisen o v rest e f h) = absurd (none_arisen (o, v) rest d.arisen i.1 f)
  acted d new i (act.Knows o v fit x ps e f j z h) = absurd (none_arisen (o, v) [] d.coming i.2 (ap (λ (m : Moment). m.coming) e))
  acted d new i (act.Reports c v from e f h) = absurd (none_told (_, v) [] d.telling i.3 e)
  acted d new i (act.TellsNobody c v e f h) = absurd (none_told (_, v) [] d.telling i.3 e)
  acted d new i (act.MakesReturn q v x b ds es e f j z h) = absurd (none_told (_, v) [] d.telling i.3 e)
  acted d new i (act.SendsReturn x y e f j h) = rw h i
  acted d new i (act.Clears x e f h) = absurd (none_cleared x d.clearing i.4 (ap (λ (m : Moment). m.clearing) e))
  acted d new i (act.Lists x e h) = rw h i
  acted d new i (act.SendsResolve x rest z es e w f h) = rw h i
  acted d new i (act.SendsBroken x rest reason e f h) = rw h i
  acted d new i (act.PromiseGoes p to w e f h) = rw h i
  acted d new i (act.OutcomeGoes o x v w e f j z l h) = rw h i
  acted d new i (act.ImportGoes z x w e f h) = rw h i
  acted d new i (act.Sweeps over e f j h) = rw h i
  acted d new i (act.SendsFinish q x rest e f j z l h) = rw h i
  acted d new i (act.Closes q x rest e f j z l h) = rw h i
  acted d new i (act.Releases w e f h) = rw h i

module _ (s : State) (o : ObjectId) where
  abbrev its : Reference
  its = record { head = node.Object o; embargo = None; made = 0 }

  abbrev after : Map Reference
  after = map.insert s.refs s.next_ref its

  same_object : (x : ObjectId) → command.Host o ≡ command.Host x → x ≡ o
  same_object x e = cc

  started : (g : Granted) (new : Moment) → Starts (beginning s) (command.Host o) g new → Quiet after new
  started g new (first.Hosts x e a h) =
      rw h (refl, refl, refl, refl, refl, ap (λ (y : ObjectId). map.insert s.refs s.next_ref (record { head = node.Object y; embargo = None; made = 0 })) (same_object x e))
  started g new (first.Clones r x e f a h) = absurd cc
  started g new (first.Drops r x e f a h) = absurd cc
  started g new (first.AsksRoot q e f a h) = absurd cc
  started g new (first.CallsOut k x q t ds es e f j w l m a h) = absurd cc
  started g new (first.CallsHere k x q e f j w l a h) = absurd cc
  started g new (first.CallsLater k x q z b e f j l m a h) = absurd cc
  started g new (first.NamesField k path from e f a h) = absurd cc
  started g new (first.Promises p e f a h) = absurd cc
  started g new (first.Fixes p r x key calls e f j k a h) = absurd cc
  started g new (first.Rejects p why key calls e f j a h) = absurd cc
  started g new (first.Answers t payload refs q e f a h) = absurd cc
  started g new (first.Fails t why q e f a h) = absurd cc
  started g new (first.Finishes k from e f a h) = absurd cc
  started g new (first.StaysPut r x e f a h) = absurd cc
  started g new (first.Breaks r x reason e f j k a h) = absurd cc
  started g new (first.Switches r x by n e f j k l m a h) = absurd cc
  started g new (first.Turns r x by n t z e f j k l m u v a h) = absurd cc

  pub hosted : (g : Granted) (x : Effects) (t : State) → Does s (command.Host o) g x t → IsAmong (node.Object o) (places t)
  hosted g x t h =
      let k = done (Quiet after) s (command.Host o) g x t (started g) (acted after) h in
      let e : t.refs ≡ after = at_end (λ (u : State) (y : Effects). u.refs ≡ after) k.last x t k.ends (let q = k.holds in q.5) in
      let there : map.get t.refs s.next_ref ≡ Some its = ap (λ (m : Map Reference). map.get m s.next_ref) e ∙ get-insert_same s.refs s.next_ref its in
      in_refs t (node.Object o) (named named_by_reference s.next_ref its (node.Object o) t.refs there (inl refl))
