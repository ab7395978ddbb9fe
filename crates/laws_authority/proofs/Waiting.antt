-- A call that waits has its outcome, which is not known.
use Rattle.std.proofs.Common.{◌≡◌, inl, inr, ℕ, ◌<◌, List, [], ◌∷◌, None, sym, ap, subst, ◌∙◌, arith}
use Rattle.std.specs.FinMap as map
use Rattle.finite_maps.proofs.Tallies.{tally-within}
use Rattle.finite_maps.proofs.Tested.{itself}
use Rattle.rpc_machine.specs.declared.node.Node.{Node}
use Rattle.rpc_machine.specs.declared.calls.WaitingCall.{WaitingCall}
use Rattle.rpc_machine.specs.declared.calls.HeldCall.{HeldCall}
use Rattle.rpc_machine.specs.declared.calls.Promise.TheVariants as promise
use Rattle.rpc_machine.specs.State.{State}
use Rattle.laws_nodes.specs.Ones.{one_if}
use Rattle.laws_nodes.specs.Sources.{is_key, calls_for, held_for, at_promise, at_outcome, at_embargo, sources, waits_for, HasOneSource}
use Rattle.laws_authority.specs.Reach.{IsIn, WaitsAt, AtPromise, ForField, UnderEmbargo}
use Rattle.laws_authority.proofs.Stepping.{WaitingHaveOutcomes}

calls_count : (c : WaitingCall) (cs : List WaitingCall) → IsIn c cs → 0 < calls_for c.outcome cs
calls_count c [] h = absurd h
calls_count c (d ∷ ds) (inl e) = let a : is_key c.outcome d.outcome ≡ 1 = ap (λ (w : WaitingCall). is_key c.outcome w.outcome) e ∙ one c.outcome in omega arith
  where
    one : (o : ℕ) → is_key o o ≡ 1
    one o = ap one_if (itself o)
calls_count c (d ∷ ds) (inr h) = let a = calls_count c ds h in omega arith

held_count : (x : HeldCall) (xs : List HeldCall) → IsIn x xs → 0 < held_for x.call.outcome xs
held_count x [] h = absurd h
held_count x (y ∷ ys) (inl e) = let a : is_key x.call.outcome y.call.outcome ≡ 1 = ap (λ (z : HeldCall). is_key x.call.outcome z.call.outcome) e ∙ one x.call.outcome in omega arith
  where
    one : (o : ℕ) → is_key o o ≡ 1
    one o = ap one_if (itself o)
held_count x (y ∷ ys) (inr h) = let a = held_count x ys h in omega arith

module _ (s : State) (one : HasOneSource s) where
  pub no_source : (o : ℕ) → map.get s.outcomes o ≡ None → sources o s ≡ 0
  no_source o e = sym (one.each o) ∙ ap waits_for e

  pub none_waits : (c : WaitingCall) (n : Node) → WaitsAt s c n → waits_for (map.get s.outcomes c.outcome) ≡ 0 → ⊥
  none_waits c _ (AtPromise p calls e h) f =
      let a = one.each c.outcome in
      let b = tally-within (at_promise c.outcome) s.promises p (promise.Open calls) e in
      let d = calls_count c calls h in
      absurd (omega arith)
  none_waits c _ (ForField o x y e h g) f =
      let a = one.each c.outcome in
      let b = tally-within (at_outcome c.outcome) s.outcomes o x e in
      let d : 0 < held_for c.outcome x.waiting = subst (λ (w : WaitingCall). 0 < held_for w.outcome x.waiting) g (held_count y x.waiting h) in
      absurd (omega arith)
  none_waits c _ (UnderEmbargo e b g h) f =
      let a = one.each c.outcome in
      let d = tally-within (at_embargo c.outcome) s.embargoes e b g in
      let k = calls_count c b.waiting h in
      absurd (omega arith)

  pub have_outcomes : WaitingHaveOutcomes s
  have_outcomes c n w f = none_waits c n w (ap waits_for f)
