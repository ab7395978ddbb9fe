-- A call that is delivered at once, or breaks at once, gives nothing away: what it carries goes to the application.
use Rattle.std.proofs.Common.{◌≡◌, ◌⊎◌, inl, inr, ℕ, ◌+◌, Bool, true, false, ◌||◌, is_some, List, [], ◌∷◌, None, Some, IsSome, refl, sym, ap, subst, ◌∙◌, arith}
use Rattle.std.specs.FinMap as map
use Rattle.rpc_machine.specs.declared.node.Node.{Node}
use Rattle.rpc_machine.specs.declared.node.Node.TheVariants as node
use Rattle.rpc_machine.specs.declared.calls.WaitingCall.{WaitingCall}
use Rattle.rpc_machine.specs.State.{State}
use Rattle.rpc_machine.specs.Nodes.{settle}
use Rattle.rpc_machine.specs.Advancing.{wire_target}
use Rattle.rpc_machine.specs.declared.calls.Value.{Value}
use Rattle.rpc_machine.specs.declared.calls.Caller.{Caller}
use Rattle.rpc_machine.specs.declared.entries.Question.{Question}
use Rattle.rpc_machine.specs.declared.command.Effects.{Effects}
use Rattle.laws_acts.specs.Moments.{Owing, Moment, at_rest, progress}
use Rattle.laws_acts.specs.SmallActs.{Act, Acts, NoMore, Then, IsEnd, delivery}
use Rattle.laws_acts.specs.SmallActs as act
use Rattle.laws_authority.specs.Grants.{takes_at_once}
use Rattle.laws_authority.proofs.Covers.{ClearingIn, YetIn, ArisenIn, TellingIn, OwedIn, OwesIn, DeliveryIn, Covered}
use Rattle.laws_authority.proofs.Going.{Cover, arisen-append}
use Rattle.laws_authority.proofs.Acting.{Holds, acted, still_delivered, delivered-append, same_task, new_task}

module _ (wide : Bool) (K : ℕ → Type 0) (A : Node → Type 0) where
  -- One call of the application is about to be routed, and nothing else is owed. It will be delivered, or break, at once.
  pub record Leaving (d : Moment) : Type 0 where
    pub call : WaitingCall
    pub to : Node
    pub rest : d ≡ record (at_rest (progress d)) { yet = (call, to) ∷ [] }
    pub done : takes_at_once (settle d.state to) ≡ true
    pub own : K call.outcome → ⊥
    pub covered : Covered wide K (Cover A []) (at_rest (progress d))

  abbrev pub Still : Moment → Type 0
  Still d = Holds wide K A d ⊎ Leaving d

  module _ (d : Moment) (i : Leaving d) where
    no_yet : d.yet ≡ [] → ⊥
    no_yet e = let f : (i.call, i.to) ∷ [] ≡ [] = sym (ap (λ (m : Moment). m.yet) i.rest) ∙ e in cc

    the_call : (c : WaitingCall) (n : Node) (rest : List (WaitingCall × Node)) → d.yet ≡ (c, n) ∷ rest → (i.call ≡ c) × (i.to ≡ n) × (rest ≡ [])
    the_call c n rest e = let f : (i.call, i.to) ∷ [] ≡ (c, n) ∷ rest = sym (ap (λ (m : Moment). m.yet) i.rest) ∙ e in let g : (i.call, i.to) ≡ (c, n) = cc in (ap (λ (p : WaitingCall × Node). p.0) g, ap (λ (p : WaitingCall × Node). p.1) g, cc)

    goes_to : (c : WaitingCall) (n : Node) (rest : List (WaitingCall × Node)) (m : Node) → d.yet ≡ (c, n) ∷ rest → settle d.state n ≡ m → takes_at_once m ≡ true
    goes_to c n rest m e f = let g = the_call c n rest e in ap takes_at_once (sym f) ∙ subst (λ (k : Node). takes_at_once (settle d.state k) ≡ true) g.1 i.done

    no_wire : (n : Node) → takes_at_once n ≡ true → wire_target n ≡ None
    no_wire (node.Object o) e = refl
    no_wire (node.Promise p) e = refl
    no_wire (node.Field o path) e = refl
    no_wire (node.Import k) e = absurd (let f : false ≡ true = e in cc)
    no_wire (node.Pipe q path) e = absurd (let f : false ≡ true = e in cc)
    no_wire (node.Broken reason) e = refl

    not_collecting : is_some d.saying || d.swept ≡ true → ⊥
    not_collecting e = let f : false ≡ true = sym (ap (λ (m : Moment). is_some m.saying || m.swept) i.rest) ∙ e in cc

    no_telling : (x : Caller × Value) (xs : List (Caller × Value)) → d.telling ≡ x ∷ xs → ⊥
    no_telling x xs e = let f : [] ≡ x ∷ xs = sym (ap (λ (m : Moment). m.telling) i.rest) ∙ e in cc

    no_owed : (x : Owing) (xs : List Owing) → d.owed ≡ x ∷ xs → ⊥
    no_owed x xs e = let f : [] ≡ x ∷ xs = sym (ap (λ (m : Moment). m.owed) i.rest) ∙ e in cc

    no_over : (x : ℕ × Question) (xs : List (ℕ × Question)) → d.over ≡ x ∷ xs → ⊥
    no_over x xs e = let f : [] ≡ x ∷ xs = sym (ap (λ (m : Moment). m.over) i.rest) ∙ e in cc

    owes : (ys : List (WaitingCall × Node)) → ys ≡ [] → OwesIn wide K (Cover A []) (record d { yet = ys })
    owes ys e = (
      subst (ClearingIn wide K (Cover A [])) (sym (ap (λ (m : Moment). m.clearing) i.rest)) tt,
      subst (YetIn wide K (Cover A [])) (sym e) tt,
      (let b = i.covered in b.1.2),
      subst (ArisenIn wide K (Cover A [])) (sym (ap (λ (m : Moment). m.coming) i.rest)) tt,
      subst (TellingIn wide K (Cover A [])) (sym (ap (λ (m : Moment). m.telling) i.rest)) tt,
      subst (OwedIn wide K (Cover A [])) (sym (ap (λ (m : Moment). m.owed) i.rest)) tt,
    )

    left : (new : Moment) → Act d new → Still new
    left new (act.Delivers c n rest o e f h) =
        let g = the_call c n rest e in
        let b = i.covered in
        let this : DeliveryIn wide K (Cover A []) (map.insert d.state.tasks d.state.next_task c.outcome) (d.state.next_task + 1) (delivery d.state c o) =
        (omega arith, λ u k a. absurd (i.own (subst (λ (w : WaitingCall). K w.outcome) (sym g.0) (subst K (sym (same_task wide K A [] d.state.tasks d.state.next_task c.outcome u k)) a))), subst IsSome (sym (new_task wide K A [] d.state.tasks d.state.next_task c.outcome)) refl) in
        inl (record {
          ps = [];
          covered = rw h (b.0, owes rest g.2, delivered-append wide K A [] _ (d.state.next_task + 1) d.effects.deliveries (delivery d.state c o) (still_delivered wide K A [] d.state.tasks d.state.next_task c.outcome d.effects.deliveries b.2) this);
        })
    left new (act.Breaks c n rest reason e f h) =
        let g = the_call c n rest e in
        let b = i.covered in
        let o = owes rest g.2 in
        inl (record { ps = []; covered = rw h (b.0, (o.0, o.1, arisen-append wide K (Cover A []) d.arisen _ o.2 (λ path a. tt, tt), o.3, o.4, o.5), b.2) })
    left new (act.Waits c n rest p calls e f j h) = absurd (let k : false ≡ true = goes_to c n rest (node.Promise p) e f in cc)
    left new (act.Holds c n rest o path x e f j h) = absurd (let k : false ≡ true = goes_to c n rest (node.Field o path) e f in cc)
    left new (act.Relays c n rest q t ds es e f j k h) = absurd (let z : None ≡ Some t = sym (no_wire (settle d.state n) (goes_to c n rest (settle d.state n) e refl)) ∙ f in cc)
    left new (act.NextArisen o v rest e f h) = absurd (no_yet (ap (λ (m : Moment). m.yet) e))
    left new (act.Knows o v fit x qs e f j k h) = absurd (no_yet (ap (λ (m : Moment). m.yet) e))
    left new (act.Reports c v from e f h) = absurd (no_telling _ [] e)
    left new (act.TellsNobody c v e f h) = absurd (no_telling _ [] e)
    left new (act.MakesReturn q v a b ds es e f j k h) = absurd (no_telling _ [] e)
    left new (act.SendsReturn x a e f j h) = absurd (let z : None ≡ Some x = sym (ap (λ (m : Moment). m.saying) i.rest) ∙ e in cc)
    left new (act.Clears x e f h) = absurd (no_yet (ap (λ (m : Moment). m.yet) e))
    left new (act.Lists x e h) = absurd (no_yet (ap (λ (m : Moment). m.yet) e))
    left new (act.SendsResolve x rest z es e f g h) = absurd (no_owed x rest e)
    left new (act.SendsBroken x rest reason e f h) = absurd (no_owed x rest e)
    left new (act.PromiseGoes p to w e f h) = absurd (not_collecting w)
    left new (act.OutcomeGoes o x v w e f j k l h) = absurd (not_collecting w)
    left new (act.ImportGoes z x w e f h) = absurd (not_collecting w)
    left new (act.Sweeps over e f j h) = absurd (no_yet (ap (λ (m : Moment). m.yet) e))
    left new (act.SendsFinish q x rest e f j k l h) = absurd (no_over (q, x) rest e)
    left new (act.Closes q x rest e f j k l h) = absurd (no_over (q, x) rest e)
    left new (act.Releases w e f h) = absurd (let z : false ≡ true = sym (ap (λ (m : Moment). m.swept) i.rest) ∙ w in cc)

  still_acted : (d new : Moment) → Still d → Act d new → Still new
  still_acted d new (inl k) a = inl (acted wide K A d new k a)
  still_acted d new (inr i) a = left d i new a

  still_all : (last d : Moment) → Acts last d → Still d → Still last
  still_all last d NoMore k = k
  still_all last d (Then {mid = mid} a rest) k = still_all last mid rest (still_acted d mid k a)

  -- At the end of a step no call is about to be routed.
  pub at_last : (last d : Moment) (x : Effects) (t : State) → Acts last d → Still d → IsEnd last x t → Holds wide K A last
  at_last last d x t a k e = by (still_all last d a k)
    where
      by : Still last → Holds wide K A last
      by (inl h) = h
      by (inr i) = absurd (no_yet last i (ap (λ (m : Moment). m.yet) e.rest))
