-- Where what is settled says the same, and what places name is there, a node leads where it led.
use Rattle.std.proofs.Common.{◌≡◌, ◌⊎◌, inl, inr, ℕ, zero, suc, false, IsSome, List, [], ◌∷◌, Option, None, Some, unwrap_or, refl, sym, ap, subst, ◌∙◌}
use Rattle.std.specs.FinMap as map
use Rattle.laws_acts.specs.rpc_msg.specs.CapAt.{CapAt}
use Rattle.laws_acts.specs.rpc_msg.specs.CapAt.TheVariants.{Cap, Null, NotCap}
use Rattle.laws_acts.specs.rpc_machine.specs.Payloads.{cap_at}
use Rattle.laws_acts.specs.rpc_machine.specs.declared.node.Node.{Node}
use Rattle.laws_acts.specs.rpc_machine.specs.declared.node.Node.TheVariants as node
use Rattle.laws_acts.specs.rpc_machine.specs.declared.calls.Promise.{Promise}
use Rattle.laws_acts.specs.rpc_machine.specs.declared.calls.Promise.TheVariants as promise
use Rattle.laws_acts.specs.rpc_machine.specs.declared.calls.Value.{Value}
use Rattle.laws_acts.specs.rpc_machine.specs.declared.calls.Value.TheVariants as value
use Rattle.laws_acts.specs.rpc_machine.specs.declared.calls.KeptOutcome.{KeptOutcome}
use Rattle.laws_acts.specs.rpc_machine.specs.declared.command.Effects.{Effects}
use Rattle.laws_acts.specs.rpc_machine.specs.State.{State}
use Rattle.laws_acts.specs.rpc_machine.specs.Nodes.{node_of_cap, field_of, promise_link, value_of, field_link, link, settle, is_open}
use Rattle.laws_acts.specs.rpc_machine.specs.Places.{named_by_promise, named_by_value, named_by_held, named_by_outcome}
use Rattle.laws_acts.specs.rpc_machine.specs.Laws.{Stops, SettlesWhereItLeads}
use Rattle.laws_acts.specs.rpc_machine.proofs.Settles.{settles_here}
use Rattle.laws_acts.specs.rpc_machine.proofs.Following.{holds_where_it_settles, stops_where_it_settles}
use Rattle.laws_steps.specs.Settled.{SaysTheSame, IsThere, IsAmong, AreThere}
use Rattle.laws_steps.proofs.Among.{among_left, named, in_promises, in_outcomes}

-- ---- Nodes that stop

no_link : (s : State) (n : Node) → is_open n ≡ false → link s n ≡ None
no_link s (node.Object o) h = refl
no_link s (node.Promise p) h = cc
no_link s (node.Field o path) h = cc
no_link s (node.Import e) h = refl
no_link s (node.Pipe q path) h = refl
no_link s (node.Broken reason) h = refl

-- ---- Where it leads

not_none : {X A : Type 0} {o : Option X} → o ≡ None → IsSome o → A
not_none e h = cc

cap_there : (t : State) (cs : List Node) (a : CapAt) → ((n : Node) → IsAmong n cs → IsThere t n) → IsThere t (node_of_cap cs a)
cap_there t cs Null h = tt
cap_there t cs NotCap h = tt
cap_there t cs (Cap i) h = at cs i h
  where
    at : (cs : List Node) (i : ℕ) → ((n : Node) → IsAmong n cs → IsThere t n) → IsThere t (node_of_cap cs (Cap i))
    at [] i h = tt
    at (c ∷ cs) zero h = h c (inl refl)
    at (c ∷ cs) (suc i) h = at cs i (λ n j. h n (inr j))

-- What a link leads to is named.
module _ (t : State) (there : AreThere t) where
  linked_there : (n m : Node) → link t n ≡ Some m → IsThere t m
  linked_there (node.Object o) m e = cc
  linked_there (node.Promise p) m e = by (map.get t.promises p) refl e
    where
      by : (o : Option Promise) → map.get t.promises p ≡ o → promise_link o ≡ Some m → IsThere t m
      by None f g = cc
      by (Some (promise.Open calls)) f g = cc
      by (Some (promise.Fixed to)) f g = let j : to ≡ m = cc in subst (IsThere t) j (there to (in_promises t to (named named_by_promise p (promise.Fixed to) to t.promises f (inl refl))))
  linked_there (node.Field o path) m e = by (map.get t.outcomes o) refl e
    where
      known : (y : KeptOutcome) → map.get t.outcomes o ≡ Some y → (v : Option Value) → y.value ≡ v → field_link path v ≡ Some m → IsThere t m
      known y f None j g = cc
      known y f (Some (value.Results payload caps)) j g =
          let i : node_of_cap caps (cap_at payload path) ≡ m = cc in
          subst (IsThere t) i (cap_there t caps (cap_at payload path) (λ n a. there n (in_outcomes t n (named named_by_outcome o y n t.outcomes f (among_left n (named_by_value y.value) (named_by_held y.waiting) (subst (λ (u : Option Value). IsAmong n (named_by_value u)) (sym j) a))))))
      known y f (Some (value.Exception exception)) j g =
          let i : field_of (value.Exception exception) path ≡ m = cc in
          subst (IsThere t) i tt

      by : (y : Option KeptOutcome) → map.get t.outcomes o ≡ y → field_link path (value_of y) ≡ Some m → IsThere t m
      by None f g = cc
      by (Some y) f g = known y f y.value refl g
  linked_there (node.Import k) m e = cc
  linked_there (node.Pipe q path) m e = cc
  linked_there (node.Broken reason) m e = cc

-- So a node that is there settles at one that is there.
pub there_where_it_settles : (t : State) → AreThere t → (n : Node) → IsThere t n → IsThere t (settle t n)
there_where_it_settles t there n h = holds_where_it_settles (IsThere t) t (λ m i. by m i (link t m) refl) n h
  where
    by : (m : Node) → IsThere t m → (o : Option Node) → link t m ≡ o → IsThere t (unwrap_or o m)
    by m i None e = i
    by m i (Some k) e = linked_there t there m k e

module _ (law : SettlesWhereItLeads) (s : State) (x : Effects) (t : State) (says : SaysTheSame s x t) (there : AreThere t) where
  same_link : (n m : Node) → IsThere t n → link s n ≡ Some m → link t n ≡ Some m
  same_link (node.Object o) m i e = cc
  same_link (node.Promise p) m i e = by (map.get s.promises p) refl e
    where
      stands : (to : Node) → to ≡ m → (map.get t.promises p ≡ None) ⊎ (map.get t.promises p ≡ Some (promise.Fixed to)) → promise_link (map.get t.promises p) ≡ Some m
      stands to f (inl g) = not_none g i
      stands to f (inr g) = ap promise_link g ∙ ap Some f

      by : (o : Option Promise) → map.get s.promises p ≡ o → promise_link o ≡ Some m → promise_link (map.get t.promises p) ≡ Some m
      by None f g = cc
      by (Some (promise.Open calls)) f g = cc
      by (Some (promise.Fixed to)) f g = let j : to ≡ m = cc in stands to j (says.promises p to f)
  same_link (node.Field o path) m i e = by (value_of (map.get s.outcomes o)) refl e
    where
      stands : (v : Value) → field_link path (Some v) ≡ Some m → (map.get t.outcomes o ≡ None) ⊎ (value_of (map.get t.outcomes o) ≡ Some v) → field_link path (value_of (map.get t.outcomes o)) ≡ Some m
      stands v f (inl g) = not_none g i
      stands v f (inr g) = ap (field_link path) g ∙ f

      by : (v : Option Value) → value_of (map.get s.outcomes o) ≡ v → field_link path v ≡ Some m → field_link path (value_of (map.get t.outcomes o)) ≡ Some m
      by None f g = cc
      by (Some v) f g = stands v g (says.outcomes o v f)
  same_link (node.Import k) m i e = cc
  same_link (node.Pipe q path) m i e = cc
  same_link (node.Broken reason) m i e = cc

  leads : (d e : ℕ) (n : Node) → IsThere t n → Stops s d n → Stops t e (settle s n) → (settle t n ≡ settle t (settle s n)) × ((j : ℕ) × Stops t j n)
  leads zero e n i h k =
      let f = settles_here s n h in
      (ap (settle t) (sym f), (e, subst (Stops t e) f k))
  leads (suc d) e n i h k =
      let m = h.0 in
      let there_link : link t n ≡ Some m = same_link n m i h.1 in
      let f : settle s n ≡ settle s m = law.follows s d n m h.1 h.2 in
      let r = leads d e m (linked_there t there n m there_link) h.2 (subst (Stops t e) f k) in
      let j = r.1 in
      (law.follows t j.0 n m there_link j.1 ∙ r.0 ∙ ap (settle t) (sym f), (suc j.0, (m, there_link, j.1)))

  pub leads_on : (n : Node) (d e : ℕ) → IsThere t n → Stops s d n → Stops t e (settle s n) → settle t n ≡ settle t (settle s n)
  leads_on n d e i h k = let r = leads d e n i h k in r.0

  pub stays_settled : (n : Node) → IsThere t n → is_open (settle s n) ≡ false → settle t n ≡ settle s n
  stays_settled n i h =
      let a = stops_where_it_settles s n (no_link s (settle s n) h) in
      let b = no_link t (settle s n) h in
      leads_on n a.0 0 i a.1 b ∙ settles_here t (settle s n) b
