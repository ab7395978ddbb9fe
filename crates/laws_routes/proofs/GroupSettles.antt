-- What a side keeps as a group of open points settles.
use Rattle.std.proofs.Common.{◌≡◌, inl, inr, ℕ, ◌≤◌, List, [], ◌∷◌, Option, None, Some, refl, sym, ap, subst, ◌∙◌}
use Rattle.finite_maps.specs.Tally.{Map}
use Rattle.rpc_msg.specs.declared.ids.Vat.{Vat}
use Rattle.rpc_msg.specs.declared.parts.Descriptor.{Descriptor}
use Rattle.rpc_msg.specs.declared.parts.Descriptor.TheVariants as descriptor
use Rattle.rpc_machine.specs.declared.node.Node.{Node}
use Rattle.rpc_machine.specs.declared.calls.WaitingCall.{WaitingCall}
use Rattle.rpc_machine.specs.declared.calls.HeldCall.{HeldCall}
use Rattle.rpc_machine.specs.declared.calls.KeptOutcome.{KeptOutcome}
use Rattle.rpc_machine.specs.declared.calls.Promise.{Promise}
use Rattle.rpc_machine.specs.declared.calls.Promise.TheVariants as promise
use Rattle.rpc_machine.specs.declared.calls.Value.{Value}
use Rattle.rpc_machine.specs.Advancing.{Known, NothingYet, IsBroken, Leads}
use Rattle.laws_order.specs.Machine.{Kind, Net, choose}
use Rattle.laws_order.specs.Machine as routing
use Rattle.laws_order.specs.Events.{Fate, place_of, kind_of, new_stop, new_kind, settled}
use Rattle.laws_order.proofs.Choices.{by_choice}
use Rattle.laws_routes.specs.Points.{Point, APromise, AField, Group, OfPromise, OfOutcome, group_of, routes}
use Rattle.laws_routes.specs.Ghosts.{Ghost, point, far}
use Rattle.laws_routes.specs.Sides.{IsFinal, SameEnd, IsLinked, LinkedTo, Queue, AllWait, AllHeld, PromiseWaits, HeldFor, OutcomeHolds, Ids}
use Rattle.laws_routes.specs.Sayings.{IsSaid, IsKnown}

module _ (n : Net routes) (g : Group) (fate : Point → Fate routes) where
  abbrev after : Net routes
  after = settled n g fate

  final_stop : (x : Point) (k : Kind routes) → IsFinal k → new_stop g fate x k ≡ x
  final_stop x routing.Object h = refl
  final_stop x routing.Open h = absurd h
  final_stop x (routing.Exit to) h = refl
  final_stop x routing.Broken h = refl

  final_kind : (x : Point) (k : Kind routes) → IsFinal k → new_kind g fate x k ≡ k
  final_kind x routing.Object h = refl
  final_kind x routing.Open h = absurd h
  final_kind x (routing.Exit to) h = refl
  final_kind x routing.Broken h = refl

  pub final_end : (x : Point) → IsFinal (n.kind (n.stop x)) → after.kind (after.stop x) ≡ n.kind (n.stop x)
  final_end x h = ap after.kind (final_stop (n.stop x) (n.kind (n.stop x)) h) ∙ final_kind (n.stop x) (n.kind (n.stop x)) h

  outside : (x : Point) (k : Kind routes) → (group_of x ≡ g → ⊥) → new_stop g fate x k ≡ x
  outside x routing.Object h = refl
  outside x routing.Open h = by_choice (λ z. z ≡ x) (routes.same_group (group_of x) g) (place_of x (fate x)) x (λ e. absurd (h e)) (λ e. refl)
  outside x (routing.Exit to) h = refl
  outside x routing.Broken h = refl

  pub kind_outside : (x : Point) (k : Kind routes) → (group_of x ≡ g → ⊥) → new_kind g fate x k ≡ k
  kind_outside x routing.Object h = refl
  kind_outside x routing.Open h = by_choice (λ z. z ≡ routing.Open) (routes.same_group (group_of x) g) (kind_of (fate x)) routing.Open (λ e. absurd (h e)) (λ e. refl)
  kind_outside x (routing.Exit to) h = refl
  kind_outside x routing.Broken h = refl

  pub keeps_at : (x y : Point) → n.stop x ≡ y → (group_of y ≡ g → ⊥) → after.stop x ≡ y
  keeps_at x y e h = ap (λ z. new_stop g fate z (n.kind z)) e ∙ outside y (n.kind y) h

  pub same_after : (x y : Point) → SameEnd n x y → SameEnd after x y
  same_after x y (inl e) = inl (ap (λ z. new_stop g fate z (n.kind z)) e)
  same_after x y (inr h) =
      let e = final_end y h.1 in
      inr (final_end x (subst IsFinal (sym h.0) h.1) ∙ (h.0 ∙ sym e), subst IsFinal (sym e) h.1)

  pub linked_to_after : (x y : Point) (o : Option Point) → LinkedTo n x y o → LinkedTo after x y o
  linked_to_after x y None h = same_after x y h
  linked_to_after x y (Some w) h = final_end x (subst IsFinal (sym h) tt) ∙ h

  pub linked_after : (v : Vat) (f : Ghost) (k : Node) (o : Option Node) → (group_of (point v f k) ≡ g → ⊥) → IsLinked v f n k o → IsLinked v f after k o
  linked_after v f k None out h = (keeps_at (point v f k) (point v f k) h.0 out, kind_outside (point v f k) (n.kind (point v f k)) out ∙ h.1)
  linked_after v f k (Some to) out h = linked_to_after (point v f k) (point v f to) (far v f to) h

  pub ids_after : (u : Vat) (ps : Map Promise) (os : Map KeptOutcome) (pi oi : ℕ → ℕ) (next : ℕ) → ((i : ℕ) → next ≤ i → OfPromise u i ≡ g → ⊥) → ((i : ℕ) → next ≤ i → OfOutcome u i ≡ g → ⊥)
      → Ids u ps os pi oi n.stop n.kind next → Ids u ps os pi oi after.stop after.kind next
  ids_after u ps os pi oi next a b h = record {
    of_promises = h.of_promises;
    of_outcomes = h.of_outcomes;
    promises_differ = h.promises_differ;
    outcomes_differ = h.outcomes_differ;
    new_promises = λ i l. let k = h.new_promises i l in (keeps_at (APromise u i) (APromise u i) k.0 (a i l), kind_outside (APromise u i) (n.kind (APromise u i)) (a i l) ∙ k.1);
    new_outcomes = λ i path l. let k = h.new_outcomes i path l in (keeps_at (AField u i path) (AField u i path) k.0 (b i l), kind_outside (AField u i path) (n.kind (AField u i path)) (b i l) ∙ k.1);
  }

  pub waits_after : (x : Point) (cs : List WaitingCall) (ms : Queue) → (group_of x ≡ g → ⊥) → AllWait n.stop x cs ms → AllWait after.stop x cs ms
  waits_after x [] [] out h = tt
  waits_after x [] (m ∷ ms) out h = absurd h
  waits_after x (c ∷ cs) [] out h = absurd h
  waits_after x (c ∷ cs) (m ∷ ms) out h = let a = h.0 in ((keeps_at m.target x a.0 out, a.1, a.2), waits_after x cs ms out h.1)

  held_after : (u : Vat) (i : ℕ) (hs : List HeldCall) (ms : Queue) → (OfOutcome u i ≡ g → ⊥) → AllHeld n.stop u i hs ms → AllHeld after.stop u i hs ms
  held_after u i [] [] out h = tt
  held_after u i [] (m ∷ ms) out h = absurd h
  held_after u i (c ∷ cs) [] out h = absurd h
  held_after u i (c ∷ cs) (m ∷ ms) out h = let a = h.0 in ((keeps_at m.target (AField u i c.path) a.0 out, a.1, a.2), held_after u i cs ms out h.1)

  pub promise_after : (u : Vat) (i : ℕ) (q : Queue) (o : Option Promise) → (OfPromise u i ≡ g → ⊥) → PromiseWaits n.stop u i q o → PromiseWaits after.stop u i q o
  promise_after u i q None out h = tt
  promise_after u i q (Some (promise.Open calls)) out h = waits_after (APromise u i) calls q out h
  promise_after u i q (Some (promise.Fixed to)) out h = tt

  pub outcome_after : (u : Vat) (i : ℕ) (q : Queue) (o : Option KeptOutcome) → (OfOutcome u i ≡ g → ⊥) → OutcomeHolds n.stop u i q o → OutcomeHolds after.stop u i q o
  outcome_after u i q None out h = tt
  outcome_after u i q (Some x) out h = by x.value h
    where
      by : (o : Option Value) → HeldFor n.stop u i q x.waiting o → HeldFor after.stop u i q x.waiting o
      by None k = held_after u i x.waiting q out k
      by (Some z) k = tt

  pub breaks_after : (w : Point) → n.kind (n.stop w) ≡ routing.Broken → after.kind (after.stop w) ≡ routing.Broken
  breaks_after w h = final_end w (subst IsFinal (sym h) tt) ∙ h

  -- What was said of a wire is still so.
  pub said_after : (w : Point) (d : Descriptor) (to : Point) → IsSaid n w d to → IsSaid after w d to
  said_after w descriptor.None to h = final_end w (subst IsFinal (sym h) tt) ∙ h
  said_after w (descriptor.SenderHosted e) to h = (ap (λ z. new_stop g fate z (n.kind z)) h.0, h.1)
  said_after w (descriptor.SenderPromise e) to h = (ap (λ z. new_stop g fate z (n.kind z)) h.0, h.1)
  said_after w (descriptor.ReceiverHosted e) to h = final_end w (subst IsFinal (sym h) tt) ∙ h
  said_after w (descriptor.ReceiverAnswer q path) to h = final_end w (subst IsFinal (sym h) tt) ∙ h

  pub known_after : (v : Vat) (f : Ghost) (w : Point) (k : Known) → IsKnown v f n w k → IsKnown v f after w k
  known_after v f w NothingYet h = tt
  known_after v f w (IsBroken reason) h = final_end w (subst IsFinal (sym h) tt) ∙ h
  known_after v f w (Leads said to) h = said_after w said (point v f to) h
