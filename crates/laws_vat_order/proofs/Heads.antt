-- An embargo is of the node that is the head of its reference.
use Rattle.std.proofs.Common.{◌≡◌, ℕ, ◌+◌, Bool, true, false, nat_eq, List, [], ◌∷◌, ◌++◌, Option, None, Some, refl, sym, subst}
use Rattle.std.specs.Ordering.{nat_cmp}
use Rattle.std.specs.FinMap as map
use Rattle.finite_maps.specs.Tally.{Map}
use Rattle.finite_maps.proofs.Gets.{get-insert_same}
use Rattle.finite_maps.proofs.Tested.{itself, equal, at_put, at_cut}
use Rattle.rpc_msg.specs.declared.ids.EmbargoId.{EmbargoId}
use Rattle.rpc_msg.specs.declared.message.Message.{Message}
use Rattle.rpc_machine.specs.declared.node.Node.{Node}
use Rattle.rpc_machine.specs.declared.node.Node.TheVariants as node
use Rattle.rpc_machine.specs.declared.command.Command.{Command}
use Rattle.rpc_machine.specs.declared.command.Granted.{Granted}
use Rattle.rpc_machine.specs.declared.command.Effects.{Effects}
use Rattle.rpc_machine.specs.declared.entries.Reference.{Reference}
use Rattle.rpc_machine.specs.declared.entries.Embargo.{Embargo}
use Rattle.rpc_machine.specs.State.{State, start}
use Rattle.rpc_machine.specs.Down.{fallen}
use Rattle.rpc_machine.specs.Lists.{updated, update}
use Rattle.rpc_machine.specs.Messages.{unembargoed}
use Rattle.rpc_machine.specs.Progress.{with_refs, caps_of}
use Rattle.laws_acts.specs.Moments.{Moment, beginning}
use Rattle.laws_acts.specs.FirstActs.{Starts}
use Rattle.laws_acts.specs.FirstActs as first
use Rattle.laws_acts.specs.MessageActs.{Consumes}
use Rattle.laws_acts.specs.MessageActs as message
use Rattle.laws_acts.specs.SmallActs.{Act}
use Rattle.laws_acts.specs.SmallActs as act
use Rattle.laws_acts.proofs.EachStep.{IsLaw, of_each_step}
use Rattle.laws_steps.specs.NodesThere.{IsReached}
use Rattle.laws_steps.proofs.Kept.{in_each}

-- That embargo is there, is of the reference r, and of that node.
abbrev pub IsNode : ℕ → Node → Option Embargo → Type 0
IsNode r h None = ⊥
IsNode r h (Some b) = (b.reference.0 ≡ r) × (b.node ≡ h)

abbrev pub NodeIs : Map Embargo → ℕ → Node → Option EmbargoId → Type 0
NodeIs es r h None = Unit {0}
NodeIs es r h (Some e) = IsNode r h (map.get es e.0)

abbrev pub HeadIs : Map Embargo → ℕ → Option Reference → Type 0
HeadIs es r None = Unit {0}
HeadIs es r (Some x) = NodeIs es r x.head x.embargo

abbrev pub Heads : Map Reference → Map Embargo → Type 0
Heads rs es = (r : ℕ) → HeadIs es r (map.get rs r)

module _ (rs : Map Reference) (es : Map Embargo) (i : Heads rs es) where
  put_free : (r : ℕ) (x : Reference) → x.embargo ≡ None → Heads (map.insert rs r x) es
  put_free r x e = at_put (λ j o. HeadIs es j o) rs r x (subst (NodeIs es r x.head) (sym e) tt) (λ j g. i j)

  put_same : (r : ℕ) (x : Reference) (n : ℕ) → map.get rs r ≡ Some x → Heads (map.insert rs r (record x { made = n })) es
  put_same r x n e = at_put (λ j o. HeadIs es j o) rs r (record x { made = n }) (subst (HeadIs es r) e (i r)) (λ j g. i j)

  cut_head : (r : ℕ) → Heads (map.remove rs r) es
  cut_head r = at_cut (λ j o. HeadIs es j o) rs r tt (λ j g. i j)

-- The embargoes change, and each that was there says the same.
other_embargoes : (rs : Map Reference) (es us : Map Embargo) → ((r : ℕ) (h : Node) (e : ℕ) → IsNode r h (map.get es e) → IsNode r h (map.get us e)) → Heads rs es → Heads rs us
other_embargoes rs es us f i r = by (map.get rs r) (i r)
  where
    at : (h : Node) (e : Option EmbargoId) → NodeIs es r h e → NodeIs us r h e
    at h None k = tt
    at h (Some e) k = f r h e.0 k

    by : (o : Option Reference) → HeadIs es r o → HeadIs us r o
    by None k = tt
    by (Some x) k = at x.head x.embargo k

more_refs : (s : State) (ns : List Node) → Heads s.refs s.embargoes → Heads (with_refs s ns).refs s.embargoes
more_refs s [] i = i
more_refs s (n ∷ ns) i = more_refs (record s { refs = map.insert s.refs s.next_ref (record { head = n; embargo = None; made = 0 }); next_ref = s.next_ref + 1 }) ns (put_free s.refs s.embargoes i s.next_ref (record { head = n; embargo = None; made = 0 }) refl)

abbrev Right : Moment → Type 0
Right d = Heads d.state.refs d.state.embargoes

acted : (d new : Moment) → Right d → Act d new → Right new
acted d new i (act.Delivers c n rest u e f h) = rw h (more_refs d.state c.request.caps i)
acted d new i (act.Reports c v from e f h) = rw h (more_refs d.state (caps_of v) i)
acted d new i (act.Waits c n rest p calls e f j h) = rw h i
acted d new i (act.Holds c n rest u path x e f j h) = rw h i
acted d new i (act.Relays c n rest q t ds es e f j k h) = rw h i
acted d new i (act.Breaks c n rest reason e f h) = rw h i
acted d new i (act.NextArisen u v rest e f h) = rw h i
acted d new i (act.Knows u v fit x ps e f j k h) = rw h i
acted d new i (act.TellsNobody c v e f h) = rw h i
acted d new i (act.MakesReturn q v x b ds es e f j k h) = rw h i
acted d new i (act.SendsReturn x y e f j h) = rw h i
acted d new i (act.Clears x e f h) = rw h i
acted d new i (act.Lists x e h) = rw h i
acted d new i (act.SendsResolve x rest k es e w f h) = rw h i
acted d new i (act.SendsBroken x rest reason e f h) = rw h i
acted d new i (act.PromiseGoes p to w e f h) = rw h i
acted d new i (act.OutcomeGoes u x v w e f j k l h) = rw h i
acted d new i (act.ImportGoes k x w e f h) = rw h i
acted d new i (act.Sweeps over e f j h) = rw h i
acted d new i (act.SendsFinish q x rest e f j k l h) = rw h i
acted d new i (act.Closes q x rest e f j k l h) = rw h i
acted d new i (act.Releases w e f h) = rw h i

-- A reference turns back, under a new embargo.
turned : (rs : Map Reference) (es : Map Embargo) (r e : ℕ) (x : Reference) (n : Node) → map.get es e ≡ None → Heads rs es → Heads (map.insert rs r (record { head = n; embargo = Some (record { 0 = e }); made = x.made })) (map.insert es e (record { reference = record { 0 = r }; node = n; waiting = [] }))
turned rs es r e x n f i =
    let b : Embargo = record { reference = record { 0 = r }; node = n; waiting = [] } in
    at_put (λ j o. HeadIs (map.insert es e b) j o) rs r (record { head = n; embargo = Some (record { 0 = e }); made = x.made })
    (subst (IsNode r n) (sym (get-insert_same es e b)) (refl, refl))
    (λ j g. other_embargoes rs es (map.insert es e b) (λ q h k. at_put (λ z o. IsNode q h (map.get es z) → IsNode q h o) es e b (λ w. absurd (subst (IsNode q h) f w)) (λ z w y. y) k) i j)

started : (s : State) (c : Command) (g : Granted) (new : Moment) → Right (beginning s) → Starts (beginning s) c g new → Right new
started s c g new i (first.Hosts u e a h) = rw h (put_free s.refs s.embargoes i s.next_ref (record { head = node.Object u; embargo = None; made = 0 }) refl)
started s c g new i (first.Clones r x e f a h) = rw h (put_free s.refs s.embargoes i s.next_ref (record { head = x.head; embargo = None; made = 0 }) refl)
started s c g new i (first.Drops r x e f a h) = rw h (cut_head s.refs s.embargoes i r.0)
started s c g new i (first.AsksRoot q e f a h) = rw h i
started s c g new i (first.CallsOut k x q t ds es e f j w l m a h) = rw h (put_same s.refs s.embargoes i k.reference.0 x (x.made + 1) f)
started s c g new i (first.CallsHere k x u e f j w l a h) = rw h (put_same s.refs s.embargoes i k.reference.0 x (x.made + 1) f)
started s c g new i (first.CallsLater k x u z b e f j l m a h) =
    let call = first.waiting_call s k x u in
    rw h (other_embargoes (map.insert s.refs k.reference.0 (record x { made = x.made + 1 })) s.embargoes (map.insert s.embargoes z.0 (record b { waiting = b.waiting ++ call ∷ [] }))
    (λ r n q. at_put (λ j o. IsNode r n (map.get s.embargoes j) → IsNode r n o) s.embargoes z.0 (record b { waiting = b.waiting ++ call ∷ [] }) (λ w. subst (IsNode r n) l w) (λ j g w. w) q)
    (put_same s.refs s.embargoes i k.reference.0 x (x.made + 1) f))
started s c g new i (first.NamesField k path from e f a h) = rw h (put_free s.refs s.embargoes i s.next_ref _ refl)
started s c g new i (first.Promises p e f a h) = rw h (put_free s.refs s.embargoes i s.next_ref (record { head = node.Promise p; embargo = None; made = 0 }) refl)
started s c g new i (first.Fixes p r x key calls e f j k a h) = rw h i
started s c g new i (first.Rejects p why key calls e f j a h) = rw h i
started s c g new i (first.Answers t payload refs u e f a h) = rw h i
started s c g new i (first.Fails t why u e f a h) = rw h i
started s c g new i (first.Finishes k from e f a h) = rw h i
started s c g new i (first.StaysPut r x e f a h) = rw h i
started s c g new i (first.Breaks r x reason e f j k a h) = rw h (put_free s.refs s.embargoes i r.0 (record x { head = node.Broken reason }) j)
started s c g new i (first.Switches r x by n e f j k l m a h) = rw h (put_free s.refs s.embargoes i r.0 (record x { head = n }) j)
started s c g new i (first.Turns r x by n t k e f j l m w u v a h) = rw h (turned s.refs s.embargoes r.0 k x n v i)

-- An embargo is lifted: it was its reference's alone.
lifted : (rs : Map Reference) (es : Map Embargo) (e : ℕ) (b : Embargo) → map.get es e ≡ Some b → Heads rs es → Heads (update rs b.reference.0 unembargoed) (map.remove es e)
lifted rs es e b f i r = by (map.get rs b.reference.0) refl
  where
    -- another reference has another embargo
    other : (h : Node) (k : Option EmbargoId) → nat_eq r b.reference.0 ≡ false → NodeIs es r h k → NodeIs (map.remove es e) r h k
    other h None g w = tt
    other h (Some k) g w =
        at_cut (λ j o. IsNode r h (map.get es j) → IsNode r h o) es e
        (λ y. absurd (let z : IsNode r h (Some b) = subst (IsNode r h) f y in let q : nat_eq r r ≡ false = subst (λ (m : ℕ). nat_eq r m ≡ false) z.0 g in let p = itself r in cc))
        (λ j q y. y) k.0 w

    others : (o : Option Reference) → nat_eq r b.reference.0 ≡ false → HeadIs es r o → HeadIs (map.remove es e) r o
    others None g w = tt
    others (Some x) g w = other x.head x.embargo g w

    by : (o : Option Reference) → map.get rs b.reference.0 ≡ o → HeadIs (map.remove es e) r (map.get (updated rs b.reference.0 unembargoed o) r)
    by None g = at (nat_eq r b.reference.0) refl
      where
        at : (c : Bool) → nat_eq r b.reference.0 ≡ c → HeadIs (map.remove es e) r (map.get rs r)
        at true k = subst (HeadIs (map.remove es e) r) (sym (subst (λ (m : ℕ). map.get rs m ≡ None) (sym (equal r b.reference.0 k)) g)) tt
        at false k = others (map.get rs r) k (i r)
    by (Some x) g = at_put (λ j o. j ≡ r → HeadIs (map.remove es e) r o) rs b.reference.0 (unembargoed x) (λ j. tt) (λ j q k. subst (λ (m : ℕ). HeadIs (map.remove es e) r (map.get rs m)) (sym k) (others (map.get rs r) (subst (λ (m : ℕ). nat_eq m b.reference.0 ≡ false) k q) (i r))) r refl

consumed : (s : State) (m : Message) (new : Moment) → Right (beginning s) → Consumes (beginning s) m new → Right new
consumed s m new i (message.OpensRoot q u e f j h) = rw h i
consumed s m new i (message.OpensCall c u e f j h) = rw h i
consumed s m new i (message.Loses b x e f j k h) = rw h i
consumed s m new i (message.ComesToCall b x c e f j k l h) = rw h i
consumed s m new i (message.ComesToRelay b x u e f j k l h) = rw h i
consumed s m new i (message.IsFinished x y e f j h) = rw h i
consumed s m new i (message.IsResolved r e h) = rw h i
consumed s m new i (message.IsReleased r e h) = rw h i
consumed s m new i (message.SendsBack t to x e f h) = rw h i
consumed s m new i (message.Lifts t x b e f h) = rw h (lifted s.refs s.embargoes x.0 b f i)
consumed s m new i (message.SendsForeign p e f h) = rw h i
consumed s m new i (message.SendsOther n e h) = rw h i
consumed s m new i (message.TakesBack r e h) = rw h i
consumed s m new i (message.Ignores r e h) = rw h i

abbrev Keeps : State → Effects → State → Type 0
Keeps s x t = Heads s.refs s.embargoes → Heads t.refs t.embargoes

none : (s : State) → s.refs ≡ map.empty → Heads s.refs s.embargoes
none s e r = subst (λ (m : Map Reference). HeadIs s.embargoes r (map.get m r)) (sym e) (subst (HeadIs s.embargoes r) (sym (map.get-empty nat_cmp r)) tt)

law : IsLaw (λ s d. Heads s.refs s.embargoes → Right d) Keeps
law = record {
  starts = λ s c g new f h i. started s c g new i h;
  consumes = λ s m new f h i. consumed s m new i h;
  act = λ s d new k h i. acted d new (k i) h;
  ends = λ s last x t k h i. rw h.state (k i);
  stays = λ s i. i;
  falls = λ s n x i. none (fallen s n) refl;
}

pub heads : (s : State) → IsReached s → Heads s.refs s.embargoes
heads = in_each (record { starts = λ v l b. none (start v l b) refl; steps = of_each_step law; falls = λ s n. none (fallen s n) refl })
