-- Calls that the application makes: the line of a reference.
use Rattle.std.proofs.Common.{◌≡◌, ◌≢◌, ◌⊎◌, inl, inr, ℕ, ◌+◌, ◌≤◌, ◌<◌, Bool, true, false, nat_eq, nat_le, [], ◌∷◌, ◌++◌, Option, None, Some, IsSome, Result, refl, sym, ap, subst, ◌∙◌, arith}
use Rattle.std.specs.FinMap as map
use Rattle.finite_maps.specs.Tally.{Map}
use Rattle.finite_maps.proofs.Tested.{itself, equal, get_other, at_put, at_cut}
use Rattle.finite_maps.proofs.Gets.{get-insert_same}
use Rattle.rpc_msg.specs.declared.ids.EmbargoId.{EmbargoId}
use Rattle.rpc_msg.specs.declared.parts.Target.{Target}
use Rattle.rpc_msg.specs.declared.message.Message.{Message}
use Rattle.rpc_machine.specs.declared.node.Node.{Node}
use Rattle.rpc_machine.specs.declared.command.Command.{Command}
use Rattle.rpc_machine.specs.declared.command.Granted.{Granted}
use Rattle.rpc_machine.specs.declared.command.Refusal.{Refusal}
use Rattle.rpc_machine.specs.declared.command.Effects.{Effects}
use Rattle.rpc_machine.specs.declared.entries.Reference.{Reference}
use Rattle.rpc_machine.specs.declared.entries.Embargo.{Embargo}
use Rattle.rpc_machine.specs.State.{State}
use Rattle.rpc_machine.specs.Nodes.{settle}
use Rattle.rpc_machine.specs.Laws.{OfEachStep}
use Rattle.rpc_machine.specs.Lists.{updated, update}
use Rattle.rpc_machine.specs.Messages.{unembargoed}
use Rattle.rpc_machine.specs.Places.{named_by_reference}
use Rattle.rpc_machine.specs.Advancing.{Known, NothingYet, IsBroken, Leads, known_of_wire, wire_target}
use Rattle.rpc_machine.specs.Numbers.{want_of_room}
use Rattle.rpc_machine.specs.Refusals.{refused}
use Rattle.rpc_machine.specs.Faults.{fault_of}
use Rattle.rpc_machine.specs.Down.{ShutsFrom}
use Rattle.rpc_machine.specs.Steps.{Does, Handles, Obeys, Refuses, LacksMemory, GoesDown, Shuts, IsDone, Receives, WasDown, FaultsBy, LacksRoom, IsHandled}
use Rattle.laws_acts.specs.Moments.{Moment, beginning, each_to}
use Rattle.laws_acts.specs.FirstActs.{Starts, keeping, waiting_call}
use Rattle.laws_acts.specs.FirstActs as first
use Rattle.laws_acts.specs.MessageActs.{Consumes}
use Rattle.laws_acts.specs.MessageActs as message
use Rattle.laws_acts.specs.SmallActs.{HandlesActs}
use Rattle.laws_acts.proofs.Commanded.{does}
use Rattle.laws_acts.proofs.Received.{handles}
use Rattle.laws_steps.specs.Settled.{IsThere, AreThere, LeadsOn}
use Rattle.laws_steps.specs.NodesThere.{IsReached, Stays, Received}
use Rattle.laws_steps.proofs.Among.{named, in_refs}
use Rattle.laws_steps.proofs.Reached.{go_on, after_command, after_message}
use Rattle.laws_nodes.specs.Embargoes.{NamesIt}
use Rattle.laws_nodes.specs.Settling.{AllStop}
use Rattle.laws_nodes.proofs.Pairs.{are_paired}
use Rattle.laws_nodes.proofs.Acyclic.{each_stops, within}
use Rattle.laws_vat_order.specs.Lines.{Has, OfEmbargo, IsAt, ForPromise, ForFieldAt, times_waiting}
use Rattle.laws_vat_order.specs.Order.{Follows}
use Rattle.laws_vat_order.specs.Arriving.{OfCommand, OfMessage}
use Rattle.laws_vat_order.specs.Making.{InLineAt, InLineOf, IsInLine, StaysInLine}
use Rattle.laws_vat_order.proofs.Counting as counting
use Rattle.laws_vat_order.proofs.Lists.{has_more, YetHas, each_has, embargo_more}
use Rattle.laws_vat_order.proofs.Steps.{once, gone}
use Rattle.laws_vat_order.proofs.Tracking.{Tracked, Moved, InYet, Itself}
use Rattle.laws_vat_order.proofs.Following as following
use Rattle.laws_vat_order.proofs.Following.{ended}
use Rattle.laws_vat_order.proofs.Heads.{NodeIs, HeadIs, heads}
use Rattle.laws_vat_order.proofs.Staying.{SameRef, RefStays, one_ref, ref_kept, same_kept, tracked_kept}

-- ---- A reference that is there at the end

-- Its line then, by its head and its embargo.
pub in_line : (t : State) (r a : ℕ) (h : Node) (e : Option EmbargoId) → IsSome (map.get t.refs r) → SameRef h e (map.get t.refs r) → InLineAt t a h e → IsInLine t r a
in_line t r a h e i k l = by (map.get t.refs r) i k
  where
    by : (o : Option Reference) → IsSome o → SameRef h e o → InLineOf t a o
    by None i k = absurd (let z : false ≡ true = i in cc)
    by (Some x) i k = subst (λ (m : Node). InLineAt t a m x.embargo) (sym k.0) (subst (InLineAt t a h) (sym k.1) l)

pub head_there : (t : State) (r : ℕ) (h : Node) (e : Option EmbargoId) → AreThere t → IsSome (map.get t.refs r) → SameRef h e (map.get t.refs r) → IsThere t h
head_there t r h e there i k = by (map.get t.refs r) refl i k
  where
    by : (o : Option Reference) → map.get t.refs r ≡ o → IsSome o → SameRef h e o → IsThere t h
    by None f i k = absurd (let z : false ≡ true = i in cc)
    by (Some x) f i k = there h (subst (λ (m : Node). Rattle.laws_steps.specs.Settled.IsAmong m (Rattle.rpc_machine.specs.Places.places t)) k.0 (in_refs t x.head (named named_by_reference r x x.head t.refs f (inl refl))))

pub is_old : (s : State) (r : ℕ) (x : Reference) → IsReached s → map.get s.refs r ≡ Some x → r < s.next_ref
is_old s r x reached e = by (nat_le s.next_ref r) refl
  where
    by : (b : Bool) → nat_le s.next_ref r ≡ b → r < s.next_ref
    by false f = grind (arith)
    by true f = let g : s.next_ref ≤ r = grind (arith) in absurd (let bad : Some x ≡ None = sym e ∙ (are_paired s reached).fresh r g in cc)

-- Where a call waits, nothing is known of a wire.
not_known : {A : Type 0} (s : State) (a : ℕ) (m : Node) (k : Known) → k ≢ NothingYet → IsAt s a m → known_of_wire s m ≡ k → A
not_known s a _ k n (ForPromise p h) e = absurd (n (sym e))
not_known s a _ k n (ForFieldAt o path h) e = absurd (n (sym e))

pub no_target : {A : Type 0} (s : State) (a : ℕ) (m : Node) (t : Target) → IsAt s a m → wire_target m ≡ Some t → A
no_target s a _ t (ForPromise p h) e = absurd (let z : None ≡ Some t = e in cc)
no_target s a _ t (ForFieldAt o path h) e = absurd (let z : None ≡ Some t = e in cc)

-- ---- The first act, for a reference in whose line a call waits

module _ (s : State) (reached : IsReached s) (r a : ℕ) (x : Reference) (there : map.get s.refs r ≡ Some x) (here : InLineAt s a x.head x.embargo) where
  old : r < s.next_ref
  old = is_old s r x reached there

  stays : SameRef x.head x.embargo (map.get s.refs r)
  stays = subst (SameRef x.head x.embargo) (sym there) (refl, refl)

  abbrev EmbargoHas : Map Embargo → Type 0
  EmbargoHas es = (e : EmbargoId) → x.embargo ≡ Some e → OfEmbargo (Has a) (map.get es e.0)

  has : EmbargoHas s.embargoes
  has e f = subst (InLineAt s a x.head) f here

  abbrev Remains : Moment → Type 0
  Remains d = RefStays r x.head x.embargo d × EmbargoHas d.state.embargoes

  new_ref : (y : Reference) → SameRef x.head x.embargo (map.get (map.insert s.refs s.next_ref y) r) × (r < s.next_ref + 1)
  new_ref y = let l = old in (one_ref r x.head x.embargo s.refs s.next_ref y old stays, omega arith)

  counted_ref : (k : ℕ) (y : Reference) (n : ℕ) → map.get s.refs k ≡ Some y → SameRef x.head x.embargo (map.get (map.insert s.refs k (record y { made = n })) r)
  counted_ref k y n f = at_put (λ j o. SameRef x.head x.embargo (map.get s.refs j) → SameRef x.head x.embargo o) s.refs k (record y { made = n }) (λ w. subst (SameRef x.head x.embargo) f w) (λ j g w. w) r stays

  -- A reference that takes another head is another one.
  other_ref : (k : ℕ) (y z : Reference) → map.get s.refs k ≡ Some y → y.embargo ≡ None → (IsAt s a (settle s y.head) → ⊥) → SameRef x.head x.embargo (map.get (map.insert s.refs k z) r)
  other_ref k y z f g bad = by (nat_eq r k) refl
    where
      by : (b : Bool) → nat_eq r k ≡ b → SameRef x.head x.embargo (map.get (map.insert s.refs k z) r)
      by true e =
          let i : r ≡ k = equal r k e in
          let j : Some x ≡ Some y = sym there ∙ ap (map.get s.refs) i ∙ f in
          let w : x ≡ y = cc in
          absurd (bad (subst (InLineAt s a y.head) g (subst (λ (q : Reference). InLineAt s a q.head q.embargo) w here)))
      by false e = subst (SameRef x.head x.embargo) (sym (get_other s.refs k z r e)) stays

  begins_with : (c : Command) (g : Granted) (new : Moment) → Starts (beginning s) c g new → Remains new
  begins_with c g new (first.Hosts u e f h) = rw h (new_ref _, has)
  begins_with c g new (first.Clones k y e f i h) = rw h (new_ref _, has)
  begins_with c g new (first.Drops k y e f i h) = rw h ((at_cut (λ j o. SameRef x.head x.embargo (map.get s.refs j) → SameRef x.head x.embargo o) s.refs k.0 (λ w. tt) (λ j g w. w) r stays, old), has)
  begins_with c g new (first.AsksRoot q e f i h) = rw h ((stays, old), has)
  begins_with c g new (first.CallsOut k y q t ds es e f j w l m n h) = rw h ((counted_ref k.reference.0 y _ f, old), has)
  begins_with c g new (first.CallsHere k y u e f j w l m h) = rw h ((counted_ref k.reference.0 y _ f, old), has)
  begins_with c g new (first.CallsLater k y u z b e f j l m n h) =
      rw h ((counted_ref k.reference.0 y _ f, old), λ q p. embargo_more (Has a) s.embargoes z.0 b (record b { waiting = b.waiting ++ waiting_call s k y u ∷ [] }) l (has_more a (waiting_call s k y u) b.waiting) q.0 (has q p))
  begins_with c g new (first.NamesField k path from e f i h) = rw h (new_ref _, has)
  begins_with c g new (first.Promises p e f i h) = rw h (new_ref _, has)
  begins_with c g new (first.Fixes p k y key calls e f i j l h) = rw h ((stays, old), has)
  begins_with c g new (first.Rejects p why key calls e f i j h) = rw h ((stays, old), has)
  begins_with c g new (first.Answers t payload refs u e f i h) = rw h ((stays, old), has)
  begins_with c g new (first.Fails t why u e f i h) = rw h ((stays, old), has)
  begins_with c g new (first.Finishes k from e f i h) = rw h ((stays, old), has)
  begins_with c g new (first.StaysPut k y e f i h) = rw h ((stays, old), has)
  begins_with c g new (first.Breaks k y reason e f i j l h) = rw h ((other_ref k.0 y _ f i (λ w. not_known s a (settle s y.head) (IsBroken reason) (λ z. cc) w j), old), has)
  begins_with c g new (first.Switches k y by n e f i j l m o h) = rw h ((other_ref k.0 y _ f i (λ w. not_known s a (settle s y.head) (Leads by n) (λ z. cc) w j), old), has)
  begins_with c g new (first.Turns k y by n t z e f i j l m w u v h) =
      rw h ((other_ref k.0 y _ f i (λ w. not_known s a (settle s y.head) (Leads by n) (λ z. cc) w j), old), λ q p. at_put (λ j o. OfEmbargo (Has a) (map.get s.embargoes j) → OfEmbargo (Has a) o) s.embargoes z _ (λ w. absurd (subst (OfEmbargo (Has a)) u w)) (λ j g w. w) q.0 (has q p))

  -- ---- Messages

  -- Its embargo is lifted: the call is to be routed to the head.
  abbrev Lifted : Moment → Type 0
  Lifted d = RefStays r x.head None d × Tracked s a x.head d

  lifted_ref : (b : Embargo) → SameRef x.head None (map.get (update s.refs b.reference.0 unembargoed) r) ⊎ (nat_eq r b.reference.0 ≡ false)
  lifted_ref b = by (nat_eq r b.reference.0) refl
    where
      by : (c : Bool) → nat_eq r b.reference.0 ≡ c → SameRef x.head None (map.get (update s.refs b.reference.0 unembargoed) r) ⊎ (nat_eq r b.reference.0 ≡ false)
      by false e = inr e
      by true e =
          let i : b.reference.0 ≡ r = sym (equal r b.reference.0 e) in
          let f : map.get s.refs b.reference.0 ≡ Some x = ap (map.get s.refs) i ∙ there in
          inl (subst (λ (o : Option Reference). SameRef x.head None (map.get (updated s.refs b.reference.0 unembargoed o) r)) (sym f)
          (subst (λ (k : ℕ). SameRef x.head None (map.get (map.insert s.refs k (unembargoed x)) r)) (sym i)
          (subst (SameRef x.head None) (sym (get-insert_same s.refs r (unembargoed x))) (refl, refl))))

  -- Of another reference.
  other_lifted : (b : Embargo) → nat_eq r b.reference.0 ≡ false → SameRef x.head x.embargo (map.get (update s.refs b.reference.0 unembargoed) r)
  other_lifted b e = by (map.get s.refs b.reference.0)
    where
      by : (o : Option Reference) → SameRef x.head x.embargo (map.get (updated s.refs b.reference.0 unembargoed o) r)
      by None = stays
      by (Some y) = subst (SameRef x.head x.embargo) (sym (get_other s.refs b.reference.0 (unembargoed y) r e)) stays

  -- By its embargo: it has none; it has this; it has another.
  lifts : (z : EmbargoId) (b : Embargo) (new : Moment) → map.get s.embargoes z.0 ≡ Some b
      → new ≡ record (beginning s) {
        state = record s { refs = update s.refs b.reference.0 unembargoed; embargoes = map.remove s.embargoes z.0 };
        yet = each_to b.node b.waiting;
      }
      → counting.all_waiting a new ≤ 1 → Remains new ⊎ Lifted new
  lifts z b new f h one = by x.embargo refl
    where
      none : x.embargo ≡ None → SameRef x.head x.embargo (map.get (update s.refs b.reference.0 unembargoed) r)
      none e = at (lifted_ref b)
        where
          at : SameRef x.head None (map.get (update s.refs b.reference.0 unembargoed) r) ⊎ (nat_eq r b.reference.0 ≡ false) → SameRef x.head x.embargo (map.get (update s.refs b.reference.0 unembargoed) r)
          at (inl i) = subst (λ (o : Option EmbargoId). SameRef x.head o (map.get (update s.refs b.reference.0 unembargoed) r)) (sym e) i
          at (inr i) = other_lifted b i

      -- the embargo of the reference
      its : (e : EmbargoId) → x.embargo ≡ Some e → (b : Embargo) → map.get s.embargoes e.0 ≡ Some b → (b.reference.0 ≡ r) × (b.node ≡ x.head)
      its e g b f = subst (Rattle.laws_vat_order.proofs.Heads.IsNode r x.head) f (subst (NodeIs s.embargoes r x.head) g (subst (HeadIs s.embargoes r) there (heads s reached r)))

      -- another reference's
      not_its : (e : EmbargoId) → x.embargo ≡ Some e → nat_eq e.0 z.0 ≡ false → nat_eq r b.reference.0 ≡ false
      not_its e g n = at (nat_eq r b.reference.0) refl
        where
          at : (c : Bool) → nat_eq r b.reference.0 ≡ c → nat_eq r b.reference.0 ≡ false
          at false k = k
          at true k =
              let i : b.reference.0 ≡ r = sym (equal r b.reference.0 k) in
              let w : NamesIt z.0 (map.get s.refs b.reference.0) = subst (Rattle.laws_nodes.specs.Embargoes.IsNamed s.refs z.0) f ((are_paired s reached).named z.0) in
              let v : x.embargo ≡ Some (record { 0 = z.0 }) = subst (NamesIt z.0) (ap (map.get s.refs) i ∙ there) w in
              let u : Some e ≡ Some (record { 0 = z.0 }) = sym g ∙ v in
              let y : e ≡ record { 0 = z.0 } = cc in
              absurd (let q : nat_eq z.0 z.0 ≡ false = subst (λ (j : EmbargoId). nat_eq j.0 z.0 ≡ false) y n in let p = itself z.0 in cc)

      by : (o : Option EmbargoId) → x.embargo ≡ o → Remains new ⊎ Lifted new
      by None e = inl (rw h ((none e, old), λ q p. absurd (let w : None ≡ Some q = sym e ∙ p in cc)))
      by (Some e) g = at (nat_eq e.0 z.0) refl
        where
          at : (c : Bool) → nat_eq e.0 z.0 ≡ c → Remains new ⊎ Lifted new
          at false n =
              inl (rw h (
                (other_lifted b (not_its e g n), old),
                λ q p. (let u : Some q ≡ Some e = sym p ∙ g in let y : q ≡ e = cc in at_cut (λ j o. nat_eq j z.0 ≡ false → OfEmbargo (Has a) (map.get s.embargoes j) → OfEmbargo (Has a) o) s.embargoes z.0 (λ k w. absurd (let v = itself z.0 in cc)) (λ j k i w. w) q.0 (subst (λ (j : EmbargoId). nat_eq j.0 z.0 ≡ false) (sym y) n) (has q p)),
              ))
          at true n =
              let k : e.0 ≡ z.0 = equal e.0 z.0 n in
              let j : map.get s.embargoes e.0 ≡ Some b = ap (map.get s.embargoes) k ∙ f in
              let w = its e g b j in
              let v : Has a b.waiting = subst (OfEmbargo (Has a)) j (has e g) in
              inr (subst (λ (m : Moment). counting.all_waiting a m ≤ 1 → Lifted m) (sym h)
              (λ l. ((ref w.0, old), (l, inr (refl, refl, refl), tt, inl (Moved x.head tt tt (InYet (subst (λ (m : Node). YetHas m a (each_to b.node b.waiting)) w.1 (each_has b.node a b.waiting v))) Itself)))) one)
            where
              ref : b.reference.0 ≡ r → SameRef x.head None (map.get (update s.refs b.reference.0 unembargoed) r)
              ref i = its_ref (lifted_ref b)
                where
                  its_ref : SameRef x.head None (map.get (update s.refs b.reference.0 unembargoed) r) ⊎ (nat_eq r b.reference.0 ≡ false) → SameRef x.head None (map.get (update s.refs b.reference.0 unembargoed) r)
                  its_ref (inl j) = j
                  its_ref (inr j) = absurd (let q : nat_eq r r ≡ false = subst (λ (k : ℕ). nat_eq r k ≡ false) i j in let p = itself r in cc)

  comes_with : (m : Message) (new : Moment) → Consumes (beginning s) m new → counting.all_waiting a new ≤ 1 → Remains new ⊎ Lifted new
  comes_with m new (message.OpensRoot q u e f j h) one = inl (rw h ((stays, old), has))
  comes_with m new (message.OpensCall c u e f j h) one = inl (rw h ((stays, old), has))
  comes_with m new (message.Loses b y e f j k h) one = inl (rw h ((stays, old), has))
  comes_with m new (message.ComesToCall b y c e f j k l h) one = inl (rw h ((stays, old), has))
  comes_with m new (message.ComesToRelay b y u e f j k l h) one = inl (rw h ((stays, old), has))
  comes_with m new (message.IsFinished y b e f j h) one = inl (rw h ((stays, old), has))
  comes_with m new (message.IsResolved k e h) one = inl (rw h ((stays, old), has))
  comes_with m new (message.IsReleased k e h) one = inl (rw h ((stays, old), has))
  comes_with m new (message.SendsBack t to y e f h) one = inl (rw h ((stays, old), has))
  comes_with m new (message.Lifts t z b e f h) one = lifts z b new f h one
  comes_with m new (message.SendsForeign p e f h) one = inl (rw h ((stays, old), has))
  comes_with m new (message.SendsOther n e h) one = inl (rw h ((stays, old), has))
  comes_with m new (message.TakesBack k e h) one = inl (rw h ((stays, old), has))
  comes_with m new (message.Ignores k e h) one = inl (rw h ((stays, old), has))

  -- ---- The end of the step

  -- What remained: the call waits under the embargo, or follows the head.
  remained : (t : State) → AreThere t → IsSome (map.get t.refs r) → SameRef x.head x.embargo (map.get t.refs r) → EmbargoHas t.embargoes → ((IsAt s a (settle s x.head)) → Follows a x.head t) → IsInLine t r a ⊎ (times_waiting a t ≡ 0)
  remained t all i k em fol = by x.embargo refl
    where
      by : (o : Option EmbargoId) → x.embargo ≡ o → IsInLine t r a ⊎ (times_waiting a t ≡ 0)
      by None e = at (fol (subst (InLineAt s a x.head) e here) (head_there t r x.head x.embargo all i k))
        where
          at : IsAt t a (settle t x.head) ⊎ (times_waiting a t ≡ 0) → IsInLine t r a ⊎ (times_waiting a t ≡ 0)
          at (inl j) = inl (in_line t r a x.head x.embargo i k (subst (InLineAt t a x.head) (sym e) j))
          at (inr j) = inr j
      by (Some e) g = inl (in_line t r a x.head x.embargo i k (subst (InLineAt t a x.head) (sym g) (em e g)))

module _ (laws : OfEachStep LeadsOn) (s : State) (reached : IsReached s) (r a : ℕ) (x : Reference) (there : map.get s.refs r ≡ Some x) (here : InLineAt s a x.head x.embargo) where
  commanded : (c : Command) (k : Result Granted Refusal) (y : Effects) (t : State) → Obeys s c k y t → (g : Granted) → Does s c g y t → refused s c ≡ None → IsSome (map.get t.refs r) → IsInLine t r a ⊎ (times_waiting a t ≡ 0)
  commanded c k y t o g h free i =
      let d = does s c g y t h in
      let b = begins_with s reached r a x there here c g d.started d.starts in
      let f = ref_kept d.last d.started d.acts r x.head x.embargo b.0 in
      let e = (same_kept d.last d.started d.acts).0 in
      remained s reached r a x there here t (after_command s c k y t reached o) i
      (subst (λ (u : State). SameRef x.head x.embargo (map.get u.refs r)) (sym d.ends.state) f.0)
      (λ q p. subst (λ (u : State). OfEmbargo (Has a) (map.get u.embargoes q.0)) (sym d.ends.state) (subst (λ (m : Map Embargo). OfEmbargo (Has a) (map.get m q.0)) (sym e) (b.1 q p)))
      (λ w. following.of_command a x.head laws s c k y t reached o w)

  messaged : (m : Message) (y : Effects) (t : State) → Receives s m y t → Handles s m y t → fault_of s m ≡ None → IsSome (map.get t.refs r) → IsInLine t r a ⊎ (times_waiting a t ≡ 0)
  messaged m y t o h free i = by (comes_with s reached r a x there here m d.consumed d.consumes (counting.consumed a s m d.consumed d.consumes (once s reached a)))
    where
      d : HandlesActs s m y t
      d = handles s m y t free h

      all : AreThere t
      all = after_message s m y t reached o

      stop : AllStop t
      stop = each_stops t (go_on s t reached (Received m y o Stays))

      by : (RefStays r x.head x.embargo d.consumed × ((q : EmbargoId) → x.embargo ≡ Some q → OfEmbargo (Has a) (map.get d.consumed.state.embargoes q.0))) ⊎ (RefStays r x.head None d.consumed × Tracked s a x.head d.consumed) → IsInLine t r a ⊎ (times_waiting a t ≡ 0)
      by (inl b) =
          let f = ref_kept d.last d.consumed d.acts r x.head x.embargo b.0 in
          let e = (same_kept d.last d.consumed d.acts).0 in
          remained s reached r a x there here t all i
          (subst (λ (u : State). SameRef x.head x.embargo (map.get u.refs r)) (sym d.ends.state) f.0)
          (λ q p. subst (λ (u : State). OfEmbargo (Has a) (map.get u.embargoes q.0)) (sym d.ends.state) (subst (λ (m : Map Embargo). OfEmbargo (Has a) (map.get m q.0)) (sym e) (b.1 q p)))
          (λ w. following.of_message a x.head laws s m y t reached o w)
      by (inr b) =
          let f = ref_kept d.last d.consumed d.acts r x.head None b.0 in
          let k : SameRef x.head None (map.get t.refs r) = subst (λ (u : State). SameRef x.head None (map.get u.refs r)) (sym d.ends.state) f.0 in
          let w = tracked_kept d.last d.consumed d.acts (λ n acts. within.messages s m d.consumed n (each_stops s reached) d.consumes acts) s a x.head b.1 in
          let p : following.EndsAt a x.head t =
          subst (following.EndsAt a x.head) (sym d.ends.state)
          (ended s a x.head d.last t (subst AllStop d.ends.state stop) (subst AreThere d.ends.state all) w (ap (λ (m : Moment). m.yet) d.ends.rest) (ap (λ (m : Moment). m.clearing) d.ends.rest)) in
          at k (p (head_there t r x.head None all i k))
        where
          at : SameRef x.head None (map.get t.refs r) → IsAt t a (settle t x.head) ⊎ (times_waiting a t ≡ 0) → IsInLine t r a ⊎ (times_waiting a t ≡ 0)
          at k (inl j) = inl (in_line t r a x.head None i k j)
          at k (inr j) = inr j

pub stays_in_line : OfEachStep LeadsOn → StaysInLine
stays_in_line laws s r a y t reached (OfCommand c k o) i l = by o
  where
    at : (g : Granted) → Does s c g y t → refused s c ≡ None → (z : Option Reference) → map.get s.refs r ≡ z → InLineOf s a z → IsInLine t r a ⊎ (times_waiting a t ≡ 0)
    at g h free None e w = absurd w
    at g h free (Some x) e w = commanded laws s reached r a x e w c k y t o g h free i

    shut : (n : ℕ) (z : Option ℕ) → ShutsFrom s n z y t → IsInLine t r a ⊎ (times_waiting a t ≡ 0)
    shut n None h = inr (rw h.new_is (gone a s n))
    shut n (Some j) h = inl (rw h.new_is l)

    by : Obeys s c k y t → IsInLine t r a ⊎ (times_waiting a t ≡ 0)
    by (Refuses z f g u) = inl (rw u.new_is l)
    by (LacksMemory f g z u) = inl (rw u.new_is l)
    by (GoesDown f g z u) = inr (rw u.new_is (gone a s want_of_room))
    by (Shuts n f g h) = shut n s.down h
    by (IsDone given f g h w) = at given h f (map.get s.refs r) refl l
stays_in_line laws s r a y t reached (OfMessage m o) i l = by o
  where
    at : Handles s m y t → fault_of s m ≡ None → (z : Option Reference) → map.get s.refs r ≡ z → InLineOf s a z → IsInLine t r a ⊎ (times_waiting a t ≡ 0)
    at h free None e w = absurd w
    at h free (Some x) e w = messaged laws s reached r a x e w m y t o h free i

    by : Receives s m y t → IsInLine t r a ⊎ (times_waiting a t ≡ 0)
    by (WasDown d u) = inl (rw u.new_is l)
    by (FaultsBy n d f g h) = inr (rw h (gone a s n))
    by (LacksRoom d f u) = inr (rw u.new_is (gone a s want_of_room))
    by (IsHandled d f h w) = at h f (map.get s.refs r) refl l
