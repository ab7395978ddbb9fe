-- The embargoes of a vat are right in each state to which a step leads.
use Rattle.std.specs.FinMap as map
use Rattle.std.proofs.Common.{◌≡◌, ℕ, ◌+◌, ◌-◌, ◌<◌, zero, suc, Bool, true, false, cond, nat_eq, nat_le, List, [], ◌∷◌, Option, None, Some, refl, sym, ap, subst, ◌∙◌, arith}
use Rattle.finite_maps.specs.Tally.{Map}
use Rattle.finite_maps.proofs.Tested.{apart, at_cut, at_put}
use Rattle.rpc_msg.specs.CapAt.{CapAt}
use Rattle.rpc_msg.specs.CapAt.TheVariants.{Cap, Null, NotCap}
use Rattle.rpc_msg.specs.Op.{Op}
use Rattle.rpc_msg.specs.declared.ids.ObjectId.{ObjectId}
use Rattle.rpc_msg.specs.declared.ids.RefId.{RefId}
use Rattle.rpc_msg.specs.declared.ids.Vat.{Vat}
use Rattle.rpc_msg.specs.declared.message.Message.{Message}
use Rattle.rpc_msg.specs.declared.message.ResolvedTo.{ResolvedTo}
use Rattle.rpc_msg.specs.declared.message.ResolvedTo.TheVariants as resolved_to
use Rattle.rpc_msg.specs.declared.message.ReturnBody.{ReturnBody}
use Rattle.rpc_msg.specs.declared.message.ReturnBody.TheVariants as body
use Rattle.rpc_msg.specs.declared.parts.Descriptor.{Descriptor}
use Rattle.rpc_msg.specs.declared.parts.Descriptor.TheVariants as descriptor
use Rattle.rpc_machine.specs.declared.command.Command.{Command}
use Rattle.rpc_machine.specs.declared.command.Effects.{Effects}
use Rattle.rpc_machine.specs.declared.command.Granted.{Granted}
use Rattle.rpc_machine.specs.declared.command.Level.{Level}
use Rattle.rpc_machine.specs.declared.command.Level.TheVariants.{One, Zero}
use Rattle.rpc_machine.specs.declared.entries.AnswerEntry.{AnswerEntry}
use Rattle.rpc_machine.specs.declared.entries.Embargo.{Embargo}
use Rattle.rpc_machine.specs.declared.entries.Export.{Export}
use Rattle.rpc_machine.specs.declared.entries.Import.{Import}
use Rattle.rpc_machine.specs.declared.entries.Question.{Question}
use Rattle.rpc_machine.specs.declared.entries.Reference.{Reference}
use Rattle.rpc_machine.specs.declared.entries.Resolution.{Resolution}
use Rattle.rpc_machine.specs.declared.entries.Resolution.TheVariants as resolution
use Rattle.rpc_machine.specs.declared.entries.Returned.{Returned}
use Rattle.rpc_machine.specs.declared.node.Node.{Node}
use Rattle.rpc_machine.specs.declared.node.Node.TheVariants as node
use Rattle.rpc_machine.specs.State.{State, start}
use Rattle.rpc_machine.specs.Advancing.{Known, Leads, known_at, known_by, known_by_resolve, known_by_return, known_cap, known_of_wire, resolution_of, returned_of}
use Rattle.rpc_machine.specs.Descriptors.{answer_node, export_node, read, read_at, read_beside, take_all, take_at}
use Rattle.rpc_machine.specs.Faults.{fault_of}
use Rattle.rpc_machine.specs.Flags.{flag_for, give_back, give_each, give_if, give_one}
use Rattle.rpc_machine.specs.Lists.{updated}
use Rattle.rpc_machine.specs.Messages.{resolve_import, results_of, set_resolution, take_resolve, unembargoed}
use Rattle.rpc_machine.specs.Nodes.{is_wire, settle}
use Rattle.rpc_machine.specs.Payloads.{cap_at}
use Rattle.rpc_machine.specs.Progress.{caps_of, numbers, with_refs}
use Rattle.rpc_machine.specs.Steps.{Does, Handles}
use Rattle.rpc_machine.specs.Sweeping.{closed_map, got_of}
use Rattle.laws_acts.specs.FirstActs.{Starts, is_receiver}
use Rattle.laws_acts.specs.FirstActs as first
use Rattle.laws_acts.specs.MessageActs.{Back, Brings, ByEchoedCall, ByEchoedRoot, ByReturn, Consumes}
use Rattle.laws_acts.specs.MessageActs as taken
use Rattle.laws_acts.specs.Moments.{Moment, beginning}
use Rattle.laws_acts.specs.SmallActs.{Act}
use Rattle.laws_acts.specs.SmallActs as act
use Rattle.laws_acts.proofs.EachStep.{done, handled}
use Rattle.laws_steps.proofs.Reached.{no_entry}
use Rattle.laws_routes.specs.Premises.{ExportsAreOwn, IsOnlyEmbargo}
use Rattle.laws_routes.specs.Sides.{IsEmbargoOf}
use Rattle.laws_routes.specs.FirstActs.{EmbargoesAreNamed}
use Rattle.laws_routes.proofs.MidwayTaken.{same_each}
use Rattle.laws_routes.specs.Embargoes.{AreRight, EmbargoesAreRight, LeadsBackOwn}

same_number : (i j : RefId) → i ≡ j → i.0 ≡ j.0
same_number i j e = ap (λ (r : RefId). r.0) e

-- Of another entry with that reference and node.
below_as : (k : ℕ) (y z : Embargo) → y.reference ≡ z.reference → y.reference.0 < k → z.reference.0 < k
below_as k y z e h = subst (λ (i : RefId). i.0 < k) e h

own_as : (y z : Embargo) → y.node ≡ z.node → is_wire y.node ≡ false → is_wire z.node ≡ false
own_as y z e h = subst (λ (n : Node). is_wire n ≡ false) e h

same_as : (v y w z : Embargo) → v.reference ≡ y.reference → w.reference ≡ z.reference → y.reference.0 ≡ z.reference.0 → v.reference.0 ≡ w.reference.0
same_as v y w z e f u = same_number v.reference y.reference e ∙ (u ∙ sym (same_number w.reference z.reference f))

-- ---- References

module _ (R : Map Reference) (k : ℕ) (B : Map Embargo) (I : Map Import) (Q : Map Question) (h : AreRight R k B I Q) where
  -- Of one that has an embargo or not as the one before it.
  put_ref : (r : ℕ) (x y : Reference) → map.get R r ≡ Some x → y.embargo ≡ x.embargo → AreRight (map.insert R r y) k B I Q
  put_ref r x y at e = record {
    low = at_put (λ j o. (z : Reference) → o ≡ Some z → j < k) R r y (λ z f. h.low r x at) (λ j n z f. h.low j z f);
    below = h.below;
    named = at_put (λ j o. (z : Reference) → o ≡ Some z → z.embargo ≡ None → (e : ℕ) → IsEmbargoOf j (map.get B e) → ⊥) R r y
        (λ z f g. (let i : y ≡ z = cc in h.named r x at (sym e ∙ (ap (λ (z : Reference). z.embargo) i ∙ g)))) (λ j n z f g. h.named j z f g);
    only = h.only;
    own = h.own;
    resolved = h.resolved;
    returned = h.returned;
  }

  cut_ref : (r : ℕ) → AreRight (map.remove R r) k B I Q
  cut_ref r = record {
    low = at_cut (λ j o. (z : Reference) → o ≡ Some z → j < k) R r (λ z f. cc) (λ j n z f. h.low j z f);
    below = h.below;
    named = at_cut (λ j o. (z : Reference) → o ≡ Some z → z.embargo ≡ None → (e : ℕ) → IsEmbargoOf j (map.get B e) → ⊥) R r (λ z f g. cc) (λ j n z f g. h.named j z f g);
    only = h.only;
    own = h.own;
    resolved = h.resolved;
    returned = h.returned;
  }

  none_yet : (e : ℕ) → IsEmbargoOf k (map.get B e) → ⊥
  none_yet e i = by (map.get B e) refl i
    where
      by : (o : Option Embargo) → map.get B e ≡ o → IsEmbargoOf k o → ⊥
      by None f j = j
      by (Some b) f j = let l = h.below e b f in omega (arith, l, j)

  -- A new one has none.
  new_ref : (n : Node) → AreRight (map.insert R k (record { head = n; embargo = None; made = 0 })) (k + 1) B I Q
  new_ref n =
      let y : Reference = record { head = n; embargo = None; made = 0 } in
      record {
        low = at_put (λ j o. (z : Reference) → o ≡ Some z → j < k + 1) R k y (λ z f. omega arith) (λ j n z f. (let l = h.low j z f in omega (arith, l)));
        below = λ e b f. (let l = h.below e b f in omega (arith, l));
        named = at_put (λ j o. (z : Reference) → o ≡ Some z → z.embargo ≡ None → (e : ℕ) → IsEmbargoOf j (map.get B e) → ⊥) R k y (λ z f g. none_yet) (λ j n z f g. h.named j z f g);
        only = h.only;
        own = h.own;
        resolved = h.resolved;
        returned = h.returned;
      }

  -- ---- Imports and questions

  with_imports : (J : Map Import) → ((e : ℕ) → LeadsBackOwn (known_by_resolve (resolution_of (map.get J e)))) → AreRight R k B J Q
  with_imports J f = record { low = h.low; below = h.below; named = h.named; only = h.only; own = h.own; resolved = f; returned = h.returned }

  put_question : (q : ℕ) (y : Question) → ((path : List Op) → LeadsBackOwn (known_by_return path y.returned)) → AreRight R k B I (map.insert Q q y)
  put_question q y f = record {
    low = h.low;
    below = h.below;
    named = h.named;
    only = h.only;
    own = h.own;
    resolved = h.resolved;
    returned = at_put (λ j o. (path : List Op) → LeadsBackOwn (known_by_return path (returned_of o))) Q q y f (λ j n. h.returned j);
  }

  cut_question : (q : ℕ) → AreRight R k B I (map.remove Q q)
  cut_question q = record {
    low = h.low;
    below = h.below;
    named = h.named;
    only = h.only;
    own = h.own;
    resolved = h.resolved;
    returned = at_cut (λ j o. (path : List Op) → LeadsBackOwn (known_by_return path (returned_of o))) Q q (λ path. tt) (λ j n. h.returned j);
  }

  close_question : (q : ℕ) (x : Question) → map.get Q q ≡ Some x → (o : Option Returned) → x.returned ≡ o → AreRight R k B I (closed_map Q q x o)
  close_question q x at None e = put_question q _ (λ path. subst (λ (o : Option Returned). LeadsBackOwn (known_by_return path o)) (sym e) tt)
  close_question q x at (Some said) e = cut_question q

  -- ---- Embargoes

  -- A call waits for one.
  joined : (e : ℕ) (b c : Embargo) → map.get B e ≡ Some b → c.reference ≡ b.reference → c.node ≡ b.node → AreRight R k (map.insert B e c) I Q
  joined e b c at same_ref same_node = record {
    low = h.low;
    below = λ j z f. (let w = was j z f in below_as k w.0 z w.2 (h.below j w.0 w.1));
    named = λ r x f g j. at_put (λ j o. IsEmbargoOf r o → ⊥) B e c (λ i. h.named r x f g e (subst (IsEmbargoOf r) (sym at) (same_number b.reference c.reference (sym same_ref) ∙ i))) (λ j n. h.named r x f g j) j;
    only = λ j z f i y g u. (let w = was j z f in let v = was i y g in h.only j w.0 w.1 i v.0 v.1 (same_as v.0 y w.0 z v.2 w.2 u));
    own = λ j z f. (let w = was j z f in own_as w.0 z w.3 (h.own j w.0 w.1));
    resolved = h.resolved;
    returned = h.returned;
  }
    where
      was : (j : ℕ) (z : Embargo) → map.get (map.insert B e c) j ≡ Some z → (y : Embargo) × (map.get B j ≡ Some y) × (y.reference ≡ z.reference) × (y.node ≡ z.node)
      was = at_put (λ j o. (z : Embargo) → o ≡ Some z → (y : Embargo) × (map.get B j ≡ Some y) × (y.reference ≡ z.reference) × (y.node ≡ z.node)) B e c
          (λ z f. (let i : c ≡ z = cc in (b, at, sym same_ref ∙ ap (λ (z : Embargo). z.reference) i, sym same_node ∙ ap (λ (z : Embargo). z.node) i))) (λ j n z f. (z, f, refl, refl))

  -- A reference turns back.
  turned : (r e : ℕ) (x y : Reference) (b : Embargo) → map.get R r ≡ Some x → x.embargo ≡ None → map.get B e ≡ None → (y.embargo ≡ None → ⊥) → b.reference.0 ≡ r → is_wire b.node ≡ false → AreRight (map.insert R r y) k (map.insert B e b) I Q
  turned r e x y b at none free has is own = record {
    low = at_put (λ j o. (z : Reference) → o ≡ Some z → j < k) R r y (λ z f. h.low r x at) (λ j n z f. h.low j z f);
    below = at_put (λ j o. (z : Embargo) → o ≡ Some z → z.reference.0 < k) B e b (λ z f. (let i : b ≡ z = cc in subst (λ (z : Embargo). z.reference.0 < k) i (subst (λ (i : ℕ). i < k) (sym is) (h.low r x at)))) (λ j n z f. h.below j z f);
    named = at_put (λ j o. (z : Reference) → o ≡ Some z → z.embargo ≡ None → (i : ℕ) → IsEmbargoOf j (map.get (map.insert B e b) i) → ⊥) R r y
        (λ z f g. (let i : y ≡ z = cc in absurd (has (ap (λ (z : Reference). z.embargo) i ∙ g))))
        (λ j n z f g. at_put (λ i o. IsEmbargoOf j o → ⊥) B e b (λ u. apart j r n (sym u ∙ is)) (λ i m. h.named j z f g i));
    only = at_put (λ j o. (z : Embargo) → o ≡ Some z → (i : ℕ) (c : Embargo) → map.get (map.insert B e b) i ≡ Some c → c.reference.0 ≡ z.reference.0 → i ≡ j) B e b
        (λ z f. (let u : b ≡ z = cc in at_put (λ i o. (c : Embargo) → o ≡ Some c → c.reference.0 ≡ z.reference.0 → i ≡ e) B e b (λ c g v. refl) (λ i n c g v. absurd (no_other i c g (v ∙ (ap (λ (z : Embargo). z.reference.0) (sym u) ∙ is))))))
        (λ j n z f. at_put (λ i o. (c : Embargo) → o ≡ Some c → c.reference.0 ≡ z.reference.0 → i ≡ j) B e b
        (λ c g v. (let u : b ≡ c = cc in absurd (no_other j z f (sym v ∙ (ap (λ (z : Embargo). z.reference.0) (sym u) ∙ is))))) (λ i m c g v. h.only j z f i c g v));
    own = at_put (λ j o. (z : Embargo) → o ≡ Some z → is_wire z.node ≡ false) B e b (λ z f. (let i : b ≡ z = cc in subst (λ (z : Embargo). is_wire z.node ≡ false) i own)) (λ j n z f. h.own j z f);
    resolved = h.resolved;
    returned = h.returned;
  }
    where
      no_other : (i : ℕ) (c : Embargo) → map.get B i ≡ Some c → c.reference.0 ≡ r → ⊥
      no_other i c g v = h.named r x at none i (subst (IsEmbargoOf r) (sym g) v)

  -- It is lifted.
  lifted : (e : ℕ) (b : Embargo) → map.get B e ≡ Some b → (o : Option Reference) → map.get R b.reference.0 ≡ o → AreRight (updated R b.reference.0 unembargoed o) k (map.remove B e) I Q
  lifted e b at o f = record {
    low = low_now o f;
    below = λ j z g. h.below j z (gone j z g);
    named = named_now o f;
    only = λ j z g i c u v. h.only j z (gone j z g) i c (gone i c u) v;
    own = λ j z g. h.own j z (gone j z g);
    resolved = h.resolved;
    returned = h.returned;
  }
    where
      gone : (j : ℕ) (z : Embargo) → map.get (map.remove B e) j ≡ Some z → map.get B j ≡ Some z
      gone = at_cut (λ j o. (z : Embargo) → o ≡ Some z → map.get B j ≡ Some z) B e (λ z g. cc) (λ j n z g. g)

      low_now : (o : Option Reference) → map.get R b.reference.0 ≡ o → (j : ℕ) (z : Reference) → map.get (updated R b.reference.0 unembargoed o) j ≡ Some z → j < k
      low_now None f = h.low
      low_now (Some x) f = at_put (λ j o. (z : Reference) → o ≡ Some z → j < k) R b.reference.0 (unembargoed x) (λ z g. h.low b.reference.0 x f) (λ j n z g. h.low j z g)

      left : (r : ℕ) → ((i : ℕ) → IsEmbargoOf r (map.get B i) → ⊥) → (i : ℕ) → IsEmbargoOf r (map.get (map.remove B e) i) → ⊥
      left r g = at_cut (λ i o. IsEmbargoOf r o → ⊥) B e (λ u. u) (λ i n. g i)

      -- It was its reference's only one.
      now_none : (i : ℕ) → IsEmbargoOf b.reference.0 (map.get (map.remove B e) i) → ⊥
      now_none = at_cut (λ i o. IsEmbargoOf b.reference.0 o → ⊥) B e (λ u. u) (λ i n u. by i n (map.get B i) refl u)
        where
          by : (i : ℕ) → nat_eq i e ≡ false → (o : Option Embargo) → map.get B i ≡ o → IsEmbargoOf b.reference.0 o → ⊥
          by i n None g u = u
          by i n (Some c) g u = apart i e n (h.only e b at i c g u)

      named_now : (o : Option Reference) → map.get R b.reference.0 ≡ o → (j : ℕ) (z : Reference) → map.get (updated R b.reference.0 unembargoed o) j ≡ Some z → z.embargo ≡ None → (i : ℕ) → IsEmbargoOf j (map.get (map.remove B e) i) → ⊥
      named_now None f = λ j z g u. left j (h.named j z g u)
      named_now (Some x) f = at_put (λ j o. (z : Reference) → o ≡ Some z → z.embargo ≡ None → (i : ℕ) → IsEmbargoOf j (map.get (map.remove B e) i) → ⊥) R b.reference.0 (unembargoed x) (λ z g u. now_none) (λ j n z g u. left j (h.named j z g u))

all_refs : (ns : List Node) (s : State) → EmbargoesAreRight s → AreRight (with_refs s ns).refs (with_refs s ns).next_ref s.embargoes s.imports s.questions
all_refs [] s h = h
all_refs (n ∷ ns) s h = all_refs ns (record s { refs = map.insert s.refs s.next_ref (record { head = n; embargo = None; made = 0 }); next_ref = s.next_ref + 1 }) (new_ref s.refs s.next_ref s.embargoes s.imports s.questions h n)

-- ---- What is known

-- Counts of imports are of no account to it.
abbrev SameSaid : Map Import → Map Import → Type 0
SameSaid I J = (e : ℕ) → LeadsBackOwn (known_by_resolve (resolution_of (map.get I e))) → LeadsBackOwn (known_by_resolve (resolution_of (map.get J e)))

give_kept : (m : Map Import) (e : ℕ) (o : Option Import) → map.get m e ≡ o → SameSaid m (give_one m e o)
give_kept m e None f = λ j h. h
give_kept m e (Some x) f = by (nat_le x.count 1)
  where
    by : (b : Bool) → SameSaid m (cond b (map.remove m e) (map.insert m e (record x { count = x.count - 1 })))
    by true = at_cut (λ j o. LeadsBackOwn (known_by_resolve (resolution_of (map.get m j))) → LeadsBackOwn (known_by_resolve (resolution_of o))) m e (λ h. tt) (λ j n h. h)
    by false = at_put (λ j o. LeadsBackOwn (known_by_resolve (resolution_of (map.get m j))) → LeadsBackOwn (known_by_resolve (resolution_of o))) m e (record x { count = x.count - 1 })
        (λ h. subst (λ (o : Option Import). LeadsBackOwn (known_by_resolve (resolution_of o))) f h) (λ j n h. h)

each_given_back : (es : List ℕ) (m : Map Import) → SameSaid m (give_each m es)
each_given_back [] m = λ j h. h
each_given_back (e ∷ es) m = λ j h. each_given_back es (give_one m e (map.get m e)) j (give_kept m e (map.get m e) refl j h)

if_given_back : (s : State) (b : Bool) (ids : List ℕ) → SameSaid s.imports (give_if s b ids).imports
if_given_back s true ids = each_given_back ids s.imports
if_given_back s false ids = λ j h. h

given_back : (s : State) (ids : List ℕ) → EmbargoesAreRight s → AreRight s.refs s.next_ref s.embargoes (give_back s ids).imports s.questions
given_back s ids h = with_imports s.refs s.next_ref s.embargoes s.imports s.questions h (give_back s ids).imports (λ e. if_given_back s (flag_for s ids) ids e (h.resolved e))

leads : (c : Descriptor) (n : Node) → (is_receiver c ≡ true → is_wire n ≡ false) → LeadsBackOwn (known_by c n)
leads descriptor.None n f = tt
leads (descriptor.SenderHosted e) n f = f
leads (descriptor.SenderPromise e) n f = f
leads (descriptor.ReceiverHosted e) n f = f
leads (descriptor.ReceiverAnswer q path) n f = f

turns_own : (k : Known) (c : Descriptor) (n : Node) → k ≡ Leads c n → is_receiver c ≡ true → LeadsBackOwn k → is_wire n ≡ false
turns_own k c n e r h = subst LeadsBackOwn e h r

wire_known : (s : State) → EmbargoesAreRight s → (k : Node) → LeadsBackOwn (known_of_wire s k)
wire_known s h (node.Object o) = tt
wire_known s h (node.Promise p) = tt
wire_known s h (node.Field o path) = tt
wire_known s h (node.Import e) = h.resolved e.0
wire_known s h (node.Pipe q path) = h.returned q.0 path
wire_known s h (node.Broken reason) = tt

-- What a received descriptor of an own export or an own answer stands for is an own node.
module _ (s : State) (own : ExportsAreOwn s) where
  export_own : (e : ℕ) → is_wire (export_node (map.get s.exports e)) ≡ false
  export_own e = by (map.get s.exports e) refl
    where
      by : (o : Option Export) → map.get s.exports e ≡ o → is_wire (export_node o) ≡ false
      by None f = refl
      by (Some x) f = own e x f

  answer_own : (path : List Op) (o : Option AnswerEntry) → is_wire (answer_node path o) ≡ false
  answer_own path None = refl
  answer_own path (Some a) = refl

  read_own : (l : Level) (c : Descriptor) → is_receiver c ≡ true → is_wire (read_at l s c) ≡ false
  read_own Zero c r = refl
  read_own One descriptor.None r = cc
  read_own One (descriptor.SenderHosted e) r = cc
  read_own One (descriptor.SenderPromise e) r = cc
  read_own One (descriptor.ReceiverHosted e) r = export_own e.0
  read_own One (descriptor.ReceiverAnswer q path) r = answer_own path (map.get s.answers q.0)

  index_own : (ds : List Descriptor) (i : ℕ) → LeadsBackOwn (known_at (read_beside s ds) i)
  index_own [] i = tt
  index_own (c ∷ ds) zero = leads c (read s c) (read_own s.level c)
  index_own (c ∷ ds) (suc i) = index_own ds i

  cap_own : (ds : List Descriptor) (c : CapAt) → LeadsBackOwn (known_cap (read_beside s ds) c)
  cap_own ds (Cap i) = index_own ds i
  cap_own ds Null = tt
  cap_own ds NotCap = tt

  results_own : (x : ReturnBody) (path : List Op) → LeadsBackOwn (known_by_return path (Some (results_of s x)))
  results_own (body.Results payload ds) path = cap_own ds (cap_at payload path)
  results_own (body.Exception exception) path = tt
  results_own body.Canceled path = tt

-- ---- Acts

acted : (d new : Moment) → EmbargoesAreRight d.state → Act d new → EmbargoesAreRight new.state
acted d new i (act.Delivers c n rest u e f h) = rw h (all_refs c.request.caps d.state i)
acted d new i (act.Waits c n rest p calls e f j h) = rw h i
acted d new i (act.Holds c n rest u path x e f j h) = rw h i
acted d new i (act.Relays c n rest q t ds es e f j k h) = let s = d.state in rw h (put_question s.refs s.next_ref s.embargoes s.imports s.questions i q _ (λ path. tt))
acted d new i (act.Breaks c n rest reason e f h) = rw h i
acted d new i (act.NextArisen u v rest e f h) = rw h i
acted d new i (act.Knows u v fit x ps e f j k h) = rw h i
acted d new i (act.Reports c v from e f h) = rw h (all_refs (caps_of v) d.state i)
acted d new i (act.TellsNobody c v e f h) = rw h i
acted d new i (act.MakesReturn q v x b ds es e f j k h) = rw h i
acted d new i (act.SendsReturn x y e f j h) = rw h (given_back d.state (numbers y.taken) i)
acted d new i (act.Clears x e f h) = rw h i
acted d new i (act.Lists x e h) = rw h i
acted d new i (act.SendsResolve x rest k es e w f h) = rw h i
acted d new i (act.SendsBroken x rest reason e f h) = rw h i
acted d new i (act.PromiseGoes p to w e f h) = rw h i
acted d new i (act.OutcomeGoes u x v w e f j k l h) = rw h i
acted d new i (act.ImportGoes k x w e f h) =
    let s = d.state in
    rw h (with_imports s.refs s.next_ref s.embargoes s.imports s.questions i (map.remove s.imports k) (at_cut (λ j o. LeadsBackOwn (known_by_resolve (resolution_of o))) s.imports k tt (λ j n. i.resolved j)))
acted d new i (act.Sweeps over e f j h) = rw h i
acted d new i (act.SendsFinish q x rest e f j k l h) =
    let s = d.state in
    let ids = got_of x.returned in
    rw h (close_question s.refs s.next_ref s.embargoes (give_back s ids).imports s.questions (given_back s ids i) q x f x.returned refl)
acted d new i (act.Closes q x rest e f j k l h) = let s = d.state in rw h (close_question s.refs s.next_ref s.embargoes s.imports s.questions i q x f x.returned refl)
acted d new i (act.Releases w e f h) = rw h i

module _ (s : State) (i : EmbargoesAreRight s) where
  ref_more : (n : Node) → AreRight (map.insert s.refs s.next_ref (record { head = n; embargo = None; made = 0 })) (s.next_ref + 1) s.embargoes s.imports s.questions
  ref_more n = new_ref s.refs s.next_ref s.embargoes s.imports s.questions i n

  question_more : (q : ℕ) (y : Question) → y.returned ≡ None → AreRight s.refs s.next_ref s.embargoes s.imports (map.insert s.questions q y)
  question_more q y e = put_question s.refs s.next_ref s.embargoes s.imports s.questions i q y (λ path. subst (λ (o : Option Returned). LeadsBackOwn (known_by_return path o)) (sym e) tt)

  ref_counted : (r : ℕ) (x : Reference) → map.get s.refs r ≡ Some x → AreRight (map.insert s.refs r (record x { made = x.made + 1 })) s.next_ref s.embargoes s.imports s.questions
  ref_counted r x f = put_ref s.refs s.next_ref s.embargoes s.imports s.questions i r x (record x { made = x.made + 1 }) f refl

  started : (c : Command) (g : Granted) (new : Moment) → Starts (beginning s) c g new → EmbargoesAreRight new.state
  started c g new (first.Hosts o e a h) = rw h (ref_more (node.Object o))
  started c g new (first.Clones r x e f a h) = rw h (ref_more x.head)
  started c g new (first.Drops r x e f a h) = rw h (cut_ref s.refs s.next_ref s.embargoes s.imports s.questions i r.0)
  started c g new (first.AsksRoot q e f a h) = rw h (question_more q _ refl)
  started c g new (first.CallsOut k x q t ds es e f j w l m a h) =
      rw h (put_question (map.insert s.refs k.reference.0 (record x { made = x.made + 1 })) s.next_ref s.embargoes s.imports s.questions (ref_counted k.reference.0 x f) q _ (λ path. tt))
  started c g new (first.CallsHere k x u e f j w l a h) = rw h (ref_counted k.reference.0 x f)
  started c g new (first.CallsLater k x u z b e f j l m a h) =
      rw h (joined (map.insert s.refs k.reference.0 (record x { made = x.made + 1 })) s.next_ref s.embargoes s.imports s.questions (ref_counted k.reference.0 x f) z.0 b _ l refl refl)
  started c g new (first.NamesField k path from e f a h) = rw h (ref_more _)
  started c g new (first.Promises p e f a h) = rw h (ref_more (node.Promise p))
  started c g new (first.Fixes p r x key calls e f j k a h) = rw h i
  started c g new (first.Rejects p why key calls e f j a h) = rw h i
  started c g new (first.Answers t payload refs u e f a h) = rw h i
  started c g new (first.Fails t why u e f a h) = rw h i
  started c g new (first.Finishes k from e f a h) = rw h i
  started c g new (first.StaysPut r x e f a h) = rw h i
  started c g new (first.Breaks r x reason e f j k a h) = rw h (put_ref s.refs s.next_ref s.embargoes s.imports s.questions i r.0 x (record x { head = node.Broken reason }) f refl)
  started c g new (first.Switches r x by n e f j k l m a h) = rw h (put_ref s.refs s.next_ref s.embargoes s.imports s.questions i r.0 x (record x { head = n }) f refl)
  started c g new (first.Turns r x by n t k e f j l m w u v a h) =
      let y : Reference = record { head = n; embargo = Some (record { 0 = k }); made = x.made } in
      let b : Embargo = record { reference = record { 0 = r.0 }; node = n; waiting = [] } in
      rw h (turned s.refs s.next_ref s.embargoes s.imports s.questions i r.0 k x y b f j v (λ z. cc) refl (turns_own (known_of_wire s (settle s x.head)) by n l m (wire_known s i (settle s x.head))))

  -- ---- A message

  module _ (own : ExportsAreOwn s) where
    same_taken : (l : Level) (ds : List Descriptor) (e : ℕ) → resolution_of (map.get (take_at l s ds).imports e) ≡ resolution_of (map.get s.imports e)
    same_taken Zero ds e = refl
    same_taken One ds e = same_each ds s e

    imports_taken : (ds : List Descriptor) → AreRight s.refs s.next_ref s.embargoes (take_all s ds).imports s.questions
    imports_taken ds = with_imports s.refs s.next_ref s.embargoes s.imports s.questions i (take_all s ds).imports (λ e. subst (λ o. LeadsBackOwn (known_by_resolve o)) (sym (same_taken s.level ds e)) (i.resolved e))

    said_own : (m : Message) (b : Back) → Brings s m b → (path : List Op) → LeadsBackOwn (known_by_return path (Some b.said))
    said_own m b (ByReturn r e f) path = subst (λ (b : Back). LeadsBackOwn (known_by_return path (Some b.said))) (sym f) (results_own s own r.body path)
    said_own m b (ByEchoedRoot q e f) path = subst (λ (b : Back). LeadsBackOwn (known_by_return path (Some b.said))) (sym f) tt
    said_own m b (ByEchoedCall c e f) path = subst (λ (b : Back). LeadsBackOwn (known_by_return path (Some b.said))) (sym f) tt

    resolved_put : (I : Map Import) → AreRight s.refs s.next_ref s.embargoes I s.questions → (e : ℕ) (said : Resolution) → LeadsBackOwn (known_by_resolve (Some said)) → (o : Option Import) → AreRight s.refs s.next_ref s.embargoes (updated I e (set_resolution said) o) s.questions
    resolved_put I h e said f None = h
    resolved_put I h e said f (Some x) = with_imports s.refs s.next_ref s.embargoes I s.questions h (map.insert I e (set_resolution said x)) (at_put (λ j o. LeadsBackOwn (known_by_resolve (resolution_of o))) I e (set_resolution said x) f (λ j n. h.resolved j))

    resolved_by : (u : State) → AreRight s.refs s.next_ref s.embargoes u.imports s.questions → (e : ℕ) (said : Resolution) → LeadsBackOwn (known_by_resolve (Some said)) → (o : Option Import) → AreRight s.refs s.next_ref s.embargoes (resolve_import u e said o).imports s.questions
    resolved_by u h e said f None = h
    resolved_by u h e said f (Some x) = resolved_put u.imports h e said f (map.get u.imports e)

    resolve_taken : (e : ℕ) (to : ResolvedTo) → AreRight s.refs s.next_ref s.embargoes (take_resolve s e to).imports s.questions
    resolve_taken e (resolved_to.Cap c) = resolved_by (take_all s (c ∷ [])) (imports_taken (c ∷ [])) e (resolution.To c (read s c)) (leads c (read s c) (read_own s own s.level c)) (map.get s.imports e)
    resolve_taken e (resolved_to.Exception exception) = resolved_by s i e (resolution.Exception exception) tt (map.get s.imports e)

    consumed : (m : Message) (new : Moment) → Consumes (beginning s) m new → EmbargoesAreRight new.state
    consumed m new (taken.OpensRoot q o e f j h) = rw h i
    consumed m new (taken.OpensCall c o e f j h) = rw h (imports_taken c.descriptors)
    consumed m new (taken.Loses b x w e f j h) = rw h (cut_question s.refs s.next_ref s.embargoes (take_all s b.descriptors).imports s.questions (imports_taken b.descriptors) b.question)
    consumed m new (taken.ComesToCall b x c w e f j k h) = rw h (put_question s.refs s.next_ref s.embargoes (take_all s b.descriptors).imports s.questions (imports_taken b.descriptors) b.question _ (said_own m b w))
    consumed m new (taken.ComesToRelay b x o w e f j k h) = rw h (put_question s.refs s.next_ref s.embargoes (take_all s b.descriptors).imports s.questions (imports_taken b.descriptors) b.question _ (said_own m b w))
    consumed m new (taken.IsFinished f a e j k h) = rw h i
    consumed m new (taken.IsResolved r e h) = rw h (resolve_taken r.promise.0 r.to)
    consumed m new (taken.IsReleased r e h) = rw h i
    consumed m new (taken.SendsBack t to x e f h) = rw h i
    consumed m new (taken.Lifts t x b e f h) = rw h (lifted s.refs s.next_ref s.embargoes s.imports s.questions i x.0 b f (map.get s.refs b.reference.0) refl)
    consumed m new (taken.SendsForeign p e f h) = rw h i
    consumed m new (taken.SendsOther n e h) = rw h i
    consumed m new (taken.TakesBack r e h) = rw h i
    consumed m new (taken.Ignores r e h) = rw h i

-- ---- The laws

pub commands_keep : (s : State) (c : Command) (g : Granted) (x : Effects) (t : State) → EmbargoesAreRight s → Does s c g x t → EmbargoesAreRight t
commands_keep s c g x t i h =
    let k = done (λ d. EmbargoesAreRight d.state) s c g x t (started s i c g) acted h in
    let e = k.ends in
    rw e.state k.holds

pub messages_keep : (s : State) (m : Message) (x : Effects) (t : State) → EmbargoesAreRight s → ExportsAreOwn s → fault_of s m ≡ None → Handles s m x t → EmbargoesAreRight t
messages_keep s m x t i own fine h =
    let k = handled (λ d. EmbargoesAreRight d.state) s m x t fine (consumed s i own m) acted h in
    let e = k.ends in
    rw e.state k.holds

pub new_right : (v : Vat) (l : Level) (b : Option ObjectId) → EmbargoesAreRight (start v l b)
new_right v l b = record {
  low = λ r. no_entry (λ o. (x : Reference) → o ≡ Some x → r < 0) r (λ x f. cc);
  below = λ e. no_entry (λ o. (z : Embargo) → o ≡ Some z → z.reference.0 < 0) e (λ x f. cc);
  named = λ r x f g e. no_entry (λ o. IsEmbargoOf r o → ⊥) e (λ i. i);
  only = λ e. no_entry (λ o. (z : Embargo) → o ≡ Some z → (k : ℕ) (c : Embargo) → map.get (start v l b).embargoes k ≡ Some c → c.reference.0 ≡ z.reference.0 → k ≡ e) e (λ x f. cc);
  own = λ e. no_entry (λ o. (z : Embargo) → o ≡ Some z → is_wire z.node ≡ false) e (λ x f. cc);
  resolved = λ e. no_entry (λ o. LeadsBackOwn (known_by_resolve (resolution_of o))) e tt;
  returned = λ q path. no_entry (λ o. LeadsBackOwn (known_by_return path (returned_of o))) q tt;
}

pub right_only : (s : State) → EmbargoesAreRight s → EmbargoesAreNamed s × ((e : ℕ) (b : Embargo) → map.get s.embargoes e ≡ Some b → IsOnlyEmbargo s e b.reference.0 × (is_wire b.node ≡ false))
right_only s h = (h.named, λ e b f. (h.only e b f, h.own e b f))
