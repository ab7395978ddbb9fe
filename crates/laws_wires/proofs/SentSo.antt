-- What goes out means what its nodes mean; and it does so still as exports are added and labels go.
use Rattle.std.specs.FinMap as map
use Rattle.std.proofs.Common.{◌≡◌, ◌⊎◌, inl, inr, ℕ, zero, suc, ◌+◌, true, false, List, [], ◌∷◌, Option, None, Some, unwrap_or, refl, sym, subst, ap, ◌∙◌}
use Rattle.std.specs.List.{slice_get}
use Rattle.finite_maps.specs.Tally.{Map}
use Rattle.finite_maps.proofs.Gets.{get-insert_same}
use Rattle.finite_maps.proofs.Tested.{at_put}
use Rattle.rpc_msg.specs.CapAt.{CapAt}
use Rattle.rpc_msg.specs.CapAt.TheVariants.{Cap, Null, NotCap}
use Rattle.rpc_msg.specs.declared.ids.Vat.{Vat}
use Rattle.rpc_msg.specs.declared.ids.Stamp.{Stamp}
use Rattle.rpc_msg.specs.declared.parts.Descriptor.{Descriptor}
use Rattle.rpc_msg.specs.declared.parts.Descriptor.TheVariants as descriptor
use Rattle.rpc_msg.specs.declared.message.ReturnBody.{ReturnBody}
use Rattle.rpc_msg.specs.declared.message.ReturnBody.TheVariants as body
use Rattle.rpc_msg.specs.declared.message.ResolvedTo.{ResolvedTo}
use Rattle.rpc_msg.specs.declared.message.ResolvedTo.TheVariants as resolved
use Rattle.rpc_msg.specs.Messages.{descriptors_of_body, descriptors_of_resolved}
use Rattle.rpc_journal.specs.History.{caller}
use Rattle.rpc_journal.specs.Sources.{Asking}
use Rattle.rpc_journal.specs.Meaning.{History}
use Rattle.rpc_machine.specs.Payloads.{cap_at}
use Rattle.rpc_machine.specs.declared.node.Node.{Node}
use Rattle.rpc_machine.specs.declared.node.Node.TheVariants as node
use Rattle.rpc_machine.specs.declared.node.Reason.TheVariants.{NotACapability}
use Rattle.rpc_machine.specs.declared.entries.Export.{Export}
use Rattle.rpc_machine.specs.Descriptors.{export_node}
use Rattle.rpc_machine.specs.Nodes.{settle, node_of_cap}
use Rattle.rpc_machine.specs.State.{State}
use Rattle.laws_acts.specs.GoingOut.{GoesOut, Again, AsNew, AsOther, GoOut, is_own, said}
use Rattle.laws_routes.proofs.ExportsGrown.{Grown, none_grown}
use Rattle.laws_meanings.specs.NodeMeanings.{Meant, OfRef, field_meant}
use Rattle.laws_meanings.specs.NodeLabels.{Labels, LeadsTo, Means, PromiseMeans, OutcomeMeans, label}
use Rattle.laws_meanings.specs.ReadMessages.{cap_read, place_read}
use Rattle.laws_meanings.proofs.Labelled.{settles}
use Rattle.laws_wires.specs.Wires.{CallMeans, ReturnMeans, ResolveMeans}
use Rattle.laws_wires.specs.SentWires.{own_label}
use Rattle.laws_wires.specs.Sent.{IsOurs, AreOurs}

-- ---- Labels that go

abbrev pub Weak : Option Meant → Option Meant → Type 0
Weak o p = (p ≡ o) ⊎ (p ≡ None)

pub weak_to : (h : History) (x : Meant) (o p : Option Meant) → Weak o p → LeadsTo h x o → LeadsTo h x p
weak_to h x o p (inl e) k = subst (LeadsTo h x) (sym e) k
weak_to h x o p (inr e) k = subst (LeadsTo h x) (sym e) tt

module _ (h : History) (read then : Descriptor → Option Meant) where
  abbrev pub EachWeak : List Descriptor → Type 0
  EachWeak ds = (i : ℕ) (d : Descriptor) → slice_get ds i ≡ Some d → Weak (read d) (then d)

  index_weak : (ds : List Descriptor) (i : ℕ) → EachWeak ds → Weak (place_read read ds i) (place_read then ds i)
  index_weak [] i f = inl refl
  index_weak (d ∷ ds) zero f = f 0 d refl
  index_weak (d ∷ ds) (suc i) f = index_weak ds i (λ j c e. f (suc j) c e)

  cap_weak : (ds : List Descriptor) (c : CapAt) → EachWeak ds → Weak (cap_read read ds c) (cap_read then ds c)
  cap_weak ds (Cap i) f = index_weak ds i f
  cap_weak ds Null f = inl refl
  cap_weak ds NotCap f = inl refl

  pub call_weak : (v : Vat) (s : Stamp) (from to : Option Meant) (ds : List Descriptor) → to ≡ from → EachWeak ds → CallMeans h v read s from ds → CallMeans h v then s to ds
  call_weak v s from to ds e f k = (subst (LeadsTo h (OfRef (caller s))) (sym e) k.0, λ i d g. (let y = k.1 i d g in (y.0, y.1, weak_to h y.0 (read d) (then d) (f i d g) y.2)))

  pub return_weak : (a : Vat × Asking) (b : ReturnBody) → EachWeak (descriptors_of_body b) → ReturnMeans h read a b → ReturnMeans h then a b
  return_weak a (body.Results payload ds) f k = (
    λ path. weak_to h (field_meant h a.0 a.1 path) (cap_read read ds (cap_at payload path)) (cap_read then ds (cap_at payload path)) (cap_weak ds (cap_at payload path) f) (k.0 path),
    λ i d g. (let y = k.1 i d g in (y.0, y.1, weak_to h y.0 (read d) (then d) (f i d g) y.2)),
    k.2,
  )
  return_weak a (body.Exception exception) f k = k
  return_weak a body.Canceled f k = tt

  pub resolve_weak : (x y : Option Meant) (to : ResolvedTo) → y ≡ x → EachWeak (descriptors_of_resolved to) → ResolveMeans h read x to → ResolveMeans h then y to
  resolve_weak x y (resolved.Cap d) e f k = (k.0, e ∙ k.1, weak_to h k.0 (read d) (then d) (f 0 d refl) k.2)
  resolve_weak x y (resolved.Exception exception) e f k = (k.0, e ∙ k.1, k.2)

-- ---- Exports that are added

pub grown_on : (E F G : Map Export) → Grown E F → Grown F G → Grown E G
grown_on E F G a b = record { still = λ e x f. (let y = a.still e x f in let z = b.still e y.0 y.1 in (z.0, z.1, z.2 ∙ y.2)) }

grown_put : (E : Map Export) (e : ℕ) (y : Export) → ((x : Export) → map.get E e ≡ Some x → y.node ≡ x.node) → Grown E (map.insert E e y)
grown_put E e y same = record {
  still = at_put (λ j o. (x : Export) → map.get E j ≡ Some x → (z : Export) × (o ≡ Some z) × (z.node ≡ x.node)) E e y (λ x f. (y, refl, same x f)) (λ j b x f. (x, f, refl));
}

module _ (h : History) (v : Vat) (l : Labels) where
  pub export_node_grown : (E F : Map Export) → Grown E F → (e : ℕ) (x : Export) → map.get E e ≡ Some x → export_node (map.get F e) ≡ export_node (map.get E e)
  export_node_grown E F g e x f = let y = g.still e x f in ap export_node y.1 ∙ y.2 ∙ ap export_node (sym f)

  pub own_grown : (E F : Map Export) → Grown E F → (d : Descriptor) → IsOurs E d → own_label h v l F d ≡ own_label h v l E d
  own_grown E F g descriptor.None k = refl
  own_grown E F g (descriptor.SenderHosted e) k = ap (label h v l) (export_node_grown E F g e.0 k.0 k.1)
  own_grown E F g (descriptor.SenderPromise e) k = ap (label h v l) (export_node_grown E F g e.0 k.0 k.1)
  own_grown E F g (descriptor.ReceiverHosted e) k = refl
  own_grown E F g (descriptor.ReceiverAnswer q path) k = refl

pub ours_grown : (E F : Map Export) → Grown E F → (d : Descriptor) → IsOurs E d → IsOurs F d
ours_grown E F g descriptor.None k = tt
ours_grown E F g (descriptor.SenderHosted e) k = let y = g.still e.0 k.0 k.1 in (y.0, y.1)
ours_grown E F g (descriptor.SenderPromise e) k = let y = g.still e.0 k.0 k.1 in (y.0, y.1)
ours_grown E F g (descriptor.ReceiverHosted e) k = tt
ours_grown E F g (descriptor.ReceiverAnswer q path) k = tt

pub all_ours_grown : (E F : Map Export) → Grown E F → (ds : List Descriptor) → AreOurs E ds → AreOurs F ds
all_ours_grown E F g [] k = tt
all_ours_grown E F g (d ∷ ds) k = (ours_grown E F g d k.0, all_ours_grown E F g ds k.1)

pub ours_at : (E : Map Export) (ds : List Descriptor) (i : ℕ) (d : Descriptor) → AreOurs E ds → slice_get ds i ≡ Some d → IsOurs E d
ours_at E [] i d k e = let bad : ◌≡◌ {A = Option Descriptor} None (Some d) = e in cc
ours_at E (c ∷ ds) zero d k e = let is : c ≡ d = cc in subst (IsOurs E) is k.0
ours_at E (c ∷ ds) (suc i) d k e = ours_at E ds i d k.1 e

-- ---- What goes out

module _ (h : History) (v : Vat) (l : Labels) where
  -- One that goes out: it has that label, and what was exported is still.
  pub record Gone (E : Map Export) (n : Node) (d : Descriptor) (F : Map Export) : Type 0 where
    pub label : own_label h v l F d ≡ label h v l n
    pub ours : IsOurs F d
    pub grown : Grown E F

  own_said : (F : Map Export) (e : ℕ) (n : Node) (y : Export) → is_own n ≡ true → map.get F e ≡ Some y → y.node ≡ n → (own_label h v l F (said n e) ≡ label h v l n) × IsOurs F (said n e)
  own_said F e (node.Object o) y own f g = (ap (label h v l) (ap export_node f ∙ g), (y, f))
  own_said F e (node.Promise p) y own f g = (ap (label h v l) (ap export_node f ∙ g), (y, f))
  own_said F e (node.Field o path) y own f g = (ap (label h v l) (ap export_node f ∙ g), (y, f))
  own_said F e (node.Import i) y own f g = (refl, tt)
  own_said F e (node.Pipe q path) y own f g = (refl, tt)
  own_said F e (node.Broken reason) y own f g = (refl, tt)

  other_said : (F : Map Export) (n : Node) → is_own n ≡ false → (own_label h v l F (said n 0) ≡ label h v l n) × IsOurs F (said n 0)
  other_said F (node.Object o) own = cc
  other_said F (node.Promise p) own = cc
  other_said F (node.Field o path) own = cc
  other_said F (node.Import i) own = (refl, tt)
  other_said F (node.Pipe q path) own = (refl, tt)
  other_said F (node.Broken reason) own = (refl, tt)

  gone_as : (E F : Map Export) (n : Node) (c d : Descriptor) → d ≡ c → (own_label h v l F c ≡ label h v l n) × IsOurs F c → Grown E F → Gone E n d F
  gone_as E F n c d is k g = record { label = ap (own_label h v l F) is ∙ k.0; ours = subst (IsOurs F) (sym is) k.1; grown = g }

  pub goes_so : (E : Map Export) (n : Node) (d : Descriptor) (F : Map Export) → GoesOut E n d F → Gone E n d F
  goes_so E n d F (Again e x own is at same new) =
      let y : Export = record { node = n; count = x.count + 1 } in
      let put = map.insert E e y in
      subst (Gone E n d) (sym new)
      (gone_as E put n (said n e) d is (own_said put e n y own (get-insert_same E e y) refl)
      (grown_put E e y (λ z f. (let i : Some x ≡ Some z = sym at ∙ f in let j : x ≡ z = cc in sym same ∙ ap (λ (a : Export). a.node) j))))
  goes_so E n d F (AsNew e own is free other new) =
      let y : Export = record { node = n; count = 1 } in
      let put = map.insert E e y in
      subst (Gone E n d) (sym new)
      (gone_as E put n (said n e) d is (own_said put e n y own (get-insert_same E e y) refl) (grown_put E e y (λ z f. (let bad : None ≡ Some z = sym free ∙ f in cc))))
  goes_so E n d F (AsOther own is new) = subst (Gone E n d) (sym new) (gone_as E E n (said n 0) d is (other_said E n own) (none_grown E))

  -- Capabilities of a moment.
  module _ (s : State) (promises : (p : ℕ) → PromiseMeans h v l p (map.get s.promises p)) (outcomes : (o : ℕ) → OutcomeMeans h v l o (map.get s.outcomes o)) where
    pub record AllGone (E : Map Export) (ns : List Node) (ds : List Descriptor) (F : Map Export) : Type 0 where
      pub index : (i : ℕ) (x : Meant) → Means h v l x (unwrap_or (slice_get ns i) (node.Broken NotACapability)) → LeadsTo h x (place_read (own_label h v l F) ds i)
      pub each : (i : ℕ) (d : Descriptor) → slice_get ds i ≡ Some d → (n : Node) × (slice_get ns i ≡ Some n) × ((x : Meant) → Means h v l x n → LeadsTo h x (own_label h v l F d))
      pub ours : AreOurs F ds
      pub grown : Grown E F

    none_gone : (E : Map Export) → AllGone E [] [] E
    none_gone E = record { index = λ i x k. k; each = λ i d e. (let bad : ◌≡◌ {A = Option Descriptor} None (Some d) = e in cc); ours = tt; grown = none_grown E }

    one_to : (E M F : Map Export) (n : Node) (d : Descriptor) → Gone E (settle s n) d M → Grown M F → (x : Meant) → Means h v l x n → LeadsTo h x (own_label h v l F d)
    one_to E M F n d g more x k = subst (LeadsTo h x) (sym (own_grown h v l M F more d g.ours ∙ g.label)) (settles h v l s promises outcomes x n k)

    one_more : (E M F : Map Export) (n : Node) (d : Descriptor) (ns : List Node) (ds : List Descriptor) → Gone E (settle s n) d M → AllGone M ns ds F → AllGone E (n ∷ ns) (d ∷ ds) F
    one_more E M F n d ns ds g r = record { index = index; each = each; ours = (ours_grown M F r.grown d g.ours, r.ours); grown = grown_on E M F g.grown r.grown }
      where
        index : (i : ℕ) (x : Meant) → Means h v l x (unwrap_or (slice_get (n ∷ ns) i) (node.Broken NotACapability)) → LeadsTo h x (place_read (own_label h v l F) (d ∷ ds) i)
        index zero x k = one_to E M F n d g r.grown x k
        index (suc i) x k = r.index i x k

        each : (i : ℕ) (c : Descriptor) → slice_get (d ∷ ds) i ≡ Some c → (m : Node) × (slice_get (n ∷ ns) i ≡ Some m) × ((x : Meant) → Means h v l x m → LeadsTo h x (own_label h v l F c))
        each zero c e = let is : d ≡ c = cc in (n, refl, λ x k. subst (λ z. LeadsTo h x (own_label h v l F z)) is (one_to E M F n d g r.grown x k))
        each (suc i) c e = r.each i c e

    pub all_go : (E : Map Export) (ns : List Node) (ds : List Descriptor) (F : Map Export) → GoOut s E ns ds F → AllGone E ns ds F
    all_go E [] [] F g = subst (AllGone E [] []) (sym g) (none_gone E)
    all_go E [] (d ∷ ds) F g = absurd g
    all_go E (n ∷ ns) [] F g = absurd g
    all_go E (n ∷ ns) (d ∷ ds) F g = one_more E g.0 F n d ns ds (goes_so E (settle s n) d g.0 g.1) (all_go g.0 ns ds F g.2)

    pub caps_to : (ns : List Node) (ds : List Descriptor) (E F : Map Export) → AllGone E ns ds F → (c : CapAt) (x : Meant) → Means h v l x (node_of_cap ns c) → LeadsTo h x (cap_read (own_label h v l F) ds c)
    caps_to ns ds E F g (Cap i) x k = g.index i x k
    caps_to ns ds E F g Null x k = k
    caps_to ns ds E F g NotCap x k = k
