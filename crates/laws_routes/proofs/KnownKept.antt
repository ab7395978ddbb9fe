-- What is known of wires stays so.
use Rattle.std.specs.FinMap as map
use Rattle.std.proofs.Common.{◌≡◌, ◌⊎◌, inl, inr, ℕ, ◌-◌, Bool, nat_le, true, false, cond, List, [], ◌∷◌, Option, None, Some, refl, sym, ap, subst}
use Rattle.finite_maps.specs.Tally.{Map}
use Rattle.finite_maps.proofs.Tested.{at_cut, at_put}
use Rattle.rpc_msg.specs.declared.ids.Vat.{Vat}
use Rattle.rpc_msg.specs.declared.parts.Descriptor.{Descriptor}
use Rattle.rpc_msg.specs.declared.message.PlainMessage.TheVariants as plain
use Rattle.rpc_msg.specs.Vats.{other_vat}
use Rattle.rpc_machine.specs.declared.node.Node.{Node}
use Rattle.rpc_machine.specs.declared.entries.Export.{Export}
use Rattle.rpc_machine.specs.declared.entries.Finishing.{Finishing}
use Rattle.rpc_machine.specs.declared.entries.Finishing.TheVariants as finishing
use Rattle.rpc_machine.specs.declared.entries.Import.{Import}
use Rattle.rpc_machine.specs.declared.entries.Question.{Question}
use Rattle.rpc_machine.specs.declared.entries.Resolution.{Resolution}
use Rattle.rpc_machine.specs.declared.entries.Returned.{Returned}
use Rattle.rpc_machine.specs.declared.entries.SenderKind.{SenderKind}
use Rattle.rpc_machine.specs.State.{State}
use Rattle.rpc_machine.specs.Nodes.{is_field, is_import, is_pipe, is_promise}
use Rattle.rpc_machine.specs.Progress.{Progress, export_id, send}
use Rattle.rpc_machine.specs.Advancing.{Known, NothingYet, IsBroken, Leads, known_by_resolve, known_by_return, resolution_of, returned_of}
use Rattle.rpc_machine.specs.Collecting.{Goes, PromiseGoes, OutcomeGoes, ImportGoes, Collects, Tight, Loose}
use Rattle.rpc_machine.specs.Descriptors.{import_one, received}
use Rattle.rpc_machine.specs.Flags.{flag_for, give_back, give_each, give_if, give_one}
use Rattle.rpc_machine.specs.Sweeping.{FinishesEach, Sweeps, closed, closed_map, finished_by, got_of, release_each}
use Rattle.laws_order.specs.Machine.{Net}
use Rattle.laws_routes.specs.Points.{Point, AField, routes}
use Rattle.laws_routes.specs.Ghosts.{Ghost, point, asked, holding, importing, keeping}
use Rattle.laws_routes.specs.Sayings.{IsKnown, IsSaid, KnownIsSo}
use Rattle.laws_routes.specs.Named.{NoneLeads}
use Rattle.laws_routes.proofs.Differing.{with_other}
use Rattle.laws_routes.proofs.NewPoints.{asked_point, holding_point, imported_point, keeping_point}

-- ---- Less is known

-- Nothing, or what was.
abbrev pub Less : {X : Type 0} → Option X → Option X → Type 0
Less old new = (new ≡ None) ⊎ (new ≡ old)

module _ (v : Vat) (g : Ghost) (n : Net routes) where
  by_resolution : (w : Point) (old new : Option Resolution) → Less old new → IsKnown v g n w (known_by_resolve old) → IsKnown v g n w (known_by_resolve new)
  by_resolution w old new (inl e) h = subst (λ z. IsKnown v g n w (known_by_resolve z)) (sym e) tt
  by_resolution w old new (inr e) h = subst (λ z. IsKnown v g n w (known_by_resolve z)) (sym e) h

  by_returned : (w : Point) (path : _) (old new : Option Returned) → Less old new → IsKnown v g n w (known_by_return path old) → IsKnown v g n w (known_by_return path new)
  by_returned w path old new (inl e) h = subst (λ z. IsKnown v g n w (known_by_return path z)) (sym e) tt
  by_returned w path old new (inr e) h = subst (λ z. IsKnown v g n w (known_by_return path z)) (sym e) h

  pub less : (s t : State) → ((e : ℕ) → Less (resolution_of (map.get s.imports e)) (resolution_of (map.get t.imports e))) → ((q : ℕ) → Less (returned_of (map.get s.questions q)) (returned_of (map.get t.questions q)))
      → KnownIsSo v s g n → KnownIsSo v t g n
  less s t a b h = (
    λ e. by_resolution (g.import e) (resolution_of (map.get s.imports e)) (resolution_of (map.get t.imports e)) (a e) (h.0 e),
    λ q path. by_returned (AField (other_vat v) (g.session q) path) path (returned_of (map.get s.questions q)) (returned_of (map.get t.questions q)) (b q) (h.1 q path),
  )

  -- ---- The end of a step

  pub went : (d new : Progress) → Goes d new → KnownIsSo v d.state g n → KnownIsSo v new.state g n
  went d new (PromiseGoes p loose e) h = subst (λ (z : Progress). KnownIsSo v z.state g n) (sym e) (less d.state (record (d.state) { promises = map.remove d.state.promises p }) (λ k. inr refl) (λ k. inr refl) h)
  went d new (OutcomeGoes o loose e) h = subst (λ (z : Progress). KnownIsSo v z.state g n) (sym e) (less d.state (record (d.state) { outcomes = map.remove d.state.outcomes o }) (λ k. inr refl) (λ k. inr refl) h)
  went d new (ImportGoes i loose e) h =
      subst (λ (z : Progress). KnownIsSo v z.state g n) (sym e)
      (less d.state (record (d.state) { imports = map.remove d.state.imports i }) (at_cut (λ k o. Less (resolution_of (map.get d.state.imports k)) (resolution_of o)) d.state.imports i (inl refl) (λ k f. inr refl)) (λ k. inr refl) h)

  collected : (new d : Progress) → Collects new d → KnownIsSo v d.state g n → KnownIsSo v new.state g n
  collected new d (Tight t) h = h
  collected new d (Loose {mid = mid} a more) h = collected new mid more (went d mid a h)

  gave_one : (m : Map Import) (e : ℕ) (k : ℕ) → Less (resolution_of (map.get m k)) (resolution_of (map.get (give_one m e (map.get m e)) k))
  gave_one m e = by (map.get m e) refl
    where
      left : (x : Import) (b : Bool) → map.get m e ≡ Some x → (k : ℕ) → Less (resolution_of (map.get m k)) (resolution_of (map.get (cond b (map.remove m e) (map.insert m e (record x { count = x.count - 1 }))) k))
      left x true f = at_cut (λ k o. Less (resolution_of (map.get m k)) (resolution_of o)) m e (inl refl) (λ k a. inr refl)
      left x false f = at_put (λ k o. Less (resolution_of (map.get m k)) (resolution_of o)) m e (record x { count = x.count - 1 }) (inr (sym (ap resolution_of f))) (λ k a. inr refl)

      by : (o : Option Import) → map.get m e ≡ o → (k : ℕ) → Less (resolution_of (map.get m k)) (resolution_of (map.get (give_one m e o) k))
      by None f = λ k. inr refl
      by (Some x) f = left x (nat_le x.count 1) f

  pub gave_each : (es : List ℕ) (s : State) → KnownIsSo v s g n → KnownIsSo v (record s { imports = give_each s.imports es }) g n
  gave_each [] s h = h
  gave_each (e ∷ es) s h =
      let t : State = record s { imports = give_one s.imports e (map.get s.imports e) } in
      gave_each es t (less s t (gave_one s.imports e) (λ k. inr refl) h)

  pub gave : (s : State) (b : Bool) (es : List ℕ) → KnownIsSo v s g n → KnownIsSo v (give_if s b es) g n
  gave s true es h = gave_each es s h
  gave s false es h = h

  pub close : (s : State) (q : ℕ) (x : Question) → KnownIsSo v s g n → KnownIsSo v (closed s q x) g n
  close s q x h = by x.returned refl
    where
      by : (o : Option Returned) → x.returned ≡ o → KnownIsSo v (record s { questions = closed_map s.questions q x o }) g n
      by None e = less s (record s { questions = map.insert s.questions q (record x { finish = finishing.Sent }) }) (λ k. inr refl)
          (at_put (λ k o. Less (returned_of (map.get s.questions k)) (returned_of o)) s.questions q (record x { finish = finishing.Sent }) (inl e) (λ k a. inr refl)) h
      by (Some said) e = less s (record s { questions = map.remove s.questions q }) (λ k. inr refl)
          (at_cut (λ k o. Less (returned_of (map.get s.questions k)) (returned_of o)) s.questions q (inl refl) (λ k a. inr refl)) h

  finished : (d : Progress) (q : ℕ) (x : Question) (f : Finishing) → KnownIsSo v d.state g n → KnownIsSo v (finished_by d q x f).state g n
  finished d q x finishing.Owed h = close (give_back d.state (got_of x.returned)) q x (gave d.state (flag_for d.state (got_of x.returned)) (got_of x.returned) h)
  finished d q x finishing.Sent h = h
  finished d q x finishing.Waived h = close d.state q x h

  each_finished : (xs : List (ℕ × Question)) (d new : Progress) → FinishesEach d xs new → KnownIsSo v d.state g n → KnownIsSo v new.state g n
  each_finished [] d new e h = subst (λ (z : Progress). KnownIsSo v z.state g n) (sym e) h
  each_finished (x ∷ xs) d new e h =
      let y : Question = x.1 in
      each_finished xs (finished_by e.0 x.0 y y.finish) new e.2 (finished e.0 x.0 y y.finish (collected e.0 d e.1 h))

  each_released : (xs : List (ℕ × ℕ)) (d : Progress) → KnownIsSo v d.state g n → KnownIsSo v (release_each d xs).state g n
  each_released [] d h = h
  each_released (x ∷ xs) d h = each_released xs (send d (plain.Release (record { export = export_id x.0; count = x.1 }))) h

pub known_at_ends : (v : Vat) (g : Ghost) (n : Net routes) (d new : Progress) → Sweeps d new → KnownIsSo v d.state g n → KnownIsSo v new.state g n
known_at_ends v g n d new e h =
    let mid : Progress = e.2.0 in
    let tight : Progress = e.2.2.0 in
    let at_tight = collected v g n tight mid e.2.2.1 (each_finished v g n (map.entries e.0) d mid e.2.1 h) in
    subst (λ (z : Progress). KnownIsSo v z.state g n) (sym e.2.2.2) (each_released v g n (map.entries tight.released) tight at_tight)

-- ---- Ids and identities are given

-- Of a wire the same is known, of the same point, or nothing.
abbrev SameKnown : (old new : Known) (x y : Point) → Type 0
SameKnown old new x y = (new ≡ NothingYet) ⊎ ((new ≡ old) × (y ≡ x))

module _ (v : Vat) (g f : Ghost) (n : Net routes) where
  said_still : (w : Point) (z : Known) → ((said : Descriptor) (to : Node) → z ≡ Leads said to → point v f to ≡ point v g to) → IsKnown v g n w z → IsKnown v f n w z
  said_still w NothingYet same h = h
  said_still w (IsBroken reason) same h = h
  said_still w (Leads said to) same h = subst (λ (p : Point). IsSaid n w said p) (sym (same said to refl)) h

  given_one : (old new : Known) (x y : Point) → ((said : Descriptor) (to : Node) → old ≡ Leads said to → point v f to ≡ point v g to) → IsKnown v g n x old → SameKnown old new x y → IsKnown v f n y new
  given_one old new x y points h (inl e) = subst (IsKnown v f n y) (sym e) tt
  given_one old new x y points h (inr e) = subst (IsKnown v f n y) (sym e.0) (subst (λ (p : Point). IsKnown v f n p old) (sym e.1) (said_still x old points h))

  -- All others stand for what they stood for.
  pub given_points : (s : State) → (f.import ≡ g.import) → (f.session ≡ g.session) → (test : Node → Bool) → NoneLeads s test → ((to : Node) → test to ≡ false → point v f to ≡ point v g to) → KnownIsSo v s g n → KnownIsSo v s f n
  given_points s i j test none points h = (
    λ e. given_one (known_by_resolve (resolution_of (map.get s.imports e))) (known_by_resolve (resolution_of (map.get s.imports e))) (g.import e) (f.import e) (λ said to a. points to (none.0 e said to a)) (h.0 e) (inr (refl, ap (λ (z : ℕ → Point). z e) i)),
    λ q path. given_one (known_by_return path (returned_of (map.get s.questions q))) (known_by_return path (returned_of (map.get s.questions q))) (AField (other_vat v) (g.session q) path) (AField (other_vat v) (f.session q) path)
        (λ said to a. points to (none.1 q path said to a)) (h.1 q path) (inr (refl, ap (λ (z : ℕ → ℕ). AField (other_vat v) (z q) path) j)),
  )

pub known_as_asked : (v : Vat) (s : State) (g : Ghost) (n : Net routes) (q i : ℕ) (exports : Map Export) (x : Question) → map.get s.questions q ≡ None → x.returned ≡ None → NoneLeads s (is_pipe q) → KnownIsSo v s g n
    → KnownIsSo v (record s { exports = exports; questions = map.insert s.questions q x }) (asked g q i) n
known_as_asked v s g n q i exports x free new none h = (
  λ e. given_one v g f n (known_by_resolve (resolution_of (map.get s.imports e))) (known_by_resolve (resolution_of (map.get s.imports e))) (g.import e) (g.import e) (λ said to a. asked_point v g q i to (none.0 e said to a)) (h.0 e) (inr (refl, refl)),
  λ k path. given_one v g f n (known_by_return path (returned_of (map.get s.questions k))) (known_by_return path (returned_of (map.get (map.insert s.questions q x) k))) (AField (other_vat v) (g.session k) path) (AField (other_vat v) (f.session k) path)
      (λ said to a. asked_point v g q i to (none.1 k path said to a)) (h.1 k path)
      (at_put (λ j o. SameKnown (known_by_return path (returned_of (map.get s.questions j))) (known_by_return path (returned_of o)) (AField (other_vat v) (g.session j) path) (AField (other_vat v) (f.session j) path))
      s.questions q x (inl (ap (λ (z : Option Returned). known_by_return path z) new)) (λ j a. inr (refl, ap (λ (z : ℕ). AField (other_vat v) z path) (with_other g.session q i j a))) k),
)
  where
    f : Ghost
    f = asked g q i

pub known_as_kept : (v : Vat) (s : State) (g : Ghost) (n : Net routes) (o i : ℕ) → NoneLeads s (is_field o) → KnownIsSo v s g n → KnownIsSo v s (keeping g o i) n
known_as_kept v s g n o i none h = given_points v g (keeping g o i) n s refl refl (is_field o) none (λ to e. keeping_point v g o i to e) h

pub known_as_held : (v : Vat) (s : State) (g : Ghost) (n : Net routes) (p i : ℕ) → NoneLeads s (is_promise p) → KnownIsSo v s g n → KnownIsSo v s (holding g p i) n
known_as_held v s g n p i none h = given_points v g (holding g p i) n s refl refl (is_promise p) none (λ to e. holding_point v g p i to e) h

pub known_as_imported : (v : Vat) (s : State) (g : Ghost) (n : Net routes) (kind : SenderKind) (e : ℕ) (x : Point) → map.get s.imports e ≡ None → NoneLeads s (is_import e) → KnownIsSo v s g n
    → KnownIsSo v (import_one s kind e) (importing g e x) n
known_as_imported v s g n kind e x free none h = (
  λ k. given_one v g f n (known_by_resolve (resolution_of (map.get s.imports k))) (known_by_resolve (resolution_of (map.get (import_one s kind e).imports k))) (g.import k) (f.import k) (λ said to a. imported_point v g e x to (none.0 k said to a)) (h.0 k)
      (at_put (λ j o. SameKnown (known_by_resolve (resolution_of (map.get s.imports j))) (known_by_resolve (resolution_of o)) (g.import j) (f.import j)) s.imports e (received kind (map.get s.imports e))
      (inl (ap (λ o. known_by_resolve (resolution_of (Some (received kind o)))) free)) (λ j a. inr (refl, with_other g.import e x j a)) k),
  λ q path. given_one v g f n (known_by_return path (returned_of (map.get s.questions q))) (known_by_return path (returned_of (map.get s.questions q))) (AField (other_vat v) (g.session q) path) (AField (other_vat v) (g.session q) path)
      (λ said to a. imported_point v g e x to (none.1 q path said to a)) (h.1 q path) (inr (refl, refl)),
)
  where
    f : Ghost
    f = importing g e x

-- One more of an import that is there.
pub known_as_received : (v : Vat) (s : State) (g : Ghost) (n : Net routes) (kind : SenderKind) (e : ℕ) → KnownIsSo v s g n → KnownIsSo v (import_one s kind e) g n
known_as_received v s g n kind e h = (at_put (λ j o. IsKnown v g n (g.import j) (known_by_resolve (resolution_of o))) s.imports e (received kind (map.get s.imports e)) (by (map.get s.imports e) (h.0 e)) (λ j a. h.0 j), h.1)
  where
    by : (o : Option Import) → IsKnown v g n (g.import e) (known_by_resolve (resolution_of o)) → IsKnown v g n (g.import e) (known_by_resolve (resolution_of (Some (received kind o))))
    by None k = tt
    by (Some x) k = k

pub none_received : (s : State) (kind : SenderKind) (e : ℕ) (test : Node → Bool) → NoneLeads s test → NoneLeads (import_one s kind e) test
none_received s kind e test h = (at_put (λ j o. (said : Descriptor) (to : Node) → known_by_resolve (resolution_of o) ≡ Leads said to → test to ≡ false) s.imports e (received kind (map.get s.imports e)) (by (map.get s.imports e) (h.0 e)) (λ j a. h.0 j), h.1)
  where
    by : (o : Option Import) → ((said : Descriptor) (to : Node) → known_by_resolve (resolution_of o) ≡ Leads said to → test to ≡ false) → (said : Descriptor) (to : Node) → known_by_resolve (resolution_of (Some (received kind o))) ≡ Leads said to → test to ≡ false
    by None k said to a = (let b : NothingYet ≡ Leads said to = a in cc)
    by (Some x) k said to a = k said to a
