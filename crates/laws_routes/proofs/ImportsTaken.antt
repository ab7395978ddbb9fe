-- Descriptors are taken, and imports come.
use Rattle.std.specs.FinMap as map
use Rattle.std.proofs.Common.{◌≡◌, ℕ, Bool, false, List, [], ◌∷◌, ◌++◌, Option, None, Some, IsSome, refl, sym, ap, subst, ◌∙◌, nat_eq, true, ◌||◌, arith}
use Rattle.finite_maps.proofs.Tested.{at_put}
use Rattle.rpc_msg.specs.declared.ids.Vat.{Vat}
use Rattle.rpc_msg.specs.declared.parts.Descriptor.{Descriptor}
use Rattle.rpc_msg.specs.declared.parts.Descriptor.TheVariants as descriptor
use Rattle.rpc_msg.specs.declared.message.Message as rpc
use Rattle.rpc_msg.specs.Messages.{given}
use Rattle.rpc_msg.specs.Vats.{other_vat}
use Rattle.rpc_machine.specs.declared.command.Level.{Level}
use Rattle.rpc_machine.specs.declared.command.Level.TheVariants.{Zero, One}
use Rattle.rpc_machine.specs.declared.node.Node.{Node}
use Rattle.rpc_machine.specs.declared.node.Node.TheVariants as node
use Rattle.rpc_machine.specs.declared.entries.SenderKind.{SenderKind}
use Rattle.rpc_machine.specs.declared.entries.SenderKind.TheVariants as kind
use Rattle.rpc_machine.specs.declared.entries.Reference.{Reference}
use Rattle.rpc_machine.specs.declared.entries.Embargo.{Embargo}
use Rattle.rpc_machine.specs.declared.entries.Export.{Export}
use Rattle.rpc_machine.specs.declared.entries.Import.{Import}
use Rattle.rpc_machine.specs.State.{State}
use Rattle.rpc_machine.specs.Nodes.{link, is_import, is_wire}
use Rattle.rpc_machine.specs.Progress.{Progress, with_state}
use Rattle.rpc_machine.specs.Descriptors.{export_node, received, import_one, take_each, take_at}
use Rattle.laws_order.specs.Machine.{Net}
use Rattle.laws_order.specs.Machine as routing
use Rattle.laws_routes.specs.Points.{Point, routes}
use Rattle.laws_routes.specs.Ghosts.{Ghost, point, far, ref_at, importing}
use Rattle.laws_routes.specs.Sides.{Side, IsLinked, HasHead, IsRef, HasEmbargo}
use Rattle.laws_routes.specs.Views.{IsExportAs, IsImportOf, IsSession, reader, sessions_at}
use Rattle.laws_routes.specs.Ties.{Around, Ghosts, Tied, TiedBy}
use Rattle.laws_routes.specs.Premises.{EachMayTake, EachOpen, ExportsAreOwn, MayTake, Unnamed}
use Rattle.laws_routes.specs.MessageLaws.{SameButImports}
use Rattle.laws_routes.proofs.Differing.{with_here, with_other}
use Rattle.laws_routes.proofs.LinkShapes.{all_opens, past_same, shapes_exports, shapes_same}
use Rattle.laws_routes.proofs.NewPoints.{imported_own, imported_point}
use Rattle.laws_routes.proofs.OutcomeKept.{all_caps}
use Rattle.laws_routes.specs.Named.{NoneLeads}
use Rattle.laws_routes.specs.KnownLaws.{SamePoints}
use Rattle.laws_routes.specs.Sayings.{AllSaid, bare, has_of, is_among}
use Rattle.laws_routes.proofs.KnownKept.{known_as_imported, known_as_received, none_received}
use Rattle.laws_routes.proofs.SayingsCarried.{each_return, or_right, said_as_given, said_of_fewer}
use Rattle.laws_routes.proofs.SilentMessages.{none_coming}
use Rattle.std.specs.Prelude.{is_some}

-- ---- What other nodes stand for

module _ (v : Vat) (g : Ghost) (e : ℕ) (x : Point) where
  same_far : (n : Node) → is_import e n ≡ false → far v (importing g e x) n ≡ far v g n
  same_far (node.Object o) h = refl
  same_far (node.Promise p) h = refl
  same_far (node.Field o path) h = refl
  same_far (node.Import k) h = ap Some (with_other g.import e x k.0 h)
  same_far (node.Pipe q path) h = refl
  same_far (node.Broken reason) h = refl

  same_head : (n : Node) (dead : Bool) (head : Point) → is_import e n ≡ false → HasHead v g n dead head → HasHead v (importing g e x) n dead head
  same_head (node.Object o) dead head h k = k
  same_head (node.Promise p) dead head h k = k
  same_head (node.Field o path) dead head h k = k
  same_head (node.Import j) dead head h k = (k.0, k.1 ∙ sym (with_other g.import e x j.0 h))
  same_head (node.Pipe q path) dead head h k = k
  same_head (node.Broken reason) dead head h k = k

-- ---- A new import

new_side : (v : Vat) (s : State) (g : Ghost) (next : ℕ) (m : routing.State routes) (e : ℕ) (x : Point) (k : SenderKind) → Unnamed s (is_import e) → Side v s g next m → Side v (import_one s k e) (importing g e x) next m
new_side v s g next m e x k un h = record {
  stops = λ n w i. linked n w (link s n) (λ j f. un.links n j i f) (h.stops n w i);
  refs = λ r. ref r (map.get s.refs r) refl (h.refs r);
  embargoes = λ b. embargo b (map.get s.embargoes b) refl (h.embargoes b);
  no_other_embargoes = h.no_other_embargoes;
  lists = h.lists;
  ids = h.ids;
}
  where
    f : Ghost
    f = importing g e x

    linked : (n : Node) → is_wire n ≡ false → (o : Option Node) → ((j : Node) → o ≡ Some j → is_import e j ≡ false) → IsLinked v g m.net n o → IsLinked v (importing g e x) m.net n o
    linked n w None un a = rw (imported_own v g e x n w) a
    linked n w (Some j) un a = rw (imported_own v g e x n w) (rw (imported_point v g e x j (un j refl)) (rw (same_far v g e x j (un j refl)) a))

    ref : (r : ℕ) (o : Option Reference) → map.get s.refs r ≡ o → IsRef v g s.next_ref r o (m.refs (ref_at v r)) → IsRef v (importing g e x) s.next_ref r o (m.refs (ref_at v r))
    ref r None i a = a
    ref r (Some y) i a = (a.0, a.1, a.2, same_head v g e x y.head _ _ (un.heads r y i) a.3, a.4)

    embargo : (b : ℕ) (o : Option Embargo) → map.get s.embargoes b ≡ o → HasEmbargo v g m o → HasEmbargo v (importing g e x) m o
    embargo b None i a = tt
    embargo b (Some y) i a = (a.0, a.1, a.2, a.3, a.4, a.5 ∙ sym (imported_point v g e x y.node (un.embargoes b y i)))

module _ (w : Around) (coming : List ℕ) (d : Progress) (g : Ghosts) (m : routing.State routes) (t : TiedBy w coming d.state d.effects.sends d.effects.deliveries g m) (e : ℕ) (k : SenderKind) (among : is_among e coming ≡ true) where
  abbrev s : State
  s = d.state

  abbrev u : Vat
  u = other_vat w.vat

  abbrev x : Point
  x = point u g.theirs (export_node (map.get (w.other).exports e))

  abbrev f : Ghost
  f = importing g.own e x

  is_export : (o : Option Export) → IsSome o → IsExportAs u g.theirs (point u g.theirs (export_node o)) o
  is_export None i = cc
  is_export (Some y) i = refl

  -- It was coming.
  no_more : (j : ℕ) → (is_among j coming || is_some (map.get (import_one s k e).imports j)) ≡ true → (is_among j coming || is_some (map.get s.imports j)) ≡ true
  no_more = at_put (λ j o. (is_among j coming || is_some o) ≡ true → (is_among j coming || is_some (map.get s.imports j)) ≡ true) s.imports e (received k (map.get s.imports e))
      (λ h. subst (λ (b : Bool). (b || is_some (map.get s.imports e)) ≡ true) (sym among) refl) (λ j n h. h)

  still_comes : AllSaid (bare m.net) u (w.other).exports g.theirs w.vat s.exports g.own (has_of coming (import_one s k e).imports s.questions) (sessions_at g.own.outcome s.answers) w.back
  still_comes = said_of_fewer (bare m.net) u (w.other).exports g.theirs w.vat s.exports g.own (has_of coming s.imports s.questions) (has_of coming (import_one s k e).imports s.questions) (sessions_at g.own.outcome s.answers) w.back no_more (each_return _ w.back (λ q h. h)) t.comes

  new_import : ExportsAreOwn s → IsSome (map.get (w.other).exports e) → map.get s.imports e ≡ None → Unnamed s (is_import e) → NoneLeads s (is_import e) → TiedBy w coming (import_one s k e) d.effects.sends d.effects.deliveries (record g { own = f }) m
  new_import own there free un unsaid =
      let view = t.view in
      let back = t.back in
      record {
        own = new_side w.vat s g.own g.next m e x k un t.own;
        theirs = t.theirs;
        view = record {
          imports = at_put (λ j o. IsImportOf u g.theirs (f.import j) (map.get (w.other).exports j) o) s.imports e (received k (map.get s.imports e))
              (subst (λ (z : Point). IsExportAs u g.theirs z (map.get (w.other).exports e)) (sym (with_here g.own.import e x)) (is_export (map.get (w.other).exports e) there))
              (λ j n. subst (λ (z : Point). IsImportOf u g.theirs z (map.get (w.other).exports j) (map.get s.imports j)) (sym (with_other g.own.import e x j n)) (view.imports j));
          sessions = subst (λ (z : ℕ → ℕ). (q : ℕ) → IsSession (g.own.session q) (z q) (map.get s.questions q)) (sym (past_same g.own f now out opens)) view.sessions;
          link = shapes_same w.vat u g.own f (reader s w.other g.theirs) now out opens ∙ view.link;
        };
        back = record {
          imports = λ j. import_same (g.theirs.import j) (map.get s.exports j) (map.get (w.other).imports j) (own j) (back.imports j);
          sessions = back.sessions;
          link = shapes_exports u w.vat g.theirs (reader w.other s g.own) s.exports f (sessions_at g.own.outcome s.answers) w.back (all_caps _ w.back (λ j. point_same (map.get s.exports j) (own j))) ∙ back.link;
        };
        told = t.told;
        unborn = t.unborn;
        unborn_back = t.unborn_back;
        known = λ l. known_as_imported w.vat s g.own (bare m.net) k e x free unsaid (t.known l);
        known_there = t.known_there;
        goes = said_as_given (bare m.net) w.vat s.exports g.own f u (w.other).exports g.theirs g.theirs (has_of [] (w.other).imports (w.other).questions) now out same (λ j. refl) opens (each_return _ out (λ q. refl)) t.goes;
        comes = said_as_given (bare m.net) u (w.other).exports g.theirs g.theirs w.vat s.exports g.own f (has_of coming (import_one s k e).imports s.questions) (sessions_at g.own.outcome s.answers) w.back (λ j. refl) same (all_opens _ w.back (λ q. refl)) (each_return _ w.back (λ q. refl)) still_comes;
      }
    where
      now : ℕ → ℕ
      now = sessions_at g.theirs.outcome (w.other).answers

      out : List rpc.Message
      out = w.out ++ d.effects.sends

      opens : EachOpen (λ q. f.session q ≡ g.own.session q) out
      opens = all_opens (λ q. f.session q ≡ g.own.session q) out (λ q. refl)

      import_same : (p : Point) (y : Option Export) (o : Option Import) → ((z : Export) → y ≡ Some z → is_wire z.node ≡ false) → IsImportOf w.vat g.own p y o → IsImportOf w.vat f p y o
      import_same p y None h i = tt
      import_same p None (Some o) h i = absurd i
      import_same p (Some y) (Some o) h i = i ∙ sym (imported_own w.vat g.own e x y.node (h y refl))

      point_same : (y : Option Export) → ((z : Export) → y ≡ Some z → is_wire z.node ≡ false) → point w.vat f (export_node y) ≡ point w.vat g.own (export_node y)
      point_same None h = refl
      point_same (Some y) h = imported_own w.vat g.own e x y.node (h y refl)

      same : SamePoints w.vat g.own f s.exports
      same j = point_same (map.get s.exports j) (own j)

  -- One that is there stands for what it stood for.
  old_import : (z : Import) → map.get s.imports e ≡ Some z → TiedBy w coming (import_one s k e) d.effects.sends d.effects.deliveries g m
  old_import z there =
      let side = t.own in
      let view = t.view in
      let back = t.back in
      record {
        own = record { stops = side.stops; refs = side.refs; embargoes = side.embargoes; no_other_embargoes = side.no_other_embargoes; lists = side.lists; ids = side.ids };
        theirs = t.theirs;
        view = record {
          imports = at_put (λ j o. IsImportOf u g.theirs (g.own.import j) (map.get (w.other).exports j) o) s.imports e (received k (map.get s.imports e))
              (subst (IsImportOf u g.theirs (g.own.import e) (map.get (w.other).exports e)) there (view.imports e)) (λ j n. view.imports j);
          sessions = view.sessions;
          link = view.link;
        };
        back = record { imports = back.imports; sessions = back.sessions; link = back.link };
        told = t.told;
        unborn = t.unborn;
        unborn_back = t.unborn_back;
        known = λ l. known_as_received w.vat s g.own (bare m.net) k e (t.known l);
        known_there = t.known_there;
        goes = t.goes;
        comes = still_comes;
      }

  one_import : ExportsAreOwn s → MayTake s w.other e → (h : Ghosts) × TiedBy w coming (import_one s k e) d.effects.sends d.effects.deliveries h m × SameButImports g h
  one_import own may = by (map.get s.imports e) refl
    where
      by : (o : Option Import) → map.get s.imports e ≡ o → (h : Ghosts) × TiedBy w coming (import_one s k e) d.effects.sends d.effects.deliveries h m × SameButImports g h
      by None i = (record g { own = f }, new_import own may.there i (may.unnamed i) (may.unsaid i), (refl, refl, refl, refl, refl))
      by (Some z) i = (g, old_import z i, (refl, refl, refl, refl, refl))

-- ---- One after the other

still_may : (s other : State) (k : SenderKind) (e : ℕ) (es : List ℕ) → EachMayTake s other es → EachMayTake (import_one s k e) other es
still_may s other k e [] h = tt
still_may s other k e (j ∷ es) h =
    let a = h.0 in (
      record { there = a.there; unnamed = λ i. let un = a.unnamed (before j i) in record { links = un.links; heads = un.heads; embargoes = un.embargoes }; unsaid = λ i. none_received s k e (is_import j) (a.unsaid (before j i)) },
      still_may s other k e es h.1,
    )
  where
    before : (j : ℕ) → map.get (map.insert s.imports e (received k (map.get s.imports e))) j ≡ None → map.get s.imports j ≡ None
    before = at_put (λ j o. o ≡ None → map.get s.imports j ≡ None) s.imports e (received k (map.get s.imports e)) (λ i. cc) (λ j n i. i)

first : (e : ℕ) (es : List ℕ) → is_among e (e ∷ es) ≡ true
first e es = let a : nat_eq e e ≡ true = grind (arith) in subst (λ (b : Bool). (b || is_among e es) ≡ true) (sym a) refl

same_then : (g f h : Ghosts) → SameButImports g f → SameButImports f h → SameButImports g h
same_then g f h a b = (b.0 ∙ a.0, b.1 ∙ a.1, b.2 ∙ a.2, b.3 ∙ a.3, b.4 ∙ a.4)

each : (w : Around) (coming : List ℕ) (d : Progress) (g : Ghosts) (m : routing.State routes) (ds : List Descriptor) → ((e : ℕ) → is_among e (given ds) ≡ true → is_among e coming ≡ true)
    → TiedBy w coming d.state d.effects.sends d.effects.deliveries g m → ExportsAreOwn d.state → EachMayTake d.state w.other (given ds)
    → (f : Ghosts) × TiedBy w coming (take_each d.state ds) d.effects.sends d.effects.deliveries f m × SameButImports g f
each w coming d g m [] among t own may = (g, t, (refl, refl, refl, refl, refl))
each w coming d g m (descriptor.None ∷ ds) among t own may = each w coming d g m ds among t own may
each w coming d g m (descriptor.SenderHosted e ∷ ds) among t own may =
    let a = one_import w coming d g m t e.0 kind.Hosted (among e.0 (first e.0 (given ds))) own may.0 in
    let b = each w coming (with_state d (import_one d.state kind.Hosted e.0)) a.0 m ds (λ j i. among j (or_right (nat_eq j e.0) (is_among j (given ds)) i)) a.1 own (still_may d.state w.other kind.Hosted e.0 (given ds) may.1) in
    (b.0, b.1, same_then g a.0 b.0 a.2 b.2)
each w coming d g m (descriptor.SenderPromise e ∷ ds) among t own may =
    let a = one_import w coming d g m t e.0 kind.Promise (among e.0 (first e.0 (given ds))) own may.0 in
    let b = each w coming (with_state d (import_one d.state kind.Promise e.0)) a.0 m ds (λ j i. among j (or_right (nat_eq j e.0) (is_among j (given ds)) i)) a.1 own (still_may d.state w.other kind.Promise e.0 (given ds) may.1) in
    (b.0, b.1, same_then g a.0 b.0 a.2 b.2)
each w coming d g m (descriptor.ReceiverHosted e ∷ ds) among t own may = each w coming d g m ds among t own may
each w coming d g m (descriptor.ReceiverAnswer q path ∷ ds) among t own may = each w coming d g m ds among t own may

pub descriptors_taken : (w : Around) (d : Progress) (g : Ghosts) (m : routing.State routes) (ds : List Descriptor) → TiedBy w (given ds) d.state d.effects.sends d.effects.deliveries g m → ExportsAreOwn d.state → EachMayTake d.state w.other (given ds)
    → (f : Ghosts) × Tied w (with_state d (take_at (d.state).level d.state ds)) f m × SameButImports g f
descriptors_taken w d g m ds t own may = by (d.state).level
  where
    by : (l : Level) → (f : Ghosts) × Tied w (with_state d (take_at l d.state ds)) f m × SameButImports g f
    by Zero = (g, none_coming w (given ds) d.state d.effects.sends d.effects.deliveries g m t, (refl, refl, refl, refl, refl))
    by One = let a = each w (given ds) d g m ds (λ e i. i) t own may in (a.0, none_coming w (given ds) (take_each d.state ds) d.effects.sends d.effects.deliveries a.0 m a.1, a.2)
