-- As descriptors are made, exports only grow: each that was there is there, and of the same node.
use Rattle.std.specs.FinMap as map
use Rattle.std.proofs.Common.{◌≡◌, ℕ, ◌+◌, List, [], ◌∷◌, Option, None, Some, IsSome, refl, sym, ap, subst, ◌∙◌, ◌++◌}
use Rattle.finite_maps.specs.Tally.{Map}
use Rattle.finite_maps.proofs.Tested.{at_put}
use Rattle.rpc_msg.specs.declared.ids.Vat.{Vat}
use Rattle.rpc_msg.specs.declared.parts.Descriptor.{Descriptor}
use Rattle.rpc_msg.specs.Vats.{other_vat}
use Rattle.rpc_machine.specs.declared.node.Node.{Node}
use Rattle.rpc_machine.specs.declared.node.Node.TheVariants as node
use Rattle.rpc_machine.specs.declared.entries.Export.{Export}
use Rattle.rpc_machine.specs.declared.entries.Import.{Import}
use Rattle.rpc_machine.specs.State.{State}
use Rattle.rpc_machine.specs.Nodes.{settle}
use Rattle.rpc_machine.specs.Progress.{Progress, with_state}
use Rattle.rpc_machine.specs.Descriptors.{ExportedAs, Described, DescribesAll, export_node}
use Rattle.laws_order.specs.Machine as routing
use Rattle.laws_routes.specs.Points.{Point, routes}
use Rattle.laws_routes.specs.Ghosts.{Ghost, point}
use Rattle.laws_routes.specs.Views.{IsExportAs, IsImportOf, reader, sessions_at}
use Rattle.laws_routes.specs.Ties.{Around, Ghosts, Tied}
use Rattle.laws_routes.specs.Premises.{TargetsAreMet}
use Rattle.laws_routes.proofs.LinkShapes.{shapes_exports, cap_map}
use Rattle.laws_routes.specs.Named.{LinksMet}
use Rattle.laws_routes.specs.Sayings.{bare, has_of}
use Rattle.laws_routes.specs.KnownLaws.{StillThere}
use Rattle.laws_routes.proofs.SayingsCarried.{all_met, all_there, said_as_exported}

pub record Grown (E F : Map Export) : Type 0 where
  pub still : (e : ℕ) (x : Export) → map.get E e ≡ Some x → (y : Export) × (map.get F e ≡ Some y) × (y.node ≡ x.node)

-- The state is as it was, but for what was added to its exports.
abbrev pub Exports : State → State → Type 0
Exports s t = (E : Map Export) × (t ≡ record s { exports = E }) × Grown s.exports E

-- A node goes out.
exported : (s : State) (n : Node) (e : ℕ) (o : Option Export) (t : State) → map.get s.exports e ≡ o → ExportedAs s n e o t → Exports s t
exported s n e None t at h = (
  map.insert s.exports e (record { node = n; count = 1 }),
  h.1,
  record {
    still = at_put (λ j o. (x : Export) → map.get s.exports j ≡ Some x → (y : Export) × (o ≡ Some y) × (y.node ≡ x.node)) s.exports e (record { node = n; count = 1 })
        (λ x f. (let bad : None ≡ Some x = sym at ∙ f in cc)) (λ j b x f. (x, f, refl));
  },
)
exported s n e (Some z) t at h = (
  map.insert s.exports e (record { node = n; count = z.count + 1 }),
  h.1,
  record {
    still = at_put (λ j o. (x : Export) → map.get s.exports j ≡ Some x → (y : Export) × (o ≡ Some y) × (y.node ≡ x.node)) s.exports e (record { node = n; count = z.count + 1 })
        (λ x f. let same : Some z ≡ Some x = sym at ∙ f in let i : z ≡ x = cc in (record { node = n; count = z.count + 1 }, refl, sym h.0 ∙ ap (λ (a : Export). a.node) i)) (λ j b x f. (x, f, refl));
  },
)

pub none_grown : (E : Map Export) → Grown E E
none_grown E = record { still = λ e x f. (x, f, refl) }

pub none_new : (s : State) → Exports s s
none_new s = (s.exports, refl, record { still = λ e x f. (x, f, refl) })

pub described : (s : State) (n : Node) (d : Descriptor) (t : State) → Described s n d t → Exports s t
described s (node.Object o) d t h = exported s (node.Object o) h.0 (map.get s.exports h.0) t refl h.2
described s (node.Promise p) d t h = exported s (node.Promise p) h.0 (map.get s.exports h.0) t refl h.2
described s (node.Field o path) d t h = exported s (node.Field o path) h.0 (map.get s.exports h.0) t refl h.2
described s (node.Import e) d t h = rw h.1 (none_new s)
described s (node.Pipe q path) d t h = rw h.1 (none_new s)
described s (node.Broken reason) d t h = rw h.1 (none_new s)

pub described_all : (s : State) (ns : List Node) (ds : List Descriptor) (t : State) → DescribesAll s ns ds t → Exports s t
described_all s [] [] t h = rw h (none_new s)
described_all s [] (d ∷ ds) t h = absurd h
described_all s (n ∷ ns) [] t h = absurd h
described_all s (n ∷ ns) (d ∷ ds) t h =
    let a = described s (settle s n) d h.0 h.1 in
    let b = described_all h.0 ns ds t h.2 in
    let g = a.2 in
    let k = b.2 in (
      b.0,
      b.1 ∙ ap (λ (z : State). record z { exports = b.0 }) a.1,
      record { still = λ e x f. let y = g.still e x f in let z = k.still e y.0 (ap (λ (u : State). map.get u.exports e) a.1 ∙ y.1) in (z.0, z.1, z.2 ∙ y.2) },
    )

-- ---- What was exported stands for what it stood for

module _ (v : Vat) (g : Ghost) (E F : Map Export) (grown : Grown E F) where
  pub import_still : (e : ℕ) (x : Point) (o : Option Import) → IsImportOf v g x (map.get E e) o → IsImportOf v g x (map.get F e) o
  import_still e x None h = tt
  import_still e x (Some j) h = by (map.get E e) refl h
    where
      by : (o : Option Export) → map.get E e ≡ o → IsExportAs v g x o → IsExportAs v g x (map.get F e)
      by None f k = absurd k
      by (Some y) f k = let z = grown.still e y f in subst (IsExportAs v g x) (sym z.1) (k ∙ ap (point v g) (sym z.2))

  pub point_still : (e : ℕ) → IsSome (map.get E e) → point v g (export_node (map.get F e)) ≡ point v g (export_node (map.get E e))
  point_still e i = by (map.get E e) refl i
    where
      by : (o : Option Export) → map.get E e ≡ o → IsSome o → point v g (export_node (map.get F e)) ≡ point v g (export_node o)
      by None f k = cc
      by (Some y) f k = let z = grown.still e y f in ap (λ o. point v g (export_node o)) z.1 ∙ ap (point v g) z.2

  pub there_still : (e : ℕ) → IsSome (map.get E e) → IsSome (map.get F e)
  there_still e i = by (map.get E e) refl i
    where
      by : (o : Option Export) → map.get E e ≡ o → IsSome o → IsSome (map.get F e)
      by None f k = cc
      by (Some y) f k = let z = grown.still e y f in subst (λ (o : Option Export). IsSome o) (sym z.1) refl

-- So a vat stays tied, and what is named on the way is there.
pub grown_tied : (w : Around) (d : Progress) (g : Ghosts) (m : routing.State routes) (new : State) → Tied w d g m → TargetsAreMet d.state w.back → LinksMet d.state w.other (w.out ++ d.effects.sends) w.back → Exports d.state new
    → Tied w (with_state d new) g m × TargetsAreMet new w.back × LinksMet new w.other (w.out ++ d.effects.sends) w.back
grown_tied w d g m new t met links x =
    let s = d.state in
    let f = w.other in
    let u = other_vat w.vat in
    let still : StillThere s.exports x.0 = (let a = x.2 in a.still) in
    let none : StillThere f.exports f.exports = all_there f.exports in
    let out = w.out ++ d.effects.sends in
    let has = has_of [] f.imports f.questions in
    let has_back = has_of [] s.imports s.questions in
    let own = t.own in
    let view = t.view in
    let back = t.back in
    let tied : Tied w (with_state d (record s { exports = x.0 })) g m =
    record {
      own = record { stops = own.stops; refs = own.refs; embargoes = own.embargoes; no_other_embargoes = own.no_other_embargoes; lists = own.lists; ids = own.ids };
      theirs = t.theirs;
      view = record { imports = view.imports; sessions = view.sessions; link = view.link };
      back = record {
        imports = λ e. import_still w.vat g.own s.exports x.0 x.2 e (g.theirs.import e) (map.get f.imports e) (back.imports e);
        sessions = back.sessions;
        link =
            shapes_exports u w.vat g.theirs (reader f s g.own) x.0 g.own (sessions_at g.own.outcome s.answers) w.back
            (cap_map (λ e. IsSome (map.get s.exports e)) _ w.back (point_still w.vat g.own s.exports x.0 x.2) met) ∙ back.link;
      };
      told = t.told;
      unborn = t.unborn;
      unborn_back = t.unborn_back;
      known = t.known;
      known_there = t.known_there;
      goes = said_as_exported (bare m.net) w.vat s.exports x.0 g.own u f.exports f.exports g.theirs has (sessions_at g.theirs.outcome f.answers) out still none links.0 t.goes;
      comes = said_as_exported (bare m.net) u f.exports f.exports g.theirs w.vat s.exports x.0 g.own has_back (sessions_at g.own.outcome s.answers) w.back none still links.1 t.comes;
    } in
    subst (λ z. Tied w (with_state d z) g m × TargetsAreMet z w.back × LinksMet z w.other (w.out ++ d.effects.sends) w.back) (sym x.1)
    (tied, cap_map _ _ w.back (there_still w.vat g.own s.exports x.0 x.2) met, (all_met s.exports x.0 f.exports f.exports still none has out links.0, all_met f.exports f.exports s.exports x.0 none still has_back w.back links.1))

pub descriptors_made : (w : Around) (d : Progress) (g : Ghosts) (m : routing.State routes) (ns : List Node) (ds : List Descriptor) (new : State) → Tied w d g m → TargetsAreMet d.state w.back → LinksMet d.state w.other (w.out ++ d.effects.sends) w.back
    → DescribesAll d.state ns ds new → Tied w (with_state d new) g m × TargetsAreMet new w.back × LinksMet new w.other (w.out ++ d.effects.sends) w.back
descriptors_made w d g m ns ds new t met links h = grown_tied w d g m new t met links (described_all d.state ns ds new h)
