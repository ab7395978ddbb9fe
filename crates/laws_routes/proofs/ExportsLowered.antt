-- Counts of exports fall: each that is still there is of the same node.
use Rattle.std.specs.FinMap as map
use Rattle.std.proofs.Common.{◌≡◌, ℕ, ◌-◌, Bool, nat_le, true, false, cond, List, [], ◌∷◌, ◌++◌, Option, None, Some, IsSome, refl, sym, ap, subst, ◌∙◌}
use Rattle.finite_maps.specs.Tally.{Map}
use Rattle.finite_maps.proofs.Tested.{at_cut, at_put}
use Rattle.rpc_msg.specs.declared.ids.Vat.{Vat}
use Rattle.rpc_msg.specs.declared.message.Release.{Release}
use Rattle.rpc_msg.specs.declared.message.PlainMessage.TheVariants as plain
use Rattle.rpc_msg.specs.declared.message.Message.{Message}
use Rattle.rpc_msg.specs.declared.message.Message.TheVariants as message
use Rattle.rpc_msg.specs.Vats.{other_vat}
use Rattle.rpc_machine.specs.declared.entries.Export.{Export}
use Rattle.rpc_machine.specs.declared.entries.Import.{Import}
use Rattle.rpc_machine.specs.Progress.{Progress, with_state}
use Rattle.rpc_machine.specs.Descriptors.{export_node}
use Rattle.rpc_machine.specs.Flags.{obey, lowered, lower_by, lower_each}
use Rattle.laws_order.specs.Machine as routing
use Rattle.laws_routes.specs.Points.{Point, routes}
use Rattle.laws_routes.specs.Ghosts.{Ghost, point}
use Rattle.laws_routes.specs.Views.{IsExportAs, IsImportOf, reader, sessions_at}
use Rattle.laws_routes.specs.Ties.{Around, Ghosts, Tied}
use Rattle.laws_routes.specs.Laws.{with_back}
use Rattle.laws_routes.specs.QuietLaws.{MayLower, lowering}
use Rattle.laws_routes.proofs.LinkShapes.{shapes_exports, cap_map}
use Rattle.laws_routes.proofs.SilentMessages.{silent_comes}
use Rattle.laws_routes.specs.Sayings.{bare, has_of}
use Rattle.laws_routes.proofs.SayingsCarried.{all_there, said_as_lowered}

-- Each of F was in E, with the same node.
abbrev pub Lowered : Map Export → Map Export → Type 0
Lowered E F = (e : ℕ) (y : Export) → map.get F e ≡ Some y → (x : Export) × (map.get E e ≡ Some x) × (x.node ≡ y.node)

pub by_lowered : (E : Map Export) (e n : ℕ) → Lowered E (lower_by E e n)
by_lowered E e n = by (map.get E e) refl
  where
    left : (x : Export) (b : Bool) → map.get E e ≡ Some x → Lowered E (cond b (map.remove E e) (map.insert E e (record x { count = x.count - n })))
    left x true f = at_cut (λ j o. (y : Export) → o ≡ Some y → (x : Export) × (map.get E j ≡ Some x) × (x.node ≡ y.node)) E e (λ y h. cc) (λ j k y h. (y, h, refl))
    left x false f = at_put (λ j o. (y : Export) → o ≡ Some y → (x : Export) × (map.get E j ≡ Some x) × (x.node ≡ y.node)) E e (record x { count = x.count - n })
        (λ y h. (x, f, (let i : record x { count = x.count - n } ≡ y = cc in ap (λ (a : Export). a.node) i))) (λ j k y h. (y, h, refl))

    by : (o : Option Export) → map.get E e ≡ o → Lowered E (lowered E e n o)
    by None f = λ j y h. (y, h, refl)
    by (Some x) f = left x (nat_le x.count n) f

pub each_lowered : (E : Map Export) (es : List ℕ) → Lowered E (lower_each E es)
each_lowered E [] = λ j y h. (y, h, refl)
each_lowered E (e ∷ es) = λ j y h.
    let a = each_lowered (lower_by E e 1) es j y h in
    let b = by_lowered E e 1 j a.0 a.1 in
    (b.0, b.1, b.2 ∙ a.2)

module _ (v : Vat) (g : Ghost) (E F : Map Export) (lower : Lowered E F) where
  import_still : (e : ℕ) (x : Point) (o : Option Import) → (IsSome o → IsSome (map.get F e)) → IsImportOf v g x (map.get E e) o → IsImportOf v g x (map.get F e) o
  import_still e x None there h = tt
  import_still e x (Some j) there h = by (map.get F e) refl (there refl)
    where
      by : (o : Option Export) → map.get F e ≡ o → IsSome o → IsExportAs v g x o
      by None f k = cc
      by (Some y) f k = let z = lower e y f in (let i : IsExportAs v g x (Some z.0) = subst (IsExportAs v g x) z.1 h in i ∙ ap (point v g) z.2)

  point_still : (e : ℕ) → IsSome (map.get F e) → point v g (export_node (map.get F e)) ≡ point v g (export_node (map.get E e))
  point_still e there = by (map.get F e) refl there
    where
      by : (o : Option Export) → map.get F e ≡ o → IsSome o → point v g (export_node o) ≡ point v g (export_node (map.get E e))
      by None f k = cc
      by (Some y) f k = let z = lower e y f in ap (point v g) (sym z.2) ∙ ap (λ o. point v g (export_node o)) (sym z.1)

pub lower_tied : (w : Around) (d : Progress) (g : Ghosts) (m : routing.State routes) (F : Map Export) → Lowered d.state.exports F → Tied w d g m → MayLower (record (d.state) { exports = F }) w.other (w.out ++ d.effects.sends) w.back → Tied w (with_state d (record (d.state) { exports = F })) g m
lower_tied w d g m F lower t may =
    let own = t.own in
    let view = t.view in
    let back = t.back in
    record {
      own = record { stops = own.stops; refs = own.refs; embargoes = own.embargoes; no_other_embargoes = own.no_other_embargoes; lists = own.lists; ids = own.ids };
      theirs = t.theirs;
      view = record { imports = view.imports; sessions = view.sessions; link = view.link };
      back = record {
        imports = λ e. import_still w.vat g.own (d.state).exports F lower e (g.theirs.import e) (map.get (w.other).imports e) (may.imported e) (back.imports e);
        sessions = back.sessions;
        link =
            shapes_exports (other_vat w.vat) w.vat g.theirs (reader w.other d.state g.own) F g.own (sessions_at g.own.outcome (d.state).answers) w.back
            (cap_map (λ e. IsSome (map.get F e)) _ w.back (point_still w.vat g.own (d.state).exports F lower) may.met) ∙ back.link;
      };
      told = t.told;
      unborn = t.unborn;
      unborn_back = t.unborn_back;
      known = t.known;
      known_there = t.known_there;
      goes = said_as_lowered (bare m.net) w.vat (d.state).exports F g.own (other_vat w.vat) (w.other).exports (w.other).exports g.theirs (has_of [] (w.other).imports (w.other).questions) (sessions_at g.theirs.outcome (w.other).answers) (w.out ++ d.effects.sends) lower (all_there (w.other).exports) may.named t.goes;
      comes = said_as_lowered (bare m.net) (other_vat w.vat) (w.other).exports (w.other).exports g.theirs w.vat (d.state).exports F g.own (has_of [] (d.state).imports (d.state).questions) (sessions_at g.own.outcome (d.state).answers) w.back (all_there (w.other).exports) lower may.named_back t.comes;
    }

pub obeyed : (w : Around) (d : Progress) (g : Ghosts) (m : routing.State routes) (flag : Bool) (ids : List ℕ) → Tied w d g m → MayLower (obey d.state flag ids) w.other (w.out ++ d.effects.sends) w.back → Tied w (with_state d (obey d.state flag ids)) g m
obeyed w d g m true ids t may = lower_tied w d g m (lower_each (d.state).exports ids) (each_lowered (d.state).exports ids) t may
obeyed w d g m false ids t may = t

pub release_taken : (w : Around) (d : Progress) (g : Ghosts) (m : routing.State routes) (x : Release) (rest : List Message) → Tied (with_back w (message.Plain (plain.Release x) ∷ rest)) d g m
    → MayLower (lowering d.state x.export.0 x.count) w.other (w.out ++ d.effects.sends) rest → Tied (with_back w rest) (with_state d (lowering d.state x.export.0 x.count)) g m
release_taken w d g m x rest t may =
    lower_tied (with_back w rest) d g m (lower_by (d.state).exports x.export.0 x.count) (by_lowered (d.state).exports x.export.0 x.count) (silent_comes w d g m (message.Plain (plain.Release x)) rest t tt) may
