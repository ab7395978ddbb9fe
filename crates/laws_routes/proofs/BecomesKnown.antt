-- What a Resolve said is known of its import, and what a Return said of each path.
use Rattle.std.specs.FinMap as map
use Rattle.std.proofs.Common.{◌≡◌, ℕ, zero, suc, List, [], ◌∷◌, Option, None, Some, IsSome, refl, sym, ap, subst, ◌∙◌}
use Rattle.rpc_msg.specs.Op.{Op}
use Rattle.rpc_msg.specs.CapAt.{CapAt}
use Rattle.rpc_msg.specs.CapAt.TheVariants.{Cap, Null, NotCap}
use Rattle.finite_maps.proofs.Tested.{at_put}
use Rattle.rpc_msg.specs.declared.ids.Vat.{Vat}
use Rattle.rpc_msg.specs.declared.parts.Descriptor.{Descriptor}
use Rattle.rpc_msg.specs.declared.parts.Descriptor.TheVariants as descriptor
use Rattle.rpc_msg.specs.declared.message.ResolvedTo.{ResolvedTo}
use Rattle.rpc_msg.specs.declared.message.ResolvedTo.TheVariants as resolved
use Rattle.rpc_msg.specs.Paths.{fields}
use Rattle.rpc_msg.specs.Vats.{other_vat}
use Rattle.rpc_msg.specs.declared.message.ReturnBody.{ReturnBody}
use Rattle.rpc_msg.specs.declared.message.ReturnBody.TheVariants as body
use Rattle.rpc_msg.specs.Messages.{descriptors_of_body}
use Rattle.rpc_machine.specs.declared.command.Level.{Level}
use Rattle.rpc_machine.specs.declared.command.Level.TheVariants.{One}
use Rattle.rpc_machine.specs.declared.entries.AnswerEntry.{AnswerEntry}
use Rattle.rpc_machine.specs.declared.entries.Export.{Export}
use Rattle.rpc_machine.specs.declared.entries.Import.{Import}
use Rattle.rpc_machine.specs.Payloads.{cap_at}
use Rattle.rpc_machine.specs.declared.entries.Question.{Question}
use Rattle.rpc_machine.specs.State.{State}
use Rattle.rpc_machine.specs.Lists.{updated}
use Rattle.rpc_machine.specs.Progress.{Progress}
use Rattle.rpc_machine.specs.Descriptors.{export_node, answer_node, read_at, read_beside}
use Rattle.rpc_machine.specs.Messages.{kept_returned, resolve_import, results_of, set_resolution}
use Rattle.rpc_machine.specs.Advancing.{known_at, known_by, known_by_resolve, known_by_return, known_cap, resolution_of, returned_of}
use Rattle.laws_order.specs.Machine.{Net}
use Rattle.laws_order.specs.Machine as routing
use Rattle.laws_routes.specs.Points.{Point, AField, vat_of, routes}
use Rattle.laws_routes.specs.Ghosts.{Ghost, point}
use Rattle.laws_routes.specs.Views.{IsImportOf, session_of}
use Rattle.laws_routes.specs.Ties.{Around, Ghosts, Tied}
use Rattle.laws_routes.specs.Sayings.{bare, IsSaid, IsKnown, KnownIsSo, SaidAt, SaidOfAnswer, SaidOfCap, SaidOfExport}
use Rattle.laws_routes.specs.SayingLaws.{EachReadable, IsNotCanceled, IsReadable, IsReadableIn, reads, resolution_by}

-- What an import that is there stands for.
stands_for : (u : Vat) (f : Ghost) (x : Point) (y : Option Export) (z : Option Import) → IsSome z → IsImportOf u f x y z → x ≡ point u f (export_node y)
stands_for u f x y None i h = cc
stands_for u f x None (Some z) i h = absurd h
stands_for u f x (Some y) (Some z) i h = h

module _ (w : Around) (d : Progress) (g : Ghosts) (m : routing.State routes) (t : Tied w d g m) where
  abbrev v : Vat
  v = w.vat

  abbrev u : Vat
  u = other_vat w.vat

  abbrev s : State
  s = d.state

  abbrev n : Net routes
  n = bare m.net

  imported : (e : ℕ) → IsSome (map.get s.imports e) → point u g.theirs (export_node (map.get (w.other).exports e)) ≡ g.own.import e
  imported e i = let view = t.view in sym (stands_for u g.theirs (g.own.import e) (map.get (w.other).exports e) (map.get s.imports e) i (view.imports e))

  answered : (path : List Op) (o : Option AnswerEntry) → IsSome o → AField v (session_of g.own.outcome o) (fields path) ≡ point v g.own (answer_node path o)
  answered path None i = cc
  answered path (Some a) i = refl

  -- By the descriptor, of the point x.
  by_descriptor : (x : Point) (c : Descriptor) → IsReadable s c → IsSaid n x c (reads w s g c) → IsKnown v g.own n x (known_by c (read_at One s c))
  by_descriptor x descriptor.None r h = h
  by_descriptor x (descriptor.SenderHosted e) r h = subst (λ (y : Point). (n.stop y ≡ n.stop x) × (vat_of y ≡ vat_of x)) (imported e.0 r) h
  by_descriptor x (descriptor.SenderPromise e) r h = subst (λ (y : Point). (n.stop y ≡ n.stop x) × (vat_of y ≡ vat_of x)) (imported e.0 r) h
  by_descriptor x (descriptor.ReceiverHosted e) r h = h
  by_descriptor x (descriptor.ReceiverAnswer q path) r h = h ∙ ap routing.Exit (answered path (map.get s.answers q.0) r)

  by_resolve : (level : s.level ≡ One) (x : Point) (y : Export) (to : ResolvedTo) → x ≡ point u g.theirs y.node → IsReadableIn s to → SaidOfExport n u g.theirs (Some y) (reads w s g) to
      → IsKnown v g.own n x (known_by_resolve (Some (resolution_by s to)))
  by_resolve level x y (resolved.Cap c) e r h =
      subst (λ (l : Level). IsKnown v g.own n x (known_by c (read_at l s c))) (sym level)
      (by_descriptor x c r (subst (λ (z : Point). IsSaid n z c (reads w s g c)) (sym e) h))
  by_resolve level x y (resolved.Exception exception) e r h = ap (λ z. n.kind (n.stop z)) e ∙ h

  module _ (level : s.level ≡ One) (e : ℕ) (to : ResolvedTo) (r : IsReadableIn s to) (said : SaidOfExport n u g.theirs (map.get (w.other).exports e) (reads w s g) to) where
    here : (o : Option Export) (z : Import) → map.get (w.other).exports e ≡ o → map.get s.imports e ≡ Some z → SaidOfExport n u g.theirs o (reads w s g) to → IsImportOf u g.theirs (g.own.import e) o (Some z)
        → IsKnown v g.own n (g.own.import e) (known_by_resolve (Some (resolution_by s to)))
    here None z a b h i = absurd i
    here (Some y) z a b h i = by_resolve level (g.own.import e) y to i r h

    known : KnownIsSo v s g.own n
    known = t.known level

    changed_at : (o : Option Import) → map.get s.imports e ≡ o → (j : ℕ) → IsKnown v g.own n (g.own.import j) (known_by_resolve (resolution_of (map.get (updated s.imports e (set_resolution (resolution_by s to)) o) j)))
    changed_at None f j = known.0 j
    changed_at (Some z) f j = at_put (λ j o. IsKnown v g.own n (g.own.import j) (known_by_resolve (resolution_of o))) s.imports e (set_resolution (resolution_by s to) z)
        (let view = t.view in here (map.get (w.other).exports e) z refl f said (subst (IsImportOf u g.theirs (g.own.import e) (map.get (w.other).exports e)) f (view.imports e)))
        (λ j b. known.0 j) j

    kept : (before : Option Import) → KnownIsSo v (resolve_import s e (resolution_by s to) before) g.own n
    kept None = known
    kept (Some z) = (λ j. changed_at (map.get s.imports e) refl j, known.1)

pub resolve_known : (w : Around) (d : Progress) (g : Ghosts) (m : routing.State routes) (e : ℕ) (to : ResolvedTo) (before : Option Import) → Tied w d g m → d.state.level ≡ One → IsReadableIn d.state to
    → SaidOfExport (bare m.net) (other_vat w.vat) g.theirs (map.get w.other.exports e) (reads w d.state g) to
    → KnownIsSo w.vat (resolve_import d.state e (resolution_by d.state to) before) g.own (bare m.net)
resolve_known w d g m e to before t level r said = kept w d g m t level e to r said before

module _ (w : Around) (d : Progress) (g : Ghosts) (m : routing.State routes) (t : Tied w d g m) (level : (d.state).level ≡ One) where
  read_so : (x : Point) (c : Descriptor) → IsReadable d.state c → IsSaid (bare m.net) x c (reads w d.state g c) → IsKnown w.vat g.own (bare m.net) x (known_by c (read_at (d.state).level d.state c))
  read_so x c r h = subst (λ (l : Level). IsKnown w.vat g.own (bare m.net) x (known_by c (read_at l d.state c))) (sym level) (by_descriptor w d g m t x c r h)

  at_index : (x : Point) (ds : List Descriptor) (i : ℕ) → EachReadable d.state ds → SaidAt (bare m.net) x (reads w d.state g) ds i → IsKnown w.vat g.own (bare m.net) x (known_at (read_beside d.state ds) i)
  at_index x [] i r h = h
  at_index x (c ∷ ds) zero r h = read_so x c r.0 h
  at_index x (c ∷ ds) (suc i) r h = at_index x ds i r.1 h

  at_cap : (x : Point) (ds : List Descriptor) (c : CapAt) → EachReadable d.state ds → SaidOfCap (bare m.net) x (reads w d.state g) ds c → IsKnown w.vat g.own (bare m.net) x (known_cap (read_beside d.state ds) c)
  at_cap x ds (Cap i) r h = at_index x ds i r h
  at_cap x ds Null r h = h
  at_cap x ds NotCap r h = h

  at_path : (i : ℕ) (path : List Op) (said : ReturnBody) → EachReadable d.state (descriptors_of_body said) → IsNotCanceled said → SaidOfAnswer (bare m.net) (other_vat w.vat) i (reads w d.state g) said
      → IsKnown w.vat g.own (bare m.net) (AField (other_vat w.vat) i path) (known_by_return path (Some (results_of d.state said)))
  at_path i path (body.Results payload ds) r not h = at_cap (AField (other_vat w.vat) i path) ds (cap_at payload path) r (h path)
  at_path i path (body.Exception exception) r not h = h path
  at_path i path body.Canceled r not h = absurd not

pub return_known : (w : Around) (d : Progress) (g : Ghosts) (m : routing.State routes) (q : ℕ) (x : Question) (said : ReturnBody) → Tied w d g m → d.state.level ≡ One
    → EachReadable d.state (descriptors_of_body said) → IsNotCanceled said → SaidOfAnswer (bare m.net) (other_vat w.vat) (g.own.session q) (reads w d.state g) said
    → KnownIsSo w.vat (kept_returned d q x (results_of d.state said)).state g.own (bare m.net)
return_known w d g m q x said t level r not h = let known = t.known level in (
  known.0,
  λ j path. at_put (λ j o. IsKnown w.vat g.own (bare m.net) (AField (other_vat w.vat) (g.own.session j) path) (known_by_return path (returned_of o))) (d.state).questions q (record x { returned = Some (results_of d.state said) })
      (at_path w d g m t level (g.own.session q) path said r not h) (λ j b. known.1 j path) j,
)
