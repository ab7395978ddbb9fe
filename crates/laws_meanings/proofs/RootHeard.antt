-- A Bootstrap is answered with the bootstrap object, or with an exception where there is none.
use Rattle.std.proofs.Common.{◌≡◌, ℕ, zero, suc, Option, None, Some, List, [], ◌∷◌, refl, sym, ap, ◌∙◌, subst}
use Rattle.std.specs.List.{slice_get}
use Rattle.rpc_msg.specs.declared.ids.Vat.{Vat}
use Rattle.rpc_msg.specs.declared.ids.ObjectId.{ObjectId}
use Rattle.rpc_msg.specs.Vats.{other_vat}
use Rattle.rpc_msg.specs.Paths.{fields}
use Rattle.rpc_msg.specs.Op.{Op}
use Rattle.rpc_msg.specs.Op.TheVariants as op
use Rattle.capn_trees.specs.Trees.{Tree, capability}
use Rattle.rpc_msg.specs.Payloads.{tree_of}
use Rattle.rpc_msg.specs.Walking.{capability_at}
use Rattle.capn_reading.specs.Reading.{message_of, root_of, reading, deep}
use Rattle.capn_reading.specs.Following.{leads}
use Rattle.capn_reading.specs.Framing.{framing, segment_count, sizes}
use Rattle.capn_reading.specs.Segments.{little_numbers, segments_in}
use Rattle.rpc_journal.specs.Sources.{OfBootstrap}
use Rattle.rpc_journal.specs.Meaning.{History, Meaning, ObjectAt, Broken, root, object_or_broken, bootstrap_meaning, root_field}
use Rattle.rpc_machine.specs.Claims.{object_number}
use Rattle.rpc_machine.specs.Payloads.{bootstrap_payload}
use Rattle.rpc_machine.specs.declared.node.Node.{Node}
use Rattle.rpc_machine.specs.declared.node.Node.TheVariants as node
use Rattle.rpc_machine.specs.Nodes.{node_of_cap}
use Rattle.rpc_machine.specs.Messages.{bootstrap_value}
use Rattle.laws_meanings.specs.NodeMeanings.{Meant, Itself, ByEnd, Leads, There}
use Rattle.laws_meanings.specs.NodeLabels.{Labels, Means, ValueMeans}
use Rattle.laws_meanings.specs.MessageMeanings.{BootstrapsAreHeard}
use Rattle.laws_meanings.proofs.OfCallsScenes.{twice}

-- Its payload is a pointer to the first capability.
root_tree : tree_of bootstrap_payload ≡ capability 0
unfolding message_of framing segment_count sizes segments_in little_numbers root_of reading deep leads
root_tree = refl

root_broken : (path : List Op) → root_field Broken path ≡ Broken
root_broken [] = refl
root_broken (o ∷ path) = refl

module _ (h : History) (v : Vat) (l : Labels) where
  at_path : (o : ObjectId) (path : List Op) → Means h v l (Itself (root_field (ObjectAt v o.0) (fields path))) (node_of_cap (node.Object o ∷ []) (capability_at (capability 0) path))
  at_path o [] = There
  at_path o (op.Noop ∷ ops) = at_path o ops
  at_path o (op.Field n ∷ ops) = There

  abbrev theirs : Meaning
  theirs = bootstrap_meaning h (other_vat v)

  is_root : (o : Option ObjectId) → root h v ≡ object_number o → theirs ≡ object_or_broken v (object_number o)
  is_root o e = ap (λ (u : Vat). object_or_broken u (root h u)) (twice v) ∙ ap (object_or_broken v) e

  by_root : (o : Option ObjectId) → theirs ≡ object_or_broken v (object_number o) → ValueMeans h v l (other_vat v, OfBootstrap) (bootstrap_value o)
  by_root None e = (
    λ path. subst (λ (z : Meaning). Leads h (Itself Broken) (Itself (root_field z (fields path)))) (sym e) (subst (λ (z : Meaning). Leads h (Itself Broken) (Itself z)) (sym (root_broken (fields path))) There),
    λ i n f. let bad : ◌≡◌ {A = Option Node} None (Some n) = f in cc,
    tt,
  )
  by_root (Some o) e = (
    λ path. subst (λ (z : Meaning). Means h v l (Itself (root_field z (fields path))) (node_of_cap (node.Object o ∷ []) (capability_at (tree_of bootstrap_payload) path))) (sym e) (subst (λ (t : Tree). Means h v l (Itself (root_field (ObjectAt v o.0) (fields path))) (node_of_cap (node.Object o ∷ []) (capability_at t path))) (sym root_tree) (at_path o path)),
    caps,
    tt,
  )
    where
      caps : (i : ℕ) (n : Node) → slice_get (node.Object o ∷ []) i ≡ Some n → (y : Meant) × ByEnd h (other_vat v) i OfBootstrap y × Means h v l y n
      caps zero n f =
          let g : node.Object o ≡ n = (let k : Some (node.Object o) ≡ Some n = f in cc) in
          (Itself theirs, refl, subst (Means h v l (Itself theirs)) g (subst (λ (z : Meaning). Leads h (Itself (ObjectAt v o.0)) (Itself z)) (sym e) There))
      caps (suc i) n f = let bad : ◌≡◌ {A = Option Node} None (Some n) = f in cc

pub roots_heard : BootstrapsAreHeard
roots_heard h v l s e q = by_root h v l s.bootstrap (is_root h v l s.bootstrap e)
