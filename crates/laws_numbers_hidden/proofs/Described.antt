-- Descriptors are made the same with other numbers.
use Rattle.std.proofs.Common.{◌≡◌, ℕ, ◌+◌, List, [], ◌∷◌, map, Option, None, Some, sym, ap, subst, ◌∙◌}
use Rattle.finite_maps.proofs.Values.{get-map_values}
use Rattle.std.specs.FinMap as finite
use Rattle.finite_maps.specs.Tally.{option_changed}
use Rattle.rpc_msg.specs.declared.ids.ObjectId.{ObjectId}
use Rattle.rpc_msg.specs.declared.parts.Descriptor.{Descriptor}
use Rattle.rpc_machine.specs.declared.node.Node.{Node}
use Rattle.rpc_machine.specs.declared.node.Node.TheVariants as node
use Rattle.rpc_machine.specs.declared.entries.Export.{Export}
use Rattle.rpc_machine.specs.State.{State}
use Rattle.laws_numbers_hidden.specs.Renamed.{node_by, export_by, state_by}
use Rattle.laws_numbers_hidden.specs.Steps.{KeepsApart}
use Rattle.rpc_machine.specs.Nodes.{settle}
use Rattle.rpc_machine.specs.Descriptors.{IsOther, IsNotExported, ExportedAs, Exported, Described, Describes, DescribesAll}
use Rattle.laws_numbers_hidden.proofs.Settles.{settles}
use Rattle.laws_numbers_hidden.proofs.Going.{put_export}

module _ (f : ObjectId → ObjectId) (one : KeepsApart f) where
  abbrev N : Node → Node
  N = node_by f

  pub apart : (m n : Node) → node_by f m ≡ node_by f n → m ≡ n
  apart (node.Object o) (node.Object x) h = ap node.Object (one o x (let k : f o ≡ f x = cc in k))
  apart (node.Object o) (node.Promise y) h = cc
  apart (node.Object o) (node.Field x y) h = cc
  apart (node.Object o) (node.Import x) h = cc
  apart (node.Object o) (node.Pipe x y) h = cc
  apart (node.Object o) (node.Broken x) h = cc
  apart (node.Promise p) (node.Object x) h = cc
  apart (node.Promise p) (node.Promise y) h = h
  apart (node.Promise p) (node.Field x y) h = cc
  apart (node.Promise p) (node.Import x) h = cc
  apart (node.Promise p) (node.Pipe x y) h = cc
  apart (node.Promise p) (node.Broken x) h = cc
  apart (node.Field o path) (node.Object x) h = cc
  apart (node.Field o path) (node.Promise y) h = cc
  apart (node.Field o path) (node.Field x y) h = h
  apart (node.Field o path) (node.Import x) h = cc
  apart (node.Field o path) (node.Pipe x y) h = cc
  apart (node.Field o path) (node.Broken x) h = cc
  apart (node.Import e) (node.Object x) h = cc
  apart (node.Import e) (node.Promise y) h = cc
  apart (node.Import e) (node.Field x y) h = cc
  apart (node.Import e) (node.Import x) h = h
  apart (node.Import e) (node.Pipe x y) h = cc
  apart (node.Import e) (node.Broken x) h = cc
  apart (node.Pipe q path) (node.Object x) h = cc
  apart (node.Pipe q path) (node.Promise y) h = cc
  apart (node.Pipe q path) (node.Field x y) h = cc
  apart (node.Pipe q path) (node.Import x) h = cc
  apart (node.Pipe q path) (node.Pipe x y) h = h
  apart (node.Pipe q path) (node.Broken x) h = cc
  apart (node.Broken reason) (node.Object x) h = cc
  apart (node.Broken reason) (node.Promise y) h = cc
  apart (node.Broken reason) (node.Field x y) h = cc
  apart (node.Broken reason) (node.Import x) h = cc
  apart (node.Broken reason) (node.Pipe x y) h = cc
  apart (node.Broken reason) (node.Broken x) h = h

  other : (n : Node) (o : Option Export) → IsOther n o → IsOther (N n) (option_changed (export_by f) o)
  other n None h = tt
  other n (Some x) h = λ e. h (apart x.node n e)

  not_exported : (s : State) (n : Node) → IsNotExported s n → IsNotExported (state_by f s) (N n)
  not_exported s n h e = subst (IsOther (N n)) (sym (get-map_values (export_by f) s.exports e)) (other n (finite.get s.exports e) (h e))

  exported_as : (s : State) (n : Node) (e : ℕ) (o : Option Export) (new : State) → ExportedAs s n e o new → ExportedAs (state_by f s) (N n) e (option_changed (export_by f) o) (state_by f new)
  exported_as s n e (Some x) new h = (ap N h.0, ap (state_by f) h.1 ∙ put_export f s e (record { node = n; count = x.count + 1 }))
  exported_as s n e None new h = (not_exported s n h.0, ap (state_by f) h.1 ∙ put_export f s e (record { node = n; count = 1 }))

  exported : (s : State) (n : Node) (e : ℕ) (new : State) → Exported s n e new → Exported (state_by f s) (N n) e (state_by f new)
  exported s n e new h =
      subst (λ (o : Option Export). ExportedAs (state_by f s) (N n) e o (state_by f new)) (sym (get-map_values (export_by f) s.exports e)) (exported_as s n e (finite.get s.exports e) new h)

  described : (s : State) (n : Node) (d : Descriptor) (new : State) → Described s n d new → Described (state_by f s) (N n) d (state_by f new)
  described s (node.Object o) d new h = (h.0, h.1, exported s (node.Object o) h.0 new h.2)
  described s (node.Promise p) d new h = (h.0, h.1, exported s (node.Promise p) h.0 new h.2)
  described s (node.Field o path) d new h = (h.0, h.1, exported s (node.Field o path) h.0 new h.2)
  described s (node.Import e) d new h = (h.0, ap (state_by f) h.1)
  described s (node.Pipe q path) d new h = (h.0, ap (state_by f) h.1)
  described s (node.Broken reason) d new h = (h.0, ap (state_by f) h.1)

  pub describes : (s : State) (n : Node) (d : Descriptor) (new : State) → Describes s n d new → Describes (state_by f s) (node_by f n) d (state_by f new)
  describes s n d new h = subst (λ (x : Node). Described (state_by f s) x d (state_by f new)) (settles f s n) (described s (settle s n) d new h)

  pub describes_all : (s : State) (ns : List Node) (ds : List Descriptor) (new : State) → DescribesAll s ns ds new → DescribesAll (state_by f s) (map (node_by f) ns) ds (state_by f new)
  describes_all s [] [] new h = ap (state_by f) h
  describes_all s [] (d ∷ ds) new h = absurd h
  describes_all s (n ∷ ns) [] new h = absurd h
  describes_all s (n ∷ ns) (d ∷ ds) new h = (state_by f h.0, describes s n d h.0 h.1, describes_all h.0 ns ds new h.2)
