-- Resolves, one after the other.
use Rattle.std.proofs.Common.{ℕ, Option, List, [], ◌∷◌, refl, sym, subst, Bool, true, false, ◌≡◌, ◌++◌, Some, ap, ◌∙◌}
use Rattle.rpc_msg.specs.declared.exception.Exception.{Exception}
use Rattle.rpc_msg.specs.declared.message.ResolvedTo.{ResolvedTo}
use Rattle.rpc_msg.specs.declared.message.Message.TheVariants as message
use Rattle.rpc_machine.specs.declared.node.Node.{Node}
use Rattle.rpc_machine.specs.declared.node.Node.TheVariants as node
use Rattle.rpc_machine.specs.Nodes.{settle}
use Rattle.rpc_machine.specs.Progress.{Progress, with_state}
use Rattle.rpc_machine.specs.Settling.{or_failed, ResolvesTo, ResolvesBy, ResolvesEach, resolve_message}
use Rattle.laws_order.specs.Machine as routing
use Rattle.laws_order.specs.Moves.{Done}
use Rattle.laws_routes.specs.Points.{Point, routes}
use Rattle.laws_routes.specs.Ties.{Around, Ghosts, Tied}
use Rattle.laws_routes.specs.Laws.{IsFollowed}
use Rattle.laws_routes.proofs.ExportsGrown.{Exports, described, grown_tied, none_new}
use Rattle.laws_routes.proofs.SilentMessages.{silent_goes}
use Rattle.std.specs.FinMap as map
use Rattle.rpc_msg.specs.declared.parts.Descriptor.{Descriptor}
use Rattle.rpc_msg.specs.declared.message.ResolvedTo.TheVariants as resolved
use Rattle.rpc_machine.specs.declared.entries.Export.{Export}
use Rattle.rpc_machine.specs.State.{State}
use Rattle.rpc_machine.specs.Descriptors.{Described}
use Rattle.laws_routes.specs.Ghosts.{point}
use Rattle.laws_routes.specs.Sides.{EndsAs}
use Rattle.laws_routes.specs.Sayings.{IsSaid, SaidIfThere, SaidOfExport, bare, has_of}
use Rattle.laws_routes.specs.SayingLaws.{AllMaySend, MaySay, MaySend, will_read}
use Rattle.laws_routes.specs.KnownLaws.{has_past}
use Rattle.laws_routes.proofs.CallRouted.{own_vat}
use Rattle.laws_routes.proofs.CallsRouted.{law}
use Rattle.laws_routes.proofs.DescriptorsSaySo.{says_so}
use Rattle.laws_routes.proofs.WhereNodesEnd.{ends, settles_here}

said_if : (P : Type 0) (b : Bool) → P → SaidIfThere b P
said_if P true h = h
said_if P false h = tt

module _ (w : Around) (g : Ghosts) (m : routing.State routes) (d : Progress) (e : ℕ) (k : Node) (t : Tied w d g m) (may : MaySend w d e k) where
  abbrev x : Point
  x = point w.vat g.own k

  ends_as : EndsAs w.vat g.own m.net x (settle d.state k)
  ends_as = let own = t.own in ends law w.vat d.state g.own m.net own.stops may.rest k may.own may.there

  -- The export is of that node, also behind what its descriptor added.
  of_export : (new : State) → Exports d.state new → (read : Descriptor → Point) (to : ResolvedTo) → ((y : Export) → y.node ≡ k → SaidOfExport (bare m.net) w.vat g.own (Some y) read to) → SaidOfExport (bare m.net) w.vat g.own (map.get new.exports e) read to
  of_export new grown read to h =
      let was = may.of in
      let still = grown.2 in
      let y = still.still e was.0 was.1 in
      subst (λ (o : Option Export). SaidOfExport (bare m.net) w.vat g.own o read to) (sym (ap (λ (z : State). map.get z.exports e) grown.1 ∙ y.1)) (h y.0 (y.2 ∙ was.2))

  by_capability : (n : Node) (new : Progress) → settle d.state k ≡ n → ResolvesTo d e n new → Tied w new g m
  by_capability n new is a =
      let c = a.0 in
      let mid = a.1 in
      let says : MaySay w d.state n = subst (MaySay w d.state) is may.says in
      let made : Described d.state n c mid = subst (λ (z : Node). Described d.state z c mid) (settles_here d.state n says.stops) a.2 in
      let grown = described d.state n c mid made in
      let at_mid = grown_tied w d g m mid t may.met may.links grown in
      let out = w.out ++ d.effects.sends in
      let is_so : IsSaid (bare m.net) x c (will_read w mid out g c) = says_so w d g m x n c mid t (own_vat w.vat g.own k may.own) (subst (EndsAs w.vat g.own m.net x) is ends_as) says made in
      subst (λ (z : Progress). Tied w z g m) (sym a.3)
      (silent_goes w (with_state d mid) g m (message.Plain (resolve_message e (resolved.Cap c))) at_mid.0 tt
      (said_if _ ((has_past (has_of [] (w.other).imports (w.other).questions) out).import e)
      (of_export mid grown (will_read w mid out g) (resolved.Cap c) (λ y f. subst (λ (z : Node). IsSaid (bare m.net) (point w.vat g.own z) c (will_read w mid out g c)) (sym f) is_so))))

  one : (reason : Option Exception) (n : Node) (new : Progress) → settle d.state k ≡ n → ResolvesBy d e reason n new → Tied w new g m
  one reason (node.Object o) new is a = by_capability (node.Object o) new is a
  one reason (node.Promise p) new is a = by_capability (node.Promise p) new is a
  one reason (node.Field o path) new is a = by_capability (node.Field o path) new is a
  one reason (node.Import i) new is a = by_capability (node.Import i) new is a
  one reason (node.Pipe q path) new is a = by_capability (node.Pipe q path) new is a
  one reason (node.Broken why) new is a =
      let out = w.out ++ d.effects.sends in
      let breaks : m.net.kind (m.net.stop x) ≡ routing.Broken = subst (EndsAs w.vat g.own m.net x) is ends_as in
      subst (λ (z : Progress). Tied w z g m) (sym a)
      (silent_goes w d g m (message.Plain (resolve_message e (resolved.Exception (or_failed reason why)))) t tt
      (said_if _ ((has_past (has_of [] (w.other).imports (w.other).questions) out).import e)
      (of_export d.state (none_new d.state) (will_read w d.state out g) (resolved.Exception (or_failed reason why)) (λ y f. ap (λ (z : Node). m.net.kind (m.net.stop (point w.vat g.own z))) f ∙ breaks))))

each : (w : Around) (g : Ghosts) (m : routing.State routes) (d : Progress) (reason : Option Exception) (xs : List (ℕ × Node)) (new : Progress) → Tied w d g m → (h : ResolvesEach d reason xs new) → AllMaySend w d reason xs new h → Tied w new g m
each w g m d reason [] new t h may = subst (λ (z : Progress). Tied w z g m) (sym h) t
each w g m d reason (x ∷ xs) new t h may = each w g m h.0 reason xs new (one w g m d x.0 x.1 t may.0 reason (settle d.state x.1) h.0 refl h.1) h.2 may.1

pub resolves_sent : (w : Around) (d : Progress) (reason : Option Exception) (xs : List (ℕ × Node)) (new : Progress) → (h : ResolvesEach d reason xs new) → AllMaySend w d reason xs new h → IsFollowed w d new
resolves_sent w d reason xs new h may = λ g m us t i. (g, m, Done, each w g m d reason xs new t h may, (refl, refl, refl, refl))
