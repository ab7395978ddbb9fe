-- What a Return says of each field of its outcome is so.
use Rattle.std.specs.FinMap as map
use Rattle.std.proofs.Common.{◌≡◌, ℕ, zero, suc, ◌+◌, List, [], ◌∷◌, ◌++◌, Option, None, Some, IsSome, refl, sym, ap, subst, ◌∙◌}
use Rattle.finite_maps.proofs.Gets.{get-insert_same}
use Rattle.rpc_msg.specs.Payloads.{Contents as Payload}
use Rattle.rpc_msg.specs.Op.{Op}
use Rattle.rpc_msg.specs.CapAt.{CapAt}
use Rattle.rpc_msg.specs.CapAt.TheVariants.{Cap, Null, NotCap}
use Rattle.rpc_msg.specs.declared.exception.Exception.{Exception}
use Rattle.rpc_msg.specs.declared.parts.Descriptor.{Descriptor}
use Rattle.rpc_msg.specs.declared.message.ReturnBody.TheVariants as body
use Rattle.rpc_msg.specs.declared.message.Message.{Message}
use Rattle.rpc_machine.specs.Payloads.{cap_at}
use Rattle.rpc_machine.specs.declared.node.Node.{Node}
use Rattle.rpc_machine.specs.declared.node.Node.TheVariants as node
use Rattle.rpc_machine.specs.declared.calls.KeptOutcome.{KeptOutcome}
use Rattle.rpc_machine.specs.declared.calls.Value.TheVariants as value
use Rattle.rpc_machine.specs.declared.entries.Export.{Export}
use Rattle.rpc_machine.specs.declared.node.Reason.TheVariants.{NullCapability, NotACapability, BrokenPromise}
use Rattle.rpc_machine.specs.State.{State}
use Rattle.rpc_machine.specs.Nodes.{field_link, link, node_of_cap, settle, value_of}
use Rattle.rpc_machine.specs.Progress.{Progress, with_state}
use Rattle.rpc_machine.specs.Descriptors.{Described, DescribesAll, ExportedAs, export_node}
use Rattle.rpc_machine.specs.Laws as machine
use Rattle.laws_steps.specs.Settled.{IsThere}
use Rattle.laws_order.specs.Machine as routing
use Rattle.laws_routes.specs.Points.{Point, AField, routes}
use Rattle.laws_routes.specs.Ghosts.{point}
use Rattle.laws_routes.specs.Sides.{EndsAs}
use Rattle.laws_routes.specs.Ties.{Around, Ghosts, Tied}
use Rattle.laws_routes.specs.Premises.{LinksRest, TargetsAreMet}
use Rattle.laws_routes.specs.Sayings.{bare, IsSaid, SaidAt, SaidOfAnswer, SaidOfCap}
use Rattle.laws_routes.specs.SayingLaws.{AllMaySay, will_read}
use Rattle.laws_routes.proofs.CallsRouted.{law}
use Rattle.laws_routes.proofs.DescriptorsSaySo.{says_so}
use Rattle.laws_routes.proofs.ExportsGrown.{Exports, described, described_all, grown_tied, point_still}
use Rattle.laws_routes.proofs.WhereNodesEnd.{ends, settles_here}
use Rattle.laws_routes.specs.Named.{LinksMet}

-- ---- Where a field ends

field_there : (s : State) (o : ℕ) (path : List Op) (c : Node) → link s (node.Field o path) ≡ Some c → IsThere s (node.Field o path)
field_there s o path c h = by (map.get s.outcomes o) h
  where
    by : (z : Option KeptOutcome) → field_link path (value_of z) ≡ Some c → IsSome z
    by None k = cc
    by (Some x) k = refl

field_settles : (s : State) (o : ℕ) (path : List Op) (c : Node) → link s (node.Field o path) ≡ Some c → LinksRest s → settle s (node.Field o path) ≡ settle s c
field_settles s o path c h rest = let a = rest.stop (node.Field o path) (field_there s o path c h) in by a.0 a.1
  where
    by : (k : ℕ) → machine.Stops s k (node.Field o path) → settle s (node.Field o path) ≡ settle s c
    by zero e = let a : None ≡ Some c = sym e ∙ h in cc
    by (suc k) e =
        let a : Some e.0 ≡ Some c = sym e.1 ∙ h in
        let f : e.0 ≡ c = cc in
        law.follows s k (node.Field o path) e.0 e.1 e.2 ∙ ap (settle s) f

field_ends : (w : Around) (d : Progress) (g : Ghosts) (m : routing.State routes) (o : ℕ) (path : List Op) (c : Node) → Tied w d g m → LinksRest d.state → link d.state (node.Field o path) ≡ Some c
    → EndsAs w.vat g.own m.net (AField w.vat (g.own.outcome o) path) (settle d.state c)
field_ends w d g m o path c t rest h =
    let side = t.own in
    subst (EndsAs w.vat g.own m.net (AField w.vat (g.own.outcome o) path)) (field_settles d.state o path c h rest)
    (ends law w.vat d.state g.own m.net side.stops rest (node.Field o path) refl (field_there d.state o path c h))

broken_ends : (w : Around) (d : Progress) (g : Ghosts) (m : routing.State routes) (o : ℕ) (path : List Op) (reason : _) → Tied w d g m → LinksRest d.state → link d.state (node.Field o path) ≡ Some (node.Broken reason)
    → m.net.kind (m.net.stop (AField w.vat (g.own.outcome o) path)) ≡ routing.Broken
broken_ends w d g m o path reason t rest h =
    subst (EndsAs w.vat g.own m.net (AField w.vat (g.own.outcome o) path)) (settles_here d.state (node.Broken reason) refl) (field_ends w d g m o path (node.Broken reason) t rest h)

-- ---- A descriptor is read as before, once exports have grown

pub there_as : (s : State) (n : Node) (e : ℕ) (o : Option Export) (new : State) → ExportedAs s n e o new → IsSome (map.get new.exports e)
there_as s n e None new h =
    subst (λ (z : Option Export). IsSome z) (sym (ap (λ (z : State). map.get z.exports e) h.1 ∙ get-insert_same s.exports e (record { node = n; count = 1 }))) refl
there_as s n e (Some x) new h =
    subst (λ (z : Option Export). IsSome z) (sym (ap (λ (z : State). map.get z.exports e) h.1 ∙ get-insert_same s.exports e (record { node = n; count = x.count + 1 }))) refl

module _ (w : Around) (g : Ghosts) (out : List Message) (s mid new : State) (grown : Exports mid new) where
  export_still : (e : ℕ) → IsSome (map.get mid.exports e) → point w.vat g.own (export_node (map.get new.exports e)) ≡ point w.vat g.own (export_node (map.get mid.exports e))
  export_still e there =
      ap (λ (z : State). point w.vat g.own (export_node (map.get z.exports e))) grown.1 ∙ point_still w.vat g.own mid.exports grown.0 grown.2 e there

  reads_still : (k : Node) (c : Descriptor) → Described s k c mid → will_read w new out g c ≡ will_read w mid out g c
  reads_still (node.Object o) c h = subst (λ (z : Descriptor). will_read w new out g z ≡ will_read w mid out g z) (sym h.1) (export_still h.0 (there_as s (node.Object o) h.0 (map.get s.exports h.0) mid h.2))
  reads_still (node.Promise p) c h = subst (λ (z : Descriptor). will_read w new out g z ≡ will_read w mid out g z) (sym h.1) (export_still h.0 (there_as s (node.Promise p) h.0 (map.get s.exports h.0) mid h.2))
  reads_still (node.Field o path) c h = subst (λ (z : Descriptor). will_read w new out g z ≡ will_read w mid out g z) (sym h.1) (export_still h.0 (there_as s (node.Field o path) h.0 (map.get s.exports h.0) mid h.2))
  reads_still (node.Import e) c h = subst (λ (z : Descriptor). will_read w new out g z ≡ will_read w mid out g z) (sym h.0) refl
  reads_still (node.Pipe q path) c h = subst (λ (z : Descriptor). will_read w new out g z ≡ will_read w mid out g z) (sym h.0) refl
  reads_still (node.Broken reason) c h = subst (λ (z : Descriptor). will_read w new out g z ≡ will_read w mid out g z) (sym h.0) refl

-- ---- Each descriptor

module _ (w : Around) (g : Ghosts) (m : routing.State routes) (o : ℕ) (path : List Op) where
  abbrev x : Point
  x = AField w.vat (g.own.outcome o) path

  said_at : (ns : List Node) (d : Progress) (ds : List Descriptor) (new : State) (i : ℕ) → Tied w d g m → TargetsAreMet d.state w.back → LinksMet d.state w.other (w.out ++ d.effects.sends) w.back → (h : DescribesAll d.state ns ds new) → AllMaySay w d.state ns ds new h
      → link d.state (node.Field o path) ≡ Some (node_of_cap ns (Cap i)) → SaidAt (bare m.net) x (will_read w new (w.out ++ d.effects.sends) g) ds i
  said_at [] d [] new i t met links h may e = broken_ends w d g m o path NotACapability t may e
  said_at [] d (c ∷ ds) new i t met links h may e = absurd h
  said_at (n ∷ ns) d [] new i t met links h may e = absurd h
  said_at (n ∷ ns) d (c ∷ ds) new zero t met links h may e =
      let out = w.out ++ d.effects.sends in
      let k = settle d.state n in
      let said = says_so w d g m x k c h.0 t refl (field_ends w d g m o path n t may.0 e) may.1 h.1 in
      subst (λ (z : Point). IsSaid (bare m.net) x c z) (sym (reads_still w g out d.state h.0 new (described_all h.0 ns ds new h.2) k c h.1)) said
  said_at (n ∷ ns) d (c ∷ ds) new (suc i) t met links h may e =
      let grown = described d.state (settle d.state n) c h.0 h.1 in
      let a = grown_tied w d g m h.0 t met links grown in
      said_at ns (with_state d h.0) ds new i a.0 a.1 a.2 h.2 may.2 (ap (λ (z : State). field_link path (value_of (map.get z.outcomes o))) grown.1 ∙ e)

-- ---- All

first_rest : (w : Around) (s : State) (ns : List Node) (ds : List Descriptor) (new : State) (h : DescribesAll s ns ds new) → AllMaySay w s ns ds new h → LinksRest s
first_rest w s [] [] new h may = may
first_rest w s [] (d ∷ ds) new h may = absurd h
first_rest w s (n ∷ ns) [] new h may = absurd h
first_rest w s (n ∷ ns) (d ∷ ds) new h may = may.0

pub results_say : (w : Around) (d : Progress) (g : Ghosts) (m : routing.State routes) (o : ℕ) (payload : Payload) (caps : List Node) (ds : List Descriptor) (new : State) → Tied w d g m → TargetsAreMet d.state w.back → LinksMet d.state w.other (w.out ++ d.effects.sends) w.back
    → value_of (map.get d.state.outcomes o) ≡ Some (value.Results payload caps) → (h : DescribesAll d.state caps ds new) → AllMaySay w d.state caps ds new h
    → SaidOfAnswer (bare m.net) w.vat (g.own.outcome o) (will_read w new (w.out ++ d.effects.sends) g) (body.Results payload ds)
results_say w d g m o payload caps ds new t met links e h may = λ path. by path (cap_at payload path) (ap (field_link path) e)
  where
    by : (path : List Op) (c : CapAt) → link d.state (node.Field o path) ≡ Some (node_of_cap caps c) → SaidOfCap (bare m.net) (AField w.vat (g.own.outcome o) path) (will_read w new (w.out ++ d.effects.sends) g) ds c
    by path (Cap i) f = said_at w g m o path caps d ds new i t met links h may f
    by path Null f = broken_ends w d g m o path NullCapability t (first_rest w d.state caps ds new h may) f
    by path NotCap f = broken_ends w d g m o path NotACapability t (first_rest w d.state caps ds new h may) f

pub exception_says : (w : Around) (d : Progress) (g : Ghosts) (m : routing.State routes) (o : ℕ) (exception : Exception) (read : Descriptor → Point) → Tied w d g m
    → value_of (map.get d.state.outcomes o) ≡ Some (value.Exception exception) → LinksRest d.state → SaidOfAnswer (bare m.net) w.vat (g.own.outcome o) read (body.Exception exception)
exception_says w d g m o exception read t e rest = λ path. broken_ends w d g m o path BrokenPromise t rest (ap (field_link path) e)
