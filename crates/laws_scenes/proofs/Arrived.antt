-- Where a call of a reference was delivered its route ends at an object. So all are delivered once none is pending.
use Rattle.std.specs.FinMap.{get}
use Rattle.std.specs.List.{AllByRecursion}
use Rattle.std.proofs.Common.{◌≡◌, ℕ, List, [], ◌∷◌, map, append-nil, sym, ap, subst, ◌∙◌, Bool, Some, refl, Option}
use Rattle.rpc_msg.specs.declared.ids.ObjectId.{ObjectId}
use Rattle.rpc_msg.specs.declared.ids.Stamp.{Stamp}
use Rattle.rpc_msg.specs.declared.ids.Vat.{Vat}
use Rattle.rpc_msg.specs.declared.ids.Vat.TheVariants.{A, B}
use Rattle.rpc_journal.specs.declared.entry.JournalEntry.{JournalEntry}
use Rattle.rpc_journal.specs.History.{DeliveredAt, Ref, delivered, made, stamps}
use Rattle.rpc_machine.specs.Journal.{journal}
use Rattle.rpc_machine.specs.Pending.{pending}
use Rattle.rpc_machine.specs.World.{World, core}
use Rattle.rpc_machine.specs.declared.entries.Reference.{Reference}
use Rattle.rpc_machine.specs.declared.node.Node.{Node}
use Rattle.rpc_machine.specs.declared.node.Node.TheVariants as node
use Rattle.rpc_machine.specs.Nodes.{settle}
use Rattle.rpc_machine.specs.State.{State}
use Rattle.laws_steps.specs.Settled.{IsThere}
use Rattle.laws_order.specs.Machine as routing
use Rattle.laws_order.specs.Order.{EndsAt, GoodRoute, InOrder, NonePending, below, indexes}
use Rattle.laws_order.specs.Routes.{IsEnd}
use Rattle.laws_order.proofs.Claims.{gives_order}
use Rattle.laws_runs.specs.MadeCalls.{CallsAreNumbered}
use Rattle.laws_runs.specs.Scenes.{Scene, IsScene}
use Rattle.laws_runs.specs.Shown.{EveryRunIsShown, EverySceneShowsARun, ShowsBothUp}
use Rattle.laws_runs.proofs.ToldAlike.{same_delivered, same_made}
use Rattle.laws_routes.specs.ChainLaws.{VatsStayTied}
use Rattle.laws_routes.specs.PairLaws.{StartIsTied}
use Rattle.laws_routes.specs.Ghosts.{Ghost, ref_at}
use Rattle.laws_routes.specs.Midway.{LinksRestFollows}
use Rattle.laws_routes.specs.Points.{Point, routes}
use Rattle.laws_routes.specs.Premises.{LinksRest}
use Rattle.laws_routes.specs.Sides.{EndsAs, HasHead, IsRef, Side}
use Rattle.laws_routes.proofs.CallsRouted.{law}
use Rattle.laws_routes.proofs.WhereNodesEnd.{ends}
use Rattle.rpc_machine.proofs.Settles.{settles_here}
use Rattle.laws_routes.specs.Ties.{deliveries_of, delivery_of}
use Rattle.laws_scenes.specs.InFull.{IsOwnEnd, OwnScenesArriveInFull, RunsArriveInFull, ScenesArriveInFull}
use Rattle.laws_scenes.specs.Walked.{ScenesAreBetweenSteps, all_told}
use Rattle.laws_scenes.proofs.Arriving.{none_pending}
use Rattle.laws_scenes.proofs.Orders.{delivered_is, made_is, numbered_in, only_of, only_told, routed, stamp_at}
use Rattle.laws_scenes.proofs.TiedScenes.{IsTied, tied_in}

first_of : (P : routing.Delivery routes → Type 0) (ds : List DeliveredAt) (s : Stamp) (ss : List Stamp) → stamps ds ≡ s ∷ ss → AllByRecursion P (map delivery_of ds) → (d : routing.Delivery routes) × P d
first_of P [] s ss e h = cc
first_of P (d ∷ ds) s ss e h = (delivery_of d, h.0)

good : (m : routing.State routes) (r : Ref) (d : routing.Delivery routes) → EndsAt m.net (m.net.stop (m.refs r).head) d → GoodRoute m r
good m r d h = (h.0, d.object, h.1, subst (λ k. IsEnd k) (sym h.2) tt)

-- A reference leads to an object or to what is open at its own vat.
module _ (v : Vat) (s : State) (g : Ghost) (next : ℕ) (m : routing.State routes) (side : Side v s g next m) (rest : LinksRest s) where
  is_end : (p : Point) (n : Node) → IsOwnEnd n → EndsAs v g m.net p n → IsEnd (m.net.kind (m.net.stop p))
  is_end p (node.Object o) i h = subst (λ k. IsEnd k) (sym h.1) tt
  is_end p (node.Promise q) i h = subst (λ k. IsEnd k) (sym h.1) tt
  is_end p (node.Field o path) i h = subst (λ k. IsEnd k) (sym h.1) tt
  is_end p (node.Import e) i h = absurd i
  is_end p (node.Pipe q path) i h = absurd i
  is_end p (node.Broken reason) i h = absurd i

  leads : (n : Node) (dead : Bool) (head : Point) → HasHead v g n dead head → IsThere s n → IsOwnEnd (settle s n) → IsEnd (m.net.kind (m.net.stop head))
  leads (node.Object o) dead head h i own = subst (λ p. IsEnd (m.net.kind (m.net.stop p))) (sym h.1) (is_end _ (settle s (node.Object o)) own (ends law v s g m.net side.stops rest (node.Object o) refl i))
  leads (node.Promise q) dead head h i own = subst (λ p. IsEnd (m.net.kind (m.net.stop p))) (sym h.1) (is_end _ (settle s (node.Promise q)) own (ends law v s g m.net side.stops rest (node.Promise q) refl i))
  leads (node.Field o path) dead head h i own = subst (λ p. IsEnd (m.net.kind (m.net.stop p))) (sym h.1) (is_end _ (settle s (node.Field o path)) own (ends law v s g m.net side.stops rest (node.Field o path) refl i))
  leads (node.Import e) dead head h i own = absurd (subst IsOwnEnd (settles_here s (node.Import e) refl) own)
  leads (node.Pipe q path) dead head h i own = absurd (subst IsOwnEnd (settles_here s (node.Pipe q path) refl) own)
  leads (node.Broken reason) dead head h i own = absurd (subst IsOwnEnd (settles_here s (node.Broken reason) refl) own)

  own_good : (r : ℕ) (z : Reference) → get s.refs r ≡ Some z → IsThere s z.head → IsOwnEnd (settle s z.head) → GoodRoute m (ref_at v r)
  own_good r z e i own =
      let is : IsRef v g s.next_ref r (Some z) (m.refs (ref_at v r)) = subst (λ (o : Option Reference). IsRef v g s.next_ref r o (m.refs (ref_at v r))) e (side.refs r) in
      (0, m.net.stop (m.refs (ref_at v r)).head, refl, leads z.head (m.refs (ref_at v r)).dead (m.refs (ref_at v r)).head is.3 i own)

module _ (between : ScenesAreBetweenSteps) (starts : StartIsTied) (stay : VatsStayTied) (numbers : CallsAreNumbered) (shows : EverySceneShowsARun) where
  tied : (a b : Option ObjectId) (x : Scene) (i : IsScene a b x) → IsTied a b x (between a b x i) A
  tied a b x i = tied_in starts stay a b x (between a b x i) A

  module _ (a b : Option ObjectId) (x : Scene) (i : IsScene a b x) (r : Ref) where
    abbrev h : List JournalEntry
    h = x.journal

    delivers : (let y = tied a b x i in let m = y.net in (m.refs r).delivered ≡ deliveries_of r (all_told h))
    delivers = let y = tied a b x i in let t = y.tied in let told = t.told in told.delivered_is r ∙ ap (deliveries_of r) (append-nil (all_told h))

    -- Where the route is good.
    whole : pending x.world r ≡ [] → (let y = tied a b x i in GoodRoute y.net r) → delivered h r ≡ made h r
    whole idle route =
        let k = between a b x i in
        let y = tied a b x i in
        let m = y.net in
        let t = y.tied in
        let told = t.told in
        let order : InOrder m r = gives_order m y.holds r in
        let none : NonePending m r = none_pending x.world k.made (all_told h) y.ghosts m t y.holds r idle in
        let every : indexes (m.refs r).delivered ≡ below (m.refs r).made = order.all route none in
        delivered_is r h ∙ ap (λ ds. map (stamp_at r) (indexes ds)) (sym delivers) ∙ ap (λ (l : List ℕ). map (stamp_at r) l) every
        ∙ sym (made_is r h (m.refs r).made (told.made_is r ∙ k.counts r) (numbered_in numbers shows a b x i r))

  pub scenes : ScenesArriveInFull
  scenes a b x i r s ss one idle =
      let y = tied a b x i in
      let m = y.net in
      let h = x.journal in
      let order : InOrder m r = gives_order m y.holds r in
      let ends = subst (λ ds. AllByRecursion (EndsAt m.net (m.net.stop (m.refs r).head)) ds) (delivers a b x i r ∙ routed r (all_told h)) order.at_end in
      let d = first_of (EndsAt m.net (m.net.stop (m.refs r).head)) (only_of r (all_told h)) s ss (sym (ap stamps (only_told r h)) ∙ one) ends in
      whole a b x i r idle (good m r d.0 d.1)

  pub own_scenes : LinksRestFollows → OwnScenesArriveInFull
  own_scenes rests a b x i v r z e own idle = whole a b x i (ref_at v r) idle (by v e own)
    where
      by : (v : Vat) → get (core x.world v).refs r ≡ Some z → IsOwnEnd (settle (core x.world v) z.head) → (let y = tied a b x i in GoodRoute y.net (ref_at v r))
      by A e own = (
          let k = between a b x i in
          let mid = k.midway A in
          let y = tied a b x i in
          let t = y.tied in
          let held = mid.heads r z e in
          own_good A x.world.a.core y.ghosts.own y.ghosts.next y.net t.own (rests x.world.a.core x.world.b.core x.world.b.inbox x.world.a.inbox mid) r z e held.0 own)
      by B e own = (
          let k = between a b x i in
          let mid = k.midway B in
          let y = tied a b x i in
          let t = y.tied in
          let held = mid.heads r z e in
          own_good B x.world.b.core y.ghosts.theirs y.ghosts.next y.net t.theirs (rests x.world.b.core x.world.a.core x.world.a.inbox x.world.b.inbox mid) r z e held.0 own)

pub runs : EveryRunIsShown → ShowsBothUp → ScenesArriveInFull → RunsArriveInFull
runs shown both scenes a b xs w run up r s ss one idle =
    let z = shown a b xs w run in
    let x : Scene = z.0 in
    let u = z.2 in
    let same = both x (journal xs) w u up in
    let told = u.history in
    let there : delivered x.journal r ≡ delivered (journal xs) r = sym (same_delivered (journal xs) x.journal told r) in
    sym there ∙ scenes a b x z.1 r s ss (there ∙ one) (subst (λ (v : World). pending v r ≡ []) same idle) ∙ sym (same_made (journal xs) x.journal told r)
