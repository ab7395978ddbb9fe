-- A message is taken from a link, and a Disembargo goes back.
use Rattle.std.specs.FinMap as map
use Rattle.std.proofs.Common.{◌≡◌, ℕ, Bool, List, [], ◌∷◌, ◌++◌, append_assoc, None, Some, refl, sym, ap, ap₂, subst, ◌∙◌}
use Rattle.rpc_msg.specs.declared.ids.Vat.{Vat}
use Rattle.rpc_msg.specs.declared.ids.EmbargoId.{EmbargoId}
use Rattle.rpc_msg.specs.declared.parts.Target.{Target}
use Rattle.rpc_msg.specs.declared.message.DisembargoContext.TheVariants.{SenderLoopback, ReceiverLoopback}
use Rattle.rpc_msg.specs.declared.message.PlainMessage.TheVariants as plain
use Rattle.rpc_msg.specs.declared.message.Message as rpc
use Rattle.rpc_msg.specs.declared.message.Message.TheVariants as message
use Rattle.rpc_msg.specs.Vats.{other_vat}
use Rattle.rpc_machine.specs.State.{State}
use Rattle.rpc_machine.specs.Progress.{Progress, send}
use Rattle.laws_order.specs.Machine.{Message, Content, Call, Disembargo, Echo, Kind, Net, changed, same_vat}
use Rattle.laws_order.specs.Machine as routing
use Rattle.laws_order.specs.Routing as route
use Rattle.laws_order.specs.Events.{Receive, happens, echo_back, receive, receive_as}
use Rattle.laws_order.specs.Moves.{Done, Next, Happens}
use Rattle.laws_order.proofs.Choices.{changed_here, changed_other}
use Rattle.laws_routes.specs.Points.{Point, vat_of, end, routes}
use Rattle.laws_routes.specs.Ghosts.{Ghost}
use Rattle.laws_routes.specs.Sides.{Side, Unborn}
use Rattle.laws_routes.specs.Views.{IsSession, Shape, reader, embargo_ref, target_point, past, sessions_at, shapes, shapes_of, shape_of, target_of}
use Rattle.laws_routes.specs.Ties.{Around, Ghosts, Tied}
use Rattle.laws_routes.specs.Laws.{Comes, with_back}
use Rattle.laws_routes.proofs.Differing.{ends_differ}
use Rattle.laws_routes.proofs.LinkShapes.{past_more, shapes_more, shapes_of_more}
use Rattle.laws_routes.proofs.UnbornKept.{unborn_sent}
use Rattle.laws_routes.specs.Sayings.{AllSaid, Has, bare, has_of}
use Rattle.laws_routes.proofs.SayingsCarried.{said_is_sent}

-- Other links are of no account to a side.
pub relinked : (v : Vat) (s : State) (g : Ghost) (next : ℕ) (m : routing.State routes) (links : Bool → List (Message routes)) → Side v s g next m → Side v s g next (record m { net = record (m.net) { links = links } })
relinked v s g next m links h = record { stops = h.stops; refs = h.refs; embargoes = h.embargoes; no_other_embargoes = h.no_other_embargoes; lists = h.lists; ids = h.ids }

-- The oldest message of the machine's link is the oldest Call or Disembargo of the vat's.
pub oldest : (ms : List (Message routes)) (x : Shape) (xs : List Shape) → x ∷ xs ≡ shapes_of ms → (y : Message routes) × (ys : List (Message routes)) × (ms ≡ y ∷ ys) × (shape_of y ≡ x) × (xs ≡ shapes_of ys)
oldest [] x xs e = cc
oldest (y ∷ ys) x xs e = (y, ys, refl, (let a : shape_of y ≡ x = cc in a), (let b : xs ≡ shapes_of ys = cc in b))

abbrev content : Shape → Content
content x = x.what

pub some_target : (y : Message routes) (p : Point) → y.what ≡ Disembargo → target_of y.target y.what ≡ Some p → y.target ≡ p
some_target y p e h =
    let a : Some y.target ≡ Some p = subst (λ z. target_of y.target z ≡ Some p) e h in
    cc

-- The Disembargo is taken, and goes on to the wire `far` that its target settles to, as the echo.
pub bounces : (w : Around) (d : Progress) (g : Ghosts) (m : routing.State routes) (x : EmbargoId) (target onward : Target) (rest : List rpc.Message) (far : Point) → Tied (with_back w (message.Plain (plain.Disembargo (record { target = target; context = SenderLoopback x })) ∷ rest)) d g m
    → m.net.kind (m.net.stop (target_point w.vat (d.state).exports g.own (sessions_at g.own.outcome (d.state).answers) target)) ≡ routing.Exit far → vat_of far ≡ other_vat w.vat
    → Comes (with_back w rest) (send d (plain.Disembargo (record { target = onward; context = ReceiverLoopback x }))) m [] []
bounces w d g m x target onward rest far t k at =
    let back = t.back in
    let view = t.view in
    let o = oldest (m.net.links (end v)) first (shapes u v g.theirs (reader w.other s g.own) now rest) back.link in
    let y = o.0 in
    let ys = o.1 in
    let what : y.what ≡ Disembargo = ap content o.3 in
    let ref : y.ref ≡ embargo_ref u (map.get (w.other).embargoes x.0) = ap (λ (z : Shape). z.ref) o.3 in
    let to : y.target ≡ goes = some_target y goes what (ap (λ (z : Shape). z.target) o.3) in
    let echo : Message routes = record { target = far; ref = y.ref; what = Echo } in
    let n : Net routes = record (m.net) { links = changed same_vat m.net.links (end v) ys } in
    let m' : routing.State routes = record m { net = route.onto_link n echo } in
    let sees : m.net.kind (m.net.stop y.target) ≡ routing.Exit far = ap (λ z. m.net.kind (m.net.stop z)) to ∙ k in
    let made : happens m (Receive (end v)) ≡ m' = ap (receive m (end v)) o.2 ∙ (ap (receive_as (record m { net = n }) y) what ∙ ap (λ z. record m { net = echo_back n y.ref z }) sees) in
    let away : end v ≡ end (vat_of far) → ⊥ = λ z. ends_differ v (sym (z ∙ ap end at)) in
    let in_link : m'.net.links (end v) ≡ ys = changed_other same_vat n.links (end (vat_of far)) (n.links (end (vat_of far)) ++ echo ∷ []) (end v) away ∙ changed_here same_vat m.net.links (end v) ys in
    let out_link : m'.net.links (end u) ≡ m.net.links (end u) ++ echo ∷ [] =
    ap (λ a. changed same_vat n.links (end a) (n.links (end a) ++ echo ∷ []) (end u)) at
    ∙ (changed_here same_vat n.links (end u) (n.links (end u) ++ echo ∷ []) ∙ ap (λ z. z ++ echo ∷ []) (changed_other same_vat m.net.links (end v) ys (end u) (ends_differ v))) in (
      g,
      m',
      Next (Happens (Receive (end v)) tt refl (sym made) refl) Done,
      record {
        own = relinked v s g.own g.next m m'.net.links t.own;
        theirs = relinked u w.other g.theirs g.next m m'.net.links t.theirs;
        view = record {
          imports = view.imports;
          sessions = subst (λ (z : ℕ → ℕ). (q : ℕ) → IsSession (g.own.session q) (z q) (map.get s.questions q)) (sym (ap (past g.own there) assoc ∙ past_more g.own there out bounced)) view.sessions;
          link =
              ap (shapes v u g.own (reader s w.other g.theirs) there) assoc
              ∙ (shapes_more v u g.own (reader s w.other g.theirs) there out bounced
              ∙ (ap₂ (λ a b. a ++ record { target = None; ref = b; what = Echo } ∷ []) view.link (sym ref)
              ∙ (sym (shapes_of_more (m.net.links (end u)) echo) ∙ ap shapes_of (sym out_link))));
        };
        back = record { imports = back.imports; sessions = back.sessions; link = o.4 ∙ ap shapes_of (sym in_link) };
        told = t.told;
        unborn = subst (λ (ids : List ℕ). Unborn u (w.other).outcomes g.theirs.outcome m.net.stop m.net.kind m.net.waiting g.next ids) (sym (unborn_sent g.own.session w.out d.effects.sends bounced refl)) t.unborn;
        unborn_back = t.unborn_back;
        known = t.known;
        known_there = t.known_there;
        goes = subst (AllSaid (bare m.net) v s.exports g.own u (w.other).exports g.theirs has there) (sym assoc) (said_is_sent (bare m.net) v s.exports g.own u (w.other).exports g.theirs has there out (plain.Disembargo (record { target = onward; context = ReceiverLoopback x })) t.goes tt);
        comes = t.comes.1;
      },
    )
  where
    v : Vat
    v = w.vat

    u : Vat
    u = other_vat w.vat

    s : State
    s = d.state

    now : ℕ → ℕ
    now = sessions_at g.own.outcome (d.state).answers

    there : ℕ → ℕ
    there = sessions_at g.theirs.outcome (w.other).answers

    has : Has
    has = has_of [] (w.other).imports (w.other).questions

    out : List rpc.Message
    out = w.out ++ d.effects.sends

    goes : Point
    goes = target_point w.vat (d.state).exports g.own now target

    first : Shape
    first = record { target = Some goes; ref = embargo_ref u (map.get (w.other).embargoes x.0); what = Disembargo }

    bounced : rpc.Message
    bounced = message.Plain (plain.Disembargo (record { target = onward; context = ReceiverLoopback x }))

    assoc : w.out ++ (d.effects.sends ++ bounced ∷ []) ≡ out ++ bounced ∷ []
    assoc = sym (append_assoc w.out d.effects.sends (bounced ∷ []))
