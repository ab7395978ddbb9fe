-- Two vats over many steps.
use Rattle.std.proofs.Common.{List, [], ◌∷◌, Option, sym, subst}
use Rattle.rpc_msg.specs.declared.ids.Vat.{Vat}
use Rattle.rpc_msg.specs.declared.ids.ObjectId.{ObjectId}
use Rattle.rpc_msg.specs.declared.message.Message.{Message}
use Rattle.rpc_journal.specs.History.{Ref}
use Rattle.rpc_machine.specs.declared.command.Effects.{Effects}
use Rattle.rpc_machine.specs.declared.command.Level.{Level}
use Rattle.rpc_machine.specs.State.{State, start}
use Rattle.laws_order.specs.Machine as routing
use Rattle.laws_order.specs.Invariant.{InvariantWith}
use Rattle.laws_order.specs.Moves.{Moves}
use Rattle.laws_order.specs.Moves as moves
use Rattle.laws_order.specs.Order.{AtOne, IsBeginningOf, below, indexes}
use Rattle.laws_order.proofs.Moves.{moves_keep}
use Rattle.laws_routes.specs.Points.{routes}
use Rattle.laws_routes.specs.Ties.{Around, Ghosts, deliveries_of}
use Rattle.laws_routes.specs.Laws.{with_back}
use Rattle.laws_routes.specs.StepLaws.{StepComes, TiedAt, made_by}
use Rattle.laws_routes.specs.PairLaws.{beginning, behind, turned}
use Rattle.laws_routes.specs.ChainLaws.{Commanded, Done, Next, Received, Step, Steps, Turns}
use Rattle.laws_routes.proofs.NewReferences.{moves_on}
use Rattle.laws_routes.proofs.StepMoves.{commands_are_moves, messages_are_moves}
use Rattle.laws_routes.proofs.PairsTied.{settles_down, start_tied, tied_in_order, turns}

abbrev Stays : Around → State → routing.State routes → Type 0
Stays after new m = (f : Ghosts) × (n : routing.State routes) × Moves n [] m [] × TiedAt after new f n

stepped : (w : Around) (new : State) (effects : Effects) (m : routing.State routes) → StepComes w new effects m → Stays (behind w effects) new m
stepped w new effects m a = (a.0, a.1, a.2, settles_down w new effects a.0 a.1 a.3)

one_step : (w after : Around) (s new : State) (g : Ghosts) (m : routing.State routes) → TiedAt w s g m → InvariantWith m [] → Step w s after new → Stays after new m
one_step w after s new g m t i (Commanded c granted effects h may settle e) =
    subst (λ (z : Around). Stays z new m) (sym e) (stepped (made_by w c) new effects m (commands_are_moves w s g m c granted effects new t i h may settle))
one_step w after s new g m t i (Received x rest effects e h may settle f) =
    let t' : TiedAt (with_back w (x ∷ rest)) s g m = subst (λ (ms : List Message). TiedAt (with_back w ms) s g m) e t in
    subst (λ (z : Around). Stays z new m) (sym f) (stepped (with_back w rest) new effects m (messages_are_moves w s g m x rest effects new t' i h may settle))
one_step w after s new g m t i (Turns e f) =
    subst (λ (z : Around). Stays z new m) (sym e)
    (subst (λ (z : State). Stays (turned w s) z m) (sym f) (record { own = g.theirs; theirs = g.own; next = g.next }, m, moves.Done, turns w s g m t))

stays_from : (after : Around) (new : State) (w : Around) (s : State) → Steps after new w s → (g : Ghosts) (m : routing.State routes) → TiedAt w s g m → InvariantWith m [] → Stays after new m
stays_from after new w s Done g m t i = (g, m, moves.Done, t)
stays_from after new w s (Next {mid = mid} {between = between} a more) g m t i =
    let b = one_step w mid s between g m t i a in
    let c = stays_from after new mid between more b.0 b.1 b.3 (moves_keep b.1 [] m [] b.2 i) in
    (c.0, c.1, moves_on c.1 [] b.1 [] m [] c.2 b.2, c.3)

pub stay_tied : (w after : Around) (s new : State) (g : Ghosts) (m : routing.State routes) → TiedAt w s g m → InvariantWith m [] → Steps after new w s → Stays after new m
stay_tied w after s new g m t i h = stays_from after new w s h g m t i

pub delivered_in_order : (v : Vat) (own theirs : Level) (object other : Option ObjectId) (after : Around) (new : State) → Steps after new (beginning v theirs other) (start v own object)
    → (r : Ref) → IsBeginningOf (indexes (deliveries_of r after.delivered)) (below (after.made r)) × AtOne (deliveries_of r after.delivered)
delivered_in_order v own theirs object other after new h r =
    let a = start_tied v own theirs object other in
    let b = stay_tied (beginning v theirs other) after (start v own object) new a.0 a.1 a.2 a.3 h in
    tied_in_order after new b.0 b.1 b.3 (moves_keep b.1 [] a.1 [] b.2 a.3) r
