-- What is proved of two vats between steps: new ones are tied, each is followed by the other, and the calls of vats that are
-- tied are delivered in order.
use Rattle.std.specs.Prelude.{Option, [], ◌++◌}
use Rattle.rpc_msg.specs.declared.ids.Vat.{Vat}
use Rattle.rpc_msg.specs.declared.ids.ObjectId.{ObjectId}
use Rattle.rpc_msg.specs.Vats.{other_vat}
use Rattle.rpc_journal.specs.History.{Ref}
use Rattle.rpc_machine.specs.declared.command.Effects.{Effects}
use Rattle.rpc_machine.specs.declared.command.Level.{Level}
use Rattle.rpc_machine.specs.State.{State, start}
use Rattle.laws_order.specs.Machine as routing
use Rattle.laws_order.specs.Invariant.{InvariantWith}
use Rattle.laws_order.specs.Order.{AtOne, IsBeginningOf, below, indexes}
use Rattle.laws_routes.specs.Points.{routes}
use Rattle.laws_routes.specs.Ties.{Around, Ghosts, TiedBy, all_at, deliveries_of}
use Rattle.laws_routes.specs.StepLaws.{TiedAt}

-- What was sent is on its way, and what was delivered is told.
abbrev pub behind : Around → Effects → Around
behind w effects = record w { out = w.out ++ effects.sends; delivered = w.delivered ++ all_at w.vat effects.deliveries }

-- The same, seen from the other vat.
abbrev pub turned : Around → State → Around
turned w s = record { vat = other_vat w.vat; other = s; out = w.back; back = w.out; made = w.made; delivered = w.delivered }

-- Two new vats, seen from v.
abbrev pub beginning : Vat → Level → Option ObjectId → Around
beginning v level bootstrap = record { vat = v; other = start (other_vat v) level bootstrap; out = []; back = []; made = λ r. 0; delivered = [] }

-- Two new vats are tied to a machine of routes at its start.
abbrev pub StartIsTied : Type 0
StartIsTied =
    (v : Vat) (own theirs : Level) (object other : Option ObjectId) → (g : Ghosts) × (m : routing.State routes) × TiedAt (beginning v theirs other) (start v own object) g m × InvariantWith m []

-- What a step leaves is tied, and from then on is before the next step.
abbrev pub StepIsBehind : Type 0
StepIsBehind =
    (w : Around) (new : State) (effects : Effects) (g : Ghosts) (m : routing.State routes) → TiedBy w [] new effects.sends effects.deliveries g m → TiedAt (behind w effects) new g m

-- Two vats are tied from whichever they are seen.
abbrev pub TurnIsTied : Type 0
TurnIsTied = (w : Around) (s : State) (g : Ghosts) (m : routing.State routes) → TiedAt w s g m → TiedAt (turned w s) w.other (record { own = g.theirs; theirs = g.own; next = g.next }) m

-- Of two vats that are tied, the calls delivered of a reference are a beginning of those made through it, in order, each once,
-- and all at one object.
abbrev pub TiedIsInOrder : Type 0
TiedIsInOrder =
    (w : Around) (s : State) (g : Ghosts) (m : routing.State routes) → TiedAt w s g m → InvariantWith m []
    → (r : Ref) → IsBeginningOf (indexes (deliveries_of r w.delivered)) (below (w.made r)) × AtOne (deliveries_of r w.delivered)
