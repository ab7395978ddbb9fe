-- What is proved of two vats over many steps: they stay tied, and calls are delivered in order.
use Rattle.std.specs.Prelude.{◌≡◌, Option, List, [], ◌∷◌}
use Rattle.rpc_msg.specs.declared.ids.Vat.{Vat}
use Rattle.rpc_msg.specs.declared.ids.ObjectId.{ObjectId}
use Rattle.rpc_msg.specs.declared.message.Message.{Message}
use Rattle.rpc_journal.specs.History.{Ref}
use Rattle.rpc_machine.specs.declared.command.Command.{Command}
use Rattle.rpc_machine.specs.declared.command.Effects.{Effects}
use Rattle.rpc_machine.specs.declared.command.Granted.{Granted}
use Rattle.rpc_machine.specs.declared.command.Level.{Level}
use Rattle.rpc_machine.specs.State.{State, start}
use Rattle.rpc_machine.specs.Progress.{begin}
use Rattle.rpc_machine.specs.Steps.{Does, Handles}
use Rattle.laws_order.specs.Machine as routing
use Rattle.laws_order.specs.Invariant.{InvariantWith}
use Rattle.laws_order.specs.Moves.{Moves}
use Rattle.laws_order.specs.Order.{AtOne, IsBeginningOf, below, indexes}
use Rattle.laws_routes.specs.Points.{routes}
use Rattle.laws_routes.specs.Ties.{Around, Ghosts, deliveries_of}
use Rattle.laws_routes.specs.Laws.{with_back}
use Rattle.laws_routes.specs.OutcomeLaws.{AllMaySettle}
use Rattle.laws_routes.specs.StepLaws.{MayAct, MayHandle, TiedAt, made_by}
use Rattle.laws_routes.specs.PairLaws.{beginning, behind, turned}

-- One of the vats takes a step, in which what is taken as known is so; or the other one is looked at.
pub data Step (w : Around) (s : State) (after : Around) (new : State) : Type 0 where
  Commanded : (c : Command) (granted : Granted) (effects : Effects) (h : Does s c granted effects new) → MayAct w (begin s) c granted h.acted h.acts
      → AllMaySettle (made_by w c) h.ends.drained h.acted h.ends.drains → after ≡ behind (made_by w c) effects → Step w s after new
  Received : (x : Message) (rest : List Message) (effects : Effects) → w.back ≡ x ∷ rest → (h : Handles s x effects new) → MayHandle (with_back w rest) (begin s) x h.taken h.takes
      → AllMaySettle (with_back w rest) h.ends.drained h.taken h.ends.drains → after ≡ behind (with_back w rest) effects → Step w s after new
  Turns : after ≡ turned w s → new ≡ w.other → Step w s after new

-- Such steps, one after the other.
pub data Steps (after : Around) (new : State) : Around → State → Type 0 where
  Done : Steps after new after new
  Next : {w mid : Around} {s between : State} → Step w s mid between → Steps after new mid between → Steps after new w s

-- Two vats that are tied stay so, and the machine moves.
abbrev pub VatsStayTied : Type 0
VatsStayTied =
    (w after : Around) (s new : State) (g : Ghosts) (m : routing.State routes) → TiedAt w s g m → InvariantWith m [] → Steps after new w s
    → (f : Ghosts) × (n : routing.State routes) × Moves n [] m [] × TiedAt after new f n

-- Whatever such steps two new vats take: the calls delivered of a reference are a beginning of those made through it, in
-- order, each once, and all at one object.
abbrev pub DeliveredInOrder : Type 0
DeliveredInOrder =
    (v : Vat) (own theirs : Level) (object other : Option ObjectId) (after : Around) (new : State) → Steps after new (beginning v theirs other) (start v own object)
    → (r : Ref) → IsBeginningOf (indexes (deliveries_of r after.delivered)) (below (after.made r)) × AtOne (deliveries_of r after.delivered)
