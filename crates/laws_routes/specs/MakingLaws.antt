-- What is proved of each command, as a whole.
use Rattle.std.specs.Prelude.{◌≡◌, ℕ, Option, None, Some, [], ◌++◌}
use Rattle.std.specs.FinMap as map
use Rattle.rpc_msg.specs.declared.ids.EmbargoId.{EmbargoId}
use Rattle.rpc_machine.specs.declared.command.CallCommand.{CallCommand}
use Rattle.rpc_machine.specs.declared.command.Granted.{Granted}
use Rattle.rpc_machine.specs.declared.entries.Reference.{Reference}
use Rattle.rpc_machine.specs.State.{State}
use Rattle.rpc_machine.specs.Progress.{Progress}
use Rattle.rpc_machine.specs.Commands.{counted, kept, AsksBootstrap, DropsRef, FinishesCall, MakesCall, MakesPromise}
use Rattle.laws_order.specs.Machine as routing
use Rattle.laws_order.specs.Invariant.{InvariantWith}
use Rattle.laws_routes.specs.Points.{routes}
use Rattle.laws_routes.specs.Ghosts.{ref_at}
use Rattle.laws_routes.specs.Sides.{IsEmbargoOf}
use Rattle.laws_routes.specs.Ties.{Around, Ghosts, Tied}
use Rattle.laws_routes.specs.Premises.{EachMayOpen, IsOnlyEmbargo, MayAsk, MayGoTo, MayKeep}
use Rattle.laws_routes.specs.Laws.{Comes, made_from, one_made}

-- ---- A call

-- The embargo of a reference is there, and is its only one.
abbrev pub EmbargoIsThere : State → ℕ → Option EmbargoId → Type 0
EmbargoIsThere s r None = Unit {0}
EmbargoIsThere s r (Some e) = IsEmbargoOf r (map.get s.embargoes e.0) × IsOnlyEmbargo s e.0 r

-- What a call needs that is made through the reference r, which is x: a new outcome may have any free key, and where the
-- head leads is there.
pub record MayCall (w : Around) (d : Progress) (r : ℕ) (x : Reference) : Type 0 where
  pub vat : d.state.vat ≡ w.vat
  pub embargo : EmbargoIsThere d.state r x.embargo
  pub keeps : (o : ℕ) → map.get d.state.outcomes o ≡ None → MayKeep (counted d.state r x) o
  pub here : (o : ℕ) → map.get d.state.outcomes o ≡ None → MayGoTo (kept (made_from d r x) d.state.next_call o).state w.other (w.out ++ d.effects.sends) w.back x.head
  pub far : MayGoTo (counted d.state r x) w.other (w.out ++ d.effects.sends) w.back x.head

-- A call is made, through any reference: an embargo keeps it, it ends where the reference is dead or broken, it goes to an own
-- node, or it goes over a wire, straight or from an own node that leads there.
abbrev pub CallIsMade : Type 0
CallIsMade =
    (w : Around) (d : Progress) (g : Ghosts) (m : routing.State routes) (c : CallCommand) (x : Reference) (granted : Granted) (new : Progress) → Tied w d g m → InvariantWith m [] → map.get d.state.refs c.reference.0 ≡ Some x
    → MayCall w d c.reference.0 x → MakesCall d c (Some x) granted new → Comes (one_made w (ref_at w.vat c.reference.0)) new m [] []

-- ---- Other commands

-- A reference is dropped.
abbrev pub DropIsNoMove : Type 0
DropIsNoMove =
    (w : Around) (d : Progress) (g : Ghosts) (m : routing.State routes) (r : ℕ) (granted : Granted) (new : Progress) → Tied w d g m → DropsRef d r (map.get d.state.refs r) granted new → Tied w new g m

-- A call is finished.
abbrev pub FinishedCallIsNoMove : Type 0
FinishedCallIsNoMove =
    (w : Around) (d : Progress) (g : Ghosts) (m : routing.State routes) (c : ℕ) (granted : Granted) (new : Progress) → Tied w d g m → FinishesCall d c (map.get d.state.calls c) granted new → Tied w new g m

-- A promise is made, and a reference to it.
abbrev pub PromiseIsMade : Type 0
PromiseIsMade =
    (w : Around) (d : Progress) (g : Ghosts) (m : routing.State routes) (granted : Granted) (new : Progress) → Tied w d g m → EachMayOpen d.state → MakesPromise d granted new → Comes w new m [] []

-- The other vat is asked for its bootstrap object.
abbrev pub BootstrapIsAsked : Type 0
BootstrapIsAsked =
    (w : Around) (d : Progress) (g : Ghosts) (m : routing.State routes) (granted : Granted) (new : Progress) → Tied w d g m → ((q : ℕ) → map.get d.state.questions q ≡ None → MayAsk d.state (w.out ++ d.effects.sends) w.back q)
    → AsksBootstrap d granted new → Comes w new m [] []
