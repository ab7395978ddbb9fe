-- What is proved of first acts: what is so in the middle of a step is so behind each of them.
use Rattle.std.specs.Prelude.{◌≡◌, ℕ, None, Some}
use Rattle.std.specs.FinMap as map
use Rattle.rpc_machine.specs.declared.command.Command.{Command}
use Rattle.rpc_machine.specs.declared.command.Effects.{Effects}
use Rattle.rpc_machine.specs.declared.command.Granted.{Granted}
use Rattle.rpc_machine.specs.declared.command.Level.TheVariants.{One}
use Rattle.rpc_machine.specs.declared.entries.Reference.{Reference}
use Rattle.rpc_machine.specs.State.{State}
use Rattle.rpc_machine.specs.Commands.{Acts}
use Rattle.rpc_machine.specs.Progress.{Progress, begin}
use Rattle.rpc_machine.specs.Refusals.{refused}
use Rattle.rpc_machine.specs.Steps.{Does}
use Rattle.laws_order.specs.Machine as routing
use Rattle.laws_steps.specs.Callers.{HasSource}
use Rattle.laws_steps.specs.NodesThere.{IsWhole}
use Rattle.laws_routes.specs.OutcomeLaws.{AllMaySettle}
use Rattle.laws_routes.specs.StepLaws.{MayAct, made_by}
use Rattle.laws_routes.specs.Points.{routes}
use Rattle.laws_routes.specs.Sides.{IsEmbargoOf}
use Rattle.laws_routes.specs.Ties.{Around, Ghosts, Tied}
use Rattle.laws_routes.specs.Midway.{Midway, MidwayAt, Settles}
use Rattle.laws_routes.specs.WholeSteps.{MidwayBehind}

-- ---- Commands

-- No embargo is of a reference that has none.
abbrev pub EmbargoesAreNamed : State → Type 0
EmbargoesAreNamed s = (r : ℕ) (x : Reference) → map.get s.refs r ≡ Some x → x.embargo ≡ None → (e : ℕ) → IsEmbargoOf r (map.get s.embargoes e) → ⊥

-- It is so of a vat that is tied.
abbrev pub TiedEmbargoesAreNamed : Type 0
TiedEmbargoesAreNamed = (w : Around) (d : Progress) (g : Ghosts) (m : routing.State routes) → Tied w d g m → EmbargoesAreNamed d.state

-- Each call that is not finished has its question, or its outcome (between steps by `laws_steps`).
abbrev pub CallsHaveSources : State → Type 0
CallsHaveSources s = (c : ℕ) → HasSource s c (map.get s.calls c)

-- Behind the first act of a command that settles no promise and no outcome.
abbrev pub OtherCommandsKeepIt : Type 0
OtherCommandsKeepIt =
    (w : Around) (d : Progress) (c : Command) (granted : Granted) (new : Progress) → MidwayAt w d → EmbargoesAreNamed d.state → CallsHaveSources d.state → (Settles c → ⊥)
    → Acts d c granted new → MidwayAt w new

-- So all that the laws of whole steps take as known of a command that is done follows from what is so before the step, and it is so
-- behind the whole step.
abbrev pub AllCommandsFollow : Type 0
AllCommandsFollow =
    (w : Around) (s : State) (c : Command) (granted : Granted) (effects : Effects) (new : State) → Midway s w.other w.out w.back → EmbargoesAreNamed s → CallsHaveSources s → s.vat ≡ w.vat → s.level ≡ One → refused s c ≡ None
    → IsWhole new → (h : Does s c granted effects new)
    → MayAct w (begin s) c granted h.acted h.acts × AllMaySettle (made_by w c) h.ends.drained h.acted h.ends.drains × MidwayBehind w new effects
