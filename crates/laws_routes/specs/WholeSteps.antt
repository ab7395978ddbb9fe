-- What the laws of whole steps take as known follows from what is so before the step, and it is so behind the step.
use Rattle.std.specs.Prelude.{◌≡◌, None, ◌++◌}
use Rattle.rpc_machine.specs.declared.command.Command.{Command}
use Rattle.rpc_machine.specs.declared.command.Effects.{Effects}
use Rattle.rpc_machine.specs.declared.command.Granted.{Granted}
use Rattle.rpc_machine.specs.declared.command.Level.TheVariants.{One}
use Rattle.rpc_machine.specs.State.{State}
use Rattle.rpc_machine.specs.Progress.{Progress, begin}
use Rattle.rpc_machine.specs.Refusals.{refused}
use Rattle.rpc_machine.specs.Steps.{Does, Ends}
use Rattle.rpc_machine.specs.Sweeping.{Sweeps}
use Rattle.laws_steps.specs.NodesThere.{IsWhole}
use Rattle.laws_routes.specs.OutcomeLaws.{AllMaySettle}
use Rattle.laws_routes.specs.StepLaws.{MayAct, made_by}
use Rattle.laws_routes.specs.Ties.{Around}
use Rattle.laws_routes.specs.Midway.{ArisenAreHeld, Midway, MidwayAt, Settles}

-- It is so behind the Finishes and Releases at the end of a step, and all that no place names, where what places name is there
-- afterwards (it is in each state to which a vat comes, by `laws_steps::nodes_are_there`).
abbrev pub SweptFollows : Type 0
SweptFollows = (w : Around) (d new : Progress) → MidwayAt w d → Sweeps d new → IsWhole new.state → MidwayAt w new

-- Behind the state with these effects, between two steps.
abbrev pub MidwayBehind : Around → State → Effects → Type 0
MidwayBehind w new effects = Midway new w.other (w.out ++ effects.sends) w.back

-- Behind the first act of a step what arose may settle, and it is so behind the whole step.
abbrev pub EndsFollow : Type 0
EndsFollow =
    (w : Around) (acted : Progress) (effects : Effects) (new : State) → MidwayAt w acted → acted.state.level ≡ One → ArisenAreHeld acted.state acted.arisen → IsWhole new
    → (h : Ends acted effects new) → AllMaySettle w h.drained acted h.drains × MidwayBehind w new effects

-- A command that is done may do its first act, what arises may settle, and it is so behind the whole step. Of the commands that
-- settle nothing, that it is so behind the first act is taken as known.
abbrev pub CommandsFollow : Type 0
CommandsFollow =
    (w : Around) (s : State) (c : Command) (granted : Granted) (effects : Effects) (new : State) → Midway s w.other w.out w.back → s.vat ≡ w.vat → s.level ≡ One → refused s c ≡ None → IsWhole new
    → (h : Does s c granted effects new) → ((Settles c → ⊥) → MidwayAt w h.acted)
    → MayAct w (begin s) c granted h.acted h.acts × AllMaySettle (made_by w c) h.ends.drained h.acted h.ends.drains × MidwayBehind w new effects
