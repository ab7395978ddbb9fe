-- What the laws of whole steps take as known follows from what is so before the step.
use Rattle.std.proofs.Common.{◌≡◌, ◌⊎◌, inl, inr, List, ◌++◌, append-nil, None, refl, sym, ap, subst, ◌∙◌}
use Rattle.rpc_msg.specs.declared.message.Message.{Message}
use Rattle.rpc_machine.specs.declared.command.Command.{Command}
use Rattle.rpc_machine.specs.declared.command.Command.TheVariants as command
use Rattle.rpc_machine.specs.declared.command.Effects.{Effects}
use Rattle.rpc_machine.specs.declared.command.Granted.{Granted}
use Rattle.rpc_machine.specs.declared.command.Level.TheVariants.{One}
use Rattle.rpc_machine.specs.State.{State}
use Rattle.rpc_machine.specs.Progress.{Progress, begin}
use Rattle.rpc_machine.specs.Refusals.{refused}
use Rattle.rpc_machine.specs.Steps.{Does, Ends}
use Rattle.laws_steps.specs.NodesThere.{IsWhole}
use Rattle.laws_steps.proofs.Exceptions.{act_arises}
use Rattle.laws_routes.specs.OutcomeLaws.{AllMaySettle}
use Rattle.laws_routes.specs.StepLaws.{MayAct, made_by}
use Rattle.laws_routes.specs.Ties.{Around}
use Rattle.laws_routes.specs.Midway.{ArisenAreHeld, Midway, MidwayAt, Settles}
use Rattle.laws_routes.specs.WholeSteps.{MidwayBehind}
use Rattle.laws_routes.proofs.ActsFollow.{may_act, settling_kept}
use Rattle.laws_routes.proofs.MidwayDrained.{drained, failures_held, none_carry}
use Rattle.laws_routes.proofs.MidwaySwept.{swept}
use Rattle.laws_routes.proofs.Unmoved.{begun_is}

pub ends : (w : Around) (acted : Progress) (effects : Effects) (new : State) → MidwayAt w acted → acted.state.level ≡ One → ArisenAreHeld acted.state acted.arisen → IsWhole new → (h : Ends acted effects new)
    → AllMaySettle w h.drained acted h.drains × MidwayBehind w new effects
ends w acted effects new m level arisen whole h =
    let one = drained w h.drained acted m level arisen h.drains in
    let two = swept w h.drained h.swept one.1 h.sweeps (subst IsWhole h.new_is whole) in
    let sends = ap (λ (e : Effects). e.sends) h.effects_are in
    (one.0, subst (λ (s : State). Midway s w.other (w.out ++ effects.sends) w.back) (sym h.new_is) (subst (λ (ms : List Message). Midway h.swept.state w.other (w.out ++ ms) w.back) (sym sends) two))

settles_or_not : (c : Command) → Settles c ⊎ (Settles c → ⊥)
settles_or_not (command.Host o) = inr (λ i. i)
settles_or_not (command.CloneRef r) = inr (λ i. i)
settles_or_not (command.DropRef r) = inr (λ i. i)
settles_or_not command.Bootstrap = inr (λ i. i)
settles_or_not (command.Call c) = inr (λ i. i)
settles_or_not (command.Field c path) = inr (λ i. i)
settles_or_not command.Promise = inr (λ i. i)
settles_or_not (command.Resolve p r) = inl tt
settles_or_not (command.Reject p exception) = inl tt
settles_or_not (command.Answer t payload refs) = inl tt
settles_or_not (command.Fail t exception) = inl tt
settles_or_not (command.Finish c) = inr (λ i. i)
settles_or_not (command.Advance r) = inr (λ i. i)
settles_or_not (command.Shut n) = inr (λ i. i)

-- What was made is of no account to it.
pub made_as : (w : Around) (c : Command) → made_by w c ≡ record w { made = (made_by w c).made }
made_as w (command.Call k) = refl
made_as w c = refl

pub commands : (w : Around) (s : State) (c : Command) (granted : Granted) (effects : Effects) (new : State) → Midway s w.other w.out w.back → s.vat ≡ w.vat → s.level ≡ One → refused s c ≡ None → IsWhole new
    → (h : Does s c granted effects new) → ((Settles c → ⊥) → MidwayAt w h.acted) → MayAct w (begin s) c granted h.acted h.acts × AllMaySettle (made_by w c) h.ends.drained h.acted h.ends.drains × MidwayBehind w new effects
commands w s c granted effects new m vat level fine whole h others =
    let d = begin s in
    let start : MidwayAt w d = subst (λ (ms : List Message). Midway s w.other ms w.back) (sym (append-nil w.out)) m in
    let acted : MidwayAt w h.acted = by (settles_or_not c) in
    let same = begun_is s c granted h.acted h.acts in
    let arisen = failures_held h.acted.state h.acted.arisen (none_carry h.acted.arisen (act_arises s c granted h.acted h.acts)) in
    let made : Around = record w { made = (made_by w c).made } in
    let rest = ends made h.acted effects new acted (same.1 ∙ level) arisen whole h.ends in
    (may_act w d c granted h.acted start vat level fine h.acts, subst (λ (u : Around). AllMaySettle u h.ends.drained h.acted h.ends.drains) (sym (made_as w c)) rest.0, rest.1)
  where
    by : Settles c ⊎ (Settles c → ⊥) → MidwayAt w h.acted
    by (inl i) = settling_kept w (begin s) c granted h.acted (subst (λ (ms : List Message). Midway s w.other ms w.back) (sym (append-nil w.out)) m) vat level i fine h.acts
    by (inr no_settling) = others no_settling
