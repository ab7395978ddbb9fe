-- The outcomes that arose settle: each may, and it is still so in the middle of the step.
use Rattle.std.specs.FinMap as map
use Rattle.std.proofs.Common.{◌≡◌, ℕ, List, [], ◌∷◌, refl, subst, ◌∙◌}
use Rattle.rpc_machine.specs.declared.calls.Value.{Value}
use Rattle.rpc_machine.specs.declared.calls.Value.TheVariants as value
use Rattle.rpc_machine.specs.declared.command.Level.TheVariants.{One}
use Rattle.rpc_machine.specs.State.{State}
use Rattle.rpc_machine.specs.Progress.{Progress, caps_of}
use Rattle.rpc_machine.specs.Settling.{Drains, NoneLeft, OneMore}
use Rattle.laws_steps.proofs.Exceptions.{AllExceptions, IsException, first_arises}
use Rattle.laws_routes.specs.OutcomeLaws.{AllMaySettle}
use Rattle.laws_routes.specs.Ties.{Around}
use Rattle.laws_routes.specs.Midway.{AllAreHeld, ArisenAreHeld, IsFailure, MidwayAt, NoneCarry}
use Rattle.laws_routes.proofs.MidwaySettled.{may_settle}
use Rattle.laws_routes.proofs.Unmoved.{settled_is}

is_exception : (v : Value) → IsFailure v → IsException v
is_exception (value.Results payload caps) i = i
is_exception (value.Exception exception) i = i

failure : (v : Value) → IsException v → IsFailure v
failure (value.Results payload caps) i = i
failure (value.Exception exception) i = i

exceptions : (xs : List (ℕ × Value)) → NoneCarry xs → AllExceptions xs
exceptions [] i = tt
exceptions (x ∷ xs) i = (is_exception x.1 i.0, exceptions xs i.1)

pub none_carry : (xs : List (ℕ × Value)) → AllExceptions xs → NoneCarry xs
none_carry [] i = tt
none_carry (x ∷ xs) i = (failure x.1 i.0, none_carry xs i.1)

no_caps : (s : State) (v : Value) → IsFailure v → AllAreHeld s (caps_of v)
no_caps s (value.Results payload caps) i = absurd i
no_caps s (value.Exception exception) i = tt

pub failures_held : (s : State) (xs : List (ℕ × Value)) → NoneCarry xs → ArisenAreHeld s xs
failures_held s [] i = tt
failures_held s (x ∷ xs) i = (no_caps s x.1 i.0, i.1)

pub drained : (w : Around) (new d : Progress) → MidwayAt w d → d.state.level ≡ One → ArisenAreHeld d.state d.arisen → (h : Drains new d) → AllMaySettle w new d h × MidwayAt w new × (new.state.level ≡ One)
drained w new d m level i (NoneLeft e) = (tt, m, level)
drained w new d m level i (OneMore {mid = mid} o v rest e h more) =
    let left : Progress = record d { arisen = rest } in
    let j : ArisenAreHeld d.state ((o, v) ∷ rest) = subst (ArisenAreHeld d.state) e i in
    let one = may_settle w left o v (map.get d.state.outcomes o) mid refl m level j.0 h in
    let behind = none_carry mid.arisen (first_arises left o v mid h (exceptions rest j.1)) in
    let same = settled_is d.state.vat d.state.level left o v mid h (refl, refl) in
    let others = drained w new mid one.1 (same.1 ∙ level) (failures_held mid.state mid.arisen behind) more in
    ((one.0, others.0), others.1, others.2)
