-- A vat that went down is one constant, but for its names.
use Rattle.std.proofs.Common.{◌≡◌, ℕ, Option, Some, Ok, refl, sym, ap, subst, ◌∙◌}
use Rattle.rpc_machine.specs.declared.command.Granted.TheVariants as granted
use Rattle.rpc_machine.specs.declared.command.Effects.{Effects}
use Rattle.rpc_machine.specs.State.{State, start}
use Rattle.rpc_machine.specs.Down.{ShutsFrom, Falls, fallen}
use Rattle.rpc_machine.specs.Laws.{OfEachStep}
use Rattle.rpc_machine.specs.Steps.{Shuts}
use Rattle.laws_ends.specs.Names.{KeepsNames}
use Rattle.laws_ends.specs.Overflows.{OverflowIsShut}

fallen_alike : (s mid : State) (n : ℕ) (effects : Effects) → KeepsNames s effects mid → fallen mid n ≡ fallen s n
fallen_alike s mid n effects k =
    ap (λ x. record (start x mid.level mid.bootstrap) { down = Some n }) k.vat
    ∙ (ap (λ x. record (start s.vat x mid.bootstrap) { down = Some n }) k.level ∙ ap (λ x. record (start s.vat s.level x) { down = Some n }) k.bootstrap)

pub overflow_is_shut : OfEachStep KeepsNames → OverflowIsShut
overflow_is_shut law s mid new c answer done effects n up o f =
    let k = law.commands s c answer done mid o in
    let fell : Falls s n effects new = record { effects_are = f.effects_are; new_is = f.new_is ∙ fallen_alike s mid n done k } in
    (Ok granted.Done, effects, new, Shuts n refl refl (subst (λ (d : Option ℕ). ShutsFrom s n d effects new) (sym up) fell), refl, (refl, refl))
