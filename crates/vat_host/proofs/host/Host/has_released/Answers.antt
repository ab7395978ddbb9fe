use Rattle.std.proofs.Common.{◌≡◌, ◌==◌, Bool, true, false, not, true-eqb, sym, subst, ◌∙◌}
use Rattle.std.specs.FinMap as map
use Rattle.rpc_machine.specs.State.{State}
use Rattle.laws_released.specs.Known.{KnowsAll, least_known}
use Rattle.laws_released.proofs.Known.{count_tells}
use Rattle.vat_host.specs.Hosting.{AreNamedBut, Hosted}
use Rattle.vat_host.specs.Objects.{Objects}
use Rattle.vat_host.proofs.host.Host.has_released.Goals as goal

is_so : (b : Bool) → false ≡ not b → b ≡ true
is_so true e = cc
is_so false e = absurd (let f : ◌≡◌ {A = Bool} false true = e in cc)

named : (s : State) (known : Objects) → KnowsAll s known → false ≡ not (map.len known == least_known s) → AreNamedBut s known s.bootstrap
named s known all e o there other = count_tells s known all (true-eqb (map.len known) (least_known s) (sym (is_so (map.len known == least_known s) e))) o there other

pub returns-clause-none : goal.returns-clause-none
returns-clause-none c =
    λ up is.
    named c.args.self.now.core c.args.self.now.objects (subst (λ (h : Hosted). KnowsAll h.core h.objects) c.self.view_is c.self.invariant.1) (sym is ∙ c.knows_more.ensures)
