use Rattle.std.proofs.Common.{[], ◌∷◌, ◌++◌, ap, sym, subst, not, ◌∙◌}
use Rattle.rpc_check.specs.Breaches.{breaks_order}
use Rattle.rpc_check.specs.Kept.{CallsFor}
use Rattle.rpc_check.proofs.Called.{is_other, calls_stay}
use Rattle.rpc_check.proofs.calls.Calls.take.Goals as goal

pub returns-in_default : goal.returns-in_default
returns-in_default c =
    let other = is_other c.args.entry.now c.in_default.not-Made c.in_default.not-Delivered in
    record {
      order = λ h now. ap not (sym (other.keeps_order h));
      rest = λ kept h now. calls_stay c.args.self.now h c.args.entry.now other now;
    }

pub returns-in_ok-make-in-Made-clause-rest : goal.returns-in_ok-make-in-Made-clause-rest
returns-in_ok-make-in-Made-clause-rest c = λ kept h now. subst (λ x. CallsFor c.make.new.self (h ++ x ∷ [])) (sym c.in-Made.is) (c.in_ok-make-in-Made.ensures h now)

pub returns-in-Delivered-clause-order : goal.returns-in-Delivered-clause-order
returns-in-Delivered-clause-order c = λ h now. c.deliver.ensures.order h now ∙ ap (λ x. not (breaks_order h x)) (sym c.in-Delivered.is)

pub returns-in-Delivered-clause-rest : goal.returns-in-Delivered-clause-rest
returns-in-Delivered-clause-rest c = λ kept h now. subst (λ x. CallsFor c.deliver.new.self (h ++ x ∷ [])) (sym c.in-Delivered.is) (c.deliver.ensures.rest kept h now)
