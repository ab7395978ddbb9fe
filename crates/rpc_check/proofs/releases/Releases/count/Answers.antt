use Rattle.std.proofs.Common.{◌≡◌, ℕ, ◌+◌, ◌-◌, List, ap, subst, ◌∙◌}
use Rattle.rpc_check.specs.declared.releases.Flagged.{Flagged}
use Rattle.rpc_check.specs.Kept.{amount, sum_by, more_sent, more_got}
use Rattle.rpc_check.proofs.Releasing.{is_counted}
use Rattle.rpc_check.proofs.releases.Releases.count.Goals as goal

pub returns-clause-same : goal.returns-clause-same
returns-clause-same c = λ named much most is.
    let ls = c.args.lists.now in
    let r = c.args.self.now in
    let sent = subst (λ (xs : List Flagged). (e : ℕ) → amount c.add_sent.new.counted e ≡ amount r.counted e + sum_by more_sent ls e xs) c.as_slice.ensures.value c.in_ok-add_sent.ensures in
    let got = subst (λ (xs : List Flagged). (e : ℕ) → amount c.take_got.new.counted e ≡ amount c.add_sent.new.counted e - sum_by more_got ls e xs) c.as_slice-2.ensures.value c.in_ok-take_got.ensures in
    is_counted ls r (record { counted = c.take_got.new.counted; flagged = c.clear.new.self; places = c.clear-2.new.self }) named much most c.clear.ensures.items
    (λ e. got e ∙ ap (λ (n : ℕ). n - sum_by more_got ls e r.flagged.items) (sent e)) is
