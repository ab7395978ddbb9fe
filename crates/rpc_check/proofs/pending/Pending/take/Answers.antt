use Rattle.std.proofs.Common.{ℕ, Some, sym, ap, ◌∙◌}
use Rattle.rpc_check.specs.declared.verdict.Verdict.TheVariants.{Order, Unmatched, AfterDown, Count}
use Rattle.rpc_check.specs.Breaches.{breaks_order, gets_nothing, acts_after_down, miscounts}
use Rattle.rpc_check.proofs.Breaking.{breaks, keeps, is_broken, is_kept}
use Rattle.rpc_check.proofs.pending.Pending.take.Goals as goal

pub returns-clause-rest : goal.returns-clause-rest
returns-clause-rest c = λ none h was.
    let now = c.in_ok-miscounts.ensures.rest h was in
    record {
      calls = c.in_ok-take.ensures.rest c.if-not-branch.false h now.calls;
      ways = c.in_ok-take-2.ensures.rest c.if-not-branch-2.false h now.ways;
      downs = c.take-3.ensures h now.downs;
    }

pub returns-then-not-branch-clause-found : goal.returns-then-not-branch-clause-found
returns-then-not-branch-clause-found c = λ h was number.
    let now = c.in_ok-miscounts.ensures.rest h was in
    let e = c.args.entry.now in
    ap (λ (n : ℕ). Some (Order n)) number
    ∙ breaks (breaks_order h e) _ _ (is_broken (breaks_order h e) _ (c.in_ok-take.ensures.order h now.calls) c.if-not-branch.true)

pub returns-then-not-branch-2-clause-found : goal.returns-then-not-branch-2-clause-found
returns-then-not-branch-2-clause-found c = λ h was number.
    let now = c.in_ok-miscounts.ensures.rest h was in
    let e = c.args.entry.now in
    ap (λ (n : ℕ). Some (Unmatched n)) number
    ∙ breaks (gets_nothing h e) _ _ (is_broken (gets_nothing h e) _ (c.in_ok-take-2.ensures.matched h now.ways) c.if-not-branch-2.true)
    ∙ keeps (breaks_order h e) _ _ (is_kept (breaks_order h e) _ (c.in_ok-take.ensures.order h now.calls) c.if-not-branch.false)

pub returns-then-acts-clause-found : goal.returns-then-acts-clause-found
returns-then-acts-clause-found c = λ h was number.
    let now = c.in_ok-miscounts.ensures.rest h was in
    let e = c.args.entry.now in
    ap (λ (n : ℕ). Some (AfterDown n)) number
    ∙ breaks (acts_after_down h e) _ _ (sym (c.acts.ensures h now.downs) ∙ c.if-acts.true)
    ∙ keeps (gets_nothing h e) _ _ (is_kept (gets_nothing h e) _ (c.in_ok-take-2.ensures.matched h now.ways) c.if-not-branch-2.false)
    ∙ keeps (breaks_order h e) _ _ (is_kept (breaks_order h e) _ (c.in_ok-take.ensures.order h now.calls) c.if-not-branch.false)

pub returns-then-miscounts-clause-found : goal.returns-then-miscounts-clause-found
returns-then-miscounts-clause-found c = λ h was number.
    let now = c.in_ok-miscounts.ensures.rest h was in
    let e = c.args.entry.now in
    ap (λ (n : ℕ). Some (Count n)) number
    ∙ breaks (miscounts h e) _ _ (sym (c.in_ok-miscounts.ensures.wrong h was) ∙ c.if-miscounts.true)
    ∙ keeps (acts_after_down h e) _ _ (sym (c.acts.ensures h now.downs) ∙ c.if-acts.false)
    ∙ keeps (gets_nothing h e) _ _ (is_kept (gets_nothing h e) _ (c.in_ok-take-2.ensures.matched h now.ways) c.if-not-branch-2.false)
    ∙ keeps (breaks_order h e) _ _ (is_kept (breaks_order h e) _ (c.in_ok-take.ensures.order h now.calls) c.if-not-branch.false)

pub returns-clause-found : goal.returns-clause-found
returns-clause-found c = λ h was number.
    let now = c.in_ok-miscounts.ensures.rest h was in
    let e = c.args.entry.now in
    keeps (miscounts h e) _ _ (sym (c.in_ok-miscounts.ensures.wrong h was) ∙ c.if-miscounts.false)
    ∙ keeps (acts_after_down h e) _ _ (sym (c.acts.ensures h now.downs) ∙ c.if-acts.false)
    ∙ keeps (gets_nothing h e) _ _ (is_kept (gets_nothing h e) _ (c.in_ok-take-2.ensures.matched h now.ways) c.if-not-branch-2.false)
    ∙ keeps (breaks_order h e) _ _ (is_kept (breaks_order h e) _ (c.in_ok-take.ensures.order h now.calls) c.if-not-branch.false)
