use Rattle.std.proofs.Common.{subst, ◌∙◌}
use Rattle.vat_host.specs.Objects.{Objects}
use Rattle.vat_host.proofs.Looking.{IsLeft, all_left, one_less, this_one}
use Rattle.vat_host.proofs.hosted_objects.HostedObjects.first_unnamed.Goals as goal

pub loop-number-init : goal.loop-number-init
loop-number-init c =
    subst (λ (m : Objects). IsLeft c.args.core.now m c.args.root c.into_iter-number-iterator.result) c.self.view_is
    (all_left c.args.core.now c.args.root c.self.inside.by_number.entries _ (c.into_iter-number-iterator.ensures.into_iter_gives ∙ c.iter-number-items.ensures.rest))

pub returns-then-is_unnamed-clause-some : goal.returns-then-is_unnamed-clause-some
returns-then-is_unnamed-clause-some c =
    let so = c.is_unnamed.ensures.yes c.if-is_unnamed.true in
    this_one c.args.core.now c.args.self.now c.args.root _ c.next.new.self c.loop-number.number-iterator c.in-Some.ensures.steps c.loop-number.invariant so.0 so.1

pub loop-number-preserved : goal.loop-number-preserved
loop-number-preserved c =
    one_less c.args.core.now c.args.self.now c.args.root _ c.next.new.self c.loop-number.number-iterator c.in-Some.ensures.steps c.loop-number.invariant
    (λ other. c.is_unnamed.ensures.no c.if-is_unnamed.false other)
