use Rattle.std.proofs.Common.{◌≡◌, ℕ, List, [], drop, sym, subst, ◌∙◌, arith}
use Rattle.std.proofs.lemmas.List.{drop_all}
use Rattle.vat_connection.specs.Hearing.{PartsOn}
use Rattle.vat_connection.proofs.Pushing.{none_more, one_part, rest_length}
use Rattle.vat_connection.proofs.inflow.Inflow.take.Goals as goal

pub loop-at-preserved : goal.loop-at-preserved
loop-at-preserved c = (
  λ new on. c.loop-at.invariant.0 new
      (one_part c.loop-at.self c.take_next.new.self new c.args.bytes.now c.loop-at.at c.in_ok-at.field-0 (sym c.is_over.ensures ∙ c.if-is_over.false) c.in_ok-at.ensures.parts on),
  let within = c.in_ok-at.ensures.within in
      let size = rest_length c.loop-at.at c.args.bytes.now in
      omega (arith, within, size, c.loop-at-test.true),
)

pub returns : goal.returns
returns c =
    let none : drop c.loop-at.at c.args.bytes.now ≡ [] = drop_all c.loop-at.at c.args.bytes.now (omega (arith, c.loop-at-test.false)) in
    c.loop-at.invariant.0 c.loop-at.self (subst (λ (t : List ℕ). PartsOn c.loop-at.self t c.loop-at.self) (sym none) (none_more c.loop-at.self))
