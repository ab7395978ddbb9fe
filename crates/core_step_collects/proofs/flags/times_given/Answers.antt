use Rattle.std.proofs.Common.{◌≡◌, ℕ, ◌+◌, cond, List, [], ◌∷◌, ◌++◌, take, get_or, sym, ap, ◌∙◌, arith, nat_eq}
use Rattle.std.proofs.lemmas.List.{take_more}
use Rattle.rpc_msg.specs.declared.ids.ExportId.{ExportId}
use Rattle.rpc_machine.specs.Lists.{how_many}
use Rattle.rpc_machine.specs.Progress.{numbers}
use Rattle.core_step_collects.proofs.Giving.{many_more, at_most_one}
use Rattle.core_step_collects.proofs.flags.times_given.Goals as goal

pub loop-other-preserved : goal.loop-other-preserved
loop-other-preserved c =
    let xs : List ExportId = c.args.ids.now in
    let i = c.loop-other.other-index in
    let none : ExportId = record { 0 = 0 } in
    let x : ExportId = get_or xs i none in
    let taken : take i xs ++ x ∷ [] ≡ take (i + 1) xs = sym (take_more xs i none c.loop-other-test.true) in
    let most = at_most_one (nat_eq c.args.id.0 x.0) in
    let before = c.loop-other.invariant.1 in
    let one = c.as_number-times.ensures in (
      ap (λ (n : ℕ). c.loop-other.times + n) one ∙ ap (λ (n : ℕ). n + cond (nat_eq c.args.id.0 x.0) 1 0) c.loop-other.invariant.0
          ∙ sym (many_more (nat_eq c.args.id.0) (take i xs) x) ∙ ap (λ (ys : List ExportId). how_many (nat_eq c.args.id.0) (numbers ys)) taken,
      omega (arith, most, before, one),
    )
