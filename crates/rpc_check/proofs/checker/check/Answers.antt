use Rattle.std.proofs.Common.{◌++◌, ◌∷◌, [], take, sym, ◌∙◌, ap, subst}
use Rattle.std.proofs.lemmas.List.{take_more}
use Rattle.rpc_check.specs.Kept.{HasTaken}
use Rattle.rpc_check.proofs.checker.check.Goals as goal

pub loop-entry-preserved : goal.loop-entry-preserved
loop-entry-preserved c =
    subst (HasTaken c.in_ok-checker.checker)
    (ap (λ e. take c.loop-entry.entry-index c.args.entries.now ++ e ∷ []) c.entry-item.is ∙ sym (take_more c.args.entries.now c.loop-entry.entry-index c.entry-item.result c.loop-entry-test.true))
    (c.in_ok-checker.ensures (take c.loop-entry.entry-index c.args.entries.now) c.loop-entry.invariant)
