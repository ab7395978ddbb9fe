use Rattle.std.proofs.Common.{◌++◌, ◌∷◌, [], take, sym, ◌∙◌, ap, subst, arith}
use Rattle.std.proofs.lemmas.List.{take_more, take_all}
use Rattle.rpc_journal.specs.declared.entry.JournalEntry.TheVariants as entry
use Rattle.rpc_check.specs.Kept.{HasTaken}
use Rattle.vat_trace_lib.proofs.run.verdict.Goals as goal

pub loop-entry-preserved : goal.loop-entry-preserved
loop-entry-preserved c =
    subst (HasTaken c.in_ok-checker-2.checker)
    (ap (λ e. entry.Head ∷ take c.loop-entry.entry-index c.args.journal.now ++ e ∷ []) c.entry-item.is ∙ ap (λ es. entry.Head ∷ es) (sym (take_more c.args.journal.now c.loop-entry.entry-index c.entry-item.result c.loop-entry-test.true)))
    (c.in_ok-checker-2.ensures (entry.Head ∷ take c.loop-entry.entry-index c.args.journal.now) c.loop-entry.invariant)

pub loop-entry-init : goal.loop-entry-init
loop-entry-init c = c.in_ok-checker.ensures [] c.new.ensures

pub returns : goal.returns
returns c =
    let all = take_all c.loop-entry.entry-index c.args.journal.now (omega (arith, c.loop-entry-test.false)) in
    c.verdict.ensures (entry.Head ∷ c.args.journal.now) (subst (λ es. HasTaken c.loop-entry.checker (entry.Head ∷ es)) all c.loop-entry.invariant)
