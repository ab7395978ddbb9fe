use Rattle.std.proofs.Common.{◌≡◌, ◌+◌, ℕ, List, [], ◌∷◌, ◌++◌, take, sym, ap, subst, ◌∙◌}
use Rattle.std.proofs.lemmas.List.{take_more}
use Rattle.rpc_machine.specs.declared.node.Node.{Node}
use Rattle.rpc_machine.specs.Settling.{ResolvesEach}
use Rattle.core_step.specs.InProgress.{progress_of}
use Rattle.core_step_settles.proofs.Resolves.{resolves_more}
use Rattle.core_step_settles.proofs.export_resolves.resolve_each.Goals as goal

pub loop-export-preserved : goal.loop-export-preserved
loop-export-preserved c =
    let d = progress_of c.args.step.now in
    let xs : List (ℕ × Node) = c.args.exports.now in
    let i = c.loop-export.export-index in
    let x : ℕ × Node = c.export-item.result in
    let new = progress_of c.resolve_one.new.step in
    let before = c.loop-export.invariant in
    let taken : take i xs ++ x ∷ [] ≡ take (i + 1) xs = ap (λ n. take i xs ++ n ∷ []) c.export-item.is ∙ sym (take_more xs i x c.loop-export-test.true) in record {
      ready = c.in_ok-resolve_one.ensures.ready;
      sent = subst (λ (ps : List (ℕ × Node)). ResolvesEach d c.args.told.now ps new) taken
          (resolves_more d c.args.told.now (take i xs) (progress_of c.loop-export.step) x new before.sent c.in_ok-resolve_one.ensures.sent);
      taken = c.in_ok-resolve_one.ensures.taken ∙ before.taken;
    }
