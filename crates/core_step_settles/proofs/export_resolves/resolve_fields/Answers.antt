use Rattle.std.proofs.Common.{ℕ, List, None, refl, subst, arith}
use Rattle.rpc_machine.specs.declared.node.Node.{Node}
use Rattle.rpc_machine.specs.Nodes.{is_field}
use Rattle.rpc_machine.specs.Settling.{ResolvesEach}
use Rattle.core_store.specs.Holding.{state_of}
use Rattle.core_step.specs.InProgress.{progress_of}
use Rattle.core_step_settles.proofs.Resolves.{none_exported}
use Rattle.core_step_settles.proofs.export_resolves.resolve_fields.Goals as goal

pub returns-then-of_outcome-eq0-clause-sent : goal.returns-then-of_outcome-eq0-clause-sent
returns-then-of_outcome-eq0-clause-sent c =
    let d = progress_of c.args.step.now in
    let s = c.args.step.now.store in
    let counted = c.requires.ready.sound.counted.outcomes c.args.key in
    let none = none_exported s.waits.taken (state_of s) (is_field c.args.key) (omega (arith, counted, c.of_outcome.ensures, c.if-of_outcome-eq0.true)) in
    subst (λ (xs : List (ℕ × Node)). ResolvesEach d None xs d) none refl
