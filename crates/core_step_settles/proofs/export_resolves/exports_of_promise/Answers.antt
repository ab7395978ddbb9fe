use Rattle.std.proofs.Common.{◌∙◌, arith}
use Rattle.rpc_machine.specs.Nodes.{is_promise}
use Rattle.core_store.specs.Holding.{state_of}
use Rattle.core_step_settles.proofs.Resolves.{none_exported}
use Rattle.core_step_settles.proofs.export_resolves.exports_of_promise.Goals as goal

pub returns-then-of_promise-eq0 : goal.returns-then-of_promise-eq0
returns-then-of_promise-eq0 c =
    let s = c.args.store.now in
    let counted = c.requires.counted.promises c.args.key in
    c.new.ensures ∙ none_exported s.waits.taken (state_of s) (is_promise c.args.key) (omega (arith, counted, c.of_promise.ensures, c.if-of_promise-eq0.true))
