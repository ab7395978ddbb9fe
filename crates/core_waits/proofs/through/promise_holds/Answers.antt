use Rattle.std.proofs.Common.{List, Option, sym, ap, ◌∙◌}
use Rattle.std.specs.List.{list_any}
use Rattle.rpc_msg.specs.declared.ids.Stamp.{Stamp}
use Rattle.rpc_machine.specs.declared.node.Node.{Node}
use Rattle.rpc_machine.specs.Queries.{stamps_at_promise}
use Rattle.core_waits.specs.Waiting.{calls_at, promise_at}
use Rattle.core_waits.specs.Through.{is_by}
use Rattle.core_waits.proofs.Looking.{without_paths}
use Rattle.core_waits.proofs.through.promise_holds.Goals as goal

pub returns-in-None : goal.returns-in-None
returns-in-None c =
    let calls = calls_at c.args.pool.now.lists c.args.entry.now.list in
    c.list_holds.ensures
    ∙ ap (λ (ss : List Stamp). list_any (is_by c.args.vat c.args.reference) ss)
    (sym (without_paths calls) ∙ ap (λ (to : Option Node). stamps_at_promise 0 (promise_at to calls)) (sym c.in-None.is))
