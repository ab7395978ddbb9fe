use Rattle.std.proofs.Common.{◌<◌, ◌==◌, List, not, sym, subst}
use Rattle.std.proofs.lemmas.List.Kept.{AllPairs-filter}
use Rattle.rpc_msg.specs.declared.ids.CallId.{CallId}
use Rattle.vat_connection.specs.OwnCalls.{Rise}
use Rattle.vat_connection.proofs.open_calls.OpenCalls.remove.Goals as goal

pub invariant_of-self : goal.invariant_of-self
invariant_of-self c = λ rise.
    subst (λ (cs : List CallId). Rise cs) (sym c.remove_by_halving.ensures)
    (AllPairs-filter (λ (x y : CallId). x.0 < y.0) (λ (x : CallId). not (x.0 == c.args.id.0)) c.self.inside.calls.items (c.self.invariant rise))
