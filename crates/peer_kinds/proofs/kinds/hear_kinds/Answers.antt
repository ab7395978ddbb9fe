use Rattle.std.proofs.Common.{◌≡◌, sym, subst}
use Rattle.std.specs.Prelude.{IfOk}
use Rattle.peer_kinds.specs.declared.outcome.Kinds.{Kinds}
use Rattle.peer_kinds.specs.Kinds.{Outcome, seen_kinds}
use Rattle.peer_kinds.proofs.kinds.hear_kinds.Goals as goal

pub returns-in-None : goal.returns-in-None
returns-in-None g c = λ stands tells.
    subst (λ (o : Outcome). IfOk c.hear.result (λ (kinds : Kinds). seen_kinds kinds ≡ o)) (sym (c.in-None.ensures stands tells)) (c.hear.ensures stands tells)
