-- The heads of references, one more after the others.
use Rattle.std.proofs.Common.{◌≡◌, List, [], ◌∷◌, ◌++◌, ap}
use Rattle.std.specs.FinMap as map
use Rattle.rpc_msg.specs.declared.ids.RefId.{RefId}
use Rattle.rpc_machine.specs.State.{State}
use Rattle.rpc_machine.specs.Commands.{head_of, heads}

pub heads_more : (s : State) (rs : List RefId) (r : RefId) → heads s (rs ++ r ∷ []) ≡ heads s rs ++ head_of (map.get s.refs r.0) ∷ []
heads_more s [] r = λ i. head_of (map.get s.refs r.0) ∷ []
heads_more s (x ∷ xs) r = ap (λ ns. head_of (map.get s.refs x.0) ∷ ns) (heads_more s xs r)
