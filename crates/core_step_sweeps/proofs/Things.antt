-- Lists of nodes.
use Rattle.std.proofs.Common.{◌≡◌, List, [], ◌∷◌, ◌++◌, refl, ap}
use Rattle.rpc_msg.specs.declared.parts.Descriptor.{Descriptor}
use Rattle.rpc_machine.specs.declared.node.Node.{Node}
use Rattle.rpc_machine.specs.Places.{nodes}

pub nodes_more : (cs : List (Descriptor × Node)) (x : Descriptor × Node) → nodes (cs ++ x ∷ []) ≡ nodes cs ++ x.1 ∷ []
nodes_more [] x = refl
nodes_more (c ∷ cs) x = ap (λ (ns : List Node). c.1 ∷ ns) (nodes_more cs x)
