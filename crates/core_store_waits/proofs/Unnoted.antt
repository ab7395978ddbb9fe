-- That nodes are named notes nothing.
use Rattle.std.proofs.Common.{◌≡◌, List, [], ◌∷◌, refl, ◌∙◌}
use Rattle.rpc_machine.specs.declared.node.Node.{Node}
use Rattle.rpc_machine.specs.declared.node.Node.TheVariants as node
use Rattle.core_refcounts.specs.Names.{Names, named, named_all}
use Rattle.core_store.specs.Noted.{noted_of}

noted_once : (c : Names) → (n : Node) → noted_of (named c n) ≡ noted_of c
noted_once c (node.Object o) = refl
noted_once c (node.Promise p) = refl
noted_once c (node.Field o path) = refl
noted_once c (node.Import e) = refl
noted_once c (node.Pipe q path) = refl
noted_once c (node.Broken reason) = refl

pub noted_each : (c : Names) → (ns : List Node) → noted_of (named_all c ns) ≡ noted_of c
noted_each c [] = refl
noted_each c (n ∷ ns) = noted_each (named c n) ns ∙ noted_once c n
