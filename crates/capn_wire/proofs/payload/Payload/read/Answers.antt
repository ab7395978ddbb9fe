use Rattle.std.proofs.Common.{arith}
use Rattle.capn_wire.proofs.Saying.{only_read, tree_found}
use Rattle.capn_wire.proofs.payload.Payload.read.Goals as goal

pub returns-clause-tree : goal.returns-clause-tree
returns-clause-tree c = tree_found (record { bytes = c.args.bytes.now; caps = c.args.caps }) c.checked.result (λ i. omega (arith, c.type_inv.bytes i)) c.checked.ensures.found

pub returns-clause-only : goal.returns-clause-only
returns-clause-only c = λ m t says. only_read (record { bytes = c.args.bytes.now; caps = c.args.caps }) c.checked.result m t says c.checked.ensures.found c.checked.ensures.only
